use Rattle.p3_networks.proofs.Lemmas.{ℕ, ◌+◌, ◌*◌, ◌-◌, ◌/◌, ◌^◌, ◌++◌, ◌<◌, length, get_or, refl, ap, ◌∙◌, arith, ap₂, add_comm, length-append, rev, poly}
use Rattle.p3_networks.proofs.Lemmas.{point_of_one, joined_count, halves_whole, low_done, low_layer, fewer_roots, subgroup_table}
use Rattle.p3_networks.proofs.Networks.LowHalves.{half_size, low_halves, rest_size}
use Rattle.p3_networks.proofs.radix_2_dit.+dit_network_to_natural.Goals as goal

-- The lower half is a network of half the height: its height falls, it keeps width, roots and table, and it has half of the entries.
pub dit_network_to_natural-requires : goal.dit_network_to_natural-requires
dit_network_to_natural-requires g t c κs within =
    let k = c.args.log_h in
    let size = c.split_at_mut-low.ensures.front_len ∙ half_size k c.args.width (length c.args.values.now) c.if-log_h-gt0.true c.requires.size in (
      omega (arith, c.decreases, c.if-log_h-gt0.true),
      (
        within.0,
        (
          within.1.0,
          (
            within.1.1,
            (
              c.requires.width,
              (
                omega (arith, c.requires.fits_u64),
                (
                  omega (arith, c.requires.within),
                  (
                    size,
                    (
                      (λ l below. c.requires.table l (omega arith)),
                      (λ l t below inside. c.requires.twiddles l t (omega arith) inside),
                    ),
                  ),
                ),
              ),
            ),
          ),
        ),
      ),
    )

-- So is the upper half, which has what the lower one leaves of the entries.
pub dit_network_to_natural-requires-then-values-gt-CACHED : goal.dit_network_to_natural-requires-then-values-gt-CACHED
dit_network_to_natural-requires-then-values-gt-CACHED g t c κs within =
    let k = c.args.log_h in
    let size =
    rest_size k c.args.width (length c.args.values.now) (length c.split_at_mut-low.result.1.now) c.if-log_h-gt0.true
    c.requires.size c.split_at_mut-low.ensures.back_len in (
      omega (arith, c.decreases, c.if-log_h-gt0.true),
      (
        within.0,
        (
          within.1.0,
          (
            within.1.1,
            (
              c.requires.width,
              (
                omega (arith, c.requires.fits_u64),
                (
                  omega (arith, c.requires.within),
                  (
                    size,
                    (
                      (λ l below. c.requires.table l (omega arith)),
                      (λ l t below inside. c.requires.twiddles l t (omega arith) inside),
                    ),
                  ),
                ),
              ),
            ),
          ),
        ),
      ),
    )

pub one_low_layer-requires-clause-rows : goal.one_low_layer-requires-clause-rows
one_low_layer-requires-clause-rows g t c =
    let first = c.dit_network_to_natural in
    let second = c.dit_network_to_natural-then-values-gt-CACHED in
    let front = first.auto.values ∙ c.split_at_mut-low.ensures.front_len in
    record {
      width = c.requires.width;
      fits_u64 = c.requires.fits_u64;
      size =
          length-append first.new.values second.new.values ∙ ap₂ (λ x y. x + y) front second.auto.values ∙ add_comm _ _
          ∙ c.split_at_mut-low.ensures.back_len ∙ c.requires.size;
    }

pub one_low_layer-requires-clause-below : goal.one_low_layer-requires-clause-below
one_low_layer-requires-clause-below g t c = omega (arith, c.if-log_h-gt0.true)

pub one_low_layer-requires-clause-table : goal.one_low_layer-requires-clause-table
one_low_layer-requires-clause-table g t c = c.requires.table (c.args.log_h - 1) (omega (arith, c.if-log_h-gt0.true))

pub returns-then-values-gt-CACHED-clause-values : goal.returns-then-values-gt-CACHED-clause-values
returns-then-values-gt-CACHED-clause-values g t c r j below inside =
    let field = g.F.Valued in
    let root = λ (n : ℕ). field.value (g.F.TwoAdicField.generator n) in
    let k = c.args.log_h in
    let w = c.args.width in
    let some = c.if-log_h-gt0.true in
    let last : k - 1 < k = omega (arith, some) in
    let column = λ (q : ℕ). field.value (get_or c.args.values.now (rev k q * w + j) field.zero) in
    let first = c.dit_network_to_natural.new.values in
    let second = c.dit_network_to_natural-then-values-gt-CACHED.new.values in
    let part = half_size k w (length c.args.values.now) some c.requires.size in
    let begun = low_halves field root k w c.args.values.now first second c.split_at_mut-low.result.0.now
    c.split_at_mut-low.result.1.now (length c.args.values.now / 2) some part
    c.split_at_mut-low.ensures.front c.split_at_mut-low.ensures.back (c.dit_network_to_natural.auto.values ∙ c.split_at_mut-low.ensures.front_len)
    c.dit_network_to_natural.ensures.values c.dit_network_to_natural-then-values-gt-CACHED.ensures.values j inside in
    let table = subgroup_table field g.F.TwoAdicField.generator k (g.T.LayerTwiddles.at c.args.table) c.requires.twiddles in
    let roots = fewer_roots field.ring k g.F.TwoAdicField.TWO_ADICITY c.requires.within g.met.F.TwoAdicField.roots_law in
    let done = low_layer field root field.ring.one k w roots (k - 1) (2 ^ (k - 1)) (2 ^ (k - 1 - (k - 1))) (g.T.LayerTwiddles.at c.args.table) column
    (λ n. field.value (get_or (first ++ second) n field.zero)) (λ n. field.value (get_or c.one_low_layer.new.values n field.zero))
    last refl (halves_whole k (k - 1) last) table c.one_low_layer.ensures.cells j inside begun r below in
    low_done field root field.ring.one k w (k - 1 + 1) column _ r (omega (arith, some)) done below
    ∙ ap (poly field.ring (2 ^ k) column) (point_of_one field.ring root k r)

pub returns-then-values-gt-CACHED-clause-grows : goal.returns-then-values-gt-CACHED-clause-grows
returns-then-values-gt-CACHED-clause-grows g t c =
    omega (
      arith,
      c.dit_network_to_natural.ensures.grows,
      c.dit_network_to_natural-then-values-gt-CACHED.ensures.grows,
      c.one_low_layer.ensures.cost.grows,
    )

pub returns-then-values-gt-CACHED-clause-cost : goal.returns-then-values-gt-CACHED-clause-cost
returns-then-values-gt-CACHED-clause-cost g t c =
    joined_count c.args.log_h c.args.width c.args.products.now c.dit_network_to_natural.new.products
    c.dit_network_to_natural-then-values-gt-CACHED.new.products c.one_low_layer.new.products
    c.if-log_h-gt0.true c.dit_network_to_natural.ensures.cost c.dit_network_to_natural-then-values-gt-CACHED.ensures.cost c.one_low_layer.ensures.cost.cost
