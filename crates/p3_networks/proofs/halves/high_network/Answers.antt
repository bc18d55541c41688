use Rattle.p3_networks.proofs.Lemmas.{◌≡◌, ℕ, ◌+◌, ◌*◌, ◌-◌, ◌^◌, ◌<◌, ◌≤◌, get_or, sym, ap, ap₂, ◌∙◌, subst, arith, lit≤, refl, pow-le-pow_right}
use Rattle.p3_networks.proofs.Lemmas.{mul-le-mul_right, le-add_right, rev, dit_near, dit_far, point, factor, scale_cost, blocks_whole, layer_counted}
use Rattle.p3_networks.proofs.Lemmas.{layers_counted, cells_by_blocks, done_shift, left_shift, some_rows, whole_layer_taken, high_row, high_rows, high_start}
use Rattle.p3_networks.proofs.Lemmas.{high_end, twiddle, chunk_entry, one_shifted}
use Rattle.p3_networks.proofs.Tables.BlockTables.{blocks_within}
use Rattle.p3_networks.proofs.halves.high_network.Goals as goal

-- the half block of the first layer, of which there is one block
first_half : (k : ℕ) → 1 ≤ k → k < 64 → one_shifted (k - 1) ≡ 2 ^ (k - 1)
first_half k some small = let e : k - 1 ≡ k - 1 - 0 = omega arith in ap (λ n. one_shifted n) e ∙ left_shift k 0 (omega arith) small ∙ ap (λ n. 2 ^ n) (sym e)

first_whole : (k : ℕ) → 1 ≤ k → 1 * (2 * 2 ^ (k - 1)) ≡ 2 ^ k
first_whole k some = let e : k - 1 ≡ k - 1 - 0 = omega arith in ap (λ n. 1 * (2 * 2 ^ n)) e ∙ blocks_whole k 0 (omega arith)

-- a scale adds at most one product for each cell
counted : (cost pairs half all before after : ℕ) → pairs ≡ half → half ≤ all → after ≤ before + (1 + cost) * (1 * pairs)
    → after ≤ before + cost * all + 1 * (1 * half)
counted cost pairs half all before after is few count =
    let spread : (1 + cost) * (1 * pairs) ≡ half * cost + half = ap (λ n. (1 + cost) * (1 * n)) is ∙ omega arith in
    let turned : cost * all ≡ all * cost = omega arith in
    omega (arith, count, spread, turned, mul-le-mul_right cost few)

-- a layer of the second half
in_second_half : (mid done left : ℕ) → done < left → mid + done < mid + left
in_second_half mid done left below = omega arith

pub scaled_layer-requires-clause-size : goal.scaled_layer-requires-clause-size
scaled_layer-requires-clause-size g c =
    let k = c.args.left in
    let half = first_half k c.requires.nonzero (omega (arith, c.requires.chunk.fits_u64)) in
    let flat : 1 * (2 * (2 ^ (k - 1) * c.args.width)) ≡ 1 * (2 * 2 ^ (k - 1)) * c.args.width = omega arith in
    rw half (c.requires.chunk.size ∙ ap (λ n. n * c.args.width) (sym (first_whole k c.requires.nonzero)) ∙ sym flat)

-- The first layer has one block, whose rows are multiplied by the scale on the way: it leads from the coefficients to the formula after one layer.
pub loop-done-init : goal.loop-done-init
loop-done-init g c =
    let field = g.F.Valued in
    let k = c.args.left in
    let mid = c.args.mid in
    let chunk = c.args.chunk in
    let w = c.args.width in
    let half = one_shifted (k - 1) in
    let some : 0 < k = omega (arith, c.requires.nonzero) in
    let small : k < 64 = omega (arith, c.requires.chunk.fits_u64) in
    let h : half ≡ 2 ^ (k - 1) = first_half k c.requires.nonzero small in
    let whole : 1 * (2 * half) ≡ 2 ^ k = ap (λ n. 1 * (2 * n)) h ∙ first_whole k c.requires.nonzero in
    let cell = λ (n : ℕ). field.value (get_or c.args.values.now n field.zero) in
    let scaled = λ (n : ℕ). field.ring.mul (cell n) (factor field c.args.scale) in
    let after = λ (n : ℕ). field.value (get_or c.scaled_layer.new.values n field.zero) in
    let entry = λ (t : ℕ). field.value (g.T.LayerTwiddles.at c.args.table mid (chunk + t)) in
    let few : 2 ^ (k - 1) ≤ 2 ^ k = omega (arith, h, whole) in
    record {
      rows = λ root s roots table j r inside below.
          let coset = point field.ring root (mid + k) s (rev mid chunk) in
          let entry_is : (u : ℕ) → u < 1 → entry u ≡ twiddle field.ring root coset 0 (k - 1 - 0) (rev 0 u) =
          λ u p. chunk_entry field root s mid k chunk 0 u mid (chunk + u) (g.T.LayerTwiddles.at c.args.table) roots
          table (omega arith) (omega arith) c.requires.chunk.chunk some p in
          let keep : k ≡ k - 0 = omega arith in
          let less : k - 1 ≡ k - 1 - 0 = omega arith in
          whole_layer_taken (high_rows field.ring root coset roots (λ u. scaled (u * w + j))) k 0 w half 1
          (λ u t. dit_near field.ring (entry u)) (λ u t. dit_far field.ring (entry u)) scaled after
          (omega arith) some (h ∙ ap (λ n. 2 ^ n) less) whole
          (λ u t p q. ap (dit_near field.ring) (entry_is u p))
          (λ u t p q. ap (dit_far field.ring) (entry_is u p))
          c.scaled_layer.ensures.cells
          j inside
          (λ u v. sym (high_start field.ring root coset (k - 0) (λ q. scaled (q * w + j)) u (subst (λ (n : ℕ). u < 2 ^ n) keep v)))
          r below;
      grows = c.scaled_layer.ensures.cost.grows;
      cost =
          counted (scale_cost c.args.scale) (half * w) (2 ^ (k - 1) * w) (2 ^ k * w) _ _ (ap (λ n. n * w) h)
          (mul-le-mul_right w few) c.scaled_layer.ensures.cost.cost;
    }

pub overflow_mul-chunk : goal.overflow_mul-chunk
overflow_mul-chunk g c =
    let done = c.loop-done.done in
    let mid = c.args.mid in
    let highest : mid + done ≤ 63 = omega (arith, c.requires.chunk.fits_u64, c.loop-done-test.true) in
    let fits : 2 ^ (mid + done) ≤ 2 ^ 63 = pow-le-pow_right {n = 2} (lit≤ tt) highest in
    rw (done_shift c.args.left done c.loop-done-test.true (omega (arith, c.requires.chunk.fits_u64)))
    (omega (arith, fits, blocks_within c.args.chunk mid done c.requires.chunk.chunk))

pub layer_by_block-requires-clause-size : goal.layer_by_block-requires-clause-size
layer_by_block-requires-clause-size g c =
    let l = c.loop-done.done in
    let k = c.args.left in
    let small : k < 64 = omega (arith, c.requires.chunk.fits_u64) in
    rw (left_shift k l c.loop-done-test.true small, done_shift k l c.loop-done-test.true small)
    (c.loop-done.auto.values ∙ c.scaled_layer.auto.values ∙ c.requires.chunk.size ∙ cells_by_blocks k l c.args.width c.loop-done-test.true)

pub layer_by_block-requires-clause-table : goal.layer_by_block-requires-clause-table
layer_by_block-requires-clause-table g c =
    let l = c.loop-done.done in
    rw (done_shift c.args.left l c.loop-done-test.true (omega (arith, c.requires.chunk.fits_u64)))
    (blocks_within c.args.chunk c.args.mid l c.requires.chunk.chunk)

pub layer_by_block-requires-clause-in_table : goal.layer_by_block-requires-clause-in_table
layer_by_block-requires-clause-in_table g c =
    c.requires.chunk.table (c.args.mid + c.loop-done.done) (le-add_right c.args.mid c.loop-done.done)
    (in_second_half c.args.mid c.loop-done.done c.args.left c.loop-done-test.true)

-- One layer more: block u of the chunk has the twiddle of that block of the whole, so the layer leads from a formula to the next.
pub loop-done-preserved : goal.loop-done-preserved
loop-done-preserved g c =
    let field = g.F.Valued in
    let l = c.loop-done.done in
    let k = c.args.left in
    let mid = c.args.mid in
    let chunk = c.args.chunk in
    let w = c.args.width in
    let half = one_shifted (k - 1 - l) in
    let blocks = one_shifted l in
    let small : k < 64 = omega (arith, c.requires.chunk.fits_u64) in
    let h : half ≡ 2 ^ (k - 1 - l) = left_shift k l c.loop-done-test.true small in
    let b : blocks ≡ 2 ^ l = done_shift k l c.loop-done-test.true small in
    let whole : blocks * (2 * half) ≡ 2 ^ k = rw (h, b) (blocks_whole k l c.loop-done-test.true) in
    let before = λ (n : ℕ). field.value (get_or c.loop-done.values n field.zero) in
    let after = λ (n : ℕ). field.value (get_or c.layer_by_block.new.values n field.zero) in
    let scaled = λ (n : ℕ). field.ring.mul (field.value (get_or c.args.values.now n field.zero)) (factor field c.args.scale) in
    let entry = λ (t : ℕ). field.value (g.T.LayerTwiddles.at c.args.table (mid + l) (chunk * blocks + t)) in
    record {
      rows = λ root s roots table j r inside below.
          let coset = point field.ring root (mid + k) s (rev mid chunk) in
          let entry_is : (u : ℕ) → u < blocks → entry u ≡ twiddle field.ring root coset l (k - 1 - l) (rev l u) =
          λ u p. chunk_entry field root s mid k chunk l u (mid + l) (chunk * blocks + u)
          (g.T.LayerTwiddles.at c.args.table) roots table refl (ap (λ n. chunk * n + u) b) c.requires.chunk.chunk
          c.loop-done-test.true (omega (arith, p, b)) in
          whole_layer_taken (high_rows field.ring root coset roots (λ u. scaled (u * w + j))) k l w half blocks
          (λ u t. dit_near field.ring (entry u)) (λ u t. dit_far field.ring (entry u)) before after
          (omega arith) c.loop-done-test.true h whole
          (λ u t p q. ap (dit_near field.ring) (entry_is u p))
          (λ u t p q. ap (dit_far field.ring) (entry_is u p))
          c.layer_by_block.ensures.cells
          j inside
          (λ u v. c.loop-done.invariant.rows root s roots table j u inside v)
          r below;
      cost =
          layer_counted 1 k l w blocks half _ c.loop-done.products c.layer_by_block.new.products c.loop-done-test.true
          whole c.loop-done.invariant.cost c.layer_by_block.ensures.cost.cost;
      grows = omega (arith, c.loop-done.invariant.grows, c.layer_by_block.ensures.cost.grows);
    }

pub returns-clause-values : goal.returns-clause-values
returns-clause-values g c root s roots table t j p q =
    let field = g.F.Valued in
    let k = c.args.left in
    let e : c.loop-done.done ≡ k = omega (arith, c.requires.nonzero) in
    let d : k - c.loop-done.done ≡ 0 = omega arith in
    let coset = point field.ring root (c.args.mid + k) s (rev c.args.mid c.args.chunk) in
    let f = λ (u : ℕ). field.ring.mul (field.value (get_or c.args.values.now (u * c.args.width + j) field.zero)) (factor field c.args.scale) in
    c.loop-done.invariant.rows root s roots table j t q p ∙ ap₂ (λ x y. high_row field.ring root coset x y f t) e d ∙ high_end field.ring root coset k f t

pub returns-clause-cost : goal.returns-clause-cost
returns-clause-cost g c =
    let k = c.args.left in
    let w = c.args.width in
    let e : c.loop-done.done ≡ k = omega (arith, c.requires.nonzero) in
    let all = ap (λ n. 1 * (n * (2 ^ (k - 1) * w))) e ∙ layers_counted k w in
    record { grows = c.loop-done.invariant.grows; cost = omega (arith, all, c.loop-done.invariant.cost) }

pub scaled_layer-requires-clause-in_table : goal.scaled_layer-requires-clause-in_table
scaled_layer-requires-clause-in_table g c = c.requires.chunk.table c.args.mid (omega arith) (omega (arith, c.requires.nonzero))

pub scaled_layer-requires-clause-table : goal.scaled_layer-requires-clause-table
scaled_layer-requires-clause-table g c = omega (arith, c.requires.chunk.chunk)

pub layer_by_block-requires-clause-nonzero : goal.layer_by_block-requires-clause-nonzero
layer_by_block-requires-clause-nonzero g c =
    some_rows _ (c.args.left - 1 - c.loop-done.done)
    (left_shift c.args.left c.loop-done.done c.loop-done-test.true (omega (arith, c.requires.chunk.fits_u64)))

pub layer_by_block-requires-clause-blocks : goal.layer_by_block-requires-clause-blocks
layer_by_block-requires-clause-blocks g c =
    some_rows _ c.loop-done.done
    (done_shift c.args.left c.loop-done.done c.loop-done-test.true (omega (arith, c.requires.chunk.fits_u64)))
