use Rattle.p3_networks.proofs.Lemmas.{◌≡◌, ℕ, ◌+◌, ◌*◌, ◌/◌, ◌^◌, ◌<◌, ◌≤◌, List, length, get_or, refl, ap, ◌∙◌, subst, arith, add-one-le, le_of_eq, pow-add}
use Rattle.p3_networks.proofs.Lemmas.{pow_pos, MatchResult-weaker, rev, point, poly_same, chunk_of, RisesAtMost, IsHighHalf, IsHighNetwork, AreRows, row_below}
use Rattle.p3_networks.proofs.Lemmas.{one_shifted, first_shift, TileSizes, shifted_sizes, row_digits, row_taken}
use Rattle.p3_field.specs.declared.fields.Valued.{Ghosts as FieldMembers}
use Rattle.p3_networks.proofs.radix_2_dit_parallel.published_slots.last_half.Goals as goal

-- the sizes of the chunks of reversed rows
chunk_sizes : (mid left w n len : ℕ) → AreRows (mid + left) w n → len ≡ n → TileSizes (mid + left) left w (one_shifted mid) (len / one_shifted mid) len
chunk_sizes mid left w n len rows same = shifted_sizes mid (mid + left) left w len (omega (arith, rows.fits_u64)) refl (same ∙ rows.size)

-- the first n chunks of reversed rows, told from the rows as they were
second_done : {F : Type 0} (field : FieldMembers F) (mid left w n size : ℕ) (at : ℕ → ℕ → F) (values reversed after : List F)
    → n ≤ 2 ^ mid → size ≡ 2 ^ left * w
    → ((r j : ℕ) → r < 2 ^ (mid + left) → j < w → get_or reversed (r * w + j) field.zero ≡ get_or values (rev (mid + left) r * w + j) field.zero)
    → ((a : ℕ) → a < n → IsHighNetwork field mid left w a at
    (λ q j. field.ring.mul (field.value (get_or (chunk_of size a reversed) (q * w + j) field.zero)) field.ring.one) (chunk_of size a after))
    → IsHighHalf field n mid left w at (λ a q j. field.value (get_or values ((rev left q * 2 ^ mid + rev mid a) * w + j) field.zero)) after
second_done field mid left w n size at values reversed after few size_is turned done root s roots table a t j p q l =
    let all : 2 ^ (mid + left) ≡ 2 ^ mid * 2 ^ left = pow-add 2 mid left in
    let outer : a < 2 ^ mid = omega (arith, p, few) in
    let x = point field.ring root left (point field.ring root (mid + left) s (rev mid a)) (rev left t) in
    row_taken field.zero size field.ring (λ y. field.ring.mul (field.value y) field.ring.one) field.value (2 ^ left) w
    (λ u. u) size a t j x reversed after size_is refl (λ u b. b) q l (done a p root s roots table t j q l)
    ∙ poly_same field.ring (2 ^ left) _ _ x
    (λ u b.
    field.ring.mul_one _
    ∙ ap field.value (turned (a * 2 ^ left + u) j (omega (arith, all, row_below a u (2 ^ left) (2 ^ mid) outer b)) l)
    ∙ ap (λ n. field.value (get_or values (n * w + j) field.zero)) (row_digits mid left a u b))

-- the first row of a chunk lies before the end of a later one
first_of : (a n h : ℕ) → 0 < h → a < n → a * (1 * h) + 0 < n * h
first_of a n h some below = let one : a * (1 * h) + 0 ≡ a * h + 0 = omega arith in omega (arith, one, row_below a 0 h n below some)

-- what chunks cost without a scale
unscaled : (count n chunks cells before after : ℕ) → count ≡ n → RisesAtMost (count * (chunks + 0 * cells)) before after → RisesAtMost (n * chunks) before after
unscaled count n chunks cells before after is made =
    let none : chunks + 0 * cells ≡ chunks = omega arith in
    record { grows = made.grows; cost = omega (arith, made.cost, ap (λ x. count * x) none, ap (λ x. x * chunks) is) }

pub lend_each_chunk-requires-clause-whole : goal.lend_each_chunk-requires-clause-whole
lend_each_chunk-requires-clause-whole g c =
    (chunk_sizes c.args.mid c.args.left c.args.width (length c.args.values.now) (length c.reverse_chunks.new.values)
    c.requires.rows c.reverse_chunks.auto.values).whole

pub lend_each_chunk-requires-clause-blocks : goal.lend_each_chunk-requires-clause-blocks
lend_each_chunk-requires-clause-blocks g c =
    let one : 2 ^ c.args.left * c.args.width ≡ 1 * (2 ^ c.args.left * c.args.width) = omega arith in
    (chunk_sizes c.args.mid c.args.left c.args.width (length c.args.values.now) (length c.reverse_chunks.new.values)
    c.requires.rows c.reverse_chunks.auto.values).size_is ∙ one

pub lend_each_chunk-requires-clause-accepts : goal.lend_each_chunk-requires-clause-accepts
lend_each_chunk-requires-clause-accepts g c n below = (
  record {
    width = c.requires.rows.width;
    fits_u64 = c.requires.rows.fits_u64;
    chunk = subst (λ (m : ℕ). n < m) (first_shift c.args.mid c.args.left c.requires.rows.fits_u64) below;
    size = (chunk_sizes c.args.mid c.args.left c.args.width (length c.args.values.now) (length c.reverse_chunks.new.values)
        c.requires.rows c.reverse_chunks.auto.values).size_is;
    table = c.requires.table;
  },
  c.requires.numbers,
)

-- Chunks are lent as they are final. Each has one block, so that the chunks before the end of a block are those up to its number.
pub returns-clause-lent : goal.returns-clause-lent
returns-clause-lent g c =
    let field = g.F.Valued in
    let mid = c.args.mid in
    let left = c.args.left in
    let w = c.args.width in
    let sizes = chunk_sizes mid left w (length c.args.values.now) (length c.reverse_chunks.new.values) c.requires.rows c.reverse_chunks.auto.values in
    let size = length c.reverse_chunks.new.values / one_shifted mid in
    let shift = first_shift mid left c.requires.rows.fits_u64 in
    let count : one_shifted mid * 1 ≡ 2 ^ mid = omega (arith, shift) in
    let some : 0 < 1 * 2 ^ left = omega (arith, pow_pos left) in
    let rows = λ (n : ℕ) (few : n ≤ 2 ^ mid)
    (done : (p r : ℕ) → r < 1 * 2 ^ left → p * (1 * 2 ^ left) + r < n * 2 ^ left → IsHighNetwork field mid left w p (g.T.LayerTwiddles.at c.args.table)
    (λ q j. field.ring.mul (field.value (get_or (chunk_of size p c.reverse_chunks.new.values) (q * w + j) field.zero)) field.ring.one)
    (chunk_of size p c.lend_each_chunk.new.values)).
    second_done field mid left w n size (g.T.LayerTwiddles.at c.args.table) c.args.values.now c.reverse_chunks.new.values
    c.lend_each_chunk.new.values few sizes.size_is (c.reverse_chunks.ensures field.zero)
    (λ a below. done a 0 some (first_of a n (2 ^ left) (pow_pos left) below)) in
    MatchResult-weaker c.lend_each_chunk.result
    (rw count at c.lend_each_chunk.ensures.lent)
    (λ _ given. (rows (2 ^ mid) (le_of_eq refl) given.0, given.1))
    (λ refusal given. let (m, below, done, stopped) = given in (m, below, rows (m + 1) (add-one-le below) done, stopped))

pub returns-clause-cost : goal.returns-clause-cost
returns-clause-cost g c = unscaled _ _ _ _ _ _ (first_shift c.args.mid c.args.left c.requires.rows.fits_u64) c.lend_each_chunk.ensures.cost
