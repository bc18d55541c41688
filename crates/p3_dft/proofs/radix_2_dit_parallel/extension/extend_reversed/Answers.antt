use Rattle.p3_dft.proofs.Lemmas.{◌≡◌, ℕ, ◌+◌, ◌-◌, ◌*◌, ◌/◌, ◌%◌, ◌^◌, ◌++◌, List, length, get_or, take, drop, refl, sym, ap, ap₂, ◌∙◌, subst, arith}
use Rattle.p3_dft.proofs.Lemmas.{IsPermutation, pow-add, pow_pos, mul-div_cancel, mul-mod_left, IfErr-weaker, on_ok_weaker, rev, Matrix, rows_from, rev-lt}
use Rattle.p3_dft.proofs.Lemmas.{list_same, point, poly, written, values_of_network, values_of_upper, entries_written}
use Rattle.p3_matrix.specs.Blocks.{block, first_blocks}
use Rattle.p3_networks.specs.Slots.{slot_block, slot_blocks}
use Rattle.p3_dft.proofs.radix_2_dit_parallel.extension.extend_reversed.Goals as goal

-- blocks of a slot that begins with row 0 are those of a matrix
first_are : {T : Type 0} (b w : ℕ) (rows : List T) (n : ℕ) → slot_blocks 0 b w rows n ≡ first_blocks b (record { width = w; values = rows }) n
first_are {T} b w rows n =
    list_same (slot_block 0 b w rows) (block b (record { width = w; values = rows })) n
    (λ q below. let number : 0 + q * b ≡ q * b = omega arith in ap (λ (x : ℕ). (x, rows_from (record { width = w; values = rows }) (q * b) b)) number)

pub returns-clause-values : goal.returns-clause-values
returns-clause-values g c =
    let log = c.args.log_h in
    on_ok_weaker c.extend_slots.result
    (λ given upper whole high over_zeros. values_of_network g.F.Valued g.F.TwoAdicField.generator upper c.args.mat.now
    c.values_mut.result.now log c.args.added_bits c.width-width.result
    (g.F.Valued.value c.args.shift) (rev log) (λ q _. rev-lt log q) (sym c.width-width.ensures.width) c.values_mut.ensures.values whole high over_zeros
    c.extend_slots.new.values _ (c.extend_slots.auto.values ∙ ap length c.values_mut.ensures.values) c.requires.rows.height given)
    c.extend_slots.ensures.values

-- The blocks of all slots are those of the matrix: their number is the height divided by the rows of a block, since both
-- are powers of two, and a block begins at the same row in either count.
pub returns-clause-published : goal.returns-clause-published
returns-clause-published g c =
    let log = c.args.log_h in
    let a = c.args.added_bits in
    let m = c.args.mat.now in
    let w = c.width-width.result in
    let b = 2 ^ (log - (log + 1) / 2) in
    let after = c.extend_slots.new.values in
    let wide : m.width ≡ w = sym c.width-width.ensures.width in
    let size : length after ≡ length m.values = c.extend_slots.auto.values ∙ ap length c.values_mut.ensures.values in
    let entries = take (length m.values) (after ++ drop (length after) m.values) in
    let values_is : entries ≡ after = written (length m.values) after (drop (length after) m.values) size in
    let tall : length entries / m.width ≡ 2 ^ (log + a) = ap (λ xs. length xs / m.width) values_is ∙ ap (λ k. k / m.width) size ∙ c.requires.rows.height in
    let parts : (log + 1) / 2 + (log - (log + 1) / 2) ≡ log = omega arith in
    let blocks : 2 ^ (log + a) ≡ 2 ^ a * 2 ^ ((log + 1) / 2) * b =
    pow-add 2 log a ∙ ap (λ k. 2 ^ k * 2 ^ a) (sym parts) ∙ ap (λ k. k * 2 ^ a) (pow-add 2 ((log + 1) / 2) (log - (log + 1) / 2)) ∙ omega arith in
    let number : 2 ^ a * 2 ^ ((log + 1) / 2) ≡ 2 ^ (log + a) / b =
    sym (ap (λ k. k / b) blocks ∙ mul-div_cancel (2 ^ a * 2 ^ ((log + 1) / 2)) (pow_pos (log - (log + 1) / 2))) in
    let total = 2 ^ a * 2 ^ ((log + 1) / 2) in
    let blocks_are : slot_blocks 0 b w after total ≡ first_blocks b (record { width = m.width; values = entries }) (length entries / m.width / b) =
    first_are b w after total ∙ ap (first_blocks b (record { width = w; values = after })) (number ∙ sym (ap (λ h. h / b) tall))
    ∙ ap₂ (λ (v : ℕ) (xs : List g.row.F.Denot). first_blocks b (record { width = v; values = xs }) (length entries / m.width / b)) (sym wide) (sym values_is) in
    on_ok_weaker c.extend_slots.result
    (λ given.
    let list = given.0 in let each = given.1 in let run = given.2 in (
      list,
      record {
        divides = ap (λ h. h % b) tall ∙ ap (λ k. k % b) blocks ∙ mul-mod_left total b;
        each_once = subst (λ xs. IsPermutation xs list) blocks_are each;
      },
      run,
    ))
    c.extend_slots.ensures.published

pub returns-clause-refused : goal.returns-clause-refused
returns-clause-refused g c =
    let field = g.F.Valued in
    let gen = λ (n : ℕ). field.value (g.F.TwoAdicField.generator n) in
    let log = c.args.log_h in
    let n = log + c.args.added_bits in
    let s = field.value c.args.shift in
    let w = c.width-width.result in
    let start = c.values_mut.result.now in
    let out : Matrix field.Element =
    record {
      height = 2 ^ n;
      width = w;
      entry =
          λ i j. poly field.ring (2 ^ log) (λ q. field.value (get_or start (rev log q * w + j) field.zero))
          (point field.ring gen n s i);
    } in
    IfErr-weaker c.extend_slots.result _ _
    (λ refusal given upper whole high over_zeros.
    let accepted = given.0 in let refused = given.1 in let blocks = given.2 in let stopped = given.3 in (
      out,
      accepted,
      refused,
      values_of_upper field g.F.TwoAdicField.generator upper c.args.mat.now start log c.args.added_bits w s (rev log)
          (λ q _. rev-lt log q) (sym c.width-width.ensures.width) c.values_mut.ensures.values
          whole high over_zeros out refl refl (λ i j below inside. refl),
      blocks,
      stopped,
    ))
    c.extend_slots.ensures.refused

pub returns-clause-same : goal.returns-clause-same
returns-clause-same g c =
    entries_written c.args.mat.now _ c.extend_slots.new.values refl refl
    (c.extend_slots.auto.values ∙ ap length c.values_mut.ensures.values)
