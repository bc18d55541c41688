-- The text of an answer has at least as many bytes as the answer has entries: behind each stands a byte.
use Rattle.std.proofs.Common.{◌≡◌, ℕ, suc, ◌+◌, ◌*◌, ◌^◌, ◌<◌, ◌≤◌, List, [], ◌∷◌, length, get_or, map, ap, ap₂, ◌∙◌}
use Rattle.std.proofs.Common.{sym, subst, arith, rules, slice_range, pow-add}
use Rattle.std.proofs.Math.Nat.{add-mul}
use Rattle.std.proofs.lemmas.List.{length-append, length-map, places}
use Rattle.std.proofs.lemmas.List.FromFn.{length-map-range_with_len, get_or-map-range_with_len}
use Rattle.std.specs.Fmt.{decimal}
use Rattle.std.specs.List.{join_with_byte}
use Rattle.p3_field.specs.declared.fields.Valued.{Ghosts as FieldMembers}
use Rattle.p3_matrix.specs.RowMajor.{RowMajor, IsRowMajor, height, row, rows}
use Rattle.p3_matrix.proofs.RowMajor.{row_within}
use Rattle.p3_dft.specs.Jobs.{CanRun, IsAnswer, answer_entries}
use Rattle.p3_dft.specs.declared.jobs.Job.{Job}
use Rattle.p3_dft.specs.declared.jobs.Job.TheVariants.{Dft, CosetDft, Idft, CosetIdft, Lde, CosetLde}
use Rattle.dft_program.specs.Text.{line_of_numbers, spaced, text_of_rows}

row_long : {X : Type 0} (xs : List X) (a w : ℕ) → a + w ≤ length xs → length (slice_range xs a (a + w)) ≡ w
row_long xs a w within = search (rules, places)

joined_long : (c : ℕ) (pieces : List (List ℕ)) → length pieces ≤ length (join_with_byte c pieces) + 1
joined_long c [] = omega arith
joined_long c (x ∷ []) = omega arith
joined_long c (x ∷ y ∷ pieces) = omega (arith, length-append x (c ∷ join_with_byte c (y ∷ pieces)), joined_long c (y ∷ pieces))

module _ {X : Type 0} (number : X → ℕ) where
  line_long : (xs : List X) → length xs ≤ length (line_of_numbers (map number xs))
  line_long xs =
      omega (
        arith,
        length-append (spaced (map number xs)) (10 ∷ []),
        joined_long 32 (map decimal (map number xs)),
        length-map (map number xs) decimal,
        length-map xs number,
      )

  text_long : (w : ℕ) (xs : List (List X)) → ((i : ℕ) → i < length xs → length (get_or xs i []) ≡ w)
      → length xs * w ≤ length (text_of_rows (map (map number) xs))
  text_long w [] wide = omega arith
  text_long w (x ∷ xs) wide =
      let later : length xs * w ≤ length (text_of_rows (map (map number) xs)) = text_long w xs (λ i within. wide (suc i) (omega (arith, within))) in
      let first : length x ≡ w = wide 0 (omega arith) in
      omega (arith, later, first, line_long x, add-mul (length xs) 1 w, length-append (line_of_numbers (map number x)) (text_of_rows (map (map number) xs)))

  pub text_of_matrix_long : (m : RowMajor X) → IsRowMajor m → height m * m.width ≤ length (text_of_rows (map (map number) (rows m)))
  text_of_matrix_long m whole =
      let many : length (rows m) ≡ height m = length-map-range_with_len (row m) 0 (height m) in
      subst (λ (n : ℕ). n * m.width ≤ length (text_of_rows (map (map number) (rows m)))) many (text_long m.width (rows m) (λ i within.
      let below : i < height m = omega (arith, within, many) in
      ap length (get_or-map-range_with_len (row m) 0 (height m) i i [] below (omega arith))
      ∙ row_long m.values (i * m.width) m.width (row_within i (height m) m.width (length m.values) below whole.full)))

extended_size : (h w a k tall wide : ℕ) → h ≡ 2 ^ k → tall ≡ 2 ^ (k + a) → wide ≡ w → tall * wide ≡ h * w * 2 ^ a
extended_size h w a k tall wide high extended same =
    let by_rows : h * 2 ^ a * w ≡ h * w * 2 ^ a = omega arith in
    ap₂ (λ (t v : ℕ). t * v) (extended ∙ pow-add 2 k a ∙ ap (λ n. n * 2 ^ a) (sym high)) same ∙ by_rows

-- an answer has the entries that its job says
pub answer_size : {F : Type 0} (f : FieldMembers F) (generator : ℕ → F) (bits : ℕ) (job : Job F) (out : RowMajor F) → CanRun f bits job
    → IsAnswer f generator job out → height out * out.width ≡ answer_entries job
answer_size f generator bits (Dft m) out can answer =
    let values = answer can.log can.height in
    ap₂ (λ (h w : ℕ). h * w) (values.height ∙ sym can.height) values.width
answer_size f generator bits (CosetDft m s) out can answer =
    let values = answer can.log can.height in
    ap₂ (λ (h w : ℕ). h * w) (values.height ∙ sym can.height) values.width
answer_size f generator bits (Idft m) out can answer =
    let are = answer.holds can.log can.height in
    ap₂ (λ (h w : ℕ). h * w) are.height are.width
answer_size f generator bits (CosetIdft m s) out can answer =
    let are = answer.holds can.0.log can.0.height in
    ap₂ (λ (h w : ℕ). h * w) are.height are.width
answer_size f generator bits (Lde m a) out can answer =
    let values = answer.extended can.log can.height in
    extended_size (height m) m.width a can.log (height out) out.width can.height values.height
    (values.width ∙ (answer.are_coefficients can.log can.height).width)
answer_size f generator bits (CosetLde m a s) out can answer =
    let values = answer.extended can.log can.height in
    extended_size (height m) m.width a can.log (height out) out.width can.height values.height
    (values.width ∙ (answer.are_coefficients can.log can.height).width)
