-- A job of elements and the same job of their values: what answers the one answers the other.
use Rattle.std.proofs.Common.{◌≡◌, ℕ, ◌+◌, ◌-◌, ◌*◌, ◌/◌, ◌^◌, ◌<◌, ◌≤◌, List, [], ◌∷◌, get_or, length, map, take, drop, refl, sym, ap, ap₂, ◌∙◌, subst}
use Rattle.std.proofs.Common.{arith, pow_pos}
use Rattle.std.proofs.Math.Nat.{mul-le-mul_left}
use Rattle.std.specs.List.{range_with_len}
use Rattle.std.proofs.lemmas.List.{length-map, take-map, drop-map}
use Rattle.std.proofs.lemmas.Simd.{map-map}
use Rattle.std.proofs.Math.ListN.{get_or-map}
use Rattle.p3_field.specs.Ring.{AreRoots, IsInvertible}
use Rattle.p3_field.specs.declared.fields.Valued.{Ghosts as FieldMembers}
use Rattle.p3_matrix.specs.Matrix.{Matrix, Same}
use Rattle.p3_matrix.specs.RowMajor.{RowMajor, IsRowMajor, height, row, rows}
use Rattle.p3_matrix.proofs.Matrices.{same_sym, same_trans}
use Rattle.p3_matrix.specs.Cosets.{AreCoefficients, values_of}
use Rattle.p3_dft.specs.Extensions.{IsExtension}
use Rattle.p3_dft.specs.Jobs.{CanRun, IsAnswer, answer_entries}
use Rattle.p3_dft.specs.Shapes.{FitsLde}
use Rattle.p3_dft.specs.Transforms.{IsInterpolation, IsTransform}
use Rattle.p3_matrix.proofs.Polynomials.Cosets.{coefficients_same, values_same}
use Rattle.p3_matrix.proofs.Polynomials.Interpolation.{coefficients_of_same, same_coefficients}
use Rattle.p3_dft.proofs.Calls.Shapes.{input_fits}
use Rattle.dft_program.specs.declared.names.Operation.{Operation}
use Rattle.dft_program.specs.declared.names.Operation.TheVariants.{Dft, CosetDft, Idft, CosetIdft, Lde, CosetLde}
use Rattle.dft_program.specs.Answers.{IsText, asked_job, job_of}
use Rattle.dft_program.specs.Arguments.{Arguments}
use Rattle.dft_program.specs.NumberedFields.{NumberedField, members, numbered}
use Rattle.dft_program.specs.Text.{text_of_rows}
use Rattle.dft_program.proofs.Inverses.{element_is}

-- a job can be run where its extended shape fits, and a shift that is undone has an inverse
pub can_run : {F : Type 0} (f : FieldMembers F) (bits : ℕ) (operation : Operation) (m : RowMajor F) (a : ℕ) (s : F) → FitsLde bits (height m) m.width a
    → (operation ≡ CosetIdft → IsInvertible f.ring (f.value s)) → CanRun f bits (job_of operation m a s)
can_run f bits Dft m a s fits invertible = input_fits bits (height m) m.width a fits
can_run f bits CosetDft m a s fits invertible = input_fits bits (height m) m.width a fits
can_run f bits Idft m a s fits invertible = input_fits bits (height m) m.width a fits
can_run f bits CosetIdft m a s fits invertible = (input_fits bits (height m) m.width a fits, invertible refl)
can_run f bits Lde m a s fits invertible = fits
can_run f bits CosetLde m a s fits invertible = fits

times : (n a : ℕ) → n ≤ n * 2 ^ a
times n a = let grown : n * 1 ≤ n * 2 ^ a = mul-le-mul_left n (pow_pos a) in omega (arith, grown)

-- the same job of another matrix of this shape
pub same_entries : {F A : Type 0} (op : Operation) (m : RowMajor F) (n : RowMajor A) (a : ℕ) (s : F) (t : A)
    → length m.values ≡ length n.values → m.width ≡ n.width → answer_entries (job_of op m a s) ≡ answer_entries (job_of op n a t)
same_entries Dft m n a s t long wide = ap₂ (λ (l w : ℕ). l / w * w) long wide
same_entries CosetDft m n a s t long wide = ap₂ (λ (l w : ℕ). l / w * w) long wide
same_entries Idft m n a s t long wide = ap₂ (λ (l w : ℕ). l / w * w) long wide
same_entries CosetIdft m n a s t long wide = ap₂ (λ (l w : ℕ). l / w * w) long wide
same_entries Lde m n a s t long wide = ap₂ (λ (l w : ℕ). l / w * w * 2 ^ a) long wide
same_entries CosetLde m n a s t long wide = ap₂ (λ (l w : ℕ). l / w * w * 2 ^ a) long wide

-- an answer has no fewer entries than the matrix
pub no_fewer : {F : Type 0} (op : Operation) (m : RowMajor F) (a : ℕ) (s : F) → height m * m.width ≤ answer_entries (job_of op m a s)
no_fewer Dft m a s = omega arith
no_fewer CosetDft m a s = omega arith
no_fewer Idft m a s = omega arith
no_fewer CosetIdft m a s = omega arith
no_fewer Lde m a s = times (height m * m.width) a
no_fewer CosetLde m a s = times (height m * m.width) a

-- functions that agree everywhere give one list
map_alike : {X Y : Type 0} (f g : X → Y) (xs : List X) → ((x : X) → f x ≡ g x) → map f xs ≡ map g xs
map_alike f g [] e = refl
map_alike f g (x ∷ xs) e = ap₂ ◌∷◌ (e x) (map_alike f g xs e)

-- f of each entry
abbrev each : {X Y : Type 0} → (X → Y) → RowMajor X → RowMajor Y
each f m = record { width = m.width; values = map f m.values }

each_high : {X Y : Type 0} (f : X → Y) (m : RowMajor X) → height (each f m) ≡ height m
each_high f m = ap (λ n. n / m.width) (length-map m.values f)

each_whole : {X Y : Type 0} (f : X → Y) (m : RowMajor X) → IsRowMajor m → IsRowMajor (each f m)
each_whole f m whole = record {
  width = whole.width;
  full = ap (λ h. h * m.width) (each_high f m) ∙ whole.full ∙ sym (length-map m.values f);
}

rows_of_each : {X Y : Type 0} (f : X → Y) (m : RowMajor X) → rows (each f m) ≡ map (map f) (rows m)
rows_of_each f m =
    map_alike (row (each f m)) (λ i. map f (row m i)) (range_with_len 0 (height (each f m)))
    (λ i. ap (take (i * m.width + m.width - i * m.width)) (drop-map f (i * m.width) m.values)
    ∙ take-map f (i * m.width + m.width - i * m.width) (drop (i * m.width) m.values))
    ∙ ap (λ h. map (λ i. map f (row m i)) (range_with_len 0 h)) (each_high f m)
    ∙ sym (map-map (map f) (row m) (range_with_len 0 (height m)))

module _ {F : Type 0} (f : FieldMembers F) (generator : ℕ → F) (two_adicity modulus : ℕ) (element : ℕ → f.Element)
    (zero_is : f.value f.zero ≡ f.ring.zero) (are_roots : AreRoots f.ring two_adicity (λ n. f.value (generator n))) where
  abbrev field : NumberedField f.Element
  field = numbered f generator two_adicity modulus element

  abbrev roots : ℕ → f.Element
  roots n = f.value (generator n)

  abbrev valued : RowMajor F → RowMajor f.Element
  valued m = each f.value m

  -- by index they are one
  same : (m : RowMajor F) → Same (values_of f m) (values_of (members field) (valued m))
  same m = record {
    height = sym (each_high f.value m);
    width = refl;
    alike = λ i j p q.
        sym (get_or-map f.value m.values (i * m.width + j) f.zero)
        ∙ ap (get_or (map f.value m.values) (i * m.width + j)) zero_is;
  }

  back : (m : RowMajor F) → Same (values_of (members field) (valued m)) (values_of f m)
  back m = same_sym (values_of f m) (values_of (members field) (valued m)) (same m)

  high_back : (m : RowMajor F) (k : ℕ) → height (valued m) ≡ 2 ^ k → height m ≡ 2 ^ k
  high_back m k e = sym (each_high f.value m) ∙ e

  coefficients_back : (m : RowMajor F) (k : ℕ) (s : f.Element) (c : Matrix f.Element)
      → AreCoefficients f.ring roots (values_of (members field) (valued m)) k s c
      → AreCoefficients f.ring roots (values_of f m) k s c
  coefficients_back m k s c are = coefficients_of_same f.ring are_roots (values_of (members field) (valued m)) (values_of f m) k s c (back m) are

  coefficients_forth : (m : RowMajor F) (k : ℕ) (s : f.Element) (c : Matrix f.Element) → AreCoefficients f.ring roots (values_of f m) k s c
      → AreCoefficients f.ring roots (values_of (members field) (valued m)) k s c
  coefficients_forth m k s c are = coefficients_of_same f.ring are_roots (values_of f m) (values_of (members field) (valued m)) k s c (same m) are

  transform_valued : (m out : RowMajor F) (s : f.Element) → IsTransform f generator m s out → IsTransform (members field) roots (valued m) s (valued out)
  transform_valued m out s transform = λ k e.
      values_same f.ring roots (values_of (members field) (valued m)) k s (values_of f out) (values_of (members field) (valued out))
      (coefficients_same f.ring roots (values_of f m) (values_of (members field) (valued m)) k s (values_of f out) (same m) (transform k (high_back m k e)))
      (same out)

  interpolation_valued : (m out : RowMajor F) (s : f.Element) → IsInterpolation f generator m s out
      → IsInterpolation (members field) roots (valued m) s (valued out)
  interpolation_valued m out s interpolation = record {
    holds = λ k e.
        same_coefficients f.ring are_roots (values_of (members field) (valued m)) k s (values_of f out) (values_of (members field) (valued out)) (same out)
        (coefficients_forth m k s (values_of f out) (interpolation.holds k (high_back m k e)));
    only = λ k e d are.
        same_trans d (values_of f out) (values_of (members field) (valued out))
        (interpolation.only k (high_back m k e) d (coefficients_back m k s d are)) (same out);
  }

  extension_valued : (m out : RowMajor F) (a : ℕ) (s : f.Element) → IsExtension f generator m a s out
      → IsExtension (members field) roots (valued m) a s (valued out)
  extension_valued m out a s extension = record {
    coefficients = extension.coefficients;
    are_coefficients = λ k e. coefficients_forth m k f.ring.one extension.coefficients (extension.are_coefficients k (high_back m k e));
    extended = λ k e.
        values_same f.ring roots extension.coefficients (k + a) s (values_of f out) (values_of (members field) (valued out))
        (extension.extended k (high_back m k e)) (same out);
  }

  answer_valued : (operation : Operation) (m out : RowMajor F) (a : ℕ) (s : F) → IsAnswer f generator (job_of operation m a s) out
      → IsAnswer (members field) roots (job_of operation (valued m) a (f.value s)) (valued out)
  answer_valued Dft m out a s answer = transform_valued m out f.ring.one answer
  answer_valued CosetDft m out a s answer = transform_valued m out (f.value s) answer
  answer_valued Idft m out a s answer = interpolation_valued m out f.ring.one answer
  answer_valued CosetIdft m out a s answer = interpolation_valued m out (f.value s) answer
  answer_valued Lde m out a s answer = extension_valued m out a f.ring.one answer
  answer_valued CosetLde m out a s answer = extension_valued m out a (f.value s) answer

  module _ (injective : (x y : f.Element) → f.number x ≡ f.number y → x ≡ y)
      (named : (n : ℕ) → n < modulus → f.number (element n) ≡ n) (below : (x : F) → f.number (f.value x) < modulus) where
    abbrev number : F → ℕ
    number x = f.number (f.value x)

    -- elements have the values that their numbers name
    values_named : (xs : List F) (numbers : List ℕ) → map number xs ≡ numbers → map f.value xs ≡ map element numbers
    values_named xs numbers e =
        map_alike f.value (λ x. element (number x)) xs (λ x. sym (element_is f generator two_adicity modulus element injective named below x))
        ∙ sym (map-map element number xs) ∙ ap (map element) e

    -- the text of the matrix that answers the job of elements is that of an answer
    pub text_of_answer : (operation : Operation) (a : Arguments) (m out : RowMajor F) (s : F) (text : List ℕ)
        → m.width ≡ a.width → map number m.values ≡ a.values
        → number s ≡ a.shift → IsRowMajor out → IsAnswer f generator (job_of operation m a.added_bits s) out → text ≡ text_of_rows (map (map number) (rows out))
        → IsText field (asked_job field operation a) text
    text_of_answer operation a m out s text wide are shift whole answer shown = record {
      answer = valued out;
      whole = each_whole f.value out whole;
      answers =
          let matrix_is : valued m ≡ record { width = a.width; values = map element a.values } =
          ap₂ (λ w xs. record { width = w; values = xs }) wide (values_named m.values a.values are) in
          let shift_is : f.value s ≡ element a.shift = sym (element_is f generator two_adicity modulus element injective named below s) ∙ ap element shift in
          subst (λ (n : RowMajor f.Element). IsAnswer (members field) roots (job_of operation n a.added_bits (element a.shift)) (valued out)) matrix_is
          (subst (λ (x : f.Element). IsAnswer (members field) roots (job_of operation (valued m) a.added_bits x) (valued out)) shift_is
          (answer_valued operation m out a.added_bits s answer));
      shown =
          shown ∙ ap text_of_rows
          (map_alike (map number) (λ r. map f.number (map f.value r)) (rows out) (λ r. sym (map-map f.number f.value r))
          ∙ sym (map-map (map f.number) (map f.value) (rows out))
          ∙ ap (map (map f.number)) (sym (rows_of_each f.value out)));
    }
