-- A job that can be run has an answer.
use Rattle.std.proofs.Common.{◌≡◌, ℕ, ◌+◌, ◌*◌, ◌/◌, ◌%◌, ◌^◌, ◌<◌, ◌≤◌, length, map, refl, sym, ap₂, ◌∙◌, subst, arith}
use Rattle.std.specs.List.{range_with_len}
use Rattle.std.proofs.lemmas.List.FromFn.{length-map-range_with_len, get_or-map-range_with_len}
use Rattle.std.proofs.lemmas.Nat.{div-mul-add, mod-mul-add, mul-add-lt}
use Rattle.p3_field.specs.Ring.{AreRoots, IsInverse}
use Rattle.p3_matrix.specs.Matrix.{Matrix, Same, matrix}
use Rattle.p3_matrix.specs.RowMajor.{RowMajor, IsRowMajor, height}
use Rattle.p3_matrix.proofs.Matrices.{same_sym}
use Rattle.p3_matrix.proofs.RowMajor.{whole_rows}
use Rattle.p3_matrix.proofs.TwoPowers.{log_same}
use Rattle.p3_dft.specs.declared.jobs.Job.{Job}
use Rattle.p3_dft.specs.declared.jobs.Job.TheVariants.{Dft, CosetDft, Idft, CosetIdft, Lde, CosetLde}
use Rattle.p3_matrix.specs.Cosets.{AreCoefficients, IsValues, values_of}
use Rattle.p3_dft.specs.Extensions.{IsExtension}
use Rattle.p3_dft.specs.Jobs.{CanRun, IsAnswer}
use Rattle.p3_dft.specs.Shapes.{FitsDft, FitsLde}
use Rattle.p3_dft.specs.Transforms.{IsInterpolation, IsTransform}
use Rattle.p3_matrix.proofs.Polynomials.Cosets.{values_of_same, values_on_coset}
use Rattle.p3_matrix.proofs.Polynomials.Interpolation.{interpolated, same_coefficients, there_is_no_other, there_is_one}
use Rattle.dft_program.specs.NumberedFields.{NumberedField, members}

-- a matrix by index as it is stored
abbrev stored : {T : Type 0} → Matrix T → RowMajor T
stored m = record { width = m.width; values = map (λ n. m.entry (n / m.width) (n % m.width)) (range_with_len 0 (m.height * m.width)) }

stored_high : {T : Type 0} (m : Matrix T) → 1 ≤ m.width → height (stored m) ≡ m.height
stored_high m wide =
    (whole_rows (length (stored m).values) m.height m.width wide
    (length-map-range_with_len (λ n. m.entry (n / m.width) (n % m.width)) 0 (m.height * m.width))).0

stored_whole : {T : Type 0} (m : Matrix T) → 1 ≤ m.width → IsRowMajor (stored m)
stored_whole m wide = record {
  width = wide;
  full =
      (whole_rows (length (stored m).values) m.height m.width wide
      (length-map-range_with_len (λ n. m.entry (n / m.width) (n % m.width)) 0 (m.height * m.width))).1;
}

-- is the same by index
stored_same : {T : Type 0} (d : T) (m : Matrix T) → 1 ≤ m.width → Same (matrix d (stored m)) m
stored_same d m wide = record {
  height = stored_high m wide;
  width = refl;
  alike = λ i j p q.
      let above : i < m.height = omega (arith, stored_high m wide) in
      let row : (i * m.width + j) / m.width ≡ i = div-mul-add i m.width j q in
      let place : (i * m.width + j) % m.width ≡ j = mod-mul-add i m.width j q in
      get_or-map-range_with_len (λ n. m.entry (n / m.width) (n % m.width)) 0 (m.height * m.width) (i * m.width + j) (i * m.width + j) d
      (omega (arith, mul-add-lt i m.width j m.height above q)) (omega arith)
      ∙ ap₂ m.entry row place;
}

module _ {A : Type 0} (f : NumberedField A) (are_roots : AreRoots f.ring f.two_adicity f.generator) where
  pub record Answered (job : Job A) : Type 0 where
    pub answer : RowMajor A
    pub whole : IsRowMajor answer
    pub answers : IsAnswer (members f) f.generator job answer

  abbrev values : RowMajor A → Matrix A
  values m = values_of (members f) m

  -- what is stored of the values on a coset has them
  has_values : (c : Matrix A) (k : ℕ) (s : A) → 1 ≤ c.width → IsValues f.ring f.generator c k s (values (stored (values_on_coset f.ring f.generator c k s)))
  has_values c k s wide =
      let all : Matrix A = values_on_coset f.ring f.generator c k s in
      values_of_same f.ring f.generator c k s (values (stored all)) (stored_same f.ring.zero all wide)

  some_transform : (m : RowMajor A) (s : A) → FitsDft f.two_adicity (height m) m.width
      → (out : RowMajor A) × (IsRowMajor out × IsTransform (members f) f.generator m s out)
  some_transform m s fits =
      let all : Matrix A = values_on_coset f.ring f.generator (values m) fits.log s in (
        stored all,
        (
          stored_whole all fits.width,
          λ k e.
              subst (λ (n : ℕ). IsValues f.ring f.generator (values m) n s (values (stored all)))
              (log_same fits.log k (sym fits.height ∙ e)) (has_values (values m) fits.log s fits.width),
        ),
      )

  some_interpolation : (m : RowMajor A) (s t : A) → FitsDft f.two_adicity (height m) m.width → IsInverse f.ring s t
      → (out : RowMajor A) × (IsRowMajor out × IsInterpolation (members f) f.generator m s out)
  some_interpolation m s t fits inverse =
      let c : Matrix A = interpolated f.ring are_roots fits.log t (values m) in
      let are : AreCoefficients f.ring f.generator (values m) fits.log s c =
      there_is_one f.ring are_roots (values m) fits.log s t fits.within fits.height inverse in
      let wide : 1 ≤ c.width = omega (arith, are.width, fits.width) in
      let stored_are : AreCoefficients f.ring f.generator (values m) fits.log s (values (stored c)) =
      same_coefficients f.ring are_roots (values m) fits.log s c (values (stored c)) (same_sym (values (stored c)) c (stored_same f.ring.zero c wide)) are in
      let holds : (k : ℕ) → height m ≡ 2 ^ k → AreCoefficients f.ring f.generator (values m) k s (values (stored c)) =
      λ k e. subst (λ (n : ℕ). AreCoefficients f.ring f.generator (values m) n s (values (stored c)))
      (log_same fits.log k (sym fits.height ∙ e)) stored_are in (
        stored c,
        (
          stored_whole c wide,
          record {
            holds = holds;
            only = λ k e d other.
                there_is_no_other f.ring are_roots (values m) k s
                (omega (arith, log_same fits.log k (sym fits.height ∙ e), fits.within)) (t, inverse) d
                (values (stored c)) other (holds k e);
          },
        ),
      )

  some_extension : (m : RowMajor A) (a : ℕ) (s : A) → FitsLde f.two_adicity (height m) m.width a
      → (out : RowMajor A) × (IsRowMajor out × IsExtension (members f) f.generator m a s out)
  some_extension m a s fits =
      let one : A = f.ring.one in
      let c : Matrix A = interpolated f.ring are_roots fits.log one (values m) in
      let are : AreCoefficients f.ring f.generator (values m) fits.log one c =
      there_is_one f.ring are_roots (values m) fits.log one one (omega (arith, fits.within)) fits.height (f.ring.mul_one one) in
      let wide : 1 ≤ c.width = omega (arith, are.width, fits.width) in
      let all : Matrix A = values_on_coset f.ring f.generator c (fits.log + a) s in (
        stored all,
        (
          stored_whole all wide,
          record {
            coefficients = c;
            are_coefficients = λ k e. subst (λ (n : ℕ). AreCoefficients f.ring f.generator (values m) n one c) (log_same fits.log k (sym fits.height ∙ e)) are;
            extended = λ k e.
                subst (λ (n : ℕ). IsValues f.ring f.generator c (n + a) s (values (stored all)))
                (log_same fits.log k (sym fits.height ∙ e)) (has_values c (fits.log + a) s wide);
          },
        ),
      )

  answered : (job : Job A) → (out : RowMajor A) × (IsRowMajor out × IsAnswer (members f) f.generator job out) → Answered job
  answered job found = record { answer = found.0; whole = found.1.0; answers = found.1.1 }

  pub some_answer : (job : Job A) → CanRun (members f) f.two_adicity job → Answered job
  some_answer (Dft m) can = answered (Dft m) (some_transform m f.ring.one can)
  some_answer (CosetDft m s) can = answered (CosetDft m s) (some_transform m s can)
  some_answer (Idft m) can = answered (Idft m) (some_interpolation m f.ring.one f.ring.one can (f.ring.mul_one f.ring.one))
  some_answer (CosetIdft m s) can = answered (CosetIdft m s) (some_interpolation m s can.1.0 can.0 can.1.1)
  some_answer (Lde m a) can = answered (Lde m a) (some_extension m a f.ring.one can)
  some_answer (CosetLde m a s) can = answered (CosetLde m a s) (some_extension m a s can)
