-- Columns on cosets of their own, by a transform on the subgroup and the powers of each column's shift.
use Rattle.p3_dft.proofs.Names.{◌≡◌, ℕ, zero, suc, ◌^◌, ◌<◌, ◌≤◌, refl, sym, ap, ap₂, ◌∙◌, arith, subst, AreRoots, IsInverse, IsInvertible, Ring, power}
use Rattle.p3_dft.proofs.Names.{power-inverse, power-suc, power-zero, alone, AreCoefficients, coset_shift, values_of, Matrix, Same, RowMajor, height}
use Rattle.p3_dft.proofs.Names.{column_values, coset_values, coset_coefficients, there_is_no_other, log_same, IsInterpolationByColumns, IsTransformByColumns}
use Rattle.p3_dft.proofs.Names.{column_shift, columns_shifted, FitsDft, IsInterpolation, IsTransform}
use Rattle.p3_field.specs.declared.fields.Valued.{Ghosts as FieldMembers}
use Rattle.p3_field.proofs.Rings

module _ {A : Type 0} (R : Ring A) where
  -- the shift of column 0
  pub first_column_shift : (s t : A) → column_shift R s t 0 ≡ s
  first_column_shift s t = ap (R.mul s) (power-zero R t) ∙ R.mul_one s

  -- where a later column's shift has an inverse, the step has one
  step_invertible : (s t : A) (j : ℕ) → IsInvertible R (column_shift R s t (suc j)) → IsInvertible R t
  step_invertible s t j (u, is) =
      let p = power R t j in
      let factors : R.mul (R.mul s (R.mul t p)) u ≡ R.mul t (R.mul (R.mul s p) u) =
      ap (λ x. R.mul x u) (Rings.mul_left_comm R s t p) ∙ R.mul_assoc t (R.mul s p) u in
      (R.mul (R.mul s p) u, sym factors ∙ ap (λ x. R.mul (R.mul s x) u) (sym (power-suc R t j)) ∙ is)

  -- the inverses of the columns' shifts go by the inverse of the step
  pub column_inverse : (s t s' t' : A) → IsInverse R s s' → (IsInvertible R t → IsInverse R t t') → (j : ℕ) → IsInvertible R (column_shift R s t j)
      → IsInverse R (column_shift R s t j) (column_shift R s' t' j)
  column_inverse s t s' t' first next zero invertible = ap₂ R.mul (first_column_shift s t) (first_column_shift s' t') ∙ first
  column_inverse s t s' t' first next (suc j) invertible =
      let p = power R t (suc j) in
      let q = power R t' (suc j) in
      let last : R.mul p q ≡ R.one = power-inverse R t t' (suc j) (next (step_invertible s t j invertible)) in
      Rings.mul_left_comm R (R.mul s p) s' q ∙ ap (R.mul s') (R.mul_assoc s p q ∙ ap (R.mul s) last ∙ R.mul_one s) ∙ R.mul_comm s' s ∙ first

  -- a column alone, times the powers of its shift
  alone_shifted : (c d : Matrix A) (shifts : ℕ → A) (j : ℕ) → j < c.width → Same d (columns_shifted R shifts c)
      → Same (alone j d) (coset_shift R (shifts j) (alone j c))
  alone_shifted c d shifts j inside same = record {
    height = same.height;
    width = refl;
    alike = λ i l below first. same.alike i j below (omega (arith, inside, same.width));
  }

  alone_coefficients : (g : ℕ → A) (m c : Matrix A) (k : ℕ) (s : A) (j : ℕ) → j < m.width → AreCoefficients R g m k s c
      → AreCoefficients R g (alone j m) k s (alone j c)
  alone_coefficients g m c k s j inside are = record {
    height = are.height;
    width = refl;
    values = column_values R g c m k s j (omega (arith, inside, are.width)) are.values;
  }

module _ {F : Type 0} (f : FieldMembers F) (generator : ℕ → F) where
  -- the transform of the columns, each times the powers of its shift
  pub transform_by_columns : (bits : ℕ) (m c out : RowMajor F) (shifts : ℕ → f.Element)
      → FitsDft bits (height m) m.width → Same (values_of f c) (columns_shifted f.ring shifts (values_of f m))
      → IsTransform f generator c f.ring.one out → IsTransformByColumns f generator m shifts out
  transform_by_columns bits m c out shifts fits same transform = let whole = transform fits.log (same.height ∙ fits.height) in record {
    shape = (whole.height ∙ sym fits.height, whole.width ∙ same.width);
    columns = λ k j high inside.
        coset_values f.ring (λ n. f.value (generator n)) (alone j (values_of f m)) (alone j (values_of f c)) k (shifts j) (alone j (values_of f out))
        (alone_shifted f.ring (values_of f m) (values_of f c) shifts j inside same)
        (column_values f.ring (λ n. f.value (generator n)) (values_of f c) (values_of f out) k f.ring.one j
        (omega (arith, inside, same.width)) (transform k (same.height ∙ high)));
  }

  module _ (bits : ℕ) (roots : AreRoots f.ring bits (λ n. f.value (generator n))) where
    -- the coefficients on the subgroup, each column times the powers of the inverse of its shift
    pub interpolation_by_columns : (m c d : RowMajor F) (shifts inverses : ℕ → f.Element)
        → FitsDft bits (height m) m.width → ((j : ℕ) → j < m.width → IsInverse f.ring (shifts j) (inverses j))
        → IsInterpolation f generator m f.ring.one c → Same (values_of f d)
        (columns_shifted f.ring inverses (values_of f c)) → IsInterpolationByColumns f generator m shifts d
    interpolation_by_columns m c d shifts inverses fits inverse on_subgroup same = record {
      shape = (same.height ∙ are.height, same.width ∙ are.width);
      holds = holds;
      only = λ k high other wide all. record {
        height = (all 0 fits.width).height ∙ sym are.height ∙ sym same.height;
        width = wide ∙ sym are.width ∙ sym same.width;
        alike = λ i j below inside.
            let within : j < m.width = omega (arith, inside, wide) in
            (there_is_no_other f.ring roots (alone j (values_of f m)) k (shifts j) (bounded k high)
            (inverses j, inverse j within) (alone j other) (alone j (values_of f d))
            (all j within) (holds k j high within)).alike i 0 below (omega arith);
      };
    }
      where
        are : AreCoefficients f.ring (λ n. f.value (generator n)) (values_of f m) fits.log f.ring.one (values_of f c)
        are = on_subgroup.holds fits.log fits.height

        bounded : (k : ℕ) → height m ≡ 2 ^ k → k ≤ bits
        bounded k high = subst (λ (n : ℕ). n ≤ bits) (log_same fits.log k (sym fits.height ∙ high)) fits.within

        holds : (k j : ℕ) → height m ≡ 2 ^ k → j < m.width
            → AreCoefficients f.ring (λ n. f.value (generator n)) (alone j (values_of f m)) k (shifts j) (alone j (values_of f d))
        holds k j high inside =
            coset_coefficients f.ring roots (alone j (values_of f m)) (alone j (values_of f c))
            (alone j (values_of f d)) k (shifts j) (inverses j) (inverse j inside)
            (alone_coefficients f.ring (λ n. f.value (generator n)) (values_of f m) (values_of f c) k f.ring.one j inside (on_subgroup.holds k high))
            (alone_shifted f.ring (values_of f c) (values_of f d) inverses j (omega (arith, inside, (on_subgroup.holds k high).width)) same)
