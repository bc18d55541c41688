-- Laws of values at a point that a user cites. `m` has values on the coset of `s`, and `x` is the point.
use Rattle.std.proofs.Common.{◌≡◌, ℕ, ◌+◌, ◌^◌, ◌<◌, ◌≤◌, List, length, get_or, sym, ap, ◌∙◌, subst, arith}
use Rattle.p3_field.specs.Ring.{AreRoots, IsInvertible}
use Rattle.p3_field.specs.declared.fields.Valued.{Ghosts as FieldMembers}
use Rattle.p3_matrix.specs.Cosets.{point, AreCoefficients, values_of}
use Rattle.p3_matrix.specs.Matrix.{Matrix, Same, column}
use Rattle.p3_matrix.specs.Polynomials.{poly, sum, value}
use Rattle.p3_matrix.specs.RowMajor.{RowMajor, height}
use Rattle.p3_matrix.proofs.Polynomials.ByIndex.{poly_same, sum_same}
use Rattle.p3_matrix.proofs.Polynomials.Cosets.{entry-poly, value-column}
use Rattle.p3_matrix.proofs.Polynomials.Interpolation.{interpolated, there_is_no_other, there_is_one}
use Rattle.p3_matrix.proofs.TwoPowers.{log_same}
use Rattle.p3_dft.specs.Extensions.{IsExtension}
use Rattle.p3_dft.specs.Transforms.{IsInterpolation}
use Rattle.p3_interpolation.specs.Interpolations.{AreValuesAt, AreWeights}

module _ {F : Type 0} (f : FieldMembers F) (generator : ℕ → F) where
  abbrev roots : ℕ → f.Element
  roots n = f.value (generator n)

  -- equal columns have one value
  one_value : (c d : Matrix f.Element) (j : ℕ) (x : f.Element) → Same c d → j < c.width → value f.ring (column c j) x ≡ value f.ring (column d j) x
  one_value c d j x same inside =
      value-column f.ring c j x
      ∙ poly_same f.ring c.height (λ i. c.entry i j) (λ i. d.entry i j) x (λ i below. same.alike i j below inside)
      ∙ ap (λ n. poly f.ring n (λ i. d.entry i j) x) same.height ∙ sym (value-column f.ring d j x)

  -- the values at a point are those of the polynomials whose coefficients the inverse gives
  pub values_of_inverse : (m c : RowMajor F) (k : ℕ) (s x : f.Element) (ys : List F) → height m ≡ 2 ^ k
      → IsInterpolation f generator m s c → AreValuesAt f generator m s x ys
      → (j : ℕ) → j < m.width → f.value (get_or ys j f.zero) ≡ value f.ring (column (values_of f c) j) x
  values_of_inverse m c k s x ys high inverse at j inside =
      let d = at.coefficients in
      let are = at.are_coefficients k high in
      at.values j inside ∙ one_value d (values_of f c) j x (inverse.only k high d are) (omega (arith, inside, are.width))

  module _ {bits : ℕ} (are_roots : AreRoots f.ring bits roots) where
    -- sums of rows by weights are values at the point
    pub values_by_weights : (m : RowMajor F) (k : ℕ) (s x : f.Element) (w : ℕ → f.Element) (ys : List F) → k ≤ bits
        → height m ≡ 2 ^ k → IsInvertible f.ring s → AreWeights f.ring roots k s x w
        → length ys ≡ m.width → ((j : ℕ) → j < m.width → f.value (get_or ys j f.zero) ≡ sum f.ring (2 ^ k) (λ i. f.ring.mul ((values_of f m).entry i j) (w i)))
        → AreValuesAt f generator m s x ys
    values_by_weights m k s x w ys within high inverse are long sums = record {
      coefficients = c;
      are_coefficients = λ l tall.
          subst (λ (n : ℕ). AreCoefficients f.ring roots (values_of f m) n s c) (log_same k l (sym high ∙ tall)) here;
      long = long;
      values = λ j inside.
          sums j inside
          ∙ sum_same f.ring (2 ^ k) _ (λ i. f.ring.mul (poly f.ring (2 ^ k) (λ q. c.entry q j) (point f.ring roots k s i)) (w i))
          (λ i below. ap (λ y. f.ring.mul y (w i)) (entry-poly f.ring roots c k s (values_of f m) here.values i j below (omega (arith, inside, here.width))
          ∙ ap (λ n. poly f.ring n (λ q. c.entry q j) (point f.ring roots k s i)) (here.height ∙ high)))
          ∙ sym (are (λ q. c.entry q j))
          ∙ sym (value-column f.ring c j x ∙ ap (λ n. poly f.ring n (λ q. c.entry q j) x) (here.height ∙ high));
    }
      where
        c : Matrix f.Element
        c = interpolated f.ring are_roots k inverse.0 (values_of f m)

        here : AreCoefficients f.ring roots (values_of f m) k s c
        here = there_is_one f.ring are_roots (values_of f m) k s inverse.0 within high inverse.1

    -- the values at a point of a larger coset are a row of the extension to it
    pub values_of_extension : (m out : RowMajor F) (k a : ℕ) (s : f.Element) (i : ℕ) (ys : List F) → k ≤ bits
        → height m ≡ 2 ^ k → i < 2 ^ (k + a) → IsExtension f generator m a s out
        → AreValuesAt f generator m f.ring.one (point f.ring roots (k + a) s i) ys
        → (j : ℕ) → j < m.width → f.value (get_or ys j f.zero) ≡ (values_of f out).entry i j
    values_of_extension m out k a s i ys within high below extension at j inside =
        let x = point f.ring roots (k + a) s i in
        let c = at.coefficients in
        let d = extension.coefficients in
        let of_c = at.are_coefficients k high in
        let of_d = extension.are_coefficients k high in
        let same = there_is_no_other f.ring are_roots (values_of f m) k f.ring.one within (f.ring.one, f.ring.mul_one f.ring.one) c d of_c of_d in
        at.values j inside ∙ one_value c d j x same (omega (arith, inside, of_c.width))
        ∙ sym ((extension.extended k high).values i j below (omega (arith, inside, of_d.width)))
