-- Matrices over a vector space: a field is its own space of dimension one, and each coordinate stands alone.
use Rattle.p3_dft.proofs.Names.{◌≡◌, ℕ, zero, suc, ◌+◌, ◌*◌, ◌/◌, ◌^◌, ◌<◌, ◌≤◌, ◌++◌, List, [], ◌∷◌, length, get_or, map, refl, sym, ap, ap₂, ◌∙◌, subst}
use Rattle.p3_dft.proofs.Names.{arith, flat_map, add-mul, add_assoc, div-mul-le_self, mul-div_cancel, mul-le-mul_right, mul-one, mul_assoc, get_or-append}
use Rattle.p3_dft.proofs.Names.{get_or-append-add, length-map, flat_map-cons, AreRoots, IsInvertible, Matrix, Same, RowMajor, height, same_sym, AreCoefficients}
use Rattle.p3_dft.proofs.Names.{IsValues, values_of, coefficients_same, values_same, there_is_no_other, chosen, coordinate, flat, IsExtension, FitsDft}
use Rattle.p3_dft.proofs.Names.{IsInterpolation, IsTransform, chosen_values}
use Rattle.p3_dft.proofs.Calls.Coordinates.{height-flat}
use Rattle.p3_dft.proofs.Laws.TwoCalls.{exponent_within}
use Rattle.p3_field.specs.declared.algebra.BasedVectorSpace.{Ghosts as SpaceMembers}
use Rattle.p3_field.specs.declared.fields.Valued.{Ghosts as FieldMembers}

-- ---- dimension one
-- a field as a space over itself
abbrev itself : {F : Type 0} → SpaceMembers F F
itself = record { DIMENSION = 1; coordinates = λ x. x ∷ [] }

entries-itself : {F : Type 0} (xs : List F) → flat_map (λ x. x ∷ []) xs ≡ xs
entries-itself [] = refl
entries-itself (x ∷ xs) = flat_map-cons (λ x. x ∷ []) x xs ∙ ap (λ ys. x ∷ ys) (entries-itself xs)

flat-itself : {F : Type 0} (m : RowMajor F) → flat itself m ≡ m
flat-itself {F} m = ap₂ (λ (w : ℕ) (xs : List F). record { width = w; values = xs }) (mul-one m.width) (entries-itself m.values)

-- what relates matrices of coordinates relates the matrices themselves
pub in_dimension_one : {F : Type 0} (related : RowMajor F → RowMajor F → Type 0) (m out : RowMajor F)
    → related (flat itself m) (flat itself out) → related m out
in_dimension_one related m out given =
    subst (λ n. related n out) (flat-itself m) (subst (related (flat itself m)) (flat-itself out) given)

-- ---- each coordinate alone
-- coordinate t of entry (i, j), where rows have w entries of d coordinates
same_place : (i j w d t : ℕ) → (i * w + j) * d + t ≡ i * (w * d) + (j * d + t)
same_place i j w d t = ap (λ n. n + t) (add-mul (i * w) j d ∙ ap (λ n. n + j * d) (mul_assoc i w d)) ∙ add_assoc (i * (w * d)) (j * d) t

module _ {V F : Type 0} (v : SpaceMembers V F) (counted : (x : V) → length (v.coordinates x) ≡ v.DIMENSION) (t : ℕ) (within : t < v.DIMENSION) where
  -- coordinate t of element n, among all coordinates
  pub coordinate-place : (d : F) (xs : List V) (n : ℕ) → n < length xs
      → get_or (map (λ x. get_or (v.coordinates x) t d) xs) n d ≡ get_or (flat_map v.coordinates xs) (n * v.DIMENSION + t) d
  coordinate-place d [] n below = absurd (omega (arith, below))
  coordinate-place d (x ∷ xs) zero below =
      sym (ap (λ ys. get_or ys (0 * v.DIMENSION + t) d) (flat_map-cons v.coordinates x xs)
      ∙ ap (λ i. get_or (v.coordinates x ++ flat_map v.coordinates xs) i d) (omega arith)
      ∙ get_or-append (v.coordinates x) (flat_map v.coordinates xs) d t (omega (arith, within, counted x)))
  coordinate-place d (x ∷ xs) (suc n) below =
      coordinate-place d xs n (omega (arith, below))
      ∙ sym (ap (λ ys. get_or ys (suc n * v.DIMENSION + t) d) (flat_map-cons v.coordinates x xs)
      ∙ ap (λ i. get_or (v.coordinates x ++ flat_map v.coordinates xs) i d) (omega (arith, counted x))
      ∙ get_or-append-add (v.coordinates x) (flat_map v.coordinates xs) (n * v.DIMENSION + t) d)

  abbrev place : ℕ → ℕ
  place j = j * v.DIMENSION + t

  module _ (f : FieldMembers F) (generator : ℕ → F) where
    abbrev one_of : RowMajor V → RowMajor F
    one_of m = coordinate v f.zero t m

    abbrev roots : ℕ → f.Element
    roots n = f.value (generator n)

    -- the matrix of coordinates t has some columns of the flat matrix
    coordinate_columns : (m : RowMajor V) (w : ℕ) → m.width ≡ w → 1 ≤ m.width * v.DIMENSION
        → Same (values_of f (one_of m)) (chosen place w (values_of f (flat v m)))
    coordinate_columns m w wide some =
        let count : height (one_of m) ≡ height m = ap (λ n. n / m.width) (length-map m.values (λ x. get_or (v.coordinates x) t f.zero)) in
        record {
          height = count ∙ sym (height-flat v counted m some);
          width = wide;
          alike = λ i j p q.
              let rise : (i + 1) * m.width ≤ height m * m.width = mul-le-mul_right m.width (omega (arith, p, count)) in
              let inside : i * m.width + j < length m.values = omega (arith, rise, q, div-mul-le_self (length m.values) m.width) in
              ap f.value (coordinate-place f.zero m.values (i * m.width + j) inside
              ∙ ap (λ n. get_or (flat_map v.coordinates m.values) n f.zero) (same_place i j m.width v.DIMENSION t));
        }

    coordinate_values : (c : Matrix f.Element) (y : RowMajor V) (n : ℕ) (s : f.Element) → 1 ≤ y.width * v.DIMENSION
        → IsValues f.ring roots c n s (values_of f (flat v y))
        → IsValues f.ring roots (chosen place y.width c) n s (values_of f (one_of y))
    coordinate_values c y n s some given =
        values_same f.ring roots (chosen place y.width c) n s (chosen place y.width (values_of f (flat v y))) (values_of f (one_of y))
        (chosen_values f.ring roots c (values_of f (flat v y)) n s place y.width
        (λ j below.
        let rise : (j + 1) * v.DIMENSION ≤ y.width * v.DIMENSION = mul-le-mul_right v.DIMENSION (omega (arith, below)) in
        omega (arith, rise, within, given.width)) given)
        (same_sym (values_of f (one_of y)) (chosen place y.width (values_of f (flat v y))) (coordinate_columns y y.width refl some))

    -- rows of elements have one width where their coordinates have
    element_width : (m out : RowMajor V) → (flat v out).width ≡ (flat v m).width → out.width ≡ m.width
    element_width m out same =
        let positive : 1 ≤ v.DIMENSION = omega (arith, within) in
        sym (mul-div_cancel out.width positive) ∙ ap (λ n. n / v.DIMENSION) same ∙ mul-div_cancel m.width positive

    -- and the coordinates of coefficients are the coefficients of coordinates
    coordinate_coefficients : (m out : RowMajor V) (k : ℕ) (s : f.Element) → 1 ≤ m.width * v.DIMENSION → (flat v out).width ≡ (flat v m).width
        → IsValues f.ring roots (values_of f (flat v m)) k s (values_of f (flat v out)) → IsValues f.ring roots
        (values_of f (one_of m)) k s (values_of f (one_of out))
    coordinate_coefficients m out k s some same given =
        let wide : out.width ≡ m.width = element_width m out same in
        coefficients_same f.ring roots (chosen place out.width (values_of f (flat v m))) (values_of f (one_of m)) k s (values_of f (one_of out))
        (same_sym (values_of f (one_of m)) (chosen place out.width (values_of f (flat v m))) (coordinate_columns m out.width (sym wide) some))
        (coordinate_values (values_of f (flat v m)) out k s (omega (arith, some, same)) given)

    flat_height : (m : RowMajor V) (k : ℕ) → 1 ≤ m.width * v.DIMENSION → height (one_of m) ≡ 2 ^ k → height (flat v m) ≡ 2 ^ k
    flat_height m k some e = sym (coordinate_columns m m.width refl some).height ∙ e

    -- coordinate t of the answer is the transform of the matrix of coordinates t
    pub transform_of_coordinate : (m out : RowMajor V) (s : f.Element) → 1 ≤ m.width * v.DIMENSION → IsTransform f generator (flat v m) s (flat v out)
        → IsTransform f generator (one_of m) s (one_of out)
    transform_of_coordinate m out s some given k e =
        let values = given k (flat_height m k some e) in
        coordinate_coefficients m out k s some values.width values

    -- so is the extension
    pub extension_of_coordinate : (m out : RowMajor V) (a : ℕ) (s : f.Element) → 1 ≤ m.width * v.DIMENSION → IsExtension f generator (flat v m) a s (flat v out)
        → IsExtension f generator (one_of m) a s (one_of out)
    extension_of_coordinate m out a s some given = record {
      coefficients = chosen place m.width given.coefficients;
      are_coefficients = λ k e.
          let are = given.are_coefficients k (flat_height m k some e) in
          record {
            height = are.height ∙ sym (coordinate_columns m m.width refl some).height;
            width = refl;
            values = coordinate_values given.coefficients m k f.ring.one some are.values;
          };
      extended = λ k e.
          let are = given.are_coefficients k (flat_height m k some e) in
          let values = given.extended k (flat_height m k some e) in
          let same : (flat v out).width ≡ (flat v m).width = values.width ∙ are.width in
          subst (λ (w : ℕ). IsValues f.ring roots (chosen place w given.coefficients) (k + a) s (values_of f (one_of out))) (element_width m out same)
          (coordinate_values given.coefficients out (k + a) s (omega (arith, some, same)) values);
    }

    -- and the inverse
    pub inverse_of_coordinate : (bits : ℕ) → AreRoots f.ring bits roots → (m out : RowMajor V) (s : f.Element)
        → FitsDft bits (height m) (m.width * v.DIMENSION) → IsInvertible f.ring s
        → IsInterpolation f generator (flat v m) s (flat v out) → IsInterpolation f generator (one_of m) s (one_of out)
    inverse_of_coordinate bits are_roots m out s fits invertible given = record {
      holds = coefficients;
      only = λ k e d other.
          let tall : height m ≡ 2 ^ k = sym (height-flat v counted m fits.width) ∙ flat_height m k fits.width e in
          there_is_no_other f.ring are_roots (values_of f (one_of m)) k s (exponent_within k fits tall) invertible
          d (values_of f (one_of out)) other (coefficients k e);
    }
      where
        coefficients : (k : ℕ) → height (one_of m) ≡ 2 ^ k → AreCoefficients f.ring roots (values_of f (one_of m)) k s (values_of f (one_of out))
        coefficients k e =
            let are = given.holds k (flat_height m k fits.width e) in
            let some : 1 ≤ out.width * v.DIMENSION = omega (arith, fits.width, are.width) in
            record {
              height = (coordinate_columns out out.width refl some).height ∙ are.height ∙ sym (coordinate_columns m m.width refl fits.width).height;
              width = element_width m out are.width;
              values = coordinate_coefficients out m k s some (sym are.width) are.values;
            }
