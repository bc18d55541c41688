-- Coefficients whose rows lie in bit reversed order: that the networks give them, and values and extensions from them, with no row put
-- into natural order.
use Rattle.p3_dft.proofs.Names.{◌≡◌, ℕ, ◌+◌, ◌*◌, ◌≤◌, ◌^◌, ◌++◌, List, length, get_or, take, refl, sym, ap, ap₂, ◌∙◌, subst, arith, AreRoots, power}
use Rattle.p3_dft.proofs.Names.{inverse_root, rev, bit_reversal, Matrix, Same, image, matrix, RowMajor, IsRowMajor, height, reversed_back, reversed_twice}
use Rattle.p3_dft.proofs.Names.{mapped_same, same_sym, AreCoefficients, IsQuotient, IsValues, coset_shift, point, values_of, AreTransformedValues, IsExtension}
use Rattle.p3_dft.proofs.Names.{poly, FitsDft, IsExtendedTransform, IsInterpolation, AreValuesOfRows, coefficients_same, coset_values, is_subgroup_values}
use Rattle.p3_dft.proofs.Names.{is_values, shifted_by_one, there_is_no_other, poly-one, written, height_of_parts}
use Rattle.p3_dft.proofs.BitReversed.Rows.{transform_of_row}
use Rattle.p3_dft.proofs.Calls.Stored.{at_log}
use Rattle.p3_matrix.proofs.Polynomials.ReversedCoefficients.{coefficients_of_reversed, reversed_row}
use Rattle.p3_field.specs.declared.fields.Valued.{Ghosts as FieldMembers}
use Rattle.p3_dft.specs.declared.traits.Layout.{Layout}
use Rattle.p3_dft.specs.declared.traits.Layout.TheVariants.{BitReversed}

module _ {F : Type 0} (f : FieldMembers F) (generator : ℕ → F) where
  abbrev roots : ℕ → f.Element
  roots n = f.value (generator n)

  -- a single row is its own values on every coset
  row_on_coset : (m : RowMajor F) (n : ℕ) (s : f.Element) → height m ≡ 1 → height m ≡ 2 ^ n
      → IsValues f.ring roots (values_of f m) n s (values_of f m)
  row_on_coset m n s one high =
      is_values f.ring roots (values_of f m) n s (values_of f m) high refl
      (λ i j below inside.
      let column = λ (q : ℕ). (values_of f m).entry q j in
      let x = point f.ring roots n s i in
      let first : i ≡ 0 = omega (arith, below, high, one) in
      ap column first ∙ sym (ap (λ h. poly f.ring h column x) one ∙ poly-one f.ring column x))

  -- what a network made of the entries of m, whose rows lie in bit reversed order, where a program had them in variables of its own
  pub values_of_parts : (m out : RowMajor F) (before after rest : List F) (w log k : ℕ) → log ≡ k → IsRowMajor m
      → height m ≡ 2 ^ log → before ≡ m.values → w ≡ m.width
      → length after ≡ length before → out.width ≡ m.width → out.values ≡ take (length m.values) (after ++ rest)
      → AreValuesOfRows f w (2 ^ log) (rev log) (power f.ring (f.value (generator log))) before after
      → IsValues f.ring roots (bit_reversal k (values_of f m)) k f.ring.one (values_of f out)
  values_of_parts m out before after rest w log k same whole high before_is w_is size out_width out_values entries =
      let len : length after ≡ length m.values = size ∙ ap length before_is in
      let values_is : out.values ≡ after = out_values ∙ written (length m.values) after rest len in
      let full : length after ≡ 2 ^ log * m.width = len ∙ sym whole.full ∙ ap (λ n. n * m.width) high in
      subst (λ (n : ℕ). IsValues f.ring roots (bit_reversal n (values_of f m)) n f.ring.one (values_of f out)) same
      (is_subgroup_values f.ring roots (bit_reversal log (values_of f m)) log (values_of f out)
      (height_of_parts out after m.width (2 ^ log) whole.width full out_width values_is) out_width
      (λ i j below inside.
      ap₂ (λ (xs : List F) (v : ℕ). f.value (get_or xs (i * v + j) f.zero)) values_is (out_width ∙ sym w_is) ∙ entries i j below (omega (arith, w_is))
      ∙ ap₂ (λ (xs : List F) (v : ℕ). poly f.ring (2 ^ log) (λ q. f.value (get_or xs (rev log q * v + j) f.zero))
      (power f.ring (f.value (generator log)) i)) before_is w_is
      ∙ ap (λ n. poly f.ring n (λ q. f.value (get_or m.values (rev log q * m.width + j) f.zero)) (power f.ring (f.value (generator log)) i)) (sym high)))

  -- the same of the values at the powers of the inverse root, in reversed order, of rows that lie in natural order
  pub coefficients_of_parts : {bits : ℕ} → AreRoots f.ring bits roots
      → (m out : RowMajor F) (before after rest : List F) (w log k : ℕ) → log ≤ bits → log ≡ k
      → IsRowMajor m → height m ≡ 2 ^ log → before ≡ m.values → w ≡ m.width → length after ≡ length before → out.width
      ≡ m.width → out.values ≡ take (length m.values) (after ++ rest)
      → AreValuesOfRows f w (2 ^ log) (λ q. q) (λ r. power f.ring (inverse_root f.ring roots log) (rev log r)) before after
      → (c : Matrix f.Element) → IsQuotient f.ring (2 ^ k) (bit_reversal k (values_of f out)) c
      → AreCoefficients f.ring roots (values_of f m) k f.ring.one c
  coefficients_of_parts are_roots m out before after rest w log k within same whole high before_is w_is size out_width out_values entries c quotient =
      let len : length after ≡ length m.values = size ∙ ap length before_is in
      let values_is : out.values ≡ after = out_values ∙ written (length m.values) after rest len in
      let full : length after ≡ 2 ^ log * m.width = len ∙ sym whole.full ∙ ap (λ n. n * m.width) high in
      let x = inverse_root f.ring roots log in
      subst (λ (n : ℕ). AreCoefficients f.ring roots (values_of f m) n f.ring.one c) same
      (coefficients_of_reversed f.ring are_roots (values_of f m) (values_of f out) c log within high
      (height_of_parts out after m.width (2 ^ log) whole.width full out_width values_is ∙ sym high) out_width
      (λ i j below inside.
      ap₂ (λ (xs : List F) (v : ℕ). f.value (get_or xs (i * v + j) f.zero)) values_is (out_width ∙ sym w_is) ∙ entries i j below (omega (arith, w_is))
      ∙ ap₂ (λ (xs : List F) (v : ℕ). poly f.ring (2 ^ log) (λ q. f.value (get_or xs (q * v + j) f.zero)) (power f.ring x (rev log i))) before_is w_is)
      (subst (λ (n : ℕ). IsQuotient f.ring (2 ^ n) (bit_reversal n (values_of f out)) c) (sym same) quotient))

  -- coefficients are the interpolation
  pub interpolation_of_coefficients : {bits : ℕ} → AreRoots f.ring bits roots
      → (m c : RowMajor F) (log : ℕ) → log ≤ bits → height m ≡ 2 ^ log
      → AreCoefficients f.ring roots (values_of f m) log f.ring.one (values_of f c) → IsInterpolation f generator m f.ring.one c
  interpolation_of_coefficients {bits} are_roots m c log within high are = record {
    holds = at_log _ _ log high are;
    only = at_log (λ k. (d : Matrix f.Element) → AreCoefficients f.ring roots (values_of f m) k f.ring.one d → Same d (values_of f c)) _ log high
        (λ d other. there_is_no_other f.ring are_roots (values_of f m) log f.ring.one within (f.ring.one, f.ring.mul_one f.ring.one)
        d (values_of f c) other are);
  }

  -- a single row has its own coefficients
  pub interpolation_of_row : {bits : ℕ} → AreRoots f.ring bits roots → (m : RowMajor F)
      → FitsDft bits (height m) m.width → height m ≡ 1 → IsInterpolation f generator m f.ring.one m
  interpolation_of_row are_roots m fits one =
      interpolation_of_coefficients are_roots m m fits.log fits.within fits.height
      (record { height = refl; width = refl; values = transform_of_row f generator m one fits.log fits.height })

  -- the extension by what has the coefficients' values on the larger coset
  pub extension_of_coefficients : (m out : RowMajor F) (c : Matrix f.Element) (a log : ℕ) (s : f.Element) → height m ≡ 2 ^ log
      → AreCoefficients f.ring roots (values_of f m) log f.ring.one c
      → IsValues f.ring roots c (log + a) s (values_of f out) → IsExtension f generator m a s out
  extension_of_coefficients m out c a log s high are values = record {
    coefficients = c;
    are_coefficients = at_log _ _ log high are;
    extended = at_log _ _ log high values;
  }

  -- a single row is its own extension by no bits
  pub extension_of_row : (m : RowMajor F) (a : ℕ) (s : f.Element) → height m ≡ 1 → a ≡ 0 → IsExtension f generator m a s m
  extension_of_row m a s one none =
      let single : 0 ≡ 0 + a = omega (arith, none) in
      extension_of_coefficients m m (values_of f m) a 0 s one
      (record { height = refl; width = refl; values = transform_of_row f generator m one 0 one })
      (row_on_coset m (0 + a) s one (one ∙ ap (λ n. 2 ^ n) single))

  -- and so is what a transform answers of it
  pub extension_of_told_row : (may_answer : RowMajor F → Layout → RowMajor F → Type 0) (m answered : RowMajor F) (a : ℕ) (s : f.Element) → height m ≡ 1 → a ≡ 0
      → IsRowMajor m → IsRowMajor answered → may_answer m BitReversed answered → height answered
      ≡ height m → AreTransformedValues f generator may_answer BitReversed m a s (values_of f answered)
  extension_of_told_row may_answer m answered a s one none told_is answered_is called tall = record {
    coefficients = values_of f m;
    are_coefficients = λ k e. record { height = refl; width = refl; values = transform_of_row f generator m one k e };
    told = m;
    told_whole = told_is;
    told_in_layout = λ k e. reversed_row k (values_of f m) one;
    answered = answered;
    answered_whole = answered_is;
    called = called;
    changed = values_of f answered;
    answered_in_layout = λ k e. reversed_row k (values_of f answered) (tall ∙ one);
    extended = λ k e. let same : k ≡ k + a = omega (arith, none) in row_on_coset answered (k + a) s (tall ∙ one) (tall ∙ e ∙ ap (λ n. 2 ^ n) same);
  }

  -- coefficients whose rows were put into bit reversed order, and from there times the powers of the shift and one
  pub extension_of_reversed : (m r out : RowMajor F) (one : F) (a log : ℕ) (s : f.Element) → f.value one ≡ f.ring.one
      → height m ≡ 2 ^ log → ((d : F) → Same (matrix d r) (bit_reversal log (matrix d m)))
      → IsValues f.ring roots
      (image (λ x. f.ring.mul x (f.value one)) (coset_shift f.ring s (bit_reversal log (values_of f r)))) (log + a)
      f.ring.one (values_of f out)
      → IsExtendedTransform f generator m a s out
  extension_of_reversed m r out one a log s is high rows values =
      let scaled = image (λ x. f.ring.mul x (f.value one)) (coset_shift f.ring s (bit_reversal log (values_of f r))) in
      let shifted =
      shifted_by_one f.ring (f.value one) s (bit_reversal log (values_of f r)) scaled is
      (record { height = refl; width = refl; alike = λ i j p q. refl }) in
      let on_coset = coset_values f.ring roots (bit_reversal log (values_of f r)) scaled (log + a) s (values_of f out) shifted values in
      let back =
      reversed_back log (values_of f r) (values_of f m) high
      (mapped_same f.value (matrix f.zero r) (bit_reversal log (matrix f.zero m)) (rows f.zero)) in
      at_log _ _ log high (coefficients_same f.ring roots (bit_reversal log (values_of f r)) (values_of f m) (log + a) s
      (values_of f out) (same_sym (values_of f m) (bit_reversal log (values_of f r)) back) on_coset)

  -- values of what a transform, told the coefficients in bit reversed order, answered in that order
  pub values_of_answered : (may_answer : RowMajor F → Layout → RowMajor F → Type 0) (m told answered : RowMajor F)
      (a log : ℕ) (s : f.Element) (out : Matrix f.Element)
      → height m ≡ 2 ^ log
      → AreCoefficients f.ring roots (values_of f m) log f.ring.one (bit_reversal log (values_of f told))
      → IsRowMajor told → IsRowMajor answered → may_answer told BitReversed answered → height answered ≡ height m
      → IsValues f.ring roots (bit_reversal log (values_of f answered)) (log + a) s out
      → AreTransformedValues f generator may_answer BitReversed m a s out
  values_of_answered may_answer m told answered a log s out high are told_is answered_is called tall values = record {
    coefficients = bit_reversal log (values_of f told);
    are_coefficients = at_log _ _ log high are;
    told = told;
    told_whole = told_is;
    told_in_layout = at_log _ _ log high (back told (are.height ∙ high));
    answered = answered;
    answered_whole = answered_is;
    called = called;
    changed = bit_reversal log (values_of f answered);
    answered_in_layout = at_log _ _ log high (back answered (tall ∙ high));
    extended = at_log _ _ log high values;
  }
    where
      back : (x : RowMajor F) → height x ≡ 2 ^ log → Same (values_of f x) (bit_reversal log (bit_reversal log (values_of f x)))
      back x of_log = same_sym (bit_reversal log (bit_reversal log (values_of f x))) (values_of f x) (reversed_twice log (values_of f x) of_log)
