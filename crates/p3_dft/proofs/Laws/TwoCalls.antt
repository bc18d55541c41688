-- What two calls have to do with each other: laws that a user cites, in the words of the clauses.
-- `m` is what a call is given; `y` and `z` are values, `c` and `d` coefficients, `out` an extension. A law that takes the roots'
-- law names it `are_roots`; it is `roots_law` of the field.
use Rattle.p3_dft.proofs.Names.{◌≡◌, ℕ, suc, ◌+◌, ◌*◌, ◌/◌, ◌^◌, ◌<◌, ◌≤◌, cond, le-ltb, lt-ltb, List, [], ◌∷◌, length, get_or, map, sym, ap, ◌∙◌, subst, arith}
use Rattle.p3_dft.proofs.Names.{pow-add, pow_pos, le-mul_of_pos_right, mul-le-mul_right, All, AllZip, range_with_len, get_or-map, ext_get_or, length-map}
use Rattle.p3_dft.proofs.Names.{AreRoots, root_strided, RowMajor, height, Matrix, Same, column, same_sym, log_same, point, AreCoefficients, IsValues}
use Rattle.p3_dft.proofs.Names.{coset_shift, values_of, one_column, IsExtension, CanRun, IsAnswer, value, FitsDft, FitsLde, IsInterpolation, IsTransform, alone}
use Rattle.p3_dft.proofs.Names.{combination, lengthened, column_values, combination_values, lengthened_values, values_of_shifted, coefficients_same}
use Rattle.p3_dft.proofs.Names.{point_of_one, shifted_values, values_same, values_unique, coefficients_of_same, there_is_no_other}
use Rattle.std.proofs.lemmas.List.FromFn.{length-map-range_with_len, get_or-map-range_with_len}
use Rattle.p3_dft.proofs.Laws.OneAnswer.{one_answer}
use Rattle.p3_dft.proofs.Calls.Shapes.{fits_dft_as, input_fits, output_fits}
use Rattle.p3_field.specs.declared.fields.Valued.{Ghosts as FieldMembers}
use Rattle.p3_dft.specs.declared.jobs.Job.{Job}

-- ---- shapes
-- the exponent of a fitting height is within the two-adicity
pub exponent_within : {bits tall wide : ℕ} (k : ℕ) → FitsDft bits tall wide → tall ≡ 2 ^ k → k ≤ bits
exponent_within {bits} k fits e = subst (λ (n : ℕ). n ≤ bits) (log_same fits.log k (sym fits.height ∙ e)) fits.within

module _ {F : Type 0} (f : FieldMembers F) (generator : ℕ → F) where
  abbrev roots : ℕ → f.Element
  roots n = f.value (generator n)

  abbrev values : RowMajor F → Matrix f.Element
  values m = values_of f m

  -- what a call answers fits again
  pub transform_fits : {bits : ℕ} (m y : RowMajor F) (s : f.Element) → FitsDft bits (height m) m.width
      → IsTransform f generator m s y → FitsDft bits (height y) y.width
  transform_fits {bits} m y s fits transform =
      let v = transform fits.log fits.height in
      fits_dft_as _ _ _ _ _ fits (v.height ∙ sym fits.height) v.width

  pub interpolation_fits : {bits : ℕ} (m c : RowMajor F) (s : f.Element) → FitsDft bits (height m) m.width
      → IsInterpolation f generator m s c → FitsDft bits (height c) c.width
  interpolation_fits {bits} m c s fits inverse =
      let a = inverse.holds fits.log fits.height in
      fits_dft_as _ _ _ _ _ fits a.height a.width

  pub extension_fits : {bits : ℕ} (m out : RowMajor F) (a : ℕ) (s : f.Element) → FitsLde bits (height m) m.width a
      → IsExtension f generator m a s out → FitsDft bits (height out) out.width
  extension_fits {bits} m out a s fits extension =
      output_fits bits (height m) m.width a (height out) out.width fits (extension.extended fits.log fits.height).height
      ((extension.extended fits.log fits.height).width ∙ (extension.are_coefficients fits.log fits.height).width)

  -- ---- equal inputs
  pub transform_of_equal : (m n y : RowMajor F) (s : f.Element) → Same (values m) (values n) → IsTransform f generator m s y → IsTransform f generator n s y
  transform_of_equal m n y s same transform = λ k e. coefficients_same f.ring roots (values m) (values n) k s (values y) same (transform k (same.height ∙ e))

  -- ---- there and back
  -- the inverse of a transform is the matrix
  pub inverse_of_transform : {bits : ℕ} (m y c : RowMajor F) (s : f.Element) → FitsDft bits (height m) m.width
      → IsTransform f generator m s y → IsInterpolation f generator y s c
      → Same (values c) (values m)
  inverse_of_transform m y c s fits transform inverse =
      let v = transform fits.log fits.height in
      same_sym (values m) (values c)
      (inverse.only fits.log v.height (values m) (record { height = fits.height ∙ sym v.height; width = sym v.width; values = v }))

  -- the transform of an inverse is the matrix
  pub transform_of_inverse : {bits : ℕ} (m c y : RowMajor F) (s : f.Element) → FitsDft bits (height m) m.width
      → IsInterpolation f generator m s c → IsTransform f generator c s y
      → Same (values y) (values m)
  transform_of_inverse m c y s fits inverse transform =
      let a = inverse.holds fits.log fits.height in
      values_unique f.ring roots (values c) fits.log s (values y) (values m) (transform fits.log (a.height ∙ fits.height)) a.values

  -- ---- extensions
  -- by no bits on the subgroup it is the input
  pub extension_by_nothing : {bits : ℕ} (m out : RowMajor F) → FitsDft bits (height m) m.width
      → IsExtension f generator m 0 f.ring.one out → Same (values out) (values m)
  extension_by_nothing m out fits extension =
      let k = fits.log in
      let none : k + 0 ≡ k = omega arith in
      values_unique f.ring roots extension.coefficients k f.ring.one (values out) (values m)
      (subst (λ (n : ℕ). IsValues f.ring roots extension.coefficients n f.ring.one (values out)) none (extension.extended k fits.height))
      (extension.are_coefficients k fits.height).values

  back_from_extension : (m : RowMajor F) (c : Matrix f.Element) (out d : RowMajor F) (a k : ℕ) (s : f.Element)
      → height m ≡ 2 ^ k → c.height ≡ height m → IsValues f.ring roots c (k + a) s (values out)
      → IsInterpolation f generator out s d → Same (values d) (lengthened f.ring.zero (height m * 2 ^ a) c)
  back_from_extension m c out d a k s high as_tall v back =
      let more : c.height ≤ height m * 2 ^ a = omega (arith, as_tall, le-mul_of_pos_right (height m) (pow_pos a)) in
      let tall : height m * 2 ^ a ≡ height out = ap (λ h. h * 2 ^ a) high ∙ sym (pow-add 2 k a) ∙ sym v.height in
      same_sym (lengthened f.ring.zero (height m * 2 ^ a) c) (values d)
      (back.only (k + a) v.height (lengthened f.ring.zero (height m * 2 ^ a) c)
      (record { height = tall; width = sym v.width; values = lengthened_values f.ring roots c (values out) (height m * 2 ^ a) (k + a) s more v }))

  -- low degree: the inverse of an extension has zeros from the input's height on
  pub low_degree : {bits : ℕ} (m out d : RowMajor F) (a : ℕ) (s : f.Element) → FitsLde bits (height m) m.width a → IsExtension f generator m a s out
      → IsInterpolation f generator out s d → (i j : ℕ) → height m ≤ i → i < height d → j < d.width → (values d).entry i j ≡ f.ring.zero
  low_degree m out d a s fits extension back i j after below inside =
      let k = fits.log in
      let c = extension.coefficients in
      let as_tall : c.height ≡ height m = (extension.are_coefficients k fits.height).height in
      (back_from_extension m c out d a k s fits.height as_tall (extension.extended k fits.height) back).alike i j below inside
      ∙ ap (λ t. cond t (c.entry i j) f.ring.zero) (le-ltb i c.height (omega (arith, as_tall)))

  -- a shift whose value is one is none
  pub transform_by_one : (m y : RowMajor F) (s : f.Element) → s ≡ f.ring.one → IsTransform f generator m s y → IsTransform f generator m f.ring.one y
  transform_by_one m y s one given = subst (λ (x : f.Element). IsTransform f generator m x y) one given

  pub interpolation_by_one : (m c : RowMajor F) (s : f.Element) → s ≡ f.ring.one → IsInterpolation f generator m s c
      → IsInterpolation f generator m f.ring.one c
  interpolation_by_one m c s one given = subst (λ (x : f.Element). IsInterpolation f generator m x c) one given

  pub extension_by_one : (m out : RowMajor F) (a : ℕ) (s : f.Element) → s ≡ f.ring.one
      → IsExtension f generator m a s out → IsExtension f generator m a f.ring.one out
  extension_by_one m out a s one given = subst (λ (x : f.Element). IsExtension f generator m a x out) one given

  module _ {bits : ℕ} (are_roots : AreRoots f.ring bits roots) where
    -- equal inputs have one interpolation and one extension
    pub interpolation_of_equal : (m n c : RowMajor F) (s : f.Element) → Same (values m) (values n)
        → IsInterpolation f generator m s c → IsInterpolation f generator n s c
    interpolation_of_equal m n c s same inverse = record {
      holds = λ k e. coefficients_of_same f.ring are_roots (values m) (values n) k s (values c) same (inverse.holds k (same.height ∙ e));
      only =
          λ k e d are. inverse.only k (same.height ∙ e) d
          (coefficients_of_same f.ring are_roots (values n) (values m) k s d (same_sym (values m) (values n) same) are);
    }

    pub extension_of_equal : (m n out : RowMajor F) (a : ℕ) (s : f.Element) → Same (values m) (values n)
        → IsExtension f generator m a s out → IsExtension f generator n a s out
    extension_of_equal m n out a s same extension = record {
      coefficients = extension.coefficients;
      are_coefficients =
          λ k e. coefficients_of_same f.ring are_roots (values m) (values n) k f.ring.one extension.coefficients same
          (extension.are_coefficients k (same.height ∙ e));
      extended = λ k e. extension.extended k (same.height ∙ e);
    }

    -- the one matrix of coefficients on the subgroup
    one_coefficients : (m : RowMajor F) (k : ℕ) (c d : Matrix f.Element) → k ≤ bits
        → AreCoefficients f.ring roots (values m) k f.ring.one c
        → AreCoefficients f.ring roots (values m) k f.ring.one d → Same c d
    one_coefficients m k c d within = there_is_no_other f.ring are_roots (values m) k f.ring.one within (f.ring.one, f.ring.mul_one f.ring.one) c d

    -- an extension has the values of the polynomials whose coefficients the inverse gives
    pub extension_values : (m c out : RowMajor F) (a : ℕ) (s : f.Element) → FitsLde bits (height m) m.width a
        → IsInterpolation f generator m f.ring.one c → IsExtension f generator m a s out
        → (k : ℕ) → height m ≡ 2 ^ k → IsValues f.ring roots (values c) (k + a) s (values out)
    extension_values m c out a s fits inverse extension k high =
        let within : k ≤ bits = exponent_within k (input_fits bits (height m) m.width a fits) high in
        coefficients_same f.ring roots extension.coefficients (values c) (k + a) s (values out)
        (one_coefficients m k extension.coefficients (values c) within (extension.are_coefficients k high) (inverse.holds k high))
        (extension.extended k high)

    -- row i * 2 ^ a of an extension on the subgroup is row i of the input
    pub extension_keeps_rows : (m out : RowMajor F) (a : ℕ) → FitsLde bits (height m) m.width a → IsExtension f generator m a f.ring.one out
        → (i j : ℕ) → i < height m → j < m.width → (values out).entry (i * 2 ^ a) j ≡ (values m).entry i j
    extension_keeps_rows m out a fits extension i j below inside =
        let k = fits.log in
        let c = extension.coefficients in
        let are = extension.are_coefficients k fits.height in
        let here : i < 2 ^ k = omega (arith, fits.height) in
        let rise : (i + 1) * 2 ^ a ≤ 2 ^ k * 2 ^ a = mul-le-mul_right (2 ^ a) (omega arith) in
        let there : i * 2 ^ a < 2 ^ (k + a) = omega (arith, rise, pow-add 2 k a, pow_pos a) in
        let inner : j < c.width = omega (arith, are.width) in
        (extension.extended k fits.height).values (i * 2 ^ a) j there inner
        ∙ ap (value f.ring (column c j)) (point_of_one f.ring roots (k + a) (i * 2 ^ a)
        ∙ root_strided f.ring are_roots k a i fits.within ∙ sym (point_of_one f.ring roots k i))
        ∙ sym (are.values.values i j here inner)

    -- and the inverse of an extension is those coefficients, with rows of zeros below them
    pub inverse_of_extension : (m c out d : RowMajor F) (a : ℕ) (s : f.Element) → FitsLde bits (height m) m.width a
        → IsInterpolation f generator m f.ring.one c → IsExtension f generator m a s out
        → IsInterpolation f generator out s d → Same (values d) (lengthened f.ring.zero (height m * 2 ^ a) (values c))
    inverse_of_extension m c out d a s fits inverse extension back =
        let k = fits.log in
        back_from_extension m (values c) out d a k s fits.height ((inverse.holds k fits.height).height)
        (extension_values m c out a s fits inverse extension k fits.height) back

    -- so its first rows are those coefficients
    pub inverse_keeps_coefficients : (m c out d : RowMajor F) (a : ℕ) (s : f.Element)
        → FitsLde bits (height m) m.width a → IsInterpolation f generator m f.ring.one c
        → IsExtension f generator m a s out
        → IsInterpolation f generator out s d → (i j : ℕ) → i < height m → j < m.width → (values d).entry i j ≡ (values c).entry i j
    inverse_keeps_coefficients m c out d a s fits inverse extension back i j below inside =
        let are = inverse.holds fits.log fits.height in
        let longer = lengthened f.ring.zero (height m * 2 ^ a) (values c) in
        let here : i < height m * 2 ^ a = omega (arith, below, le-mul_of_pos_right (height m) (pow_pos a)) in
        sym ((same_sym (values d) longer (inverse_of_extension m c out d a s fits inverse extension back)).alike i j here (omega (arith, inside, are.width)))
        ∙ ap (λ t. cond t ((values c).entry i j) f.ring.zero) (lt-ltb i (height c) (omega (arith, below, are.height)))

    -- nested cosets: the extension, with shift s, of the values on the coset of u is the values on the coset of u s
    pub extension_of_coset : (c y out : RowMajor F) (a : ℕ) (u s : f.Element) → FitsLde bits (height c) c.width a
        → IsTransform f generator c u y → IsExtension f generator y a s out
        → (k : ℕ) → height c ≡ 2 ^ k → IsValues f.ring roots (values c) (k + a) (f.ring.mul u s) (values out)
    extension_of_coset c y out a u s fits transform extension k high =
        let v = transform k high in
        let within : k ≤ bits = exponent_within k (input_fits bits (height c) c.width a fits) high in
        let moved : AreCoefficients f.ring roots (values y) k f.ring.one (coset_shift f.ring u (values c)) =
        record { height = high ∙ sym v.height; width = sym v.width; values = values_of_shifted f.ring roots (values c) (values y) k u v } in
        shifted_values f.ring roots (values c) extension.coefficients (k + a) u s (values out)
        (one_coefficients y k extension.coefficients (coset_shift f.ring u (values c)) within (extension.are_coefficients k v.height) moved)
        (extension.extended k v.height)

    -- the answers of one list of jobs are the same, place by place
    pub one_list_of_answers : (jobs : List (Job F)) (first second : List (RowMajor F)) → All (CanRun f bits) jobs
        → AllZip (IsAnswer f generator) jobs first → AllZip (IsAnswer f generator) jobs second
        → AllZip (λ a b. Same (values a) (values b)) first second
    one_list_of_answers [] [] [] can given other = tt
    one_list_of_answers [] [] (b ∷ second) can given other = absurd other
    one_list_of_answers [] (a ∷ first) second can given other = absurd given
    one_list_of_answers (job ∷ jobs) [] second can given other = absurd given
    one_list_of_answers (job ∷ jobs) (a ∷ first) [] can given other = absurd other
    one_list_of_answers (job ∷ jobs) (a ∷ first) (b ∷ second) can given other = (
      one_answer f generator bits are_roots job a b (can 0 job (omega arith)) given.0 other.0,
      one_list_of_answers jobs first second (λ k d below. can (suc k) d (omega arith)) given.1 other.1,
    )

    -- ---- sums of multiples: p is a times m and b times n
    module _ (m n p : RowMajor F) (a b s : f.Element) (fits : FitsDft bits (height m) m.width) (tall : height n ≡ height m) (wide : n.width ≡ m.width)
        (sum : Same (values p) (combination f.ring a (values m) b (values n))) where
      pub transform_of_combination : (y z out : RowMajor F) → IsTransform f generator m s y → IsTransform f generator n s z → IsTransform f generator p s out
          → Same (values out) (combination f.ring a (values y) b (values z))
      transform_of_combination y z out first second third =
          let both = combination f.ring a (values m) b (values n) in
          values_unique f.ring roots both fits.log s (values out) (combination f.ring a (values y) b (values z))
          (coefficients_same f.ring roots (values p) both fits.log s (values out) sum (third fits.log (sum.height ∙ fits.height)))
          (combination_values f.ring roots (values m) (values n) (values y) (values z) fits.log s a b (sym tall)
          (sym wide) (first fits.log fits.height) (second fits.log (tall ∙ fits.height)))

      combination_coefficients : (t : f.Element) (c d : Matrix f.Element)
          → AreCoefficients f.ring roots (values m) fits.log t c → AreCoefficients f.ring roots (values n) fits.log t d
          → AreCoefficients f.ring roots (values p) fits.log t (combination f.ring a c b d)
      combination_coefficients t c d are too = record {
        height = are.height ∙ sym sum.height;
        width = are.width ∙ sym sum.width;
        values = values_same f.ring roots (combination f.ring a c b d) fits.log t (combination f.ring a (values m) b (values n)) (values p)
            (combination_values f.ring roots c d (values m) (values n) fits.log t a b
            (are.height ∙ sym tall ∙ sym too.height) (are.width ∙ sym wide ∙ sym too.width) are.values too.values)
            (same_sym (values p) (combination f.ring a (values m) b (values n)) sum);
      }

      pub inverse_of_combination : (c d out : RowMajor F) → IsInterpolation f generator m s c
          → IsInterpolation f generator n s d → IsInterpolation f generator p s out
          → Same (values out) (combination f.ring a (values c) b (values d))
      inverse_of_combination c d out first second third =
          same_sym (combination f.ring a (values c) b (values d)) (values out)
          (third.only fits.log (sum.height ∙ fits.height) (combination f.ring a (values c) b (values d))
          (combination_coefficients s (values c) (values d) (first.holds fits.log fits.height) (second.holds fits.log (tall ∙ fits.height))))

      pub extension_of_combination : (added : ℕ) (y z out : RowMajor F) → IsExtension f generator m added s y
          → IsExtension f generator n added s z → IsExtension f generator p added s out
          → Same (values out) (combination f.ring a (values y) b (values z))
      extension_of_combination added y z out first second third =
          let c = first.coefficients in
          let d = second.coefficients in
          let are = first.are_coefficients fits.log fits.height in
          let too = second.are_coefficients fits.log (tall ∙ fits.height) in
          let both = combination f.ring a c b d in
          values_unique f.ring roots both (fits.log + added) s (values out) (combination f.ring a (values y) b (values z))
          (coefficients_same f.ring roots third.coefficients both (fits.log + added) s (values out)
          (one_coefficients p fits.log third.coefficients both fits.within
          (third.are_coefficients fits.log (sum.height ∙ fits.height))
          (combination_coefficients f.ring.one c d are too))
          (third.extended fits.log (sum.height ∙ fits.height)))
          (combination_values f.ring roots c d (values y) (values z) (fits.log + added) s a b
          (are.height ∙ sym tall ∙ sym too.height) (are.width ∙ sym wide ∙ sym too.width)
          (first.extended fits.log fits.height) (second.extended fits.log (tall ∙ fits.height)))

    -- ---- one column: v is column j of m
    module _ (m v : RowMajor F) (j : ℕ) (s : f.Element) (fits : FitsDft bits (height m) m.width) (inside : j < m.width)
        (same : Same (values v) (alone j (values m))) where
      pub transform_of_column : (y z : RowMajor F) → IsTransform f generator m s y → IsTransform f generator v s z → Same (values z) (alone j (values y))
      transform_of_column y z whole one =
          values_unique f.ring roots (alone j (values m)) fits.log s (values z) (alone j (values y))
          (coefficients_same f.ring roots (values v) (alone j (values m)) fits.log s (values z) same (one fits.log (same.height ∙ fits.height)))
          (column_values f.ring roots (values m) (values y) fits.log s j inside (whole fits.log fits.height))

      column_coefficients : (t : f.Element) (c : Matrix f.Element)
          → AreCoefficients f.ring roots (values m) fits.log t c
          → AreCoefficients f.ring roots (values v) fits.log t (alone j c)
      column_coefficients t c are = record {
        height = are.height ∙ sym same.height;
        width = sym same.width;
        values = values_same f.ring roots (alone j c) fits.log t (alone j (values m)) (values v)
            (column_values f.ring roots c (values m) fits.log t j (omega (arith, are.width)) are.values) (same_sym (values v) (alone j (values m)) same);
      }

      pub inverse_of_column : (c d : RowMajor F) → IsInterpolation f generator m s c → IsInterpolation f generator v s d → Same (values d) (alone j (values c))
      inverse_of_column c d whole one =
          same_sym (alone j (values c)) (values d) (one.only fits.log (same.height ∙ fits.height) (alone j (values c))
          (column_coefficients s (values c) (whole.holds fits.log fits.height)))

      pub extension_of_column : (added : ℕ) (y z : RowMajor F) → IsExtension f generator m added s y
          → IsExtension f generator v added s z → Same (values z) (alone j (values y))
      extension_of_column added y z whole one =
          let are = whole.are_coefficients fits.log fits.height in
          let c = whole.coefficients in
          values_unique f.ring roots (alone j c) (fits.log + added) s (values z) (alone j (values y))
          (coefficients_same f.ring roots one.coefficients (alone j c) (fits.log + added) s (values z)
          (one_coefficients v fits.log one.coefficients (alone j c) fits.within
          (one.are_coefficients fits.log (same.height ∙ fits.height)) (column_coefficients f.ring.one c are))
          (one.extended fits.log (same.height ∙ fits.height)))
          (column_values f.ring roots c (values y) (fits.log + added) s j (omega (arith, are.width)) (whole.extended fits.log fits.height))

  -- ---- vectors
  -- the entries of a vector as the column of a matrix
  column_of_vector : (xs : List F) → column (values (one_column xs)) 0 ≡ map f.value xs
  column_of_vector xs =
      let entry = λ (i : ℕ). f.value (get_or xs (i * 1 + 0) f.zero) in
      let count : length (map entry (range_with_len 0 (length xs / 1))) ≡ length xs = length-map-range_with_len entry 0 (length xs / 1) ∙ omega arith in
      ext_get_or (f.value f.zero) (map entry (range_with_len 0 (length xs / 1))) (map f.value xs) (count ∙ sym (length-map xs f.value))
      (λ i below.
      get_or-map-range_with_len entry 0 (length xs / 1) i i (f.value f.zero) (omega (arith, count)) (omega arith)
      ∙ ap (λ n. f.value (get_or xs n f.zero)) (omega arith) ∙ sym (get_or-map f.value xs i f.zero))

  -- entry i of what a vector's transform answers is the polynomial's value at point i
  pub transform_of_vector : (xs ys : List F) (s : f.Element) (k : ℕ) → length xs ≡ 2 ^ k → IsTransform f generator (one_column xs) s (one_column ys)
      → (length ys ≡ length xs) × ((i : ℕ) → i < length xs → f.value (get_or ys i f.zero) ≡ value f.ring (map f.value xs) (point f.ring roots k s i))
  transform_of_vector xs ys s k size transform =
      let tall : height (one_column xs) ≡ 2 ^ k = omega (arith, size) in
      let v = transform k tall in
      let same_place : (i : ℕ) → i ≡ i * 1 + 0 = λ i. omega arith in (
        omega (arith, v.height, size),
        λ i below.
            ap (λ n. f.value (get_or ys n f.zero)) (same_place i) ∙ v.values i 0 (omega (arith, size)) (omega arith)
            ∙ ap (λ cs. value f.ring cs (point f.ring roots k s i)) (column_of_vector xs),
      )
