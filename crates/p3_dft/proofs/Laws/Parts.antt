-- Transforms by parts. Of 2 ^ (a + b) rows, 2 ^ b in each wide row, the wide rows are transformed on the coset of s ^ 2 ^ b; then each
-- alone, as 2 ^ b rows, on the coset of its point. What is said of one part says nothing of another, so they may be made in any order.
use Rattle.p3_dft.proofs.Names.{◌≡◌, ℕ, ◌+◌, ◌*◌, ◌/◌, ◌%◌, ◌^◌, ◌<◌, ◌≤◌, length, get_or, refl, sym, ap, ap₂, ◌∙◌, subst, arith, rules, pow-add, pow_pos}
use Rattle.p3_dft.proofs.Names.{mul-div_cancel, mul-le-mul_right, div-mul-le_self, places, AreRoots, IsInvertible, power, power_of_one, bit_reversal, rev}
use Rattle.p3_dft.proofs.Names.{reversed_rows, AreCoefficients, IsValues, point, values_of, Matrix, Same, IsRowMajor, RowMajor, height, row, rev-block, rev-lt}
use Rattle.p3_dft.proofs.Names.{there_is_no_other, reversed_entry, reversed_same, log_same, IsExtension, IsInterleaved, row_as_matrix, wide_rows, FitsDft}
use Rattle.p3_dft.proofs.Names.{FitsLde, IsInterpolation, IsTransform}
use Rattle.std.proofs.Math.Nat.{div-div-eq-div-mul, mul-div_cancel_left}
use Rattle.std.proofs.lemmas.Nat.{div-mul-add, mod-mul-add}
use Rattle.p3_dft.proofs.Laws.TwoCalls.{exponent_within}
use Rattle.p3_dft.proofs.PolynomialParts.{AreRowsOf, AreWideRows, values_by_parts}
use Rattle.p3_field.specs.declared.fields.Valued.{Ghosts as FieldMembers}

module _ {F : Type 0} (f : FieldMembers F) where
  abbrev values : RowMajor F → Matrix f.Element
  values m = values_of f m

  -- ---- shapes, and entries in their places
  -- how many wide rows there are
  pub wide_height : (m : RowMajor F) (count n : ℕ) → 1 ≤ n → height m ≡ count * n → height (wide_rows n m) ≡ count
  wide_height m count n some high =
      let size = length m.values in
      let turned : n * m.width ≡ m.width * n = omega arith in
      ap (λ w. size / w) turned ∙ sym (div-div-eq-div-mul size m.width n) ∙ ap (λ h. h / n) high ∙ mul-div_cancel count some

  wide_rows_are : (m : RowMajor F) (count n : ℕ) → 1 ≤ n → height m ≡ count * n → AreWideRows n (values m) (values (wide_rows n m))
  wide_rows_are m count n some high = record {
    height = high ∙ ap (λ h. h * n) (sym (wide_height m count n some high));
    width = refl;
    entries = λ r q j below less inside.
        let place : r * (n * m.width) + (q * m.width + j) ≡ (r * n + q) * m.width + j = omega arith in
        ap (λ k. f.value (get_or m.values k f.zero)) place;
  }

  -- a row of a matrix lies within it
  row_inside : (m : RowMajor F) (i : ℕ) → i < height m → i * m.width + m.width ≤ length m.values
  row_inside m i below =
      let rise : (i + 1) * m.width ≤ height m * m.width = mul-le-mul_right m.width (omega arith) in
      omega (arith, rise, div-mul-le_self (length m.values) m.width)

  -- the rows of a matrix that has n * w columns, each as n rows
  rows_are : (m : RowMajor F) (count n w : ℕ) → 1 ≤ w → height m ≡ count → m.width ≡ n * w
      → AreRowsOf count n w (values m) (λ i. values (row_as_matrix w m i))
  rows_are m count n w some high wide = record {
    heights = λ i below.
        let room = row_inside m i (omega (arith, below, high)) in
        let long : length (row m i) ≡ m.width = search (rules, places) in
        ap (λ k. k / w) (long ∙ wide) ∙ mul-div_cancel n some;
    widths = λ i below. refl;
    entries = λ i q j below less inside.
        let room = row_inside m i (omega (arith, below, high)) in
        let rise : (q + 1) * w ≤ n * w = mul-le-mul_right w (omega arith) in
        let within : q * w + j < m.width = omega (arith, wide, rise, inside) in
        let at : get_or (row m i) (q * w + j) f.zero ≡ get_or m.values (i * m.width + (q * w + j)) f.zero = search (rules, places) in
        ap f.value at;
  }

  -- ---- rows in bit reversed order
  -- where wide row rev a i has the rows of part i in bit reversed order, the rows in natural order are those of the parts, in turn
  pub reversed_parts : (a b : ℕ) (out : RowMajor F) (part : ℕ → Matrix f.Element) → IsRowMajor out → height out ≡ 2 ^ (a + b)
      → ((i : ℕ) → i < 2 ^ a → Same (part i) (bit_reversal b (values (row_as_matrix out.width (wide_rows (2 ^ b) out) (rev a i)))))
      → IsInterleaved (2 ^ a) (2 ^ b) part (values (reversed_rows (a + b) out))
  reversed_parts a b out part whole high same =
      let w = out.width in
      let tall : height out ≡ 2 ^ a * 2 ^ b = high ∙ pow-add 2 a b in
      let are = rows_are (wide_rows (2 ^ b) out) (2 ^ a) (2 ^ b) w whole.width (wide_height out (2 ^ a) (2 ^ b) (pow_pos b) tall) refl in
      record {
        height = (reversed_same (a + b) out whole high f.zero).height ∙ tall;
        heights = λ i below. (same i below).height ∙ are.heights (rev a i) (rev-lt a i);
        widths = λ i below. (same i below).width;
        rows = λ i j c below less inside.
            let wide_row = rev a i in
            let in_row = rev b j in
            let number : rev (a + b) (i + 2 ^ a * j) ≡ wide_row * 2 ^ b + in_row = ap (rev (a + b)) (omega arith) ∙ rev-block a b j i below in
            let rise : 2 ^ a * (j + 1) ≤ 2 ^ a * 2 ^ b = omega (arith, mul-le-mul_right (2 ^ a) less) in
            let all : i + 2 ^ a * j < 2 ^ (a + b) = omega (arith, rise, below, pow-add 2 a b) in
            let place : (wide_row * 2 ^ b + in_row) * w + c ≡ wide_row * (2 ^ b * w) + (in_row * w + c) = omega arith in
            let part_height : (part i).height ≡ 2 ^ b = (same i below).height ∙ are.heights wide_row (rev-lt a i) in
            let in_part : c < (part i).width = omega (arith, inside, (same i below).width) in
            ap f.value (reversed_entry (a + b) out whole high (i + 2 ^ a * j) c f.zero all inside
            ∙ ap (λ k. get_or out.values (k * w + c) f.zero) number ∙ ap (λ k. get_or out.values k f.zero) place)
            ∙ sym (are.entries wide_row in_row c (rev-lt a i) (rev-lt b j) inside)
            ∙ sym ((same i below).alike j c (omega (arith, less, part_height)) in_part);
      }

  module _ (generator : ℕ → F) {bits : ℕ} (are_roots : AreRoots f.ring bits (λ n. f.value (generator n))) where
    abbrev roots : ℕ → f.Element
    roots n = f.value (generator n)

    -- ---- transforms
    -- the transforms of the wide rows, and then of each of their rows, interleaved, are the transform of the whole
    pub transform_by_parts : (m middle out : RowMajor F) (parts : ℕ → RowMajor F) (a b : ℕ) (s : f.Element)
        → FitsDft bits (height m) m.width → height m ≡ 2 ^ (a + b)
        → IsTransform f generator (wide_rows (2 ^ b) m) (power f.ring s (2 ^ b)) middle
        → ((i : ℕ) → i < 2 ^ a → IsTransform f generator (row_as_matrix m.width middle i) (point f.ring roots (a + b) s i) (parts i))
        → IsInterleaved (2 ^ a) (2 ^ b) (λ i. values (parts i)) (values out)
        → IsTransform f generator m s out
    transform_by_parts m middle out parts a b s fits high first second placed k tall =
        let all : height m ≡ 2 ^ a * 2 ^ b = high ∙ pow-add 2 a b in
        let wide = wide_rows (2 ^ b) m in
        let part = λ (i : ℕ). values (row_as_matrix m.width middle i) in
        let within : a + b ≤ bits = exponent_within (a + b) fits high in
        let done = first a (wide_height m (2 ^ a) (2 ^ b) (pow_pos b) all) in
        let widened = wide_rows_are m (2 ^ a) (2 ^ b) (pow_pos b) all in
        let are = rows_are middle (2 ^ a) (2 ^ b) m.width fits.width done.height done.width in
        subst (λ (n : ℕ). IsValues f.ring roots (values m) n s (values out)) (log_same (a + b) k (sym high ∙ tall))
        (values_by_parts f.ring are_roots a b s (values m) (values wide) (values middle) (values out) part (λ i. values (parts i))
        within widened done are (λ i below. second i below b (are.heights i below)) placed)

    -- ---- inverses
    -- backwards, the inverses of the parts that are interleaved, and then that of the wide rows, are the inverse of the whole
    pub inverse_by_parts : (m middle c : RowMajor F) (parts : ℕ → RowMajor F) (a b : ℕ) (s : f.Element)
        → FitsDft bits (height m) m.width → height m ≡ 2 ^ (a + b) → IsInvertible f.ring s
        → IsInterleaved (2 ^ a) (2 ^ b) (λ i. values (parts i)) (values m)
        → ((i : ℕ) → i < 2 ^ a → IsInterpolation f generator (parts i) (point f.ring roots (a + b) s i) (row_as_matrix m.width middle i))
        → height middle ≡ 2 ^ a → middle.width ≡ 2 ^ b * m.width
        → IsRowMajor (wide_rows (2 ^ b) c) → IsInterpolation f generator middle (power f.ring s (2 ^ b)) (wide_rows (2 ^ b) c)
        → IsInterpolation f generator m s c
    inverse_by_parts m middle c parts a b s fits high invertible placed first tall wide whole second = record {
      holds = holds;
      only = λ k e d other. there_is_no_other f.ring are_roots (values m) k s (exponent_within k fits e) invertible d (values c) other (holds k e);
    }
      where
        done : AreCoefficients f.ring roots (values middle) a (power f.ring s (2 ^ b)) (values (wide_rows (2 ^ b) c))
        done = second.holds a tall

        c_width : c.width ≡ m.width
        c_width =
            sym (mul-div_cancel_left c.width (pow_pos b)) ∙ ap (λ w. w / 2 ^ b) (done.width ∙ wide) ∙ mul-div_cancel_left m.width (pow_pos b)

        c_height : height c ≡ 2 ^ (a + b)
        c_height =
            let full : length c.values ≡ 2 ^ a * 2 ^ b * c.width =
            sym whole.full ∙ ap (λ h. h * (2 ^ b * c.width)) (done.height ∙ tall) ∙ omega arith in
            ap (λ k. k / c.width) full ∙ mul-div_cancel (2 ^ a * 2 ^ b) (omega (arith, c_width, fits.width)) ∙ sym (pow-add 2 a b)

        c_fits : FitsDft bits (height c) c.width
        c_fits = record {
          log = a + b;
          within = exponent_within (a + b) fits high;
          height = c_height;
          width = omega (arith, c_width, fits.width);
          size = omega (arith, fits.size, ap₂ (λ (h w : ℕ). h * w) (c_height ∙ sym high) c_width);
        }

        wide_ones : IsTransform f generator (wide_rows (2 ^ b) c) (power f.ring s (2 ^ b)) middle
        wide_ones k e =
            subst (λ (n : ℕ). IsValues f.ring roots (values (wide_rows (2 ^ b) c)) n (power f.ring s (2 ^ b)) (values middle))
            (log_same a k (sym tall ∙ sym done.height ∙ e)) done.values

        rows_of : (i : ℕ) → i < 2 ^ a → IsTransform f generator (row_as_matrix c.width middle i) (point f.ring roots (a + b) s i) (parts i)
        rows_of i below =
            let given = first i below in
            subst (λ (w : ℕ). IsTransform f generator (row_as_matrix w middle i) (point f.ring roots (a + b) s i) (parts i)) (sym c_width)
            (λ k e. (given.holds k (sym ((given.holds b (placed.heights i below)).height) ∙ e)).values)

        holds : (k : ℕ) → height m ≡ 2 ^ k → AreCoefficients f.ring roots (values m) k s (values c)
        holds k e =
            let same : height c ≡ height m = c_height ∙ sym high in
            record {
              height = same;
              width = c_width;
              values = transform_by_parts c middle m parts a b s c_fits c_height wide_ones rows_of placed k (same ∙ e);
            }

    -- ---- extensions
    -- the coefficients of wide rows, row by row
    abbrev narrow : (n w : ℕ) → Matrix f.Element → Matrix f.Element
    narrow n w c = record { height = c.height * n; width = w; entry = λ u j. c.entry (u / n) (u % n * w + j) }

    narrow_are : (n w : ℕ) (c : Matrix f.Element) → 1 ≤ n → c.width ≡ n * w → AreWideRows n (narrow n w c) c
    narrow_are n w c some wide = record {
      height = refl;
      width = wide;
      entries = λ r q j below less inside.
          let row_number : r ≡ (r * n + q) / n = sym (div-mul-add r n q less) in
          let place : q ≡ (r * n + q) % n = sym (mod-mul-add r n q less) in
          ap₂ (λ u v. c.entry u (v * w + j)) row_number place;
    }

    -- the inverses of the parts, the extension of the wide rows and then the transforms of each are the extension of the whole
    pub extension_by_parts : (m middle longer out : RowMajor F) (parts more : ℕ → RowMajor F) (a b e : ℕ) (s : f.Element)
        → FitsLde bits (height m) m.width e → height m ≡ 2 ^ (a + b)
        → IsInterleaved (2 ^ a) (2 ^ b) (λ i. values (parts i)) (values m)
        → ((i : ℕ) → i < 2 ^ a → IsInterpolation f generator (parts i) (point f.ring roots (a + b) f.ring.one i) (row_as_matrix m.width middle i))
        → height middle ≡ 2 ^ a → middle.width ≡ 2 ^ b * m.width
        → IsExtension f generator middle e (power f.ring s (2 ^ b)) longer
        → ((i : ℕ) → i < 2 ^ (a + e) → IsTransform f generator (row_as_matrix m.width longer i) (point f.ring roots (a + e + b) s i) (more i))
        → IsInterleaved (2 ^ (a + e)) (2 ^ b) (λ i. values (more i)) (values out)
        → IsExtension f generator m e s out
    extension_by_parts m middle longer out parts more a b e s fits high placed first tall wide extension second placed_more = record {
      coefficients = narrow (2 ^ b) m.width extension.coefficients;
      are_coefficients = λ k is. record {
        height = c_height;
        width = refl;
        values = subst (λ (n : ℕ). IsValues f.ring roots (narrow (2 ^ b) m.width extension.coefficients) n f.ring.one (values m))
            (log_same (a + b) k (sym high ∙ is)) on_subgroup;
      };
      extended = λ k is.
          subst (λ (n : ℕ). IsValues f.ring roots (narrow (2 ^ b) m.width extension.coefficients) n s (values out)) (more_bits k is) extended;
    }
      where
        within : a + b + e ≤ bits
        within = subst (λ (n : ℕ). n + e ≤ bits) (log_same fits.log (a + b) (sym fits.height ∙ high)) fits.within

        are : AreCoefficients f.ring roots (values middle) a f.ring.one extension.coefficients
        are = extension.are_coefficients a tall

        widened : AreWideRows (2 ^ b) (narrow (2 ^ b) m.width extension.coefficients) extension.coefficients
        widened = narrow_are (2 ^ b) m.width extension.coefficients (pow_pos b) (are.width ∙ wide)

        c_height : (narrow (2 ^ b) m.width extension.coefficients).height ≡ height m
        c_height = ap (λ h. h * 2 ^ b) (are.height ∙ tall) ∙ sym (pow-add 2 a b) ∙ sym high

        more_bits : (k : ℕ) → height m ≡ 2 ^ k → a + e + b ≡ k + e
        more_bits k is =
            let same : a + b ≡ k = log_same (a + b) k (sym high ∙ is) in
            omega (arith, same)

        -- the wide rows are values on the subgroup, since a power of one is one
        wide_values : IsValues f.ring roots extension.coefficients a (power f.ring f.ring.one (2 ^ b)) (values middle)
        wide_values =
            subst (λ (x : f.Element). IsValues f.ring roots extension.coefficients a x (values middle)) (sym (power_of_one f.ring (2 ^ b)))
            are.values

        on_subgroup : IsValues f.ring roots (narrow (2 ^ b) m.width extension.coefficients) (a + b) f.ring.one (values m)
        on_subgroup =
            let c = narrow (2 ^ b) m.width extension.coefficients in
            let part = λ (i : ℕ). values (row_as_matrix m.width middle i) in
            let rows = rows_are middle (2 ^ a) (2 ^ b) m.width fits.width tall wide in
            values_by_parts f.ring are_roots a b f.ring.one c extension.coefficients (values middle) (values m) part (λ i. values (parts i))
            (omega (arith, within)) widened wide_values rows (λ i below. ((first i below).holds b (placed.heights i below)).values) placed

        extended : IsValues f.ring roots (narrow (2 ^ b) m.width extension.coefficients) (a + e + b) s (values out)
        extended =
            let c = narrow (2 ^ b) m.width extension.coefficients in
            let part = λ (i : ℕ). values (row_as_matrix m.width longer i) in
            let on_coset = extension.extended a tall in
            let rows = rows_are longer (2 ^ (a + e)) (2 ^ b) m.width fits.width on_coset.height (on_coset.width ∙ are.width ∙ wide) in
            values_by_parts f.ring are_roots (a + e) b s c extension.coefficients (values longer) (values out) part (λ i. values (more i))
            (omega (arith, within)) widened on_coset rows (λ i below. second i below b (rows.heights i below)) placed_more
