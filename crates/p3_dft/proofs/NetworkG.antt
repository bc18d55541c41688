-- What the engine of network G does besides the network: tables of powers, rows in bit reversed order that are weighed and spread, and the calls that it
-- makes of these.
use Rattle.p3_dft.proofs.Names.{◌≡◌, ℕ, zero, suc, ◌+◌, ◌*◌, ◌-◌, ◌%◌, ◌^◌, ◌<◌, ◌≤◌, List, length, get_or, take, refl, sym, ap, ap₂, ◌∙◌, ◌/◌, ◌⊎◌, arith}
use Rattle.p3_dft.proofs.Names.{drop, inl, inr, le-add_right, map, pow_pos, rules, subst, get_or_past, length-map, places, mul-add-lt, mod-eq_of_lt}
use Rattle.p3_dft.proofs.Names.{mul-le-mul_left, mul-le-mul_right, pow-le-pow_right, two-pow-succ, AreRoots, count, power, power_of_one, bit_reversal, rev}
use Rattle.p3_dft.proofs.Names.{AreCoefficients, IsQuotient, IsValues, coset_shift, values_of, Matrix, Same, image, matrix, row_exchange, HasShapeOf}
use Rattle.p3_dft.proofs.Names.{IsRowMajor, RowMajor, height, row, with_zeros, reversed_back, rev-lt, rev-rev, mapped_same, same_sym, row_within, whole_kept}
use Rattle.p3_dft.proofs.Names.{RowsDone, part_at, part_size, rows-next, value_at, padded_above, padded_below, padded_high, padded_whole, log_same}
use Rattle.p3_dft.proofs.Names.{coefficients_same, same_coefficients, quotient_of_products, AreTwiddles, AreTransformedValues, IsExtension, KeepsShape, FitsLde}
use Rattle.p3_dft.proofs.Names.{HasEntriesOf, IsInterpolation, IsTransform}
use Rattle.p3_matrix.specs.Writes.{with_elements, with_row}
use Rattle.p3_matrix.proofs.Polynomials.SpreadRows.{SpreadFrom, spread_exchanged, spread_none, spread_others, spread_rows, values_of_spread}
use Rattle.p3_dft.proofs.BitReversed.Coefficients.{extension_of_coefficients, interpolation_of_coefficients, values_of_answered}
use Rattle.p3_dft.proofs.Calls.Shapes.{fits_lde_as, output_size, powers_fit}
use Rattle.p3_dft.proofs.Calls.Stored.{whole_still}
use Rattle.p3_field.specs.declared.fields.Valued.{Ghosts as FieldMembers}
use Rattle.p3_field.proofs.Rings
use Rattle.p3_dft.specs.declared.traits.Layout.{Layout}
use Rattle.p3_dft.specs.declared.traits.Layout.TheVariants.{BitReversed}

-- ---- shapes
-- a table of half the powers of a height has no more entries than a matrix of that height
pub half_powers_fit : {height width : ℕ} (log : ℕ) → 1 ≤ width → height ≡ 2 ^ log → 2 ^ (log - 1) ≤ height * width
half_powers_fit log wide high =
    let half : 2 ^ (log - 1) ≤ 2 ^ log = pow-le-pow_right {n = 2} (omega arith) (omega arith) in
    omega (arith, half, powers_fit log wide high)

-- where m is the matrix n that was handed over, and x has its shape
module _ {T : Type 0} {m n : RowMajor T} (x : RowMajor T) (same : m ≡ n) where
  pub shape_still : HasShapeOf x m → HasShapeOf x n
  shape_still (tall, wide) = (tall ∙ ap height same, wide ∙ ap (λ (y : RowMajor T). y.width) same)

  -- it can be extended too
  pub fits_lde_still : {most : ℕ} (a : ℕ) → HasShapeOf x m → FitsLde most (height n) n.width a → FitsLde most (height x) x.width a
  fits_lde_still a shape fits = let still = shape_still shape in fits_lde_as _ _ _ a _ _ fits still.0 still.1

  -- and what a transform makes of it has that shape
  pub changed_shape : {may_make : RowMajor T → RowMajor T → Type 0} (changed : RowMajor T) → IsRowMajor m → HasEntriesOf x m
      → KeepsShape n may_make → may_make x changed → HasShapeOf changed m
  changed_shape changed whole entries keeps called =
      let kept = keeps x changed (whole_still m x whole entries) (shape_still entries.shape) called in
      (kept.0 ∙ sym (ap height same), kept.1 ∙ sym (ap (λ (y : RowMajor T). y.width) same))

-- ---- rows that are spread
two_places : (a : ℕ) → (a ≡ 0 → ⊥) → 2 ≤ 2 ^ a
two_places zero some = absurd (some refl)
two_places (suc a) some = omega (arith, two-pow-succ a, pow_pos a)

module _ {T : Type 0} (z : T) (a : ℕ) (m : RowMajor T) where
  -- column j of now, where its rows from n on are spread
  abbrev pub IsColumnSpread : ℕ → RowMajor T → ℕ → Type 0
  IsColumnSpread n now j = SpreadFrom z (2 ^ a) (height m) n (λ i. (matrix z m).entry i j) (λ i. (matrix z now).entry i j)

  -- each row i of m from n on is in the place i * 2 ^ a of now, the rows before are where they were, and all others are z
  pub record RowsSpread (n : ℕ) (now : RowMajor T) : Type 0 where
    pub whole : IsRowMajor now
    pub tall : height now ≡ height m * 2 ^ a
    pub wide : now.width ≡ m.width
    pub columns : (j : ℕ) → j < m.width → IsColumnSpread n now j

  -- none is spread where rows of z are below all of m
  pub none_spread : (now : RowMajor T) → IsRowMajor m → now ≡ with_zeros z m a → RowsSpread (height m) now
  none_spread now whole is =
      subst (RowsSpread (height m)) (sym is)
      (record {
        whole = padded_whole z m whole a;
        tall = padded_high z m whole a;
        wide = refl;
        columns = λ j inside.
            spread_none z (2 ^ a) (height m) _ _ (λ r below. padded_above z m whole a r j below inside)
            (λ r after below. padded_below z m whole a r j after);
      })

  -- the place of a row, as a program has it, and the row itself are in the matrix
  pub places_there : {most : ℕ} (row : ℕ) (now : RowMajor T) → FitsLde most (height m) m.width a → row < height m → height now ≡ height m * 2 ^ a
      → (row < height now) × (row * 2 ^ a % 2 ^ 64 < height now) × (row * 2 ^ a % 2 ^ 64 ≡ row * 2 ^ a)
  places_there row now fits below tall =
      let rows : suc row * 2 ^ a ≤ height m * 2 ^ a = mul-le-mul_right (2 ^ a) below in
      let entries : 1 * (height m * 2 ^ a) ≤ m.width * (height m * 2 ^ a) = mul-le-mul_right (height m * 2 ^ a) fits.width in
      let more : height m * 1 ≤ height m * 2 ^ a = mul-le-mul_left (height m) (pow_pos a) in
      let positive = pow_pos a in
      let place : row * 2 ^ a % 2 ^ 64 ≡ row * 2 ^ a =
      mod-eq_of_lt (omega (arith, rows, entries, output_size _ _ _ _ fits, positive)) in
      (omega (arith, below, more, tall), omega (arith, place, rows, positive, tall), place)

  -- one row more, in exchange for the row of z in its place
  pub one_spread : (n place : ℕ) (now next : RowMajor T) → (a ≡ 0 → ⊥) → 1 < n → n ≤ height m → place ≡ (n - 1) * 2 ^ a
      → HasShapeOf next now → length next.values ≡ length now.values
      → Same (matrix z next) (row_exchange (n - 1) place (matrix z now)) → RowsSpread n now → RowsSpread (n - 1) next
  one_spread n place now next some two below place_is shape size same spread = record {
    whole = whole_kept now next spread.whole shape size;
    tall = shape.0 ∙ spread.tall;
    wide = shape.1 ∙ spread.wide;
    columns = λ j inside.
        let next_is : n ≡ n - 1 + 1 = omega arith in
        spread_exchanged z (2 ^ a) (height m) (n - 1) (λ i. (matrix z m).entry i j) (matrix z now) (matrix z next) j (two_places a some) (omega arith)
        (omega arith) spread.tall (omega (arith, inside, spread.wide))
        (subst (λ (p : ℕ). Same (matrix z next) (row_exchange (n - 1) p (matrix z now))) place_is same)
        (subst (λ (p : ℕ). IsColumnSpread p now j) next_is (spread.columns j inside));
  }

module _ {F : Type 0} (f : FieldMembers F) (g : ℕ → f.Element) where
  -- rows of zeros between them change no value
  pub values_still : {a n : ℕ} {m now : RowMajor F} (k : ℕ) (s : f.Element) (v : Matrix f.Element) → f.value f.zero ≡ f.ring.zero
      → height m ≡ 2 ^ k → n ≡ 1 → RowsSpread f.zero a m n now
      → IsValues f.ring g (bit_reversal (k + a) (values_of f now)) (k + a) s v
      → IsValues f.ring g (bit_reversal k (values_of f m)) (k + a) s v
  values_still {a} {n} {m} {now} k s v none high all spread given =
      let column : (j : ℕ) → j < m.width → IsColumnSpread f.zero a m 1 now j = λ j inside.
      subst (λ (p : ℕ). IsColumnSpread f.zero a m p now j) all (spread.columns j inside) in
      values_of_spread f.ring g k a s (values_of f m) (values_of f now) v high spread.tall spread.wide
      (λ i j below inside. ap f.value (spread_rows f.zero (2 ^ a) (height m) _ _ (column j inside) i below))
      (λ i r j below some less inside.
      ap f.value (spread_others f.zero (2 ^ a) (height m) _ _ (column j inside) i r below some less) ∙ none)
      given

-- ---- tables of powers, and rows that are weighed by them
-- a list over a part of which another is written
elements_size : {X : Type 0} (xs ys : List X) (a : ℕ) → length (with_elements xs a ys) ≡ length xs
elements_size xs ys a = search (rules, places)

elements_outside : {X : Type 0} (xs ys : List X) (a n : ℕ) (d : X) → (n < a) ⊎ (a + length ys ≤ n)
    → get_or (with_elements xs a ys) n d ≡ get_or xs n d
elements_outside xs ys a n d (inl before) = search (rules, places)
elements_outside xs ys a n d (inr after) = search (rules, places)

elements_inside : {X : Type 0} (xs ys : List X) (a j : ℕ) (d : X) → a + length ys ≤ length xs → j < length ys
    → get_or (with_elements xs a ys) (a + j) d ≡ get_or ys j d
elements_inside xs ys a j d room inside = search (rules, places)

module _ {F : Type 0} (f : FieldMembers F) where
  -- a table of the powers of a root, as a program made it, from one on
  pub root_powers : (bits : ℕ) (one base : F) (root : f.Element) (made taken : List F) → f.value one ≡ f.ring.one → f.value base ≡ root
      → taken ≡ made → AreTwiddles f (2 ^ bits) (λ b. f.ring.mul (f.value one) (power f.ring (f.value base) (rev bits b))) made
      → AreTwiddles f (2 ^ bits) (λ b. power f.ring root (rev bits b)) taken
  root_powers bits one base root made taken one_is base_is same table = record {
    size = ap length same ∙ table.size;
    entries = λ b below.
        ap (λ xs. f.value (get_or xs b f.zero)) same ∙ table.entries b below
        ∙ ap₂ (λ x y. f.ring.mul x (power f.ring y (rev bits b))) one_is base_is
        ∙ Rings.one-mul f.ring (power f.ring root (rev bits b));
  }

  module _ (weight : ℕ → f.Element) (m : RowMajor F) where
    -- y is the entry of m in row p and column j, times the weight of that row
    abbrev IsWeighed : ℕ → ℕ → F → Type 0
    IsWeighed p j y = f.value y ≡ f.ring.mul (f.value (get_or m.values (p * m.width + j) f.zero)) (weight p)

    -- the first i rows of now are those of m, each times its weight, and the others are those of m
    pub record RowsWeighed (i : ℕ) (now : RowMajor F) : Type 0 where
      pub wide : now.width ≡ m.width
      pub rows : RowsDone f.zero m.width IsWeighed m.values i now.values

    -- one row more, which a program had as a slice of its own
    pub one_weighed : (i : ℕ) (now : RowMajor F) (part ys : List F) (factor : f.Element) → IsRowMajor m → i < height m
        → part ≡ row now i → length ys ≡ length part → map f.value ys ≡ map (λ x. f.ring.mul x factor) (map f.value part)
        → factor ≡ weight i → RowsWeighed i now → RowsWeighed (i + 1) (with_row now i ys) × (length part ≡ m.width)
    one_weighed i now part ys factor whole below is size values factor_is so_far =
        let w = m.width in
        let a = i * w in
        let within : a + w ≤ length now.values = omega (arith, row_within i (height m) w (length m.values) below whole.full, so_far.rows.size) in
        let full : a + w - a ≡ w = omega arith in
        let part_is : part ≡ take w (drop a now.values) =
        is ∙ ap (λ v. take (i * v + v - i * v) (drop (i * v) now.values)) so_far.wide ∙ ap (λ n. take n (drop a now.values)) full in
        let part_size : length part ≡ w = ap length part_is ∙ part_size now.values a w within in
        let len : length ys ≡ w = size ∙ part_size in (
          record {
            wide = so_far.wide;
            rows =
                subst (λ (v : ℕ). RowsDone f.zero w IsWeighed m.values (i + 1) (with_elements now.values (i * v) ys)) (sym so_far.wide)
                (rows-next f.zero w IsWeighed m.values now.values (with_elements now.values a ys) i (elements_size now.values ys a)
                (λ n outside. elements_outside now.values ys a n f.zero (subst (λ (l : ℕ). (n < a) ⊎ (a + l ≤ n)) (sym len) outside))
                (λ j inside. ap f.value (elements_inside now.values ys a j f.zero (omega (arith, len, within)) (omega (arith, inside, len)))
                ∙ value_at f.value (λ x. f.ring.mul x factor) part ys j f.zero values size (omega (arith, inside, part_size))
                ∙ ap₂ f.ring.mul (ap f.value (ap (λ xs. get_or xs j f.zero) part_is ∙ part_at now.values a w j f.zero inside
                ∙ so_far.rows.rest (a + j) (le-add_right a j))) factor_is) so_far.rows);
          },
          part_size,
        )

  -- all rows of a matrix whose rows lie in bit reversed order, by powers in that order
  pub all_weighed : (weight : ℕ → f.Element) (m now : RowMajor F) (i k : ℕ) (scale shift : f.Element) → height m ≡ 2 ^ k → height m ≤ i
      → ((b : ℕ) → b < 2 ^ k → weight b ≡ f.ring.mul scale (power f.ring shift (rev k b))) → RowsWeighed weight m i now
      → Same (bit_reversal k (values_of f now))
      (coset_shift f.ring shift (image (λ x. f.ring.mul x scale) (bit_reversal k (values_of f m))))
  all_weighed weight m now i k scale shift high done powers all =
      let tall : height now ≡ height m = ap₂ ◌/◌ all.rows.size all.wide in
      record {
        height = tall;
        width = all.wide;
        alike = λ p j below inside.
            let small : p < 2 ^ k = omega (arith, below, tall, high) in
            let r = rev k p in
            let y = f.value (get_or m.values (r * m.width + j) f.zero) in
            ap (λ w. f.value (get_or now.values (r * w + j) f.zero)) all.wide
            ∙ all.rows.done r j (omega (arith, rev-lt k p, high, done)) (omega (arith, inside, all.wide))
            ∙ ap (f.ring.mul y) (powers r (rev-lt k p) ∙ ap (λ e. f.ring.mul scale (power f.ring shift e)) (rev-rev k p small))
            ∙ sym (f.ring.mul_assoc y scale (power f.ring shift p));
      }

  -- the same by a table of these powers
  pub weighed_by_table : (m now : RowMajor F) (weights table : List F) (i k : ℕ) (scale shift : f.Element) → height m ≡ 2 ^ k
      → weights ≡ table → AreTwiddles f (2 ^ k) (λ b. f.ring.mul scale (power f.ring shift (rev k b))) table → length weights ≤ i
      → RowsWeighed (λ p. f.value (get_or weights p f.zero)) m i now
      → Same (bit_reversal k (values_of f now))
      (coset_shift f.ring shift (image (λ x. f.ring.mul x scale) (bit_reversal k (values_of f m))))
  weighed_by_table m now weights table i k scale shift high same powers done all =
      all_weighed _ m now i k scale shift high (omega (arith, high, ap length same, powers.size, done))
      (λ b below. ap (λ xs. f.value (get_or xs b f.zero)) same ∙ powers.entries b below) all

  -- and where the shift is one, by one factor
  pub weighed_alike : (m now : RowMajor F) (k : ℕ) (scale shift : f.Element) → IsRowMajor m → height m ≡ 2 ^ k → shift ≡ f.ring.one
      → now.width ≡ m.width → map f.value now.values ≡ map (λ x. f.ring.mul x scale) (map f.value m.values)
      → Same (bit_reversal k (values_of f now))
      (coset_shift f.ring shift (image (λ x. f.ring.mul x scale) (bit_reversal k (values_of f m))))
  weighed_alike m now k scale shift whole high one wide same =
      let h = height m in
      let size : length now.values ≡ length m.values =
      sym (length-map now.values f.value) ∙ ap length same ∙ length-map (map f.value m.values) (λ x. f.ring.mul x scale) ∙ length-map m.values f.value in
      all_weighed (λ p. scale) m now (2 ^ k) k scale shift high (omega (arith, high))
      (λ b below. sym (ap (f.ring.mul scale) (ap (λ s. power f.ring s (rev k b)) one ∙ power_of_one f.ring (rev k b)) ∙ f.ring.mul_one scale))
      (record {
        wide = wide;
        rows = record {
          size = size;
          done = λ p j below inside.
              value_at f.value (λ x. f.ring.mul x scale) m.values now.values (p * m.width + j) f.zero same size
              (omega (arith, mul-add-lt p m.width j h (omega (arith, below, high)) inside, whole.full));
          rest = λ n after.
              let past : length m.values ≤ n = omega (arith, after, ap (λ r. r * m.width) high, whole.full) in
              get_or_past now.values n f.zero (omega (arith, past, size)) ∙ sym (get_or_past m.values n f.zero past);
        };
      })

-- ---- calls
module _ {F : Type 0} (f : FieldMembers F) (generator : ℕ → F) {m n : RowMajor F} (k : ℕ) (given : m ≡ n) (high : height m ≡ 2 ^ k) where
  -- a transform of rows that were reversed
  pub transform_by_reversal : (r out : RowMajor F) → ((d : F) → Same (matrix d r) (bit_reversal k (matrix d m)))
      → IsValues f.ring (λ i. f.value (generator i)) (bit_reversal k (values_of f r)) k f.ring.one (values_of f out)
      → IsTransform f generator n f.ring.one out
  transform_by_reversal r out rows values l e =
      let back =
      reversed_back k (values_of f r) (values_of f m) high (mapped_same f.value (matrix f.zero r) (bit_reversal k (matrix f.zero m)) (rows f.zero)) in
      let made =
      coefficients_same f.ring (λ i. f.value (generator i)) (bit_reversal k (values_of f r)) (values_of f m) k f.ring.one (values_of f out)
      (same_sym (values_of f m) (bit_reversal k (values_of f r)) back) values in
      subst (λ (x : RowMajor F). IsValues f.ring (λ i. f.value (generator i)) (values_of f x) l f.ring.one (values_of f out)) given
      (subst (λ (x : ℕ). IsValues f.ring (λ i. f.value (generator i)) (values_of f m) x f.ring.one (values_of f out))
      (log_same k l (sym high ∙ ap height given ∙ e)) made)

  -- an inverse whose rows are reversed at last
  pub interpolation_by_reversal : {bits : ℕ} → AreRoots f.ring bits (λ i. f.value (generator i)) → (r out : RowMajor F) → k ≤ bits
      → ((d : F) → Same (matrix d out) (bit_reversal k (matrix d r)))
      → AreCoefficients f.ring (λ i. f.value (generator i)) (values_of f m) k f.ring.one (bit_reversal k (values_of f r))
      → IsInterpolation f generator n f.ring.one out
  interpolation_by_reversal roots r out within rows are =
      let back = mapped_same f.value (matrix f.zero out) (bit_reversal k (matrix f.zero r)) (rows f.zero) in
      subst (λ (x : RowMajor F). IsInterpolation f generator x f.ring.one out) given
      (interpolation_of_coefficients f generator roots m out k within high
      (same_coefficients f.ring roots (values_of f m) k f.ring.one (bit_reversal k (values_of f r)) (values_of f out)
      (same_sym (values_of f out) (bit_reversal k (values_of f r)) back) are))

  -- an extension by coefficients times the height, each times the inverse of it
  pub extension_by_scale : (out : RowMajor F) (c : Matrix f.Element) (scale s : f.Element) (a : ℕ) → f.ring.mul (count f.ring (2 ^ k)) scale ≡ f.ring.one
      → ((d : Matrix f.Element) → IsQuotient f.ring (2 ^ k) c d
      → AreCoefficients f.ring (λ i. f.value (generator i)) (values_of f m) k f.ring.one d)
      → IsValues f.ring (λ i. f.value (generator i)) (image (λ x. f.ring.mul x scale) c) (k + a) s (values_of f out)
      → IsExtension f generator n a s out
  extension_by_scale out c scale s a undone are values =
      let d = image (λ x. f.ring.mul x scale) c in
      subst (λ (x : RowMajor F). IsExtension f generator x a s out) given
      (extension_of_coefficients f generator m out d a k s high
      (are d (quotient_of_products f.ring (2 ^ k) scale c d undone (record { height = refl; width = refl; alike = λ i j p q. refl }))) values)

  -- an extension of what a transform made of the coefficients, each times one
  pub extension_of_changed : (may_make : RowMajor F → Layout → RowMajor F → Type 0) (passed changed out : RowMajor F) (one s : f.Element) (a : ℕ)
      → one ≡ f.ring.one
      → AreCoefficients f.ring (λ i. f.value (generator i)) (values_of f m) k f.ring.one (bit_reversal k (values_of f passed))
      → IsRowMajor m → HasEntriesOf passed m → IsRowMajor changed → may_make passed BitReversed changed → HasShapeOf changed m
      → IsValues f.ring (λ i. f.value (generator i)) (image (λ x. f.ring.mul x one) (bit_reversal k (values_of f changed))) (k + a) s (values_of f out)
      → AreTransformedValues f generator may_make BitReversed n a s (values_of f out)
  extension_of_changed may_make passed changed out one s a is are whole entries changed_is called shape values =
      let c = bit_reversal k (values_of f changed) in
      subst (λ (x : RowMajor F). AreTransformedValues f generator may_make BitReversed x a s (values_of f out)) given
      (values_of_answered f generator may_make m passed changed a k s (values_of f out) high are (whole_still m passed whole entries) changed_is
      called shape.0
      (coefficients_same f.ring (λ i. f.value (generator i)) (image (λ x. f.ring.mul x one) c) c (k + a) s (values_of f out)
      (record {
        height = refl;
        width = refl;
        alike = λ i j below inside. ap (f.ring.mul (c.entry i j)) is ∙ f.ring.mul_one (c.entry i j);
      }) values))
