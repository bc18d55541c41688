-- The values of polynomials on a coset, by parts. A polynomial that is cut into n parts of m coefficients has at x the value of m
-- coefficients: coefficient q is the value at x ^ m of the polynomial that the parts have in place q. So the values on a coset of s of
-- order 2 ^ (a + b) come from values on the coset of s ^ 2 ^ b of order 2 ^ a, and then, for each of its points, on one of order 2 ^ b.
use Rattle.p3_dft.proofs.Names.{◌≡◌, ℕ, zero, suc, ◌+◌, ◌*◌, ◌/◌, ◌%◌, ◌^◌, ◌<◌, ◌≤◌, refl, sym, ap, ap₂, ◌∙◌, arith, zero-mul, pow-add, pow_pos, suc-mul}
use Rattle.p3_dft.proofs.Names.{mod-add-div, mul-le-mul_right, div_below, mod_below, Ring, AreRoots, power, root_all, root_strided, IsValues, point, Matrix}
use Rattle.p3_dft.proofs.Names.{poly, poly_same, poly_zeros, poly-append, poly-add, poly-times, entry-poly, is_values, IsInterleaved}
use Rattle.p3_field.proofs.Powers.{power-add, power_of_product, power-mul}

-- each row of `wide` is n rows of c, one after another
pub record AreWideRows {A : Type 0} (n : ℕ) (c wide : Matrix A) : Type 0 where
  pub height : c.height ≡ wide.height * n
  pub width : wide.width ≡ n * c.width
  pub entries : (r q j : ℕ) → r < wide.height → q < n → j < c.width → wide.entry r (q * c.width + j) ≡ c.entry (r * n + q) j

-- matrix i has the entries of row i of `wide`, as n rows
pub record AreRowsOf {A : Type 0} (count n w : ℕ) (wide : Matrix A) (part : ℕ → Matrix A) : Type 0 where
  pub heights : (i : ℕ) → i < count → (part i).height ≡ n
  pub widths : (i : ℕ) → i < count → (part i).width ≡ w
  pub entries : (i q j : ℕ) → i < count → q < n → j < w → (part i).entry q j ≡ wide.entry i (q * w + j)

module _ {A : Type 0} (R : Ring A) where
  open R use {add as ◌⊕◌, mul as ◌⊗◌, neg, zero as 𝟘, one as 𝟙}

  infixl 60 ◌⊕◌
  infixl 70 ◌⊗◌
  pub poly_by_parts : (n m : ℕ) (c : ℕ → A) (x : A)
      → poly R (n * m) c x ≡ poly R m (λ q. poly R n (λ i. c (i * m + q)) (power R x m)) x
  unfolding poly
  poly_by_parts zero m c x =
      ap (λ k. poly R k c x) (zero-mul m) ∙ sym (poly_zeros R m (λ q. 𝟘) x (λ q below. refl))
  poly_by_parts (suc n) m c x =
      let step : suc n * m ≡ m + n * m = omega (arith, suc-mul n m) in
      let turn : (i q : ℕ) → m + (i * m + q) ≡ suc i * m + q = λ i q. omega (arith, suc-mul i m) in
      let first : (q : ℕ) → q ≡ 0 * m + q = λ q. omega (arith, zero-mul m) in
      let rest = λ (q : ℕ). poly R n (λ i. c (m + (i * m + q))) (power R x m) in
      ap (λ k. poly R k c x) step ∙ poly-append R m (n * m) c x
      ∙ ap (λ y. poly R m c x ⊕ power R x m ⊗ y) (poly_by_parts n m (λ j. c (m + j)) x)
      ∙ ap (λ y. poly R m c x ⊕ y) (sym (poly-times R m (power R x m) rest x))
      ∙ sym (poly-add R m c (λ q. power R x m ⊗ rest q) x)
      ∙ poly_same R m _ _ x (λ q below. ap₂ (λ z y. z ⊕ power R x m ⊗ y) (ap c (first q))
      (poly_same R n _ _ (power R x m) (λ i inside. ap c (turn i q))))

module _ {A : Type 0} (R : Ring A) {g : ℕ → A} {bits : ℕ} (G : AreRoots R bits g) where
  open R use {mul as ◌⊗◌, one as 𝟙}

  infixl 70 ◌⊗◌
  -- point i + 2 ^ a * j of the coset of s of order 2 ^ (a + b) is point j of the coset, of order 2 ^ b, of point i
  pub point_in_part : (a b : ℕ) (s : A) (i j : ℕ) → a + b ≤ bits
      → point R g (a + b) s (i + 2 ^ a * j) ≡ point R g b (point R g (a + b) s i) j
  unfolding point
  point_in_part a b s i j within =
      let x = g (a + b) in
      let stride : 2 ^ a * j ≡ j * 2 ^ a = omega arith in
      let turned : b + a ≡ a + b = omega arith in
      ap (λ t. s ⊗ power R x (i + t)) stride
      ∙ ap (λ y. s ⊗ y) (power-add R x i (j * 2 ^ a)) ∙ sym (R.mul_assoc s (power R x i) (power R x (j * 2 ^ a)))
      ∙ ap (λ y. s ⊗ power R x i ⊗ y)
      (sym (ap (λ n. power R (g n) (j * 2 ^ a)) turned) ∙ root_strided R G b a j (omega (arith, within)))

  -- and its power of exponent 2 ^ b is point i of the coset of s ^ 2 ^ b of order 2 ^ a
  pub point_of_parts : (a b : ℕ) (s : A) (i j : ℕ) → a + b ≤ bits
      → power R (point R g (a + b) s (i + 2 ^ a * j)) (2 ^ b) ≡ point R g a (power R s (2 ^ b)) i
  unfolding point
  point_of_parts a b s i j within =
      let t = i + 2 ^ a * j in
      let stride : t ≡ i + j * 2 ^ a = omega arith in
      power_of_product R s (power R (g (a + b)) t) (2 ^ b)
      ∙ ap (λ y. power R s (2 ^ b) ⊗ y)
      (sym (power-mul R (g (a + b)) t (2 ^ b)) ∙ root_strided R G a b t within ∙ ap (power R (g a)) stride
      ∙ power-add R (g a) i (j * 2 ^ a) ∙ ap (λ y. power R (g a) i ⊗ y) (root_all R G a j (omega (arith, within)))
      ∙ R.mul_one (power R (g a) i))

  -- the value there of a polynomial of n parts of 2 ^ b coefficients
  pub value_by_parts : (n a b : ℕ) (s : A) (c : ℕ → A) (i j : ℕ) → a + b ≤ bits
      → poly R (n * 2 ^ b) c (point R g (a + b) s (i + 2 ^ a * j))
      ≡ poly R (2 ^ b) (λ q. poly R n (λ r. c (r * 2 ^ b + q)) (point R g a (power R s (2 ^ b)) i))
      (point R g b (point R g (a + b) s i) j)
  value_by_parts n a b s c i j within =
      poly_by_parts R n (2 ^ b) c (point R g (a + b) s (i + 2 ^ a * j))
      ∙ ap₂ (λ y x. poly R (2 ^ b) (λ q. poly R n (λ r. c (r * 2 ^ b + q)) y) x)
      (point_of_parts a b s i j within) (point_in_part a b s i j within)

  -- the values of all columns: those of the wide rows on the coset of s ^ 2 ^ b, then of each of their rows on the coset of its point
  pub values_by_parts : (a b : ℕ) (s : A) (c wide middle out : Matrix A) (part parts : ℕ → Matrix A) → a + b ≤ bits
      → AreWideRows (2 ^ b) c wide → IsValues R g wide a (power R s (2 ^ b)) middle → AreRowsOf (2 ^ a) (2 ^ b) c.width middle part
      → ((i : ℕ) → i < 2 ^ a → IsValues R g (part i) b (point R g (a + b) s i) (parts i)) → IsInterleaved (2 ^ a) (2 ^ b) parts out
      → IsValues R g c (a + b) s out
  values_by_parts a b s c wide middle out part parts within widened first rows second placed =
      is_values R g c (a + b) s out (placed.height ∙ sym (pow-add 2 a b)) out_width entry
    where
      none : 0 < 2 ^ a
      none = pow_pos a

      out_width : out.width ≡ c.width
      out_width = sym (placed.widths 0 none) ∙ (second 0 none).width ∙ rows.widths 0 none

      in_wide : (q j : ℕ) → q < 2 ^ b → j < c.width → q * c.width + j < wide.width
      in_wide q j less column =
          let rise : (q + 1) * c.width ≤ 2 ^ b * c.width = mul-le-mul_right c.width (omega arith) in
          omega (arith, widened.width, column, rise)

      -- entry j of row i + 2 ^ a * t
      at : (i t j : ℕ) → i < 2 ^ a → t < 2 ^ b → j < c.width
          → out.entry (i + 2 ^ a * t) j ≡ poly R c.height (λ q. c.entry q j) (point R g (a + b) s (i + 2 ^ a * t))
      at i t j inside below column =
          let x = point R g a (power R s (2 ^ b)) i in
          let y = point R g b (point R g (a + b) s i) t in
          let coefficient : (q : ℕ) → q < 2 ^ b → (part i).entry q j ≡ poly R wide.height (λ r. c.entry (r * 2 ^ b + q) j) x =
          λ q less.
          rows.entries i q j inside less column
          ∙ entry-poly R g wide a (power R s (2 ^ b)) middle first i (q * c.width + j) inside (in_wide q j less column)
          ∙ poly_same R wide.height _ _ x (λ r under. widened.entries r q j under less column) in
          placed.rows i t j inside below (omega (arith, out_width, column))
          ∙ entry-poly R g (part i) b (point R g (a + b) s i) (parts i) (second i inside) t j below (omega (arith, rows.widths i inside, column))
          ∙ ap (λ k. poly R k (λ q. (part i).entry q j) y) (rows.heights i inside)
          ∙ poly_same R (2 ^ b) _ _ y coefficient
          ∙ sym (value_by_parts wide.height a b s (λ q. c.entry q j) i t within)
          ∙ ap (λ k. poly R k (λ q. c.entry q j) (point R g (a + b) s (i + 2 ^ a * t))) (sym widened.height)

      entry : (i j : ℕ) → i < 2 ^ (a + b) → j < c.width → out.entry i j ≡ poly R c.height (λ q. c.entry q j) (point R g (a + b) s i)
      entry i j below column =
          let here : i % 2 ^ a + 2 ^ a * (i / 2 ^ a) ≡ i = mod-add-div i (2 ^ a) in
          let row : i / 2 ^ a < 2 ^ b = div_below i (2 ^ a) (2 ^ b) none (omega (arith, below, pow-add 2 a b)) in
          ap (λ n. out.entry n j) (sym here) ∙ at (i % 2 ^ a) (i / 2 ^ a) j (mod_below i (2 ^ a) none) row column
          ∙ ap (λ n. poly R c.height (λ q. c.entry q j) (point R g (a + b) s n)) here
