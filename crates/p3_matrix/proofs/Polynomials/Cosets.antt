-- Values on cosets: by index, of matrices that are one, and what a factor for each row, or rows of zeros, change.
use Rattle.p3_matrix.proofs.Names.{◌≡◌, ℕ, ◌+◌, ◌-◌, ◌<◌, ◌≤◌, ◌^◌, refl, sym, ap, ◌∙◌, subst, arith, Ring, power, Matrix, Same, column, value, poly, point}
use Rattle.p3_matrix.proofs.Names.{IsValues, coset_shift}
use Rattle.p3_matrix.proofs.Matrices.{same_sym, same_trans}
use Rattle.p3_matrix.proofs.Polynomials.ByIndex.{poly_same, poly-scaled, poly_padded, value-index}
use Rattle.p3_field.proofs.Rings

-- the value of a column, by index
pub value-column : {A : Type 0} (R : Ring A) (c : Matrix A) (j : ℕ) (x : A) → value R (column c j) x ≡ poly R c.height (λ i. c.entry i j) x
value-column R c j x = value-index R c.height (λ i. c.entry i j) x

-- `values_on_coset c n s` is the one matrix that IsValues speaks of
abbrev pub values_on_coset : {A : Type 0} → Ring A → (ℕ → A) → Matrix A → ℕ → A → Matrix A
values_on_coset R g c n s = record { height = 2 ^ n; width = c.width; entry = λ i j. value R (column c j) (point R g n s i) }

module _ {A : Type 0} (R : Ring A) (g : ℕ → A) where
  open R use {add as ◌⊕◌, mul as ◌⊗◌, neg, zero as 𝟘, one as 𝟙}

  infixl 60 ◌⊕◌
  infixl 70 ◌⊗◌
  -- ---- points
  pub point-mul : (n : ℕ) (s : A) (i : ℕ) → point R g n s i ≡ s ⊗ power R (g n) i
  unfolding point
  point-mul n s i = refl

  pub point_of_one : (n i : ℕ) → point R g n 𝟙 i ≡ power R (g n) i
  unfolding point
  point_of_one n i = Rings.one-mul R (power R (g n) i)

  -- ---- values by index
  -- an entry of the values is a polynomial's value
  pub entry-poly : (c : Matrix A) (n : ℕ) (s : A) (out : Matrix A) → IsValues R g c n s out → (i j : ℕ) → i < 2 ^ n → j < c.width
      → out.entry i j ≡ poly R c.height (λ q. c.entry q j) (point R g n s i)
  entry-poly c n s out v i j p q = v.values i j p q ∙ value-column R c j (point R g n s i)

  -- and that each entry is one suffices
  pub is_values : (c : Matrix A) (n : ℕ) (s : A) (out : Matrix A) → out.height ≡ 2 ^ n → out.width ≡ c.width
      → ((i j : ℕ) → i < 2 ^ n → j < c.width → out.entry i j ≡ poly R c.height (λ q. c.entry q j) (point R g n s i)) → IsValues R g c n s out
  is_values c n s out h w e = record {
    height = h;
    width = w;
    values = λ i j p q. e i j p q ∙ sym (value-column R c j (point R g n s i));
  }

  -- the same on the subgroup, whose points are the powers of its generator
  pub is_subgroup_values : (c : Matrix A) (n : ℕ) (out : Matrix A) → out.height ≡ 2 ^ n → out.width ≡ c.width
      → ((i j : ℕ) → i < 2 ^ n → j < c.width → out.entry i j ≡ poly R c.height (λ q. c.entry q j) (power R (g n) i)) → IsValues R g c n 𝟙 out
  is_subgroup_values c n out h w e =
      is_values c n 𝟙 out h w (λ i j p q. e i j p q ∙ ap (poly R c.height (λ u. c.entry u j)) (sym (point_of_one n i)))

  -- ---- values as a matrix
  pub same_of_values : (c : Matrix A) (n : ℕ) (s : A) (out : Matrix A) → IsValues R g c n s out → Same out (values_on_coset R g c n s)
  same_of_values c n s out v = record {
    height = v.height;
    width = v.width;
    alike = λ i j p q. v.values i j (omega (arith, v.height)) (omega (arith, v.width));
  }

  pub values_of_same : (c : Matrix A) (n : ℕ) (s : A) (out : Matrix A) → Same out (values_on_coset R g c n s) → IsValues R g c n s out
  values_of_same c n s out e = record {
    height = e.height;
    width = e.width;
    values = λ i j p q. e.alike i j (omega (arith, e.height)) (omega (arith, e.width));
  }

  -- ---- one matrix of coefficients has one matrix of values
  pub values_same : (c : Matrix A) (n : ℕ) (s : A) (out other : Matrix A) → IsValues R g c n s out → Same out other → IsValues R g c n s other
  values_same c n s out other v e =
      values_of_same c n s other (same_trans other out (values_on_coset R g c n s) (same_sym out other e) (same_of_values c n s out v))

  pub values_unique : (c : Matrix A) (n : ℕ) (s : A) (out other : Matrix A) → IsValues R g c n s out → IsValues R g c n s other → Same out other
  values_unique c n s out other v w =
      same_trans out (values_on_coset R g c n s) other (same_of_values c n s out v) (same_sym other (values_on_coset R g c n s) (same_of_values c n s other w))

  -- ---- other coefficients
  -- coefficients d that are in each column a polynomial with the values of c's at the points
  pub values_from : (c d : Matrix A) (n : ℕ) (s t : A) (out : Matrix A) → d.width ≡ c.width
      → ((i j : ℕ) → i < 2 ^ n → j < c.width → poly R d.height (λ q. d.entry q j) (point R g n t i) ≡ poly R c.height (λ q. c.entry q j) (point R g n s i))
      → IsValues R g d n t out → IsValues R g c n s out
  values_from c d n s t out w e v =
      is_values c n s out v.height (v.width ∙ w) (λ i j p q. entry-poly d n t out v i j p (omega (arith, w)) ∙ e i j p q)

  -- equal coefficients have equal values
  pub coefficients_same : (c d : Matrix A) (n : ℕ) (s : A) (out : Matrix A) → Same c d → IsValues R g c n s out → IsValues R g d n s out
  coefficients_same c d n s out e v =
      values_from d c n s s out e.width (λ i j p q. poly_same R c.height (λ u. c.entry u j) (λ u. d.entry u j)
      (point R g n s i) (λ u l. e.alike u j l (omega (arith, e.width)))
      ∙ ap (λ h. poly R h (λ u. d.entry u j) (point R g n s i)) e.height) v

  -- the values of the shifted coefficients on a coset of t are the values on the coset of s t
  pub shifted_values : (c d : Matrix A) (n : ℕ) (s t : A) (out : Matrix A) → Same d (coset_shift R s c) → IsValues R g d n t out → IsValues R g c n (s ⊗ t) out
  shifted_values c d n s t out e v =
      values_from c d n (s ⊗ t) t out e.width (λ i j p q. ap (λ h. poly R h (λ u. d.entry u j) (point R g n t i)) e.height
      ∙ poly_same R c.height (λ u. d.entry u j) (λ u. c.entry u j ⊗ power R s u) (point R g n t i)
      (λ u l. e.alike u j (omega (arith, e.height)) (omega (arith, e.width)))
      ∙ poly-scaled R c.height (λ u. c.entry u j) s (point R g n t i)
      ∙ ap (poly R c.height (λ u. c.entry u j)) (moved n s t i)) v
    where
      moved : (n : ℕ) (s t : A) (i : ℕ) → s ⊗ point R g n t i ≡ point R g n (s ⊗ t) i
      moved n s t i = ap (λ x. s ⊗ x) (point-mul n t i) ∙ sym (R.mul_assoc s t (power R (g n) i)) ∙ sym (point-mul n (s ⊗ t) i)

  -- so a transform on the subgroup, of shifted coefficients, is one on the coset
  pub coset_values : (c d : Matrix A) (n : ℕ) (s : A) (out : Matrix A) → Same d (coset_shift R s c) → IsValues R g d n 𝟙 out → IsValues R g c n s out
  coset_values c d n s out e v = subst (λ (x : A). IsValues R g c n x out) (R.mul_one s) (shifted_values c d n s 𝟙 out e v)

  -- rows of zeros below the coefficients change no value
  pub padded_values : (c d : Matrix A) (n : ℕ) (s : A) (out : Matrix A) → c.height ≤ d.height → d.width ≡ c.width
      → ((i j : ℕ) → i < c.height → j < c.width → d.entry i j ≡ c.entry i j)
      → ((i j : ℕ) → c.height ≤ i → i < d.height → j < c.width → d.entry i j ≡ 𝟘)
      → IsValues R g d n s out → IsValues R g c n s out
  padded_values c d n s out h w same zeros v =
      let more = d.height - c.height in
      let split : d.height ≡ c.height + more = omega arith in
      values_from c d n s s out w (λ i j p q. ap (λ k. poly R k (λ u. d.entry u j) (point R g n s i)) split
      ∙ poly_padded R c.height more (λ u. d.entry u j) (point R g n s i) (λ u a b. zeros u j a (omega arith) q)
      ∙ poly_same R c.height (λ u. d.entry u j) (λ u. c.entry u j) (point R g n s i) (λ u l. same u j l q)) v
