-- Roots of one: powers of the generators of two-power subgroups, the inverse roots, and what is doubled as often as a root is
-- squared. The bound of each lemma says up to which root the generators' law is used.
use Rattle.p3_field.proofs.Names.{◌≡◌, ℕ, zero, suc, ◌+◌, ◌*◌, ◌-◌, ◌<◌, ◌≤◌, ◌^◌, refl, sym, ap, ap₂, ◌∙◌, [], ◌∷◌, arith, pow_pos, Ring, power, AreRoots, two}
use Rattle.p3_field.proofs.RingSolver.{solve, va, vb, ◌⊞◌}
use Rattle.p3_field.proofs.Powers.{power-zero, power-suc, power-one, power-add, power_of_one, power_of_product, power-mul, power-twice, power-inverse}
use Rattle.p3_field.proofs.Rings

-- each root of g times that of h is one
pub record AreInverseRoots {A : Type 0} (R : Ring A) (bits : ℕ) (g h : ℕ → A) : Type 0 where
  pub undo : (n : ℕ) → n ≤ bits → R.mul (g n) (h n) ≡ R.one

pub inverse_roots_sym : {A : Type 0} (R : Ring A) {bits : ℕ} {g h : ℕ → A} → AreInverseRoots R bits g h → AreInverseRoots R bits h g
inverse_roots_sym R {g = g} {h = h} I = record { undo = λ n b. R.mul_comm (h n) (g n) ∙ I.undo n b }

-- the inverse of the n-th root, as a power of it
abbrev pub inverse_root : {A : Type 0} → Ring A → (ℕ → A) → ℕ → A
inverse_root R g n = power R (g n) (2 ^ n - 1)

module _ {A : Type 0} (R : Ring A) {g : ℕ → A} {bits : ℕ} (G : AreRoots R bits g) where
  open R use {add as ◌⊕◌, mul as ◌⊗◌, neg, zero as 𝟘, one as 𝟙}

  infixl 60 ◌⊕◌
  infixl 70 ◌⊗◌
  pub root_twice : (n t : ℕ) → n < bits → power R (g (suc n)) (2 * t) ≡ power R (g n) t
  root_twice n t b = power-twice R _ t ∙ ap (λ x. power R x t) (G.square n b)

  pub root_half : (n : ℕ) → n < bits → power R (g (suc n)) (2 ^ n) ≡ neg 𝟙
  root_half zero b = power-one R _ ∙ G.second
  root_half (suc n) b =
      let e : 2 ^ suc n ≡ 2 * 2 ^ n = omega arith in
      ap (power R (g (suc (suc n)))) e ∙ root_twice (suc n) (2 ^ n) b ∙ root_half n (omega arith)

  pub root_whole : (n : ℕ) → n ≤ bits → power R (g n) (2 ^ n) ≡ 𝟙
  root_whole zero b = power-one R _ ∙ G.first
  root_whole (suc n) b = let e : 2 ^ suc n ≡ 2 * 2 ^ n = omega arith in ap (power R (g (suc n))) e ∙ root_twice n (2 ^ n) b ∙ root_whole n (omega arith)

  -- the other half of the circle
  pub root_across : (n t : ℕ) → n < bits → power R (g (suc n)) (2 ^ n + t) ≡ neg (power R (g (suc n)) t)
  root_across n t b = power-add R _ (2 ^ n) t ∙ ap (λ x. x ⊗ power R (g (suc n)) t) (root_half n b) ∙ Rings.neg-mul R _ _ ∙ ap neg (Rings.one-mul R _)

  pub root_round : (n t : ℕ) → n ≤ bits → power R (g n) (2 ^ n + t) ≡ power R (g n) t
  root_round n t b = power-add R _ (2 ^ n) t ∙ ap (λ x. x ⊗ power R (g n) t) (root_whole n b) ∙ Rings.one-mul R _

  -- every 2 ^ m-th power of a root is a power of a lower one: the entries of the one table
  pub root_strided : (l m t : ℕ) → l + m ≤ bits → power R (g (l + m)) (t * 2 ^ m) ≡ power R (g l) t
  root_strided l zero t b = let e : l + 0 ≡ l = omega arith in let d : t * 2 ^ 0 ≡ t = omega arith in ap₂ (λ a b. power R (g a) b) e d
  root_strided l (suc m) t b =
      let e : l + suc m ≡ suc (l + m) = omega arith in
      let p : 2 ^ suc m ≡ 2 * 2 ^ m = omega arith in
      let q : t * (2 * 2 ^ m) ≡ 2 * (t * 2 ^ m) = omega arith in
      let d = ap (λ (y : ℕ). t * y) p ∙ q in
      ap₂ (λ a b. power R (g a) b) e d ∙ root_twice (l + m) (t * 2 ^ m) (omega arith) ∙ root_strided l m t (omega arith)

  pub root_squared : (n t : ℕ) → n < bits → power R (g (suc n)) t ⊗ power R (g (suc n)) t ≡ power R (g n) t
  root_squared n t b = sym (power_of_product R _ _ t) ∙ ap (λ x. power R x t) (G.square n b)

  pub root_all : (n t : ℕ) → n ≤ bits → power R (g n) (t * 2 ^ n) ≡ 𝟙
  root_all n t b =
      let e : t * 2 ^ n ≡ 2 ^ n * t = omega arith in
      ap (power R (g n)) e ∙ power-mul R (g n) (2 ^ n) t ∙ ap (λ x. power R x t) (root_whole n b) ∙ power_of_one R t

  -- ---- the inverse roots
  pub inverse_roots : AreRoots R bits (inverse_root R g)
  inverse_roots = record {
    first = power-zero R (g 0);
    second = power-one R (g 1) ∙ G.second;
    square = squares;
  }
    where
      squares : (n : ℕ) → n < bits → power R (g (suc n)) (2 ^ suc n - 1) ⊗ power R (g (suc n)) (2 ^ suc n - 1) ≡ power R (g n) (2 ^ n - 1)
      squares n b =
          let p : 0 < 2 ^ n = pow_pos n in
          let e : 2 ^ suc n - 1 ≡ 2 ^ n + (2 ^ n - 1) = omega arith in
          root_squared n (2 ^ suc n - 1) b ∙ ap (power R (g n)) e ∙ root_round n (2 ^ n - 1) (omega arith)

  pub inverse_undoes : AreInverseRoots R bits g (inverse_root R g)
  inverse_undoes = record { undo = undo }
    where
      undo : (n : ℕ) → n ≤ bits → g n ⊗ power R (g n) (2 ^ n - 1) ≡ 𝟙
      undo n b =
          let p : 0 < 2 ^ n = pow_pos n in
          let e : suc (2 ^ n - 1) ≡ 2 ^ n = omega arith in
          sym (power-suc R (g n) (2 ^ n - 1)) ∙ ap (power R (g n)) e ∙ root_whole n b

  -- a power of an inverse root is a power of the root, from the other end
  pub inverse_power : {h : ℕ → A} → AreInverseRoots R bits g h → (n j k : ℕ) → n ≤ bits → j + k ≡ 2 ^ n → power R (h n) j ≡ power R (g n) k
  inverse_power {h} I n j k b e =
      let one : power R (g n) j ⊗ power R (h n) j ≡ 𝟙 = power-inverse R (g n) (h n) j (I.undo n b) in
      let whole : power R (g n) j ⊗ power R (g n) k ≡ 𝟙 = sym (power-add R (g n) j k) ∙ ap (power R (g n)) e ∙ root_whole n b in
      Rings.inverse_unique R (power R (g n) j) (power R (h n) j) (power R (g n) k) one whole

module _ {A : Type 0} (R : Ring A) where
  open R use {add as ◌⊕◌, mul as ◌⊗◌, neg, zero as 𝟘, one as 𝟙}

  infixl 60 ◌⊕◌
  infixl 70 ◌⊗◌
  -- ---- doubling and halving
  unfoldable pub doubled : ℕ → A → A
  doubled zero a = a
  doubled (suc n) a = doubled n (a ⊕ a)

  pub doubled_add : (n : ℕ) (a b : A) → doubled n (a ⊕ b) ≡ doubled n a ⊕ doubled n b
  unfolding doubled
  doubled_add zero a b = refl
  doubled_add (suc n) a b = ap (doubled n) (solve R (a ∷ b ∷ []) ((va ⊞ vb) ⊞ (va ⊞ vb)) ((va ⊞ va) ⊞ (vb ⊞ vb)) refl) ∙ doubled_add n (a ⊕ a) (b ⊕ b)

  -- it is a product by a power of two
  pub doubled-power : (n : ℕ) (a : A) → doubled n a ≡ power R (two R) n ⊗ a
  unfolding doubled
  doubled-power zero a = sym (ap (λ x. x ⊗ a) (power-zero R (two R)) ∙ Rings.one-mul R a)
  doubled-power (suc n) a =
      doubled-power n (a ⊕ a) ∙ ap (λ x. power R (two R) n ⊗ x) (sym (Rings.two-mul R a)) ∙ sym (R.mul_assoc (power R (two R) n) (two R) a)
      ∙ ap (λ x. x ⊗ a) (R.mul_comm (power R (two R) n) (two R) ∙ sym (power-suc R (two R) n))

  unfoldable pub halved : ℕ → A → A
  halved n a = power R R.half n ⊗ a

  pub halved-power : (n : ℕ) (a : A) → halved n a ≡ power R R.half n ⊗ a
  unfolding halved
  halved-power n a = refl

  pub halved-doubled : (n : ℕ) (a : A) → halved n (doubled n a) ≡ a
  unfolding halved doubled
  halved-doubled zero a = ap (λ x. x ⊗ a) (power-zero R R.half) ∙ Rings.one-mul R a
  halved-doubled (suc n) a =
      ap (λ x. x ⊗ doubled n (a ⊕ a)) (power-suc R R.half n) ∙ R.mul_assoc R.half (power R R.half n) (doubled n (a ⊕ a))
      ∙ ap (λ x. R.half ⊗ x) (halved-doubled n (a ⊕ a)) ∙ Rings.half-double R a
