-- The cosets of the slots of an extension: all cosets of zero are one, and otherwise no two slots have the same.
use Rattle.p3_networks.proofs.Names.{◌≡◌, ◌≢◌, ℕ, ◌+◌, ◌<◌, ◌≤◌, ◌^◌, ◌⊎◌, inl, inr, sym, ap, ap₂, ◌∙◌, arith, lit≤, pow-le-pow_right, Ring, AreRoots, power}
use Rattle.p3_networks.proofs.Names.{rev, point, rev-lt, rev-rev, point-mul, point_of_one, points_apart}
use Rattle.p3_field.proofs.Rings

-- how many slots have a coset that none before them has
abbrev pub AreSlotsApart : {A : Type 0} (R : Ring A) → A → ℕ → ℕ → Type 0
AreSlotsApart R s a slots = ((s ≡ R.zero) × (slots ≡ 1)) ⊎ (((s ≡ R.zero) → ⊥) × (slots ≡ 2 ^ a))

module _ {A : Type 0} (R : Ring A) (g : ℕ → A) where
  open R use {add as ◌⊕◌, mul as ◌⊗◌, neg, zero as 𝟘, one as 𝟙}

  infixl 60 ◌⊕◌
  infixl 70 ◌⊗◌
  -- where two points of a coset are one, its shift is zero
  point_twice : {bits : ℕ} → AreRoots R bits g → (n : ℕ) (s : A) (i j : ℕ) → n ≤ bits → i < 2 ^ n → j < 2 ^ n → i ≢ j
      → point R g n s j ≡ point R g n s i → s ≡ 𝟘
  point_twice G n s i j b first second different same =
      let (v, undo) = points_apart R G n 𝟙 i j b (𝟙, R.mul_one 𝟙) first second different in
      sym (R.mul_one s) ∙ ap (λ z. s ⊗ z) (sym undo) ∙ sym (R.mul_assoc s (point R g n 𝟙 j ⊕ neg (point R g n 𝟙 i)) v)
      ∙ ap (λ z. z ⊗ v) none ∙ Rings.zero-mul R v
    where
      scaled : (c : ℕ) → s ⊗ point R g n 𝟙 c ≡ point R g n s c
      scaled c = ap (λ z. s ⊗ z) (point_of_one R g n c) ∙ sym (point-mul R g n s c)

      none : s ⊗ (point R g n 𝟙 j ⊕ neg (point R g n 𝟙 i)) ≡ 𝟘
      none =
          R.mul_add s (point R g n 𝟙 j) (neg (point R g n 𝟙 i)) ∙ ap₂ ◌⊕◌ (scaled j ∙ same) (Rings.mul-neg R s (point R g n 𝟙 i) ∙ ap neg (scaled i))
          ∙ R.add_neg (point R g n s i)

  -- so two of these slots have two cosets
  pub slots_differ : {bits : ℕ} → AreRoots R bits g → (k a : ℕ) (s : A) (slots m p : ℕ) → k + a ≤ bits → AreSlotsApart R s a slots → m < p → p < slots
      → point R g (k + a) s (rev a m) ≡ point R g (k + a) s (rev a p) → ⊥
  slots_differ G k a s slots m p b (inl (is, one)) before below same = omega (arith, before, below, one)
  slots_differ G k a s slots m p b (inr (other, all)) before below same =
      other (point_twice G (k + a) s (rev a p) (rev a m) b (inside p) (inside m) different same)
    where
      inside : (q : ℕ) → rev a q < 2 ^ (k + a)
      inside q = let more : 2 ^ a ≤ 2 ^ (k + a) = pow-le-pow_right {n = 2} (lit≤ tt) (omega arith) in omega (arith, rev-lt a q, more)

      different : rev a p ≢ rev a m
      different e =
          let back : p ≡ m = sym (rev-rev a p (omega (arith, below, all))) ∙ ap (rev a) e ∙ rev-rev a m (omega (arith, before, below, all)) in
          omega (arith, back, before)

  -- and each coset is that of one of them
  pub slot_of_coset : (k a : ℕ) (s : A) (slots c : ℕ) → AreSlotsApart R s a slots → c < 2 ^ a
      → (m : ℕ) × (m < slots) × (point R g (k + a) s (rev a m) ≡ point R g (k + a) s c)
  slot_of_coset k a s slots c (inl (is, one)) below = (0, omega (arith, one), zero_point (rev a 0) ∙ sym (zero_point c))
    where
      zero_point : (i : ℕ) → point R g (k + a) s i ≡ 𝟘
      zero_point i = point-mul R g (k + a) s i ∙ ap (λ z. z ⊗ power R (g (k + a)) i) is ∙ Rings.zero-mul R (power R (g (k + a)) i)
  slot_of_coset k a s slots c (inr (other, all)) below = (rev a c, omega (arith, rev-lt a c, all), ap (point R g (k + a) s) (rev-rev a c below))
