-- What follows from the laws of a ring. The laws themselves are fields, as `R.add_comm`.
use Rattle.p3_field.proofs.Names.{◌≡◌, sym, ap, ap₂, ◌∙◌, Ring, two}

module _ {A : Type 0} (R : Ring A) where
  open R use {add as ◌⊕◌, mul as ◌⊗◌, neg, zero as 𝟘, one as 𝟙}

  infixl 60 ◌⊕◌
  infixl 70 ◌⊗◌
  pub add_left_comm : (a b c : A) → a ⊕ (b ⊕ c) ≡ b ⊕ (a ⊕ c)
  add_left_comm a b c = sym (R.add_assoc a b c) ∙ ap (λ x. x ⊕ c) (R.add_comm a b) ∙ R.add_assoc b a c

  pub mul_left_comm : (a b c : A) → a ⊗ (b ⊗ c) ≡ b ⊗ (a ⊗ c)
  mul_left_comm a b c = sym (R.mul_assoc a b c) ∙ ap (λ x. x ⊗ c) (R.mul_comm a b) ∙ R.mul_assoc b a c

  pub zero-add : (a : A) → 𝟘 ⊕ a ≡ a
  zero-add a = R.add_comm 𝟘 a ∙ R.add_zero a

  pub one-mul : (a : A) → 𝟙 ⊗ a ≡ a
  one-mul a = R.mul_comm 𝟙 a ∙ R.mul_one a

  pub add-mul : (a b c : A) → (a ⊕ b) ⊗ c ≡ (a ⊗ c) ⊕ (b ⊗ c)
  add-mul a b c = R.mul_comm (a ⊕ b) c ∙ R.mul_add c a b ∙ ap₂ ◌⊕◌ (R.mul_comm c a) (R.mul_comm c b)

  -- what is added on both sides can go
  pub add_cancel : (c a b : A) → c ⊕ a ≡ c ⊕ b → a ≡ b
  add_cancel c a b e =
      let back =
      λ (x : A). (let z : neg c ⊕ (c ⊕ x) ≡ x =
      sym (R.add_assoc (neg c) c x) ∙ ap (λ y. y ⊕ x) (R.add_comm (neg c) c ∙ R.add_neg c) ∙ zero-add x in
      z) in
      sym (back a) ∙ ap (λ x. neg c ⊕ x) e ∙ back b

  pub neg_unique : (a b : A) → a ⊕ b ≡ 𝟘 → b ≡ neg a
  neg_unique a b e = add_cancel a b (neg a) (e ∙ sym (R.add_neg a))

  pub neg-neg : (a : A) → neg (neg a) ≡ a
  neg-neg a = sym (neg_unique (neg a) a (R.add_comm (neg a) a ∙ R.add_neg a))

  pub neg-zero : neg 𝟘 ≡ 𝟘
  neg-zero = sym (neg_unique 𝟘 𝟘 (R.add_zero 𝟘))

  pub neg-add : (a b : A) → neg (a ⊕ b) ≡ neg a ⊕ neg b
  neg-add a b =
      sym (neg_unique (a ⊕ b) (neg a ⊕ neg b)
      (R.add_assoc a b (neg a ⊕ neg b) ∙ ap (λ x. a ⊕ x) (add_left_comm b (neg a) (neg b) ∙ ap (λ x. neg a ⊕ x)
      (R.add_neg b) ∙ R.add_zero (neg a)) ∙ R.add_neg a))

  pub mul-zero : (a : A) → a ⊗ 𝟘 ≡ 𝟘
  mul-zero a = add_cancel (a ⊗ 𝟘) (a ⊗ 𝟘) 𝟘 (sym (R.mul_add a 𝟘 𝟘) ∙ ap (λ x. a ⊗ x) (R.add_zero 𝟘) ∙ sym (R.add_zero (a ⊗ 𝟘)))

  pub zero-mul : (a : A) → 𝟘 ⊗ a ≡ 𝟘
  zero-mul a = R.mul_comm 𝟘 a ∙ mul-zero a

  pub mul-neg : (a b : A) → a ⊗ neg b ≡ neg (a ⊗ b)
  mul-neg a b = neg_unique (a ⊗ b) (a ⊗ neg b) (sym (R.mul_add a b (neg b)) ∙ ap (λ x. a ⊗ x) (R.add_neg b) ∙ mul-zero a)

  pub neg-mul : (a b : A) → neg a ⊗ b ≡ neg (a ⊗ b)
  neg-mul a b = R.mul_comm (neg a) b ∙ mul-neg b a ∙ ap neg (R.mul_comm b a)

  pub two-mul : (a : A) → two R ⊗ a ≡ a ⊕ a
  two-mul a = add-mul 𝟙 𝟙 a ∙ ap₂ ◌⊕◌ (one-mul a) (one-mul a)

  -- half of what is doubled
  pub half-double : (a : A) → R.half ⊗ (a ⊕ a) ≡ a
  half-double a = R.mul_add R.half a a ∙ sym (add-mul R.half R.half a) ∙ ap (λ x. x ⊗ a) R.half_twice ∙ one-mul a

  -- an element has one inverse
  pub inverse_unique : (a b c : A) → a ⊗ b ≡ 𝟙 → a ⊗ c ≡ 𝟙 → b ≡ c
  inverse_unique a b c e d =
      sym (R.mul_one b) ∙ ap (λ x. b ⊗ x) (sym d) ∙ sym (R.mul_assoc b a c) ∙ ap (λ x. x ⊗ c) (R.mul_comm b a ∙ e) ∙ one-mul c
