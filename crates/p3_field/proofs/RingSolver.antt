-- Equations in a ring by computation. Write both sides as `Expr`, and `solve` gives the equation between their values:
-- both are multiplied out into sums of sorted products, and the sums are sorted. The last argument is `refl`, as in
--     solve R (a ∷ b ∷ []) ((va ⊞ vb) ⊠ (va ⊟ vb)) (va ⊠ va ⊟ vb ⊠ vb) refl
use Rattle.p3_field.proofs.Names.{◌≡◌, ℕ, zero, suc, refl, sym, ap, ap₂, ◌∙◌, List, [], ◌∷◌, ◌++◌, Bool, true, false, cond, leb, eqb, Ring}
use Rattle.p3_field.proofs.Rings

infixl 60 ◌⊞◌
infixl 60 ◌⊟◌
infixl 70 ◌⊠◌
pub data Expr : Type 0 where
  v : ℕ → Expr
  zeroₑ : Expr
  oneₑ : Expr
  ◌⊞◌ : Expr → Expr → Expr
  ◌⊠◌ : Expr → Expr → Expr
  ◌⊟◌ : Expr → Expr → Expr
  ⊝ : Expr → Expr

-- the first six variables, by the places of their values in the list
abbrev pub va : Expr
va = v 0

abbrev pub vb : Expr
vb = v 1

abbrev pub vc : Expr
vc = v 2

abbrev pub vd : Expr
vd = v 3

abbrev pub ve : Expr
ve = v 4

abbrev pub vf : Expr
vf = v 5

-- ---- normal forms: a product is a sorted list of variables, a sum a sorted list of products
abbrev pub ins : ℕ → List ℕ → List ℕ
ins k [] = k ∷ []
ins k (j ∷ m) = cond (leb k j) (k ∷ (j ∷ m)) (j ∷ ins k m)

abbrev pub mul_mono : List ℕ → List ℕ → List ℕ
mul_mono [] n = n
mul_mono (k ∷ m) n = ins k (mul_mono m n)

abbrev pub lex_le : List ℕ → List ℕ → Bool
lex_le [] n = true
lex_le (k ∷ m) [] = false
lex_le (k ∷ m) (j ∷ n) = cond (eqb k j) (lex_le m n) (leb k j)

abbrev pub put : List ℕ → List (List ℕ) → List (List ℕ)
put m [] = m ∷ []
put m (n ∷ p) = cond (lex_le m n) (m ∷ (n ∷ p)) (n ∷ put m p)

abbrev pub sort : List (List ℕ) → List (List ℕ)
sort [] = []
sort (m ∷ p) = put m (sort p)

abbrev pub scale : List ℕ → List (List ℕ) → List (List ℕ)
scale m [] = []
scale m (n ∷ p) = mul_mono m n ∷ scale m p

abbrev pub cross : List (List ℕ) → List (List ℕ) → List (List ℕ)
cross [] q = []
cross (m ∷ p) q = scale m q ++ cross p q

-- the summands with a plus, and those with a minus
pub record Signed : Type 0 where
  pub plus : List (List ℕ)
  pub minus : List (List ℕ)

abbrev pub spread : Expr → Signed
spread (v k) = record { plus = (k ∷ []) ∷ []; minus = [] }
spread zeroₑ = record { plus = []; minus = [] }
spread oneₑ = record { plus = [] ∷ []; minus = [] }
spread (a ⊞ b) = let x = spread a in let y = spread b in record { plus = x.plus ++ y.plus; minus = x.minus ++ y.minus }
spread (a ⊟ b) = let x = spread a in let y = spread b in record { plus = x.plus ++ y.minus; minus = x.minus ++ y.plus }
spread (⊝ a) = let x = spread a in record { plus = x.minus; minus = x.plus }
spread (a ⊠ b) =
    let x = spread a in
    let y = spread b in
    record { plus = cross x.plus y.plus ++ cross x.minus y.minus; minus = cross x.plus y.minus ++ cross x.minus y.plus }

abbrev pub Agree : Expr → Expr → Type 0
Agree a b = sort ((spread a).plus ++ (spread b).minus) ≡ sort ((spread b).plus ++ (spread a).minus)

module _ {A : Type 0} (R : Ring A) where
  open R use {add as ◌⊕◌, mul as ◌⊗◌, neg, zero as 𝟘, one as 𝟙}

  infixl 60 ◌⊕◌
  infixl 70 ◌⊗◌
  abbrev pub at : List A → ℕ → A
  at [] k = 𝟘
  at (x ∷ xs) zero = x
  at (x ∷ xs) (suc k) = at xs k

  abbrev pub ev : List A → Expr → A
  ev ρ (v k) = at ρ k
  ev ρ zeroₑ = 𝟘
  ev ρ oneₑ = 𝟙
  ev ρ (a ⊞ b) = ev ρ a ⊕ ev ρ b
  ev ρ (a ⊠ b) = ev ρ a ⊗ ev ρ b
  ev ρ (a ⊟ b) = ev ρ a ⊕ neg (ev ρ b)
  ev ρ (⊝ a) = neg (ev ρ a)

  abbrev mono : List A → List ℕ → A
  mono ρ [] = 𝟙
  mono ρ (k ∷ m) = at ρ k ⊗ mono ρ m

  abbrev total : List A → List (List ℕ) → A
  total ρ [] = 𝟘
  total ρ (m ∷ p) = mono ρ m ⊕ total ρ p

  abbrev signed : List A → Signed → A
  signed ρ s = total ρ s.plus ⊕ neg (total ρ s.minus)

  either {ℓ} : {B : Type ℓ} (f : B → A) (b : Bool) (x y : B) (z : A) → f x ≡ z → f y ≡ z → f (cond b x y) ≡ z
  either f true x y z p q = p
  either f false x y z p q = q

  mono-ins : (ρ : List A) (k : ℕ) (m : List ℕ) → mono ρ (ins k m) ≡ at ρ k ⊗ mono ρ m
  mono-ins ρ k [] = refl
  mono-ins ρ k (j ∷ m) =
      either (mono ρ) (leb k j) (k ∷ (j ∷ m)) (j ∷ ins k m) (at ρ k ⊗ (at ρ j ⊗ mono ρ m)) refl
      (ap (λ x. at ρ j ⊗ x) (mono-ins ρ k m) ∙ Rings.mul_left_comm R _ _ _)

  mono-mul : (ρ : List A) (m n : List ℕ) → mono ρ (mul_mono m n) ≡ mono ρ m ⊗ mono ρ n
  mono-mul ρ [] n = sym (Rings.one-mul R _)
  mono-mul ρ (k ∷ m) n = mono-ins ρ k (mul_mono m n) ∙ ap (λ x. at ρ k ⊗ x) (mono-mul ρ m n) ∙ sym (R.mul_assoc _ _ _)

  total-put : (ρ : List A) (m : List ℕ) (p : List (List ℕ)) → total ρ (put m p) ≡ mono ρ m ⊕ total ρ p
  total-put ρ m [] = refl
  total-put ρ m (n ∷ p) =
      either (total ρ) (lex_le m n) (m ∷ (n ∷ p)) (n ∷ put m p) (mono ρ m ⊕ (mono ρ n ⊕ total ρ p)) refl
      (ap (λ x. mono ρ n ⊕ x) (total-put ρ m p) ∙ Rings.add_left_comm R _ _ _)

  total-sort : (ρ : List A) (p : List (List ℕ)) → total ρ (sort p) ≡ total ρ p
  total-sort ρ [] = refl
  total-sort ρ (m ∷ p) = total-put ρ m (sort p) ∙ ap (λ x. mono ρ m ⊕ x) (total-sort ρ p)

  total-append : (ρ : List A) (p q : List (List ℕ)) → total ρ (p ++ q) ≡ total ρ p ⊕ total ρ q
  total-append ρ [] q = sym (Rings.zero-add R _)
  total-append ρ (m ∷ p) q = ap (λ x. mono ρ m ⊕ x) (total-append ρ p q) ∙ sym (R.add_assoc _ _ _)

  total-scale : (ρ : List A) (m : List ℕ) (q : List (List ℕ)) → total ρ (scale m q) ≡ mono ρ m ⊗ total ρ q
  total-scale ρ m [] = sym (Rings.mul-zero R _)
  total-scale ρ m (n ∷ q) = ap₂ ◌⊕◌ (mono-mul ρ m n) (total-scale ρ m q) ∙ sym (R.mul_add _ _ _)

  total-cross : (ρ : List A) (p q : List (List ℕ)) → total ρ (cross p q) ≡ total ρ p ⊗ total ρ q
  total-cross ρ [] q = sym (Rings.zero-mul R _)
  total-cross ρ (m ∷ p) q = total-append ρ (scale m q) (cross p q) ∙ ap₂ ◌⊕◌ (total-scale ρ m q) (total-cross ρ p q) ∙ sym (Rings.add-mul R _ _ _)

  sound_add : (a b c d : A) → (a ⊕ c) ⊕ neg (b ⊕ d) ≡ (a ⊕ neg b) ⊕ (c ⊕ neg d)
  sound_add a b c d = simp (Rings.neg-add R, R.add_assoc, Rings.add_left_comm R)

  sound_mul : (a b c d : A) → (a ⊗ c ⊕ b ⊗ d) ⊕ neg (a ⊗ d ⊕ b ⊗ c) ≡ (a ⊕ neg b) ⊗ (c ⊕ neg d)
  sound_mul a b c d = simp (R.mul_add, R.mul_comm, Rings.mul-neg R, Rings.neg-neg R, Rings.neg-add R, R.add_assoc, R.add_comm, Rings.add_left_comm R)

  sound_neg : (a b : A) → b ⊕ neg a ≡ neg (a ⊕ neg b)
  sound_neg a b = simp (Rings.neg-add R, Rings.neg-neg R, R.add_comm)

  sound : (ρ : List A) (e : Expr) → signed ρ (spread e) ≡ ev ρ e
  sound ρ (v k) = ap₂ ◌⊕◌ (R.add_zero _ ∙ R.mul_one _) (Rings.neg-zero R) ∙ R.add_zero _
  sound ρ zeroₑ = R.add_neg 𝟘
  sound ρ oneₑ = ap₂ ◌⊕◌ (R.add_zero 𝟙) (Rings.neg-zero R) ∙ R.add_zero 𝟙
  sound ρ (a ⊞ b) = let x = spread a in let y = spread b in
      ap₂ (λ p q. p ⊕ neg q) (total-append ρ x.plus y.plus) (total-append ρ x.minus y.minus) ∙ sound_add _ _ _ _ ∙ ap₂ ◌⊕◌ (sound ρ a) (sound ρ b)
  sound ρ (a ⊟ b) = let x = spread a in let y = spread b in
      ap₂ (λ p q. p ⊕ neg q) (total-append ρ x.plus y.minus) (total-append ρ x.minus y.plus) ∙ sound_add _ _ _ _
      ∙ ap₂ ◌⊕◌ (sound ρ a) (sound_neg _ _ ∙ ap neg (sound ρ b))
  sound ρ (⊝ a) = sound_neg _ _ ∙ ap neg (sound ρ a)
  sound ρ (a ⊠ b) = let x = spread a in let y = spread b in
      ap₂ (λ p q. p ⊕ neg q)
      (total-append ρ (cross x.plus y.plus) (cross x.minus y.minus) ∙ ap₂ ◌⊕◌ (total-cross ρ x.plus y.plus) (total-cross ρ x.minus y.minus))
      (total-append ρ (cross x.plus y.minus) (cross x.minus y.plus) ∙ ap₂ ◌⊕◌ (total-cross ρ x.plus y.minus) (total-cross ρ x.minus y.plus))
      ∙ sound_mul _ _ _ _ ∙ ap₂ ◌⊗◌ (sound ρ a) (sound ρ b)

  -- two differences are equal where the crossed sums are
  crossed : (a b c d : A) → a ⊕ d ≡ c ⊕ b → a ⊕ neg b ≡ c ⊕ neg d
  crossed a b c d e =
      let p : (a ⊕ neg b) ≡ (a ⊕ d) ⊕ (neg b ⊕ neg d) =
      sym (R.add_assoc a d (neg b ⊕ neg d)
      ∙ ap (λ x. a ⊕ x)
      (Rings.add_left_comm R d (neg b) (neg d) ∙ ap (λ x. neg b ⊕ x) (R.add_neg d) ∙ R.add_zero (neg b))) in
      let q : (c ⊕ neg d) ≡ (c ⊕ b) ⊕ (neg b ⊕ neg d) =
      sym (R.add_assoc c b (neg b ⊕ neg d)
      ∙ ap (λ x. c ⊕ x)
      (sym (R.add_assoc b (neg b) (neg d)) ∙ ap (λ x. x ⊕ neg d) (R.add_neg b) ∙ Rings.zero-add R (neg d))) in
      p ∙ ap (λ x. x ⊕ (neg b ⊕ neg d)) e ∙ sym q

  pub solve : (ρ : List A) (a b : Expr) → Agree a b → ev ρ a ≡ ev ρ b
  solve ρ a b e =
      let x = spread a in
      let y = spread b in
      let s : total ρ x.plus ⊕ total ρ y.minus ≡ total ρ y.plus ⊕ total ρ x.minus =
      sym (total-append ρ x.plus y.minus) ∙ sym (total-sort ρ (x.plus ++ y.minus)) ∙ ap (total ρ) e
      ∙ total-sort ρ (y.plus ++ x.minus) ∙ total-append ρ y.plus x.minus in
      sym (sound ρ a) ∙ crossed (total ρ x.plus) (total ρ x.minus) (total ρ y.plus) (total ρ y.minus) s ∙ sound ρ b

  -- the same, by the equation of `p` and `q` times `c`
  pub solve_by : (ρ : List A) (a b c p q : Expr) → ev ρ p ≡ ev ρ q → Agree (a ⊞ c ⊠ q) (b ⊞ c ⊠ p) → ev ρ a ≡ ev ρ b
  solve_by ρ a b c p q h e =
      Rings.add_cancel R (ev ρ c ⊗ ev ρ p) (ev ρ a) (ev ρ b)
      (R.add_comm (ev ρ c ⊗ ev ρ p) (ev ρ a) ∙ ap (λ x. ev ρ a ⊕ ev ρ c ⊗ x) h ∙ solve ρ (a ⊞ c ⊠ q) (b ⊞ c ⊠ p) e ∙ R.add_comm (ev ρ b) (ev ρ c ⊗ ev ρ p))
