-- Inverses as a test of numbers.
use Rattle.std.proofs.Common.{◌≡◌, ℕ, ◌<◌, ◌==◌, Bool, true, false, ◌||◌, List, [], ◌∷◌, length, get_or, Option, Some}
use Rattle.std.proofs.Common.{None, is_some, IfSome, IsNone, refl, sym, ap, ◌∙◌, arith, eq-eqb}
use Rattle.std.specs.List.{list_any, range_with_len}
use Rattle.std.proofs.lemmas.Bool.{eqb-true}
use Rattle.std.proofs.lemmas.List.Folds.{list_any_at}
use Rattle.std.proofs.lemmas.List.FromFn.{get_or-range_with_len, length-range_with_len}
use Rattle.p3_field.specs.declared.fields.Valued.{Ghosts as FieldMembers}
use Rattle.p3_field.specs.Ring.{IsInverse, IsInvertible}
use Rattle.dft_program.specs.NumberedFields.{NumberedField, numbered, has_inverse}
use Rattle.dft_program.proofs.Elements.{false_unless}

module _ {A : Type 0} (f : NumberedField A) (x : A) where
  -- the element with this number is an inverse
  abbrev undoes : ℕ → Bool
  undoes n = f.number (f.ring.mul x (f.element n)) == f.number f.ring.one

  has_inverse-true : (y : A) → f.number y < f.modulus → f.element (f.number y) ≡ y → IsInverse f.ring x y → has_inverse f x ≡ true
  unfolding has_inverse
  has_inverse-true y below named inverse =
      let n = f.number y in
      let within : n < length (range_with_len 0 f.modulus) = rw (length-range_with_len 0 f.modulus) below in
      let here : get_or (range_with_len 0 f.modulus) n 0 ≡ n = get_or-range_with_len 0 f.modulus n 0 below ∙ omega arith in
      let one : f.number (f.ring.mul x (f.element n)) ≡ f.number f.ring.one = ap f.number (ap (f.ring.mul x) named ∙ inverse) in
      list_any_at undoes (range_with_len 0 f.modulus) n 0 within (ap undoes here ∙ eq-eqb _ _ one)

  module _ (injective : (a b : A) → f.number a ≡ f.number b → a ≡ b) where
    found_in : (n : ℕ) (rest b : Bool) → undoes n ≡ b → (b || rest) ≡ true → (rest ≡ true → IsInvertible f.ring x) → IsInvertible f.ring x
    found_in n rest true is e later = (f.element n, injective (f.ring.mul x (f.element n)) f.ring.one (eqb-true _ _ is))
    found_in n rest false is e later = later e

    found : (ns : List ℕ) → list_any undoes ns ≡ true → IsInvertible f.ring x
    found [] e = absurd (cc)
    found (n ∷ ns) e = found_in n (list_any undoes ns) (undoes n) refl e (found ns)

    pub has_inverse-from_true : has_inverse f x ≡ true → IsInvertible f.ring x
    unfolding has_inverse
    has_inverse-from_true e = found (range_with_len 0 f.modulus) e

module _ {F : Type 0} (f : FieldMembers F) (generator : ℕ → F) (two_adicity modulus : ℕ) (element : ℕ → f.Element)
    (injective : (a b : f.Element) → f.number a ≡ f.number b → a ≡ b)
    (named : (n : ℕ) → n < modulus → f.number (element n) ≡ n) (below : (x : F) → f.number (f.value x) < modulus) where
  -- an element is the one with its number
  pub element_is : (x : F) → element (f.number (f.value x)) ≡ f.value x
  element_is x = injective (element (f.number (f.value x))) (f.value x) (named (f.number (f.value x)) (below x))

  -- what finds an inverse exactly where there is one decides the test
  pub finds : (x : F) (o : Option F) (number : ℕ) → f.number (f.value x) ≡ number → IfSome o (λ y. IsInverse f.ring (f.value x) (f.value y))
      → (IsNone o → ¬ (IsInvertible f.ring (f.value x))) → is_some o ≡ has_inverse (numbered f generator two_adicity modulus element) (element number)
  finds x (Some y) number is some none =
      rw (sym is, element_is x) (sym (has_inverse-true (numbered f generator two_adicity modulus element) (f.value x)
      (f.value y) (below y) (element_is y) some))
  finds x None number is some none =
      rw (sym is, element_is x)
      (false_unless (has_inverse (numbered f generator two_adicity modulus element) (f.value x))
      (λ e. none refl (has_inverse-from_true (numbered f generator two_adicity modulus element) (f.value x) injective e)))

-- the inverse that was found is one of each element of that number
pub inverts : {F : Type 0} (f : FieldMembers F) → ((a b : f.Element) → f.number a ≡ f.number b → a ≡ b)
    → (x y : F) (o : Option F) → f.number (f.value y) ≡ f.number (f.value x)
    → IfSome o (λ z. IsInverse f.ring (f.value x) (f.value z)) → is_some o ≡ true → IsInvertible f.ring (f.value y)
inverts f injective x y (Some z) same some is = (f.value z, ap (λ a. f.ring.mul a (f.value z)) (injective (f.value y) (f.value x) same) ∙ some)
inverts f injective x y None same some is = absurd (cc)
