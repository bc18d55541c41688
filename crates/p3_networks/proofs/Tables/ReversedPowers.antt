-- Powers in bit reversed order, as they are made.
use Rattle.p3_networks.proofs.Names.{◌≡◌, Bool, true, false, ℕ, suc, ◌+◌, ◌*◌, ◌-◌, ◌<◌, ◌^◌, refl, sym, ap, ap₂, ◌∙◌, arith, add-one, ⊎_elim, cases_lt, Ring}
use Rattle.p3_networks.proofs.Names.{power, power-add, rev, rev_of_zero, rev-odd, rev-block, layer_place}

-- one binary digit more in front is one more behind
pub rev_above : (n l t : ℕ) → l < n → t < 2 ^ l → rev n (2 ^ l + t) ≡ rev n t + 2 ^ (n - 1 - l)
rev_above n l t below inside =
    let m = n - 1 - l in
    let size : n ≡ l + suc m = omega arith in
    let with_one : 2 ^ l + t ≡ 1 * 2 ^ l + t = omega arith in
    let with_none : t ≡ 0 * 2 ^ l + t = omega arith in
    let last : rev (suc m) 1 ≡ 2 ^ m + rev m 0 = rev-odd m 0 in
    let high : rev n (2 ^ l + t) ≡ rev l t * 2 ^ suc m + rev (suc m) 1 = ap₂ rev size with_one ∙ rev-block l (suc m) 1 t inside in
    let low : rev n t ≡ rev l t * 2 ^ suc m + rev (suc m) 0 = ap₂ rev size with_none ∙ rev-block l (suc m) 0 t inside in
    omega (arith, high, low, last, rev_of_zero m, rev_of_zero (suc m))

-- how far the place of an entry is from that of the one half a layer before
abbrev pub layer_step : Bool → ℕ → ℕ → ℕ
layer_step true n l = n - 1 - l
layer_step false n l = l

pub place_above : (reversed : Bool) (n l t : ℕ) → l < n → t < 2 ^ l
    → layer_place reversed n (2 ^ l + t) ≡ layer_place reversed n t + 2 ^ layer_step reversed n l
place_above true n l t below inside = rev_above n l t below inside
place_above false n l t below inside = let e : 2 ^ l + t ≡ t + 2 ^ l = omega arith in e

-- the first entry is that of place 0
pub place_of_none : (reversed : Bool) (n : ℕ) → layer_place reversed n 0 ≡ 0
place_of_none true n = rev_of_zero n
place_of_none false n = refl

module _ {A : Type 0} (R : Ring A) where
  open R use {mul as ◌⊗◌}

  infixl 70 ◌⊗◌
  -- the first 2 ^ l of some powers, and after them each once more times a factor
  pub powers_doubled : (first base factor : A) (place : ℕ → ℕ) (l e : ℕ) (x y : ℕ → A) → factor ≡ power R base (2 ^ e)
      → ((b : ℕ) → b < 2 ^ l → place (2 ^ l + b) ≡ place b + 2 ^ e)
      → ((b : ℕ) → b < 2 ^ l → x b ≡ first ⊗ power R base (place b))
      → ((b : ℕ) → b < 2 ^ l → y b ≡ x b) → ((b : ℕ) → b < 2 ^ l → y (2 ^ l + b) ≡ x b ⊗ factor)
      → (b : ℕ) → b < 2 ^ (l + 1) → y b ≡ first ⊗ power R base (place b)
  powers_doubled first base factor place l e x y is above so_far before after b inside =
      ⊎_elim
      (λ less. before b less ∙ so_far b less)
      (λ more.
      let t = b - 2 ^ l in
      let whole : 2 ^ l + t ≡ b = omega arith in
      let twice : 2 ^ (l + 1) ≡ 2 * 2 ^ l = ap (λ k. 2 ^ k) (add-one l) ∙ omega arith in
      let small : t < 2 ^ l = omega arith in
      ap y (sym whole) ∙ after t small ∙ ap₂ ◌⊗◌ (so_far t small) is ∙ R.mul_assoc first (power R base (place t)) (power R base (2 ^ e))
      ∙ ap (λ z. first ⊗ z) (sym (power-add R base (place t) (2 ^ e)) ∙ ap (power R base) (sym (above t small) ∙ ap place whole)))
      (cases_lt b (2 ^ l))
