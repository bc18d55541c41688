-- Euclid's algorithm modulo an odd number.
use Rattle.p3_field.proofs.Names.{◌≡◌, ℕ, ◌+◌, ◌-◌, ◌*◌, ◌/◌, ◌%◌, ◌<◌, sym, ◌∙◌, ap, ap₂, subst, arith, refl, [], ◌∷◌, mul-mod, dvd_trans, IsGcd, ◌∣◌}
use Rattle.p3_field.proofs.Names.{mul-mod-mod, Residue, residue-eq, residue_of, residues, IsProduct, Ring, minus, mul_comm}
use Rattle.std.proofs.Math.Nat.{mod-add-div, add-mod, dvd-add_iff_right, dvd-mul_right, eq-one_of_dvd-one}
use Rattle.p3_field.proofs.RingSolver.{solve, ◌⊞◌, ◌⊟◌, ◌⊠◌, va, vb, vc, vd}

-- a step on the factors f and g of high and low, in any ring
euclid_step : {A : Type 0} (r : Ring A) (f g q x high low rest : A) → r.mul f x ≡ high → r.mul g x ≡ low
    → high ≡ r.add (r.mul q low) rest → r.mul (minus r f (r.mul q g)) x ≡ rest
euclid_step r f g q x high low rest a b e =
    solve r (f ∷ g ∷ q ∷ x ∷ []) ((va ⊟ vc ⊠ vb) ⊠ vd) (va ⊠ vd ⊟ vc ⊠ (vb ⊠ vd)) refl
    ∙ ap₂ (λ y z. minus r y (r.mul q z)) (a ∙ e) b
    ∙ solve r (q ∷ low ∷ rest ∷ []) (va ⊠ vb ⊞ vc ⊟ va ⊠ vb) vc refl

module _ (m : ℕ) (above : 1 < m) (odd : m % 2 ≡ 1) where
  -- the same step on numbers
  pub bezout_step : (x high low f g : ℕ) → (f * x) % m ≡ high % m → (g * x) % m ≡ low % m
      → ((f + (m - high / low * g % m)) % m * x) % m ≡ (high % low) % m
  bezout_step x high low f g a b =
      let r = residues m above odd in
      let residue : ℕ → Residue m = residue_of m above odd in
      let q : ℕ = high / low in
      let rest : ℕ = high % low in
      let divides : q * low + rest ≡ high = omega (arith, mod-add-div high low, mul_comm q low) in
      let product : (y z : ℕ) → r.mul (residue y) (residue z) ≡ residue (y * z) = λ y z. residue-eq _ _ (sym (mul-mod y z m)) in
      let divided : residue high ≡ r.add (r.mul (residue q) (residue low)) (residue rest) =
      sym (ap (λ y. r.add y (residue rest)) (product q low)
      ∙ residue-eq (r.add (residue (q * low)) (residue rest)) (residue high)
      (sym (add-mod (q * low) rest m) ∙ ap (λ k. k % m) divides)) in
      let e : r.mul (minus r (residue f) (r.mul (residue q) (residue g))) (residue x) ≡ residue rest =
      euclid_step r (residue f) (residue g) (residue q) (residue x) (residue high) (residue low) (residue rest)
      (product f x ∙ residue-eq (residue (f * x)) (residue high) a) (product g x ∙ residue-eq (residue (g * x)) (residue low) b) divided in
      let n : (f + (m - q * g % m)) % m ≡ (f % m + (m - q % m * (g % m) % m) % m) % m =
      ap (λ k. (f + (m - k)) % m) (mul-mod q g m) ∙ add-mod f (m - q % m * (g % m) % m) m in
      ap (λ k. k * x % m) n ∙ sym (mul-mod-mod m ((f % m + (m - q % m * (g % m) % m) % m) % m) x) ∙ ap (λ (y : Residue m). y.number) e

-- a number with an inverse has no common divisor with the modulus but one
pub divisor_of_invertible : (m x y g : ℕ) → IsGcd m x g → IsProduct m x y 1 → g ≡ 1
divisor_of_invertible m x y g common e =
    let sum : m * (x * y / m) + 1 ≡ x * y = omega (arith, mod-add-div (x * y) m, e) in
    let left : g ∣ m * (x * y / m) = dvd_trans g common.0 (dvd-mul_right m (x * y / m)) in
    let whole : g ∣ m * (x * y / m) + 1 = subst (λ k. g ∣ k) (sym sum) (dvd_trans g common.1 (dvd-mul_right x y)) in
    eq-one_of_dvd-one ((dvd-add_iff_right g left).1 whole)
