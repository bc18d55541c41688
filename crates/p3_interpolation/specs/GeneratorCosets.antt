-- Proofs, and no definitions: in each field of this library the coset of its number `generator` meets no two-adic subgroup.
use Rattle.std.proofs.Common.{◌≡◌, ℕ, zero, suc, ◌*◌, ◌^◌, refl, sym, ap, ap₂, ◌∙◌, arith, lit<}
use Rattle.p3_field.specs.Ring.{Ring, IsInverse, minus, power}
use Rattle.p3_field.specs.Fields.{FieldNumbers, baby_bear_numbers, field_ring, goldilocks_numbers, koala_bear_numbers}
use Rattle.p3_field.specs.Residues.{Residue, residue-eq}
use Rattle.p3_field.specs.Squarings.{repeated_square}
use Rattle.p3_field.proofs.Powers.{power-one, power-twice, power_of_one}
use Rattle.p3_interpolation.specs.Interpolations.{IsOffCoset}

repeated_square-power : {A : Type 0} (R : Ring A) (x : A) (n : ℕ) → repeated_square R x n ≡ power R x (2 ^ n)
repeated_square-power R x zero = sym (power-one R x)
repeated_square-power R x (suc n) =
    let e : 2 ^ suc n ≡ 2 * 2 ^ n = omega arith in
    repeated_square-power R (R.mul x x) n ∙ sym (power-twice R x (2 ^ n)) ∙ ap (power R x) (sym e)

generator_off : (f : FieldNumbers) (y : Residue f.modulus)
    → IsInverse (field_ring f)
    (minus (field_ring f) (repeated_square (field_ring f) f.generator f.two_adicity) (field_ring f).one) y
    → IsOffCoset (field_ring f) (2 ^ f.two_adicity) (field_ring f).one f.generator
generator_off f y inverse =
    let R = field_ring f in
    (y, ap₂ (λ a b. R.mul (minus R a b) y) (sym (repeated_square-power R f.generator f.two_adicity)) (power_of_one R (2 ^ f.two_adicity)) ∙ inverse)

-- its power of the largest two-adic order, less one, has this inverse
pub baby_bear_off : IsOffCoset (field_ring baby_bear_numbers) (2 ^ 27) (field_ring baby_bear_numbers).one baby_bear_numbers.generator
baby_bear_off = generator_off baby_bear_numbers (record { number = 50265716; below = lit< tt }) (residue-eq _ _ refl)

pub koala_bear_off : IsOffCoset (field_ring koala_bear_numbers) (2 ^ 24) (field_ring koala_bear_numbers).one koala_bear_numbers.generator
koala_bear_off = generator_off koala_bear_numbers (record { number = 238148798; below = lit< tt }) (residue-eq _ _ refl)

pub goldilocks_off : IsOffCoset (field_ring goldilocks_numbers) (2 ^ 32) (field_ring goldilocks_numbers).one goldilocks_numbers.generator
goldilocks_off = generator_off goldilocks_numbers (record { number = 17772578631485973835; below = lit< tt }) (residue-eq _ _ refl)
