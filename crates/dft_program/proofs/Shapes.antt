-- Logarithms and shapes as tests.
use Rattle.std.proofs.Common.{◌≡◌, ◌≢◌, ℕ, zero, suc, ◌+◌, ◌*◌, ◌/◌, ◌%◌, ◌^◌, ◌<◌, ◌≤◌, Bool, true, false, not, ◌||◌}
use Rattle.std.proofs.Common.{◌==◌, Option, Some, None, is_some, ◌↔◌, refl, sym, ap, ◌∙◌, arith, IsTrue, eq-eqb}
use Rattle.std.proofs.lemmas.Bool.{ne_eqb}
use Rattle.std.proofs.lemmas.Bool.Decides.{nat_tests}
use Rattle.p3_matrix.proofs.TwoPowers.{log_same}
use Rattle.p3_dft.specs.Shapes.{FitsLde}
use Rattle.dft_program.specs.Arguments.{logarithm, fits_at, fits_lde, is_unfit}
use Rattle.dft_program.proofs.Elements.{false_unless}

-- what a logarithm is
logarithm-some : (bits number n : ℕ) → logarithm bits number ≡ Some n → (n ≤ bits) × (number ≡ 2 ^ n)
unfolding logarithm
logarithm-some zero number n e = grind (arith, nat_tests)
logarithm-some (suc bits) number n e = grind (arith, nat_tests, logarithm-some bits number n)

-- and where there is one
logarithm-is_some : (bits number n : ℕ) → n ≤ bits → number ≡ 2 ^ n → is_some (logarithm bits number) ≡ true
unfolding logarithm
logarithm-is_some zero number n h e = grind (arith, nat_tests)
logarithm-is_some (suc bits) number n h e = grind (arith, nat_tests, logarithm-is_some bits number n)

-- namely this one
logarithm-found : (bits number n : ℕ) → n ≤ bits → number ≡ 2 ^ n → logarithm bits number ≡ Some n
logarithm-found bits number n h e = found (logarithm bits number) refl (logarithm-is_some bits number n h e)
  where
    found : (o : Option ℕ) → logarithm bits number ≡ o → is_some o ≡ true → o ≡ Some n
    found (Some m) is some = ap Some (log_same m n (sym (logarithm-some bits number m is).1 ∙ e))
    found None is some = absurd (cc)

-- a shape fits where its test says so
fits_lde-true : (two_adicity height width added : ℕ) → FitsLde two_adicity height width added → fits_lde two_adicity height width added ≡ true
fits_lde-true t h w a fits =
    let found : logarithm t h ≡ Some fits.log = logarithm-found t h fits.log (omega (arith, fits.within)) fits.height in
    let within : fits.log + a ≤ t = fits.within in
    let wide : 1 ≤ w = fits.width in
    let size : w * 2 ^ (fits.log + a) < 2 ^ 64 = fits.size in
    ap (fits_at t w a) found ∙ grind (arith, nat_tests)

fits_lde-from_true : (two_adicity height width added : ℕ) (log : Option ℕ) → logarithm two_adicity height ≡ log → fits_at two_adicity width added log ≡ true
    → FitsLde two_adicity height width added
fits_lde-from_true t h w a None is e = absurd (cc)
fits_lde-from_true t h w a (Some n) is e =
    let within : n + a ≤ t = grind (arith, nat_tests) in
    let wide : 1 ≤ w = grind (arith, nat_tests) in
    let size : w * 2 ^ (n + a) < 2 ^ 64 = grind (arith, nat_tests) in
    record { log = n; within = within; height = (logarithm-some t h n is).1; width = wide; size = size }

-- the test of a shape decides that it fits
pub fits_lde-decides : (two_adicity height width added : ℕ) (r : Bool)
    → IsTrue r ↔ FitsLde two_adicity height width added → r ≡ fits_lde two_adicity height width added
fits_lde-decides t h w a true d = sym (fits_lde-true t h w a (d.0 refl))
fits_lde-decides t h w a false d = false_unless (fits_lde t h w a) (λ e. absurd (cc (d.1 (fits_lde-from_true t h w a (logarithm t h) refl e))))

-- what the test of a whole matrix says where the rows are whole
pub unfit : (two_adicity count width added : ℕ) (r : Bool) → width ≢ 0 → count % width ≡ 0 → r ≡ fits_lde two_adicity (count / width) width added
    → not r ≡ is_unfit two_adicity count width added
unfit t count width added r some whole e = rw (ne_eqb width 0 some, eq-eqb (count % width) 0 whole) (ap not e)

-- and where it is false, the shape fits
pub unfit-false : (two_adicity count width added : ℕ) → is_unfit two_adicity count width added ≡ false → FitsLde two_adicity (count / width) width added
unfit-false t count width added e =
    fits_lde-from_true t (count / width) width added (logarithm t (count / width)) refl
    (last (width == 0) (not (count % width == 0)) (fits_lde t (count / width) width added) e)
  where
    last : (a b c : Bool) → (a || (b || not c)) ≡ false → c ≡ true
    last true b c e = absurd (cc)
    last false true c e = absurd (cc)
    last false false true e = refl
    last false false false e = absurd (cc)
