use Rattle.p3_matrix.proofs.Lemmas.{◌≡◌, ◌+◌, ◌-◌, ◌*◌, ◌/◌, ◌%◌, ◌^◌, ◌<◌, ℕ, zero, suc, ap, ◌∙◌, arith, rev, digit_below}
use Rattle.p3_matrix.proofs.bitrev.reverse_bits_len.Goals as goal

-- the last digit of what is left becomes the next of the reverse
one_digit : (m r x : ℕ) → r * 2 ^ suc m + rev (suc m) x ≡ (2 * r + x % 2) * 2 ^ m + rev m (x / 2)
unfolding rev
one_digit m r x =
    let p : 2 ^ suc m ≡ 2 * 2 ^ m = omega arith in
    ap (λ y. r * y + rev (suc m) x) p ∙ omega arith

next_digit : (bits t r x : ℕ) → t < bits → r * 2 ^ (bits - t) + rev (bits - t) x ≡ (2 * r + x % 2) * 2 ^ (bits - (t + 1)) + rev (bits - (t + 1)) (x / 2)
next_digit bits t r x l =
    let e : bits - t ≡ suc (bits - (t + 1)) = omega arith in
    ap (λ m. r * 2 ^ m + rev m x) e ∙ one_digit (bits - (t + 1)) r x

no_digit : (m r x : ℕ) → m ≡ 0 → r * 2 ^ m + rev m x ≡ r
unfolding rev
no_digit zero r x e = omega arith
no_digit (suc m) r x e = absurd (omega arith)

pub loop-digit-preserved : goal.loop-digit-preserved
loop-digit-preserved c =
    let l = c.loop-digit in
    record {
      reversed = l.invariant.reversed ∙ next_digit c.args.bits l._digit l.reverse l.left (omega arith);
      below = digit_below l._digit l.reverse (l.left % 2) l.invariant.below (omega arith);
    }

pub returns : goal.returns
returns c =
    let l = c.loop-digit in
    let e = l.invariant.reversed ∙ no_digit (c.args.bits - l._digit) l.reverse l.left (omega arith) in
    cc
