-- Powers of two: their order is that of their logarithms, and numbers of entries in so many rows.
use Rattle.p3_matrix.proofs.Names.{◌≡◌, ℕ, ◌<◌, ◌≤◌, ◌^◌, suc, ◌+◌, ◌*◌, ap, add-one, arith, ⊎_elim, ◌⊎◌, inl, inr, lit≤, sym, ◌∙◌, cases_lt, pow_below}
use Rattle.p3_matrix.proofs.Names.{pow_pos, mul-le-mul_left, mul-le-mul_right}
use Rattle.std.proofs.Math.Nat.{pow-le-pow_right, two-pow-succ}

-- a smaller power has the smaller logarithm
pub log_lt : (j k : ℕ) → 2 ^ j < 2 ^ k → j < k
log_lt j k l = ⊎_elim (λ p. p) (λ p. absurd (omega (arith, pow-le-pow_right {n = 2} (lit≤ tt) p))) (cases_lt j k)

-- a power that a usize holds
pub log_of_usize : (k : ℕ) → 2 ^ k < 2 ^ 64 → k ≤ 63
log_of_usize k l = omega (arith, log_lt k 64 l)

-- the logarithm of a height whose entries a slice holds
pub log_of_height : (k h w size : ℕ) → h ≡ 2 ^ k → 1 ≤ w → h * w ≡ size → size < 2 ^ 64 → k ≤ 63
log_of_height k h w size high wide full l = log_of_usize k (omega (arith, mul-le-mul_left h wide))

-- the power of two at or below another, and less than one power apart, has its logarithm
pub log_unique : (j k : ℕ) → 2 ^ j ≤ 2 ^ k → 2 ^ k < 2 * 2 ^ j → j ≡ k
log_unique j k low high = go (cases_lt j k) (cases_lt k j)
  where
    go : (j < k) ⊎ (k ≤ j) → (k < j) ⊎ (j ≤ k) → j ≡ k
    go (inl l) q = absurd (omega (arith, pow-le-pow_right {n = 2} (lit≤ tt) l, two-pow-succ j, high))
    go (inr a) (inl l) = absurd (omega (arith, pow_below k j l, low))
    go (inr a) (inr b) = omega arith

-- equal powers have one logarithm
pub log_same : (j k : ℕ) → 2 ^ j ≡ 2 ^ k → j ≡ k
log_same j k e = log_unique j k (omega arith) (omega (arith, pow_pos j))

-- one more digit
pub digit_below : (t r d : ℕ) → r < 2 ^ t → d < 2 → 2 * r + d < 2 ^ (t + 1)
digit_below t r d l b = let e : 2 ^ (t + 1) ≡ 2 ^ suc t = ap (λ m. 2 ^ m) (add-one t) in omega arith

-- an extension has no fewer entries
pub entries_rise : (k a w : ℕ) → 2 ^ k * w ≤ 2 ^ (k + a) * w
entries_rise k a w = mul-le-mul_right w (pow-le-pow_right (omega arith) (omega arith))

-- more than one point is no single row without added bits
pub more_points : (h log a : ℕ) → h ≡ 2 ^ log → (log + a ≡ 0 → ⊥) → h ≡ 1 → a ≡ 0 → ⊥
more_points h log a is more one none = let single : log ≡ 0 = log_same log 0 (sym is ∙ one) in more (omega (arith, none, single))

-- the logarithm of a height, as a program found it, is that of a shape
pub log_within : (log a most fit h : ℕ) → h ≡ 2 ^ log → h ≡ 2 ^ fit → fit + a ≤ most → log + a ≤ most
log_within log a most fit h is high within = let same : log ≡ fit = log_same log fit (sym is ∙ high) in omega (arith, same, within)
