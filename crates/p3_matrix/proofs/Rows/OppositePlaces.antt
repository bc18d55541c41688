-- Rows in opposite order: row 0 stays, and rows 1 to n - 1 change places with rows n - 1 to 1.
use Rattle.p3_matrix.proofs.Names.{◌≡◌, ◌≢◌, ℕ, zero, suc, ◌+◌, ◌*◌, ◌-◌, ◌%◌, ◌<◌, ◌≤◌, sym, ap, ◌∙◌, subst, arith, ◌⊎◌, inl, inr, mod-lt, mod-eq_of_lt}
use Rattle.p3_matrix.proofs.Names.{cases_lt, mod_self}
use Rattle.p3_matrix.proofs.Rows.Pairs.{Apart, PairsDone, pairs_more}

-- the place in which row j stands, of n
abbrev pub opposite : ℕ → ℕ → ℕ
opposite n j = (n - j) % n

pub opposite-zero : (n : ℕ) → opposite n 0 ≡ 0
opposite-zero n = let e : n - 0 ≡ n = omega arith in ap (λ k. k % n) e ∙ mod_self n

pub opposite_above_zero : (n j : ℕ) → 0 < j → j < n → opposite n j ≡ n - j
opposite_above_zero n j p q = mod-eq_of_lt (omega arith)

pub opposite-lt : (n j : ℕ) → 0 < n → opposite n j < n
opposite-lt n j p = mod-lt (n - j) p

-- rows 1, .., m have changed places with rows n - 1, .., n - m: x before, y after
abbrev pub OppositeUntil : {A : Type 0} → ℕ → ℕ → (ℕ → A) → (ℕ → A) → Type 0
OppositeUntil n m x y = PairsDone (λ p. p + 1) (λ p. n - (p + 1)) (λ p a b. b) (λ p a b. a) m x y

opposite_apart : (n m : ℕ) → 2 * m < n → Apart (λ p. p + 1) (λ p. n - (p + 1)) m
opposite_apart n m l = record {
  lows = λ p q a b e. omega arith;
  highs = λ p q a b e. omega arith;
  crossed = λ p q a b e. absurd (omega arith);
}

-- one more pair of rows, p + 1 and n - (p + 1)
pub opposite_more : {A : Type 0} (n p : ℕ) (x y z : ℕ → A) → 2 * (p + 1) < n → OppositeUntil n p x y
    → z (p + 1) ≡ y (n - (p + 1)) → z (n - (p + 1)) ≡ y (p + 1) → ((r : ℕ) → r ≢ p + 1 → r ≢ n - (p + 1) → z r ≡ y r)
    → OppositeUntil n (p + 1) x z
opposite_more n p x y z l done near far rest =
    pairs_more (λ p. p + 1) (λ p. n - (p + 1)) (λ p a b. b) (λ p a b. a) (p + 1) p x y z (opposite_apart n (p + 1) l) (omega arith) done
    (record { lows = near; highs = far; rest = rest })

-- when all pairs have changed places, the rows stand in opposite order
pub opposite_all : {A : Type 0} (n m : ℕ) (x y : ℕ → A) → 2 * m < n → n ≤ 2 * m + 2 → OppositeUntil n m x y → (i : ℕ) → i < n → y i ≡ x (opposite n i)
opposite_all n m x y l h done zero q =
    done.rest 0 (λ p a. ((λ e. absurd (omega arith)), (λ e. absurd (omega arith)))) ∙ ap x (sym (opposite-zero n))
opposite_all n m x y l h done (suc i) q = by_side (cases_lt i m) (cases_lt (suc i) (n - m)) ∙ ap x (sym (opposite_above_zero n (suc i) (omega arith) q))
  where
    by_side : (i < m) ⊎ (m ≤ i) → (suc i < n - m) ⊎ (n - m ≤ suc i) → y (suc i) ≡ x (n - suc i)
    by_side (inl a) other = let e : i + 1 ≡ suc i = omega arith in subst (λ (k : ℕ). y k ≡ x (n - k)) e (done.lows i a)
    by_side (inr a) (inl b) =
        let e : suc i ≡ n - suc i = omega arith in
        done.rest (suc i) (λ p c. ((λ f. absurd (omega arith)), (λ f. absurd (omega arith)))) ∙ ap x e
    by_side (inr a) (inr b) =
        let p = n - suc (suc i) in
        let e : n - (p + 1) ≡ suc i = omega arith in
        let f : p + 1 ≡ n - suc i = omega arith in
        ap y (sym e) ∙ done.highs p (omega arith) ∙ ap x f
