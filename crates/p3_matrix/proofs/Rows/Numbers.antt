-- Row numbers of which a fact holds: more and fewer of them, and the rows split by two facts.
use Rattle.p3_matrix.proofs.Names.{◌≡◌, ◌≢◌, ℕ, zero, suc, ◌+◌, ◌<◌, ◌≤◌, ◌⊎◌, inl, inr, [], ◌∷◌, length, get_or, map, refl, sym, ◌∙◌, subst, arith}
use Rattle.p3_matrix.proofs.Names.{range_with_len, All-cons, length-map-range_with_len, get_or-map-range_with_len, AllPairs-cons, HoldsInRows}

none : (P : ℕ → Type 0) → HoldsInRows 0 0 P
none P = record {
  rows = [];
  enough = omega arith;
  distinct = λ i j d before below. absurd (omega (arith, below));
  within = λ i d below. absurd (omega (arith, below));
  holds = λ i d below. absurd (omega (arith, below));
}

-- one more row, of which it holds too
more : (n height : ℕ) (P : ℕ → Type 0) → HoldsInRows n height P → P height → HoldsInRows (suc n) (suc height) P
more n height P given here = record {
  rows = height ∷ given.rows;
  enough = omega (arith, given.enough);
  distinct = AllPairs-cons (λ i j. i ≢ j) height given.rows (λ i d below e. absurd (omega (arith, given.within i d below, e))) given.distinct;
  within = All-cons (λ i. i < suc height) height given.rows (omega arith) (λ i d below. omega (arith, given.within i d below));
  holds = All-cons P height given.rows here given.holds;
}

-- one more row
wider : (n height : ℕ) (P : ℕ → Type 0) → HoldsInRows n height P → HoldsInRows n (suc height) P
wider n height P given = record {
  rows = given.rows;
  enough = given.enough;
  distinct = given.distinct;
  within = λ i d below. omega (arith, given.within i d below);
  holds = given.holds;
}

-- what holds in n rows holds in fewer
pub fewer : (m n height : ℕ) (P : ℕ → Type 0) → m ≤ n → HoldsInRows n height P → HoldsInRows m height P
fewer m n height P less given = record {
  rows = given.rows;
  enough = omega (arith, given.enough);
  distinct = given.distinct;
  within = given.within;
  holds = given.holds;
}

-- p rows of which P holds and q others, of which Q holds
pub record Split (height : ℕ) (P Q : ℕ → Type 0) : Type 0 where
  pub p : ℕ
  pub q : ℕ
  pub all : p + q ≡ height
  pub first : HoldsInRows p height P
  pub second : HoldsInRows q height Q

-- where one of two facts holds of each row, the rows are split so
pub split : (height : ℕ) (P Q : ℕ → Type 0) → ((i : ℕ) → i < height → P i ⊎ Q i) → Split height P Q
split zero P Q each = record { p = 0; q = 0; all = refl; first = none P; second = none Q }
split (suc h) P Q each = next (split h P Q (λ i below. each i (omega arith))) (each h (omega arith))
  where
    next : Split h P Q → P h ⊎ Q h → Split (suc h) P Q
    next s (inl here) = record { p = suc s.p; q = s.q; all = omega (arith, s.all); first = more s.p h P s.first here; second = wider s.q h Q s.second }
    next s (inr here) = record { p = s.p; q = suc s.q; all = omega (arith, s.all); first = wider s.p h P s.first; second = more s.q h Q s.second here }

-- n rows by number, none of them twice
pub by_place : (n height : ℕ) (P : ℕ → Type 0) (place : ℕ → ℕ) → ((i j : ℕ) → i < j → j < n → place i ≢ place j) → ((i : ℕ) → i < n → place i < height)
    → ((i : ℕ) → i < n → P (place i)) → HoldsInRows n height P
by_place n height P place apart inside each = record {
  rows = map place (range_with_len 0 n);
  enough = omega (arith, length-map-range_with_len place 0 n);
  distinct = λ i j d before below e. apart i j before (long j below) (sym (at i d (omega (arith, long j below, before))) ∙ e ∙ at j d (long j below));
  within = λ i d below. subst (λ (r : ℕ). r < height) (sym (at i d (long i below))) (inside i (long i below));
  holds = λ i d below. subst P (sym (at i d (long i below))) (each i (long i below));
}
  where
    long : (i : ℕ) → i < length (map place (range_with_len 0 n)) → i < n
    long i below = omega (arith, below, length-map-range_with_len place 0 n)

    at : (i d : ℕ) → i < n → get_or (map place (range_with_len 0 n)) i d ≡ place i
    at i d below = get_or-map-range_with_len place 0 n i i d below (omega arith)
