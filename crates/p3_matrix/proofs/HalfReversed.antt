-- Putting places into bit reversed order pair by pair: what stands after the first t places.
use Rattle.p3_matrix.proofs.Names.{◌≡◌, ℕ, ◌+◌, ◌*◌, ◌/◌, ◌<◌, ◌≤◌, ◌^◌, ◌⊎◌, inl, inr, ⊎_elim, List, length, get_or, refl, sym, ap, ◌∙◌, arith, cases_lt}
use Rattle.p3_matrix.proofs.Names.{cases_eq, Swapped, rev, bit_reversal, IsExchange, matrix, Same, RowMajor, height, with_values}
use Rattle.p3_matrix.proofs.BitReversal.{rev-lt, rev-rev}
use Rattle.p3_matrix.proofs.RowExchanges.{swapped_column, all_written}

-- no two of the 2 ^ n places have one number
abbrev pub AreNumbers : ℕ → (ℕ → ℕ) → Type 0
AreNumbers n number = (p q : ℕ) → p < 2 ^ n → q < 2 ^ n → number p ≡ number q → p ≡ q

-- of the 2 ^ n places, those of which one of the pair has a number below t hold what they shall, the others what they held
pub record IsHalfReversed {X : Type 0} (n : ℕ) (number : ℕ → ℕ) (t : ℕ) (f g : ℕ → X) : Type 0 where
  pub done : (p : ℕ) → p < 2 ^ n → (number p < t) ⊎ (number (rev n p) < t) → g p ≡ f (rev n p)
  pub left : (p : ℕ) → p < 2 ^ n → t ≤ number p → t ≤ number (rev n p) → g p ≡ f p

module _ {X : Type 0} (n : ℕ) (number : ℕ → ℕ) (f : ℕ → X) where
  pub half_reversed_none : (g : ℕ → X) → ((p : ℕ) → g p ≡ f p) → IsHalfReversed n number 0 f g
  half_reversed_none g e = record {
    done = λ p l b. absurd (⊎_elim (λ q. omega arith) (λ q. omega arith) b);
    left = λ p l q r. e p;
  }

  pub half_reversed_all : (t : ℕ) (g : ℕ → X) → ((p : ℕ) → p < 2 ^ n → number p < t) → IsHalfReversed n number t f g → (p : ℕ) → p < 2 ^ n → g p ≡ f (rev n p)
  half_reversed_all t g below h p l = h.done p l (inl (below p l))

  -- the place with number t is exchanged with its partner, whose number is above
  pub half_reversed_more : (q t : ℕ) (g g' : ℕ → X) → AreNumbers n number → q < 2 ^ n → number q ≡ t → t < number (rev n q)
      → IsHalfReversed n number t f g → Swapped g g' q (rev n q) → IsHalfReversed n number (t + 1) f g'
  half_reversed_more q t g g' apart below is above h s = record { done = done; left = left }
    where
      back : rev n (rev n q) ≡ q
      back = rev-rev n q below

      -- what was at the place, and at its partner, is what stood there at first
      first : g q ≡ f q
      first = h.left q below (omega arith) (omega arith)

      second : g (rev n q) ≡ f (rev n q)
      second = h.left (rev n q) (rev-lt n q) (omega arith) (omega (arith, ap number back))

      under : (p : ℕ) → p < 2 ^ n → (p ≡ q → ⊥) → number p < t + 1 → number p < t
      under p l not_q b = ⊎_elim (λ e. absurd (not_q (apart p q l below (e ∙ sym is)))) (λ d. omega arith) (cases_eq (number p) t)

      other : (p : ℕ) → p < 2 ^ n → (p ≡ q → ⊥) → (p ≡ rev n q → ⊥) → (number p < t + 1) ⊎ (number (rev n p) < t + 1) → g' p ≡ f (rev n p)
      other p l not_q not_m (inl b) = s.2 p not_q not_m ∙ h.done p l (inl (under p l not_q b))
      other p l not_q not_m (inr b) = s.2 p not_q not_m ∙ h.done p l (inr (under (rev n p) (rev-lt n p) (λ e. not_m (sym (rev-rev n p l) ∙ ap (rev n) e)) b))

      done : (p : ℕ) → p < 2 ^ n → (number p < t + 1) ⊎ (number (rev n p) < t + 1) → g' p ≡ f (rev n p)
      done p l b = go (cases_eq p q) (cases_eq p (rev n q))
        where
          go : (p ≡ q) ⊎ (p ≡ q → ⊥) → (p ≡ rev n q) ⊎ (p ≡ rev n q → ⊥) → g' p ≡ f (rev n p)
          go (inl e) o = ap g' e ∙ s.0 ∙ second ∙ ap (λ x. f (rev n x)) (sym e)
          go (inr not_q) (inl e) = ap g' e ∙ s.1 ∙ first ∙ ap f (sym back) ∙ ap (λ x. f (rev n x)) (sym e)
          go (inr not_q) (inr not_m) = other p l not_q not_m b

      left : (p : ℕ) → p < 2 ^ n → t + 1 ≤ number p → t + 1 ≤ number (rev n p) → g' p ≡ f p
      left p l a b =
          s.2 p (λ e. omega (arith, ap number e)) (λ e. omega (arith, ap (λ x. number (rev n x)) e, ap number back))
          ∙ h.left p l (omega arith) (omega arith)

  -- the place with number t was exchanged already, or is its own partner
  pub half_reversed_kept : (q t : ℕ) (g : ℕ → X) → AreNumbers n number → q < 2 ^ n → number q ≡ t → number (rev n q) ≤ t
      → IsHalfReversed n number t f g → IsHalfReversed n number (t + 1) f g
  half_reversed_kept q t g apart below is at h = record { done = done; left = λ p l a b. h.left p l (omega arith) (omega arith) }
    where
      same : (number (rev n q) < t) ⊎ (t ≤ number (rev n q)) → g q ≡ f (rev n q)
      same (inl l) = h.done q below (inr l)
      same (inr l) =
          let e : rev n q ≡ q = apart (rev n q) q (rev-lt n q) below (omega arith) in
          h.left q below (omega arith) l ∙ ap f (sym e)

      at_q : (p : ℕ) → p ≡ q → g p ≡ f (rev n p)
      at_q p e = ap g e ∙ same (cases_lt (number (rev n q)) t) ∙ ap (λ x. f (rev n x)) (sym e)

      -- a place whose number is t
      here : (p : ℕ) → p < 2 ^ n → number p ≡ t → g p ≡ f (rev n p)
      here p l e = at_q p (apart p q l below (e ∙ sym is))

      done : (p : ℕ) → p < 2 ^ n → (number p < t + 1) ⊎ (number (rev n p) < t + 1) → g p ≡ f (rev n p)
      done p l (inl b) = ⊎_elim (λ a. h.done p l (inl a)) (λ a. here p l (omega arith)) (cases_lt (number p) t)
      done p l (inr b) = ⊎_elim (λ a. h.done p l (inr a)) (λ a. partner (cases_lt (number p) t) a) (cases_lt (number (rev n p)) t)
        where
          partner : (number p < t) ⊎ (t ≤ number p) → t ≤ number (rev n p) → g p ≡ f (rev n p)
          partner (inl c) a = h.done p l (inl c)
          partner (inr c) a =
              let e : rev n p ≡ q = apart (rev n p) q (rev-lt n p) below (omega arith) in
              let k : number (rev n q) ≡ number p = ap (λ x. number (rev n x)) (sym e) ∙ ap number (rev-rev n p l) in
              here p l (omega arith)

  -- the places with numbers from t to u were exchanged already
  pub half_reversed_skipped : (t u : ℕ) (g : ℕ → X) → t ≤ u → ((p : ℕ) → p < 2 ^ n → t ≤ number p → number p < u → number (rev n p) < t)
      → IsHalfReversed n number t f g → IsHalfReversed n number u f g
  half_reversed_skipped t u g le low h = record { done = done; left = λ p l a b. h.left p l (omega arith) (omega arith) }
    where
      done : (p : ℕ) → p < 2 ^ n → (number p < u) ⊎ (number (rev n p) < u) → g p ≡ f (rev n p)
      done p l (inl b) = ⊎_elim (λ a. h.done p l (inl a)) (λ a. h.done p l (inr (low p l a b))) (cases_lt (number p) t)
      done p l (inr b) =
          ⊎_elim (λ a. h.done p l (inr a))
          (λ a. h.done p l (inl (omega (arith, low (rev n p) (rev-lt n p) a b, ap number (rev-rev n p l)))))
          (cases_lt (number (rev n p)) t)

-- column by column: of 2 ^ n rows of w entries, those with numbers below t and their partners
abbrev pub IsRowsHalfReversed : {T : Type 0} → ℕ → ℕ → (ℕ → ℕ) → ℕ → List T → List T → Type 0
IsRowsHalfReversed {T} w n number t xs ys =
    (d : T) (c : ℕ) → c < w → IsHalfReversed n number t (λ r. get_or xs (r * w + c) d) (λ r. get_or ys (r * w + c) d)

module _ {T : Type 0} (w n : ℕ) (number : ℕ → ℕ) (xs : List T) where
  pub rows_half_reversed_none : IsRowsHalfReversed w n number 0 xs xs
  rows_half_reversed_none = λ d c l. half_reversed_none n number (λ r. get_or xs (r * w + c) d) (λ r. get_or xs (r * w + c) d) (λ p. refl)

  pub rows_half_reversed_at : (t u : ℕ) (ys : List T) → t ≡ u → IsRowsHalfReversed w n number t xs ys → IsRowsHalfReversed w n number u xs ys
  rows_half_reversed_at t u ys e h = rw (← e) h

  pub rows_half_reversed_more : (q m t : ℕ) (ys zs : List T) → AreNumbers n number → q < 2 ^ n → m ≡ rev n q → number q ≡ t → t < number m
      → IsExchange ys zs (q * w) (m * w) w → IsRowsHalfReversed w n number t xs ys → IsRowsHalfReversed w n number (t + 1) xs zs
  rows_half_reversed_more q m t ys zs apart below e is above x h = λ d c l.
      half_reversed_more n number (λ r. get_or xs (r * w + c) d) q t (λ r. get_or ys (r * w + c) d)
      (λ r. get_or zs (r * w + c) d) apart below is (rw e at above) (h d c l)
      (rw e at (swapped_column ys zs q m w c d x l))

  pub rows_half_reversed_kept : (q m t : ℕ) (ys : List T) → AreNumbers n number → q < 2 ^ n → m ≡ rev n q → number q ≡ t → number m ≤ t
      → IsRowsHalfReversed w n number t xs ys → IsRowsHalfReversed w n number (t + 1) xs ys
  rows_half_reversed_kept q m t ys apart below e is above h = λ d c l.
      half_reversed_kept n number (λ r. get_or xs (r * w + c) d) q t (λ r. get_or ys (r * w + c) d) apart below is (rw e at above) (h d c l)

  pub rows_half_reversed_skipped : (t u : ℕ) (ys : List T) → t ≤ u → ((p : ℕ) → p < 2 ^ n → t ≤ number p → number p < u → number (rev n p) < t)
      → IsRowsHalfReversed w n number t xs ys → IsRowsHalfReversed w n number u xs ys
  rows_half_reversed_skipped t u ys le low h = λ d c l.
      half_reversed_skipped n number (λ r. get_or xs (r * w + c) d) t u (λ r. get_or ys (r * w + c) d) le low (h d c l)

  pub rows_half_reversed_all : (t : ℕ) (ys : List T) → ((p : ℕ) → p < 2 ^ n → number p < t) → IsRowsHalfReversed w n number t xs ys
      → (d : T) (i c : ℕ) → i < 2 ^ n → c < w → get_or ys (i * w + c) d ≡ get_or xs (rev n i * w + c) d
  rows_half_reversed_all t ys below h d i c l q =
      half_reversed_all n number (λ r. get_or xs (r * w + c) d) t (λ r. get_or ys (r * w + c) d) below (h d c q) i l

-- a matrix whose entries were replaced by its rows in bit reversed order
pub reversed_rows : {T : Type 0} (n : ℕ) (m : RowMajor T) (ys : List T) → length ys ≡ length m.values → height m ≡ 2 ^ n
    → ((d : T) (i c : ℕ) → i < 2 ^ n → c < m.width → get_or ys (i * m.width + c) d ≡ get_or m.values (rev n i * m.width + c) d)
    → (d : T) → Same (matrix d (with_values m ys)) (bit_reversal n (matrix d m))
reversed_rows n m ys e high at d =
    let is = all_written m.values ys e in
    record {
      height = ap (λ zs. length zs / m.width) is ∙ ap (λ k. k / m.width) e;
      width = refl;
      alike = λ i c p q. ap (λ zs. get_or zs (i * m.width + c) d) is ∙ at d i c (omega (arith, ap (λ zs. length zs / m.width) is, ap (λ k. k / m.width) e)) q;
    }
