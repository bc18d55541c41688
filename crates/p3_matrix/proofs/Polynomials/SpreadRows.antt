-- Rows that are spread: row i goes to the place i * 2 ^ a, and the others are z. Where rows lie in bit reversed order, that is rows of z
-- below all others.
use Rattle.p3_matrix.proofs.Names.{◌≡◌, ◌≢◌, ℕ, ◌+◌, ◌*◌, ◌/◌, ◌%◌, ◌<◌, ◌≤◌, ◌^◌, refl, sym, ap, ◌∙◌, subst, arith, ⊎_elim, le-mul_of_pos_right}
use Rattle.p3_matrix.proofs.Names.{mul-le-mul_right, cases_lt, cases_eq, eq-eqb, ne_eqb, pow_pos, div-add-mod', div_below, mod_below, Ring, rev, bit_reversal}
use Rattle.p3_matrix.proofs.Names.{Matrix, Same, row_exchange, IsValues}
use Rattle.p3_matrix.proofs.BitReversal.{rev_of_zero, rev-block, rev-lt, rev-rev}
use Rattle.p3_matrix.proofs.Polynomials.Cosets.{padded_values}

-- the rows from n on, of h, are in their places N apart: x before, y after
pub record SpreadFrom {T : Type 0} (z : T) (N h n : ℕ) (x y : ℕ → T) : Type 0 where
  pub below : (r : ℕ) → r < n → y r ≡ x r
  pub placed : (i : ℕ) → n ≤ i → i < h → y (i * N) ≡ x i
  pub others : (r : ℕ) → n ≤ r → r < h * N → ((i : ℕ) → n ≤ i → i < h → r ≢ i * N) → y r ≡ z

rise : (i j N : ℕ) → i < j → 2 ≤ N → i * N < j * N
rise i j N l two = let m = mul-le-mul_right N l in omega (arith, m)

room : (i N : ℕ) → 2 ≤ N → 2 * i ≤ i * N
room i N two = let m = mul-le-mul_right i two in omega (arith, m)

module _ {T : Type 0} (z : T) (N h : ℕ) where
  -- rows of z below all others
  pub spread_none : (x y : ℕ → T) → ((r : ℕ) → r < h → y r ≡ x r) → ((r : ℕ) → h ≤ r → r < h * N → y r ≡ z) → SpreadFrom z N h h x y
  spread_none x y above below = record { below = above; placed = λ i p q. absurd (omega arith); others = λ r p q no. below r p q }

  -- one more row changes places with the row of z that is in its place
  pub spread_more : (n : ℕ) (x y next : ℕ → T) → 2 ≤ N → 1 ≤ n → n < h → SpreadFrom z N h (n + 1) x y
      → next n ≡ y (n * N) → next (n * N) ≡ y n → ((r : ℕ) → r < h * N → r ≢ n → r ≢ n * N → next r ≡ y r) → SpreadFrom z N h n x next
  spread_more n x y next two some inside done near far rest =
      let far_off = room n N two in
      let in_all = rise n h N inside two in
      record {
        below = λ r less. rest r (omega arith) (λ e. omega arith) (λ e. omega arith) ∙ done.below r (omega arith);
        placed = λ i from less.
            ⊎_elim
            (λ same. subst (λ (q : ℕ). next (q * N) ≡ x q) (sym same) (far ∙ done.below n (omega arith)))
            (λ other.
            let later : n < i = omega (arith, other) in
            let above = rise n i N later two in
            let high = room i N two in
            let low = rise i h N less two in
            rest (i * N) low (λ e. omega arith) (λ e. omega arith) ∙ done.placed i (omega arith) less)
            (cases_eq i n);
        others = λ r from less no.
            ⊎_elim
            (λ same. ap next same ∙ near
            ∙ done.others (n * N) (omega arith) in_all
            (λ i later low e. let above = rise n i N (omega arith) two in absurd (omega (arith, above, e))))
            (λ other. rest r less other (no n (omega arith) inside) ∙ done.others r (omega (arith, other)) less (λ i later low. no i (omega arith) low))
            (cases_eq r n);
      }

  -- the same of a column of a matrix
  pub spread_exchanged : (n : ℕ) (x : ℕ → T) (now next : Matrix T) (j : ℕ) → 2 ≤ N → 1 ≤ n → n < h → now.height ≡ h * N → j < now.width
      → Same next (row_exchange n (n * N) now) → SpreadFrom z N h (n + 1) x (λ i. now.entry i j) → SpreadFrom z N h n x (λ i. next.entry i j)
  spread_exchanged n x now next j two some inside tall column same done =
      let far_off = room n N two in
      let in_all = rise n h N inside two in
      let at : (r : ℕ) → r < h * N → next.entry r j ≡ (row_exchange n (n * N) now).entry r j =
      λ r less. same.alike r j (omega (arith, same.height)) (omega (arith, same.width)) in
      spread_more n x (λ i. now.entry i j) (λ i. next.entry i j) two some inside done
      (at n (omega arith) ∙ rw (eq-eqb n n refl) refl)
      (at (n * N) in_all ∙ rw (ne_eqb (n * N) n (λ e. omega arith), eq-eqb (n * N) (n * N) refl) refl)
      (λ r less a b. at r less ∙ rw (ne_eqb r n a, ne_eqb r (n * N) b) refl)

  -- when row 1 is in its place, all are
  pub spread_rows : (x y : ℕ → T) → SpreadFrom z N h 1 x y → (i : ℕ) → i < h → y (i * N) ≡ x i
  spread_rows x y done i inside =
      ⊎_elim
      (λ less.
      let first : i ≡ 0 = omega arith in
      subst (λ (q : ℕ). y (q * N) ≡ x q) (sym first)
      (let start : 0 * N ≡ 0 = omega arith in ap y start ∙ done.below 0 (omega arith)))
      (λ more. done.placed i more inside)
      (cases_lt i 1)

  pub spread_others : (x y : ℕ → T) → SpreadFrom z N h 1 x y → (i r : ℕ) → i < h → 0 < r → r < N → y (i * N + r) ≡ z
  spread_others x y done i r inside some less =
      let two : 2 ≤ N = omega arith in
      let end = mul-le-mul_right N inside in
      done.others (i * N + r) (omega arith) (omega (arith, end))
      (λ q from low e.
      ⊎_elim
      (λ before. let end = mul-le-mul_right N before in absurd (omega (arith, end, e)))
      (λ not_before. let start = mul-le-mul_right N not_before in
      ⊎_elim
      (λ same. absurd (omega (arith, ap (λ k. k * N) same, e)))
      (λ other. let after : i < q = omega (arith, other) in let start = mul-le-mul_right N after in absurd (omega (arith, start, e)))
      (cases_eq q i))
      (cases_lt q i))

module _ {A : Type 0} (R : Ring A) (g : ℕ → A) where
  -- in bit reversed order rows are spread by rows of zeros below them, which change no value
  pub values_of_spread : (k a : ℕ) (s : A) (c p out : Matrix A) → c.height ≡ 2 ^ k → p.height ≡ c.height * 2 ^ a → p.width ≡ c.width
      → ((i j : ℕ) → i < c.height → j < c.width → p.entry (i * 2 ^ a) j ≡ c.entry i j)
      → ((i r j : ℕ) → i < c.height → 0 < r → r < 2 ^ a → j < c.width → p.entry (i * 2 ^ a + r) j ≡ R.zero)
      → IsValues R g (bit_reversal (k + a) p) (k + a) s out → IsValues R g (bit_reversal k c) (k + a) s out
  values_of_spread k a s c p out high tall wide rows others =
      let all : p.height ≡ 2 ^ a * 2 ^ k = tall ∙ ap (λ n. n * 2 ^ a) high ∙ omega arith in
      padded_values R g (bit_reversal k c) (bit_reversal (k + a) p) (k + a) s out (omega (arith, tall, le-mul_of_pos_right c.height (pow_pos a))) wide
      (λ i j below inside.
      let small : i < 2 ^ k = omega (arith, high) in
      let whole : i ≡ 0 * 2 ^ k + i = omega arith in
      let place : rev (k + a) i ≡ rev k i * 2 ^ a = ap (rev (k + a)) whole ∙ rev-block k a 0 i small ∙ omega (arith, rev_of_zero a) in
      ap (λ r. p.entry r j) place ∙ rows (rev k i) j (omega (arith, rev-lt k i, high)) inside)
      (λ i j after below inside.
      let positive = pow_pos k in
      let b = i / 2 ^ k in
      let t = i % 2 ^ k in
      let whole : b * 2 ^ k + t ≡ i = div-add-mod' i (2 ^ k) in
      let small : t < 2 ^ k = mod_below i (2 ^ k) positive in
      let inner : b < 2 ^ a = div_below i (2 ^ k) (2 ^ a) positive (omega (arith, all)) in
      let place : rev (k + a) i ≡ rev k t * 2 ^ a + rev a b = ap (rev (k + a)) (sym whole) ∙ rev-block k a b t small in
      ap (λ r. p.entry r j) place
      ∙ others (rev k t) (rev a b) j (omega (arith, rev-lt k t, high))
      (⊎_elim
      (λ none.
      let zero_is : rev a b ≡ 0 = omega arith in
      let first : b ≡ 0 = sym (rev-rev a b inner) ∙ ap (rev a) zero_is ∙ rev_of_zero a in
      absurd (omega (arith, whole, small, ap (λ n. n * 2 ^ k) first, after, high)))
      (λ some. some) (cases_lt (rev a b) 1))
      (rev-lt a b) inside)
