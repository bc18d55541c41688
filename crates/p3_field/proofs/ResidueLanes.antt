-- Residues in the lanes of a packed value: what is known of their numbers is known of them.
use Rattle.p3_field.proofs.Names.{◌≡◌, ℕ, zero, suc, ◌+◌, ◌-◌, ◌*◌, ◌<◌, ◌≤◌, List, [], ◌∷◌, ◌++◌, length, map, get_or, set, drop, refl, sym, ap, ap₂, ◌∙◌}
use Rattle.p3_field.proofs.Names.{subst, ⊎_elim, arith, get_or-append-add, get_or_append_left, map-append, map-id, cases_lt, Each1, zip2, by_lanes, AreBelow}
use Rattle.p3_field.proofs.Names.{elements_of, length-elements_of, Residue, residue-eq}
use Rattle.p3_field.proofs.Lists.{all_entries}

-- lists of eight
pub eight_elements : {A B : Type 0} (f : A → B) (xs : List A) (d0 d1 d2 d3 d4 d5 d6 d7 : A) → length xs ≡ 8
    → f (get_or xs 0 d0) ∷ f (get_or xs 1 d1) ∷ f (get_or xs 2 d2) ∷ f (get_or xs 3 d3) ∷ f (get_or xs 4 d4) ∷ f
    (get_or xs 5 d5) ∷ f (get_or xs 6 d6) ∷ f (get_or xs 7 d7) ∷ []
    ≡ map f xs
eight_elements f (a ∷ b ∷ c ∷ d ∷ e ∷ g ∷ h ∷ i ∷ []) d0 d1 d2 d3 d4 d5 d6 d7 long = refl
eight_elements f [] d0 d1 d2 d3 d4 d5 d6 d7 long = absurd (omega (arith, long))
eight_elements f (a ∷ []) d0 d1 d2 d3 d4 d5 d6 d7 long = absurd (omega (arith, long))
eight_elements f (a ∷ b ∷ []) d0 d1 d2 d3 d4 d5 d6 d7 long = absurd (omega (arith, long))
eight_elements f (a ∷ b ∷ c ∷ []) d0 d1 d2 d3 d4 d5 d6 d7 long = absurd (omega (arith, long))
eight_elements f (a ∷ b ∷ c ∷ d ∷ []) d0 d1 d2 d3 d4 d5 d6 d7 long = absurd (omega (arith, long))
eight_elements f (a ∷ b ∷ c ∷ d ∷ e ∷ []) d0 d1 d2 d3 d4 d5 d6 d7 long = absurd (omega (arith, long))
eight_elements f (a ∷ b ∷ c ∷ d ∷ e ∷ g ∷ []) d0 d1 d2 d3 d4 d5 d6 d7 long = absurd (omega (arith, long))
eight_elements f (a ∷ b ∷ c ∷ d ∷ e ∷ g ∷ h ∷ []) d0 d1 d2 d3 d4 d5 d6 d7 long = absurd (omega (arith, long))
eight_elements f (a ∷ b ∷ c ∷ d ∷ e ∷ g ∷ h ∷ i ∷ j ∷ xs) d0 d1 d2 d3 d4 d5 d6 d7 long = absurd (omega (arith, long))

eight_written : {A : Type 0} (xs : List A) (x0 x1 x2 x3 x4 x5 x6 x7 : A) → length xs ≡ 8
    → set (set (set (set (set (set (set (set xs 0 x0) 1 x1) 2 x2) 3 x3) 4 x4) 5 x5) 6 x6) 7 x7 ≡ x0 ∷ x1 ∷ x2 ∷ x3 ∷ x4 ∷ x5 ∷ x6 ∷ x7 ∷ []
eight_written (a ∷ b ∷ c ∷ d ∷ e ∷ g ∷ h ∷ i ∷ []) x0 x1 x2 x3 x4 x5 x6 x7 long = refl
eight_written [] x0 x1 x2 x3 x4 x5 x6 x7 long = absurd (omega (arith, long))
eight_written (a ∷ []) x0 x1 x2 x3 x4 x5 x6 x7 long = absurd (omega (arith, long))
eight_written (a ∷ b ∷ []) x0 x1 x2 x3 x4 x5 x6 x7 long = absurd (omega (arith, long))
eight_written (a ∷ b ∷ c ∷ []) x0 x1 x2 x3 x4 x5 x6 x7 long = absurd (omega (arith, long))
eight_written (a ∷ b ∷ c ∷ d ∷ []) x0 x1 x2 x3 x4 x5 x6 x7 long = absurd (omega (arith, long))
eight_written (a ∷ b ∷ c ∷ d ∷ e ∷ []) x0 x1 x2 x3 x4 x5 x6 x7 long = absurd (omega (arith, long))
eight_written (a ∷ b ∷ c ∷ d ∷ e ∷ g ∷ []) x0 x1 x2 x3 x4 x5 x6 x7 long = absurd (omega (arith, long))
eight_written (a ∷ b ∷ c ∷ d ∷ e ∷ g ∷ h ∷ []) x0 x1 x2 x3 x4 x5 x6 x7 long = absurd (omega (arith, long))
eight_written (a ∷ b ∷ c ∷ d ∷ e ∷ g ∷ h ∷ i ∷ j ∷ xs) x0 x1 x2 x3 x4 x5 x6 x7 long = absurd (omega (arith, long))

-- what is told of each of eight entries by its place
pub by_place : {A : Type 0} (of : List A) (P : ℕ → A → Type 0) (x0 x1 x2 x3 x4 x5 x6 x7 d : A) → P 0 x0 → P 1 x1
    → P 2 x2 → P 3 x3 → P 4 x4 → P 5 x5 → P 6 x6 → P 7 x7
    → (i : ℕ) → i < 8 → P i (get_or (x0 ∷ x1 ∷ x2 ∷ x3 ∷ x4 ∷ x5 ∷ x6 ∷ x7 ∷ []) i d)
by_place of P x0 x1 x2 x3 x4 x5 x6 x7 d p0 p1 p2 p3 p4 p5 p6 p7 zero below = p0
by_place of P x0 x1 x2 x3 x4 x5 x6 x7 d p0 p1 p2 p3 p4 p5 p6 p7 (suc zero) below = p1
by_place of P x0 x1 x2 x3 x4 x5 x6 x7 d p0 p1 p2 p3 p4 p5 p6 p7 (suc (suc zero)) below = p2
by_place of P x0 x1 x2 x3 x4 x5 x6 x7 d p0 p1 p2 p3 p4 p5 p6 p7 (suc (suc (suc zero))) below = p3
by_place of P x0 x1 x2 x3 x4 x5 x6 x7 d p0 p1 p2 p3 p4 p5 p6 p7 (suc (suc (suc (suc zero)))) below = p4
by_place of P x0 x1 x2 x3 x4 x5 x6 x7 d p0 p1 p2 p3 p4 p5 p6 p7 (suc (suc (suc (suc (suc zero))))) below = p5
by_place of P x0 x1 x2 x3 x4 x5 x6 x7 d p0 p1 p2 p3 p4 p5 p6 p7 (suc (suc (suc (suc (suc (suc zero)))))) below = p6
by_place of P x0 x1 x2 x3 x4 x5 x6 x7 d p0 p1 p2 p3 p4 p5 p6 p7 (suc (suc (suc (suc (suc (suc (suc zero))))))) below = p7
by_place of P x0 x1 x2 x3 x4 x5 x6 x7 d p0 p1 p2 p3 p4 p5 p6 p7 (suc (suc (suc (suc (suc (suc (suc (suc i)))))))) below = absurd (omega (arith, below))

-- of the first, and of the second, of each of eight pairs
firsts_by_place : {A : Type 0} (P : ℕ → A → Type 0) (a0 a1 a2 a3 a4 a5 a6 a7 b0 b1 b2 b3 b4 b5 b6 b7 d : A) → P 0 a0
    → P 1 a1 → P 2 a2 → P 3 a3 → P 4 a4 → P 5 a5 → P 6 a6 → P 7 a7
    → (i : ℕ) → i < 8 → P i (get_or (a0 ∷ b0 ∷ a1 ∷ b1 ∷ a2 ∷ b2 ∷ a3 ∷ b3 ∷ a4 ∷ b4 ∷ a5 ∷ b5 ∷ a6 ∷ b6 ∷ a7 ∷ b7 ∷ []) (2 * i) d)
firsts_by_place P a0 a1 a2 a3 a4 a5 a6 a7 b0 b1 b2 b3 b4 b5 b6 b7 d p0 p1 p2 p3 p4 p5 p6 p7 zero below = p0
firsts_by_place P a0 a1 a2 a3 a4 a5 a6 a7 b0 b1 b2 b3 b4 b5 b6 b7 d p0 p1 p2 p3 p4 p5 p6 p7 (suc zero) below = p1
firsts_by_place P a0 a1 a2 a3 a4 a5 a6 a7 b0 b1 b2 b3 b4 b5 b6 b7 d p0 p1 p2 p3 p4 p5 p6 p7 (suc (suc zero)) below = p2
firsts_by_place P a0 a1 a2 a3 a4 a5 a6 a7 b0 b1 b2 b3 b4 b5 b6 b7 d p0 p1 p2 p3 p4 p5 p6 p7 (suc (suc (suc zero))) below = p3
firsts_by_place P a0 a1 a2 a3 a4 a5 a6 a7 b0 b1 b2 b3 b4 b5 b6 b7 d p0 p1 p2 p3 p4 p5 p6 p7 (suc (suc (suc (suc zero)))) below = p4
firsts_by_place P a0 a1 a2 a3 a4 a5 a6 a7 b0 b1 b2 b3 b4 b5 b6 b7 d p0 p1 p2 p3 p4 p5 p6 p7 (suc (suc (suc (suc (suc zero))))) below = p5
firsts_by_place P a0 a1 a2 a3 a4 a5 a6 a7 b0 b1 b2 b3 b4 b5 b6 b7 d p0 p1 p2 p3 p4 p5 p6 p7 (suc (suc (suc (suc (suc (suc zero)))))) below = p6
firsts_by_place P a0 a1 a2 a3 a4 a5 a6 a7 b0 b1 b2 b3 b4 b5 b6 b7 d p0 p1 p2 p3 p4 p5 p6 p7 (suc (suc (suc (suc (suc (suc (suc zero))))))) below = p7
firsts_by_place P a0 a1 a2 a3 a4 a5 a6 a7 b0 b1 b2 b3 b4 b5 b6 b7 d p0 p1 p2 p3 p4 p5 p6 p7 (suc (suc (suc (suc (suc (suc (suc (suc i)))))))) below =
    absurd (omega (arith, below))

seconds_by_place : {A : Type 0} (P : ℕ → A → Type 0) (a0 a1 a2 a3 a4 a5 a6 a7 b0 b1 b2 b3 b4 b5 b6 b7 d : A) → P 0 b0
    → P 1 b1 → P 2 b2 → P 3 b3 → P 4 b4 → P 5 b5 → P 6 b6 → P 7 b7
    → (i : ℕ) → i < 8 → P i (get_or (a0 ∷ b0 ∷ a1 ∷ b1 ∷ a2 ∷ b2 ∷ a3 ∷ b3 ∷ a4 ∷ b4 ∷ a5 ∷ b5 ∷ a6 ∷ b6 ∷ a7 ∷ b7 ∷ []) (2 * i + 1) d)
seconds_by_place P a0 a1 a2 a3 a4 a5 a6 a7 b0 b1 b2 b3 b4 b5 b6 b7 d p0 p1 p2 p3 p4 p5 p6 p7 zero below = p0
seconds_by_place P a0 a1 a2 a3 a4 a5 a6 a7 b0 b1 b2 b3 b4 b5 b6 b7 d p0 p1 p2 p3 p4 p5 p6 p7 (suc zero) below = p1
seconds_by_place P a0 a1 a2 a3 a4 a5 a6 a7 b0 b1 b2 b3 b4 b5 b6 b7 d p0 p1 p2 p3 p4 p5 p6 p7 (suc (suc zero)) below = p2
seconds_by_place P a0 a1 a2 a3 a4 a5 a6 a7 b0 b1 b2 b3 b4 b5 b6 b7 d p0 p1 p2 p3 p4 p5 p6 p7 (suc (suc (suc zero))) below = p3
seconds_by_place P a0 a1 a2 a3 a4 a5 a6 a7 b0 b1 b2 b3 b4 b5 b6 b7 d p0 p1 p2 p3 p4 p5 p6 p7 (suc (suc (suc (suc zero)))) below = p4
seconds_by_place P a0 a1 a2 a3 a4 a5 a6 a7 b0 b1 b2 b3 b4 b5 b6 b7 d p0 p1 p2 p3 p4 p5 p6 p7 (suc (suc (suc (suc (suc zero))))) below = p5
seconds_by_place P a0 a1 a2 a3 a4 a5 a6 a7 b0 b1 b2 b3 b4 b5 b6 b7 d p0 p1 p2 p3 p4 p5 p6 p7 (suc (suc (suc (suc (suc (suc zero)))))) below = p6
seconds_by_place P a0 a1 a2 a3 a4 a5 a6 a7 b0 b1 b2 b3 b4 b5 b6 b7 d p0 p1 p2 p3 p4 p5 p6 p7 (suc (suc (suc (suc (suc (suc (suc zero))))))) below = p7
seconds_by_place P a0 a1 a2 a3 a4 a5 a6 a7 b0 b1 b2 b3 b4 b5 b6 b7 d p0 p1 p2 p3 p4 p5 p6 p7 (suc (suc (suc (suc (suc (suc (suc (suc i)))))))) below =
    absurd (omega (arith, below))

pairs_written : {A : Type 0} (ys : List A) (a0 a1 a2 a3 a4 a5 a6 a7 b0 b1 b2 b3 b4 b5 b6 b7 : A) → length ys ≡ 16
    → set (set (set (set (set (set (set (set
    (set (set (set (set (set (set (set (set ys 0 a0) 1 b0) 2 a1) 3 b1) 4 a2) 5 b2) 6 a3) 7 b3) 8 a4)
    9 b4) 10 a5) 11 b5) 12 a6) 13 b6) 14 a7) 15 b7
    ≡ a0 ∷ b0 ∷ a1 ∷ b1 ∷ a2 ∷ b2 ∷ a3 ∷ b3 ∷ a4 ∷ b4 ∷ a5 ∷ b5 ∷ a6 ∷ b6 ∷ a7 ∷ b7 ∷ []
pairs_written ys a0 a1 a2 a3 a4 a5 a6 a7 b0 b1 b2 b3 b4 b5 b6 b7 long =
    ap (λ l. set (set (set (set (set (set (set
    (set (set (set (set (set (set (set (set (set l 0 a0) 1 b0) 2 a1) 3 b1) 4 a2) 5 b2) 6 a3) 7 b3) 8 a4) 9
    b4) 10 a5) 11 b5) 12 a6) 13 b6) 14 a7) 15 b7) (all_entries 16 ys a0 long)

pub first_written : {A : Type 0} (ys : List A) (P : ℕ → A → Type 0) (a0 a1 a2 a3 a4 a5 a6 a7 b0 b1 b2 b3 b4 b5 b6 b7 d : A)
    → length ys ≡ 16 → P 0 a0 → P 1 a1 → P 2 a2 → P 3 a3 → P 4 a4 → P 5 a5 → P 6 a6 → P 7 a7
    → (i : ℕ) → i
    < 8
    → P i (get_or (set (set (set (set (set (set (set (set
    (set (set (set (set (set (set (set (set ys 0 a0) 1 b0) 2 a1) 3 b1) 4 a2) 5 b2) 6 a3) 7 b3)
    8 a4) 9 b4) 10 a5) 11 b5) 12 a6) 13 b6) 14 a7) 15 b7) (2 * i) d)
first_written ys P a0 a1 a2 a3 a4 a5 a6 a7 b0 b1 b2 b3 b4 b5 b6 b7 d long p0 p1 p2 p3 p4 p5 p6 p7 i below =
    subst (λ xs. P i (get_or xs (2 * i) d))
    (sym (pairs_written ys a0 a1 a2 a3 a4 a5 a6 a7 b0 b1 b2 b3 b4 b5 b6 b7 long))
    (firsts_by_place P a0 a1 a2 a3 a4 a5 a6 a7 b0 b1 b2 b3 b4 b5 b6 b7 d p0 p1 p2 p3 p4 p5 p6 p7 i below)

pub second_written : {A : Type 0} (ys : List A) (P : ℕ → A → Type 0) (a0 a1 a2 a3 a4 a5 a6 a7 b0 b1 b2 b3 b4 b5 b6 b7 d : A)
    → length ys ≡ 16 → P 0 b0 → P 1 b1 → P 2 b2 → P 3 b3 → P 4 b4 → P 5 b5 → P 6 b6 → P 7 b7
    → (i : ℕ) → i
    < 8
    → P i (get_or (set (set (set (set (set (set (set (set
    (set (set (set (set (set (set (set (set ys 0 a0) 1 b0) 2 a1) 3 b1) 4 a2) 5 b2) 6 a3) 7 b3)
    8 a4) 9 b4) 10 a5) 11 b5) 12 a6) 13 b6) 14 a7) 15 b7) (2 * i + 1) d)
second_written ys P a0 a1 a2 a3 a4 a5 a6 a7 b0 b1 b2 b3 b4 b5 b6 b7 d long p0 p1 p2 p3 p4 p5 p6 p7 i below =
    subst (λ xs. P i (get_or xs (2 * i + 1) d))
    (sym (pairs_written ys a0 a1 a2 a3 a4 a5 a6 a7 b0 b1 b2 b3 b4 b5 b6 b7 long))
    (seconds_by_place P a0 a1 a2 a3 a4 a5 a6 a7 b0 b1 b2 b3 b4 b5 b6 b7 d p0 p1 p2 p3 p4 p5 p6 p7 i below)

-- what holds of each entry of two lists, one after another
pub each_joined : {A : Type 0} (P : A → Type 0) (xs ys : List A) → Each1 P xs → Each1 P ys → Each1 P (xs ++ ys)
each_joined P [] ys first second = second
each_joined P (x ∷ xs) ys first second = (first.0, each_joined P xs ys first.1 second)

-- the first n lanes of ls are xs, and ys the others: place k of each half is that of a part of a slice, of 2 * n entries
module _ {R V : Type 0} (value : R → V) (z : R) where
  value_at : (xs ys : List R) → map value xs ≡ map value ys → (i : ℕ) → value (get_or xs i z) ≡ value (get_or ys i z)
  value_at xs ys same i = sym (of_map xs i) ∙ ap (λ vs. get_or vs i (value z)) same ∙ of_map ys i
    where
      of_map : (xs : List R) (i : ℕ) → get_or (map value xs) i (value z) ≡ value (get_or xs i z)
      of_map [] i = refl
      of_map (x ∷ xs) zero = refl
      of_map (x ∷ xs) (suc i) = of_map xs i

  halves_by_place : (n : ℕ) (k : ℕ → ℕ) → ((i : ℕ) → i < n → k i < 2 * n) → ((i : ℕ) → k (n + i) ≡ 2 * n + k i)
      → (ls xs ys all front back : List R) → length xs ≡ n → map value ls ≡ map value (xs ++ ys) → length front ≡ 2 * n → all ≡ front ++ back
      → ((i : ℕ) → i < n → value (get_or xs i z) ≡ value (get_or front (k i) z)) → ((i : ℕ) → i < n → value (get_or ys i z) ≡ value (get_or back (k i) z))
      → (i : ℕ) → i < n + n → value (get_or ls i z) ≡ value (get_or all (k i) z)
  halves_by_place n k inside next ls xs ys all front back long lanes wide parts low high i below =
      value_at ls (xs ++ ys) lanes i ∙ ⊎_elim first second (cases_lt i n) ∙ ap (λ l. value (get_or l (k i) z)) (sym parts)
    where
      first : i < n → value (get_or (xs ++ ys) i z) ≡ value (get_or (front ++ back) (k i) z)
      first less =
          ap value (get_or_append_left xs ys z i (omega (arith, less, long))) ∙ low i less
          ∙ ap value (sym (get_or_append_left front back z (k i) (omega (arith, inside i less, wide))))

      second : n ≤ i → value (get_or (xs ++ ys) i z) ≡ value (get_or (front ++ back) (k i) z)
      second reaches =
          let j = i - n in
          let place : i ≡ length xs + j = omega (arith, reaches, long) in
          let there : k i ≡ length front + k j = ap k (omega (arith, reaches)) ∙ next j ∙ ap (λ l. l + k j) (sym wide) in
          ap (λ l. value (get_or (xs ++ ys) l z)) place ∙ ap value (get_or-append-add xs ys j z) ∙ high j (omega (arith, below, reaches))
          ∙ ap value (sym (get_or-append-add front back (k j) z)) ∙ ap (λ l. value (get_or (front ++ back) l z)) (sym there)

-- the number of one lane
pub number_of_lane : {m : ℕ} {R : Type 0} (of : List R) (number : R → ℕ) (make : (n : ℕ) → n < m → R) → ((n : ℕ) (h : n < m) → number (make n h) ≡ n)
    → (d : R) (xs : List ℕ) (below : AreBelow m xs) (i : ℕ) → i < length xs → number (get_or (elements_of make xs below) i d) ≡ get_or xs i 0
number_of_lane of number make same d [] below i inside = absurd (omega (arith, inside))
number_of_lane of number make same d (x ∷ xs) below zero inside = same x below.0
number_of_lane of number make same d (x ∷ xs) below (suc i) inside = number_of_lane of number make same d xs below.1 i (omega (arith, inside))

module _ {m : ℕ} where
  abbrev numbers : List (Residue m) → List ℕ
  numbers xs = map (λ (x : Residue m). x.number) xs

  pub same_numbers : (xs ys : List (Residue m)) → numbers xs ≡ numbers ys → xs ≡ ys
  same_numbers [] [] e = refl
  same_numbers [] (y ∷ ys) e = absurd (omega (arith, ap length e))
  same_numbers (x ∷ xs) [] e = absurd (omega (arith, ap length e))
  same_numbers (x ∷ xs) (y ∷ ys) e = ap₂ ◌∷◌ (residue-eq x y (ap (λ ns. get_or ns 0 0) e)) (same_numbers xs ys (ap (drop 1) e))

  -- f of each two numbers, and of each number, is below m
  pub pairs_below : (f : ℕ → ℕ → ℕ) → ((x y : ℕ) → f x y < m) → (xs ys : List ℕ) → AreBelow m (zip2 f xs ys)
  pairs_below f all [] ys = tt
  pairs_below f all (x ∷ xs) [] = tt
  pairs_below f all (x ∷ xs) (y ∷ ys) = (all x y, pairs_below f all xs ys)

  pub each_below : (f : ℕ → ℕ) → ((x : ℕ) → f x < m) → (xs : List ℕ) → AreBelow m (map f xs)
  each_below f all [] = tt
  each_below f all (x ∷ xs) = (all x, each_below f all xs)

  numbers_by_lanes : (op : Residue m → Residue m → Residue m) (f : ℕ → ℕ → ℕ) → ((x y : Residue m) → (op x y).number ≡ f x.number y.number)
      → (xs ys : List (Residue m)) → numbers (by_lanes op xs ys) ≡ zip2 f (numbers xs) (numbers ys)
  numbers_by_lanes op f law [] ys = refl
  numbers_by_lanes op f law (x ∷ xs) [] = refl
  numbers_by_lanes op f law (x ∷ xs) (y ∷ ys) = ap₂ ◌∷◌ (law x y) (numbers_by_lanes op f law xs ys)

  numbers_of_each : (op : Residue m → Residue m) (f : ℕ → ℕ) → ((x : Residue m) → (op x).number ≡ f x.number)
      → (xs : List (Residue m)) → numbers (map op xs) ≡ map f (numbers xs)
  numbers_of_each op f law [] = refl
  numbers_of_each op f law (x ∷ xs) = ap₂ ◌∷◌ (law x) (numbers_of_each op f law xs)

  module _ {R : Type 0} (value : R → Residue m) (make : (n : ℕ) → n < m → R) (same : (n : ℕ) (h : n < m) → (value (make n h)).number ≡ n) where
    numbers_of_elements : (xs : List ℕ) (below : AreBelow m xs) → numbers (map value (elements_of make xs below)) ≡ xs
    numbers_of_elements [] below = refl
    numbers_of_elements (x ∷ xs) below = ap₂ ◌∷◌ (same x below.0) (numbers_of_elements xs below.1)

    -- an operation on the numbers of lanes is one on the lanes
    pub lanes_of_pairs : (op : Residue m → Residue m → Residue m) (f : ℕ → ℕ → ℕ) → ((x y : Residue m) → (op x y).number ≡ f x.number y.number)
        → (xs ys zs : List ℕ) (a : AreBelow m xs) (b : AreBelow m ys) (c : AreBelow m zs) → zs ≡ zip2 f xs ys
        → map value (elements_of make zs c) ≡ by_lanes op (map value (elements_of make xs a)) (map value (elements_of make ys b))
    lanes_of_pairs op f law xs ys zs a b c is =
        same_numbers _ _ (numbers_of_elements zs c ∙ is
        ∙ sym (numbers_by_lanes op f law (map value (elements_of make xs a)) (map value (elements_of make ys b)) ∙ ap₂
        (zip2 f) (numbers_of_elements xs a) (numbers_of_elements ys b)))

    pub lanes_of_each : (op : Residue m → Residue m) (f : ℕ → ℕ) → ((x : Residue m) → (op x).number ≡ f x.number)
        → (xs zs : List ℕ) (a : AreBelow m xs) (c : AreBelow m zs) → zs ≡ map f xs
        → map value (elements_of make zs c) ≡ map op (map value (elements_of make xs a))
    lanes_of_each op f law xs zs a c is =
        same_numbers _ _ (numbers_of_elements zs c ∙ is
        ∙ sym
        (numbers_of_each op f law (map value (elements_of make xs a)) ∙ ap (map f) (numbers_of_elements xs a)))

    pub lanes_of_each_pair : (op : Residue m → Residue m → Residue m) (f : ℕ → ℕ → ℕ) → ((x y : Residue m) → (op x y).number ≡ f x.number y.number)
        → (each : Residue m → Residue m) (h : ℕ → ℕ) → ((x : Residue m) → (each x).number ≡ h x.number)
        → (xs ys zs : List ℕ) (a : AreBelow m xs) (b : AreBelow m ys) (c : AreBelow m zs) → zs ≡ map h (zip2 f xs ys)
        → map value (elements_of make zs c) ≡ map each (by_lanes op (map value (elements_of make xs a)) (map value (elements_of make ys b)))
    lanes_of_each_pair op f law each h each_law xs ys zs a b c is =
        let first = map value (elements_of make xs a) in
        let second = map value (elements_of make ys b) in
        same_numbers _ _ (numbers_of_elements zs c ∙ is
        ∙ sym (numbers_of_each each h each_law (by_lanes op first second) ∙ ap (map h) (numbers_by_lanes op f law first second
        ∙ ap₂ (zip2 f) (numbers_of_elements xs a) (numbers_of_elements ys b))))

    -- lanes in two halves, as two parts of a slice have them
    pub joined_lanes : (xs ys zs : List ℕ) (a : AreBelow m xs) (b : AreBelow m ys) (c : AreBelow m zs) → zs ≡ xs ++ ys
        → map value (elements_of make zs c) ≡ map value (elements_of make xs a ++ elements_of make ys b)
    joined_lanes xs ys zs a b c is =
        let first = elements_of make xs a in
        let second = elements_of make ys b in
        same_numbers _ _ (numbers_of_elements zs c ∙ is
        ∙ sym (ap numbers (map-append value first second) ∙ map-append (λ (x : Residue m). x.number) (map value first) (map value second)
        ∙ ap₂ ◌++◌ (numbers_of_elements xs a) (numbers_of_elements ys b)))

    pub joined_parts : (xs ys zs : List ℕ) (a : AreBelow m xs) (b : AreBelow m ys) (c : AreBelow m zs) → zs ≡ xs ++ ys
        → (all front back : List R) → all ≡ front ++ back → map value (elements_of make xs a)
        ≡ map value front → map value (elements_of make ys b) ≡ map value back
        → map value (elements_of make zs c) ≡ map value all
    joined_parts xs ys zs a b c is all front back parts low high =
        joined_lanes xs ys zs a b c is ∙ map-append value (elements_of make xs a) (elements_of make ys b) ∙ ap₂ ◌++◌ low high
        ∙ sym (map-append value front back) ∙ ap (map value) (sym parts)

    -- and of pairs of which place k has one
    pub joined_places : (n : ℕ) (k : ℕ → ℕ) → ((i : ℕ) → i < n → k i < 2 * n) → ((i : ℕ) → k (n + i) ≡ 2 * n + k i)
        → (xs ys zs : List ℕ) (a : AreBelow m xs) (b : AreBelow m ys) (c : AreBelow m zs) → zs ≡ xs ++ ys → length xs ≡ n
        → (z : R) (all front back : List R) → all ≡ front ++ back → length front ≡ 2 * n
        → ((i : ℕ) → i < n → value (get_or (elements_of make xs a) i z) ≡ value (get_or front (k i) z))
        → ((i : ℕ) → i < n → value (get_or (elements_of make ys b) i z) ≡ value (get_or back (k i) z))
        → (i : ℕ) → i < n + n → value (get_or (elements_of make zs c) i z) ≡ value (get_or all (k i) z)
    joined_places n k inside next xs ys zs a b c is long z all front back parts wide low high =
        halves_by_place value z n k inside next (elements_of make zs c) (elements_of make xs a) (elements_of make ys b) all front back
        (length-elements_of make xs a ∙ long) (joined_lanes xs ys zs a b c is) wide parts low high

    -- eight lanes that are written one after another
    pub eight_lanes : (ys : List R) (x0 x1 x2 x3 x4 x5 x6 x7 : R) (xs : List ℕ) (below : AreBelow m xs) → length ys ≡ 8 → length xs ≡ 8
        → (value x0).number ≡ get_or xs 0 0 → (value x1).number ≡ get_or xs 1 0 → (value x2).number ≡ get_or xs 2 0 → (value x3).number ≡ get_or xs 3 0
        → (value x4).number ≡ get_or xs 4 0 → (value x5).number ≡ get_or xs 5 0 → (value x6).number ≡ get_or xs 6 0 → (value x7).number ≡ get_or xs 7 0
        → map value (set (set (set (set (set (set (set (set ys 0 x0) 1 x1) 2 x2) 3 x3) 4 x4) 5 x5) 6 x6) 7 x7) ≡ map value (elements_of make xs below)
    eight_lanes ys x0 x1 x2 x3 x4 x5 x6 x7 xs below wide long e0 e1 e2 e3 e4 e5 e6 e7 =
        same_numbers _ _ (ap (λ rs. numbers (map value rs)) (eight_written ys x0 x1 x2 x3 x4 x5 x6 x7 wide)
        ∙ (λ i. e0 i ∷ e1 i ∷ e2 i ∷ e3 i ∷ e4 i ∷ e5 i ∷ e6 i ∷ e7 i ∷ [])
        ∙ eight_elements (λ x. x) xs 0 0 0 0 0 0 0 0 long ∙ map-id xs ∙ sym (numbers_of_elements xs below))
