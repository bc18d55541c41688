-- Rows that change places in the list of a matrix's entries.
use Rattle.p3_matrix.proofs.Names.{◌≡◌, ℕ, ◌+◌, ◌-◌, ◌*◌, ◌/◌, ◌<◌, ◌≤◌, ◌⊎◌, inl, inr, ⊎_elim, ◌==◌, if◌then◌else◌, List, ◌++◌, length, get_or, take, drop}
use Rattle.p3_matrix.proofs.Names.{refl, sym, ap, ◌∙◌, arith, append-nil, rules, drop_of_length-le, take-length, cases_lt, cases_eq, eq-eqb, ne_eqb, Swapped}
use Rattle.p3_matrix.proofs.Names.{RowMajor, matrix, row_exchange, Same, IsExchange, with_values, places, length-append}
use Rattle.p3_matrix.proofs.RowMajor.{row_within}

-- as many entries written over all of a matrix replace them
pub all_written : {T : Type 0} (xs ys : List T) → length ys ≡ length xs → take (length xs) (ys ++ drop (length ys) xs) ≡ ys
all_written xs ys e =
    ap (λ zs. take (length xs) (ys ++ zs)) (drop_of_length-le xs {i = length ys} (omega arith)) ∙ ap (take (length xs)) (append-nil ys)
    ∙ ap (λ n. take n ys) (sym e) ∙ take-length ys

-- the entries of another row stand outside of row i
pub outside_row : (i r w c : ℕ) → c < w → (r ≡ i → ⊥) → (r * w + c < i * w) ⊎ (i * w + w ≤ r * w + c)
outside_row i r w c l n =
    ⊎_elim (λ p. inl (omega (arith, row_within r i w (i * w) p refl)))
    (λ p. inr (omega (arith, row_within i r w (r * w) (omega arith) refl))) (cases_lt r i)

-- column by column, an exchange of rows is an exchange of entries
pub swapped_column : {T : Type 0} (xs ys : List T) (a b w c : ℕ) (d : T) → IsExchange xs ys (a * w) (b * w) w → c < w
    → Swapped (λ r. get_or xs (r * w + c) d) (λ r. get_or ys (r * w + c) d) a b
swapped_column xs ys a b w c d e l = (e.first c d l, e.second c d l, λ r n o. e.others (r * w + c) d (outside_row a r w c l n) (outside_row b r w c l o))

pub swapped_at : {X : Type 0} (f g : ℕ → X) (a b : ℕ) → Swapped f g a b → (r : ℕ) → g r ≡ (if r == a then f b else (if r == b then f a else f r))
swapped_at f g a b s r = go (cases_eq r a) (cases_eq r b)
  where
    go : (r ≡ a) ⊎ (r ≡ a → ⊥) → (r ≡ b) ⊎ (r ≡ b → ⊥) → g r ≡ (if r == a then f b else (if r == b then f a else f r))
    go (inl e) q = rw (eq-eqb r a e) (ap g e ∙ s.0)
    go (inr n) (inl e) = rw (ne_eqb r a n, eq-eqb r b e) (ap g e ∙ s.1)
    go (inr n) (inr o) = rw (ne_eqb r a n, ne_eqb r b o) (s.2 r n o)

-- a matrix whose entries were replaced, each column by one with two entries exchanged
pub exchanged_rows : {T : Type 0} (m : RowMajor T) (ys : List T) (a b : ℕ) → length ys ≡ length m.values
    → ((c : ℕ) (d : T) → c < m.width → Swapped (λ r. get_or m.values (r * m.width + c) d) (λ r. get_or ys (r * m.width + c) d) a b)
    → (d : T) → Same (matrix d (with_values m ys)) (row_exchange a b (matrix d m))
exchanged_rows m ys a b e s d =
    let is = all_written m.values ys e in
    record {
      height = ap (λ zs. length zs / m.width) is ∙ ap (λ n. n / m.width) e;
      width = refl;
      alike = λ r c p q.
          ap (λ zs. get_or zs (r * m.width + c) d) is
          ∙ swapped_at (λ k. get_or m.values (k * m.width + c) d) (λ k. get_or ys (k * m.width + c) d) a b (s c d q) r;
    }

-- two parts of one length, in each other's places: the first lies in the front, the second begins the rest
module _ {T : Type 0} (front back : List T) (a n : ℕ) (apart : a + n ≤ length front) (within : n ≤ length back) where
  moved : IsExchange (front ++ back) ((take a front ++ (take n back ++ drop n (drop a front))) ++ (take n (drop a front) ++ drop n back)) a (length front) n
  moved = record {
    first = λ i d l. search (rules, places);
    second = λ i d l. search (rules, places);
    others = λ i d l r. ⊎_elim (λ low. search (rules, places)) (λ high. ⊎_elim (λ inner. search (rules, places)) (λ outer. search (rules, places)) r) l;
  }

pub exchanged_parts : {T : Type 0} (xs front back p q : List T) (a b n : ℕ) → xs ≡ front ++ back → length front ≡ b
    → a + n ≤ b → b + n ≤ length xs → p ≡ take n back → q ≡ take (a + n - a) (drop a front)
    → IsExchange xs ((take a front ++ (p ++ drop (a + n - a) (drop a front))) ++ (q ++ drop n back)) a b n
exchanged_parts xs front back p q a b n parts long apart within first second =
    let same : a + n - a ≡ n = omega arith in
    rw (parts, first, second, same, ← long) (moved front back a n (omega (arith, apart, long))
    (omega (arith, within, ap length parts, length-append front back, long)))
