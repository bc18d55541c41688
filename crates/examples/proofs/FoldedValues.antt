-- Folding: the values of folded polynomials from pairs of rows, in natural order and from rows in bit reversed order, and back from
-- two foldings with challenges whose difference has an inverse.
use Rattle.std.proofs.Common.{◌≡◌, ℕ, zero, suc, ◌+◌, ◌-◌, ◌*◌, ◌/◌, ◌%◌, ◌^◌, ◌<◌, ◌≤◌, ◌⊎◌, inl, inr, cond, eqb, List}
use Rattle.std.proofs.Common.{[], ◌∷◌, ◌++◌, length, get_or, take, drop, rules, refl, sym, ap, ap₂, ◌∙◌, subst, arith}
use Rattle.std.proofs.Math.Nat.{two-pow-succ}
use Rattle.std.proofs.lemmas.Bool.{cases_lt}
use Rattle.std.proofs.lemmas.List.{places}
use Rattle.std.proofs.lemmas.Nat.{mul-add-lt}
use Rattle.p3_matrix.specs.RowMajor.{IsRowMajor, RowMajor, height, row}
use Rattle.p3_matrix.proofs.RowMajor.{row_within}
use Rattle.p3_matrix.proofs.TwoPowers.{log_same}
use Rattle.p3_field.specs.declared.fields.Valued.{Ghosts as FieldMembers}
use Rattle.p3_field.specs.Ring.{Ring, minus, power, two, AreRoots, IsInvertible}
use Rattle.p3_field.proofs.Rings
use Rattle.p3_field.proofs.Powers.{power-inverse}
use Rattle.p3_field.proofs.RingSolver.{solve, va, vb, vc, vd, ve, oneₑ, ◌⊞◌, ◌⊠◌, ◌⊟◌, ⊝}
use Rattle.p3_matrix.specs.BitOrder.{rev}
use Rattle.p3_matrix.specs.Combinations.{lengthened}
use Rattle.p3_matrix.specs.Cosets.{IsValues, point, values_of}
use Rattle.p3_matrix.specs.Matrix.{Matrix, Same}
use Rattle.p3_matrix.specs.Polynomials.{poly}
use Rattle.p3_matrix.proofs.BitReversal.{rev-high, rev-low, rev-lt, rev-rev}
use Rattle.p3_matrix.proofs.Polynomials.ByIndex.{poly-add, poly-split, poly-times, poly_same}
use Rattle.p3_matrix.proofs.Polynomials.Combinations.{lengthened_values}
use Rattle.p3_matrix.proofs.Polynomials.Cosets.{entry-poly, is_values, point-mul}
use Rattle.p3_dft.proofs.Laws.Points.{invertible_cancel, point_invertible, point_opposite, point_squared, two_invertible}
use Rattle.p3_dft.specs.Extensions.{arrangement}
use Rattle.p3_dft.specs.declared.traits.Layout.{Layout}
use Rattle.p3_dft.specs.declared.traits.Layout.TheVariants.{Natural, BitReversed}
use Rattle.examples.specs.Foldings.{AreFoldedRows, IsFoldedPair, IsFolding, far_row, folded_coefficients, near_row, pair_point}

-- ---- shapes and lists
-- of a height of two or more, half of it, by logarithms
pub half_height : (log h : ℕ) → h ≡ 2 ^ log → 2 ≤ h → (suc (log - 1) ≡ log) × (h / 2 ≡ 2 ^ (log - 1)) × (2 * (h / 2) ≡ h)
half_height zero h is some = absurd (omega (arith, is, some))
half_height (suc k) h is some =
    let e : suc k - 1 ≡ k = omega arith in
    rw e (refl, omega (arith, is, two-pow-succ k), omega (arith, is, two-pow-succ k))

-- of a height of which another logarithm is known
pub half_of : (log k h : ℕ) → h ≡ 2 ^ log → h ≡ 2 ^ suc k → (log - 1 ≡ k) × (h / 2 ≡ 2 ^ k)
half_of log k h is high = let same : log ≡ suc k = log_same log (suc k) (sym is ∙ high) in (omega (arith, same), omega (arith, high, two-pow-succ k))

pub row_size : {T : Type 0} (m : RowMajor T) (i : ℕ) → IsRowMajor m → i < height m → length (row m i) ≡ m.width
row_size m i whole below = let inside = row_within i (height m) m.width (length m.values) below whole.full in search (rules, places)

pub row_entry : {T : Type 0} (m : RowMajor T) (i j : ℕ) (d : T) → IsRowMajor m → i < height m → j < m.width
    → get_or (row m i) j d ≡ get_or m.values (i * m.width + j) d
row_entry m i j d whole below inside = let within = row_within i (height m) m.width (length m.values) below whole.full in search (rules, places)

-- entry j of a row, as a value
pub row_value : {F : Type 0} (f : FieldMembers F) (m : RowMajor F) (i j : ℕ) (xs : List F) → IsRowMajor m → xs ≡ row m i → i < height m → j < m.width
    → f.value (get_or xs j f.zero) ≡ (values_of f m).entry i j
row_value f m i j xs whole is below inside = ap f.value (ap (λ ys. get_or ys j f.zero) is ∙ row_entry m i j f.zero whole below inside)

-- one more row of w entries at the end of a list
pub one_more_row : {T : Type 0} (P : ℕ → ℕ → T → Type 0) (old new : List T) (d : T) (n w : ℕ) → length old ≡ n * w
    → ((i j : ℕ) → i < n → j < w → P i j (get_or old (i * w + j) d))
    → ((q : ℕ) → q < length old → get_or new q d ≡ get_or old q d) → ((j : ℕ) → j < w → P n j (get_or new (length old + j) d))
    → (i j : ℕ) → i < n + 1 → j < w → P i j (get_or new (i * w + j) d)
one_more_row P old new d n w long before kept last i j below inside = cases (cases_lt i n)
  where
    cases : (i < n) ⊎ (n ≤ i) → P i j (get_or new (i * w + j) d)
    cases (inl less) = subst (P i j) (sym (kept (i * w + j) (omega (arith, long, mul-add-lt i w j n less inside)))) (before i j less inside)
    cases (inr more) =
        let is : n ≡ i = omega (arith, below, more) in
        let place : length old + j ≡ i * w + j = omega (arith, long, ap (λ q. q * w) is) in
        subst (λ q. P q j (get_or new (i * w + j) d)) is (subst (λ q. P n j (get_or new q d)) place (last j inside))

-- what is written over a whole list is there
pub written_over : {T : Type 0} (n i : ℕ) (xs ys : List T) (d : T) → length xs ≡ n → length ys ≡ n → i < n
    → get_or (take n (ys ++ drop (length ys) xs)) i d ≡ get_or ys i d
written_over n i xs ys d long size below = search (rules, places)

module _ {A : Type 0} (R : Ring A) where
  open R use {add as ◌⊕◌, mul as ◌⊗◌, neg, one as 𝟙}

  infixl 60 ◌⊕◌
  infixl 70 ◌⊗◌
  -- ---- one pair
  -- where a and b are e + x o and e - x o, the folded value is e + beta o
  pair_of_parts : (beta x e o : A) → IsFoldedPair R beta x (e ⊕ x ⊗ o) (e ⊕ neg x ⊗ o) (e ⊕ beta ⊗ o)
  pair_of_parts beta x e o =
      solve R (x ∷ beta ∷ e ∷ o ∷ []) ((oneₑ ⊞ oneₑ) ⊠ (va ⊠ (vc ⊞ vb ⊠ vd)))
      (va ⊠ ((vc ⊞ va ⊠ vd) ⊞ (vc ⊞ ⊝ va ⊠ vd)) ⊞ vb ⊠ ((vc ⊞ va ⊠ vd) ⊟ (vc ⊞ ⊝ va ⊠ vd))) refl

  pub pair_same : (beta : A) {x y a b c d v w : A} → x ≡ y → a ≡ c → b ≡ d → v ≡ w → IsFoldedPair R beta x a b v → IsFoldedPair R beta y c d w
  pair_same beta e f g h pair = rw (sym e, sym f, sym g, sym h) pair

  -- a pair has one folded value
  pub one_folded_value : (beta x a b v w : A) → IsInvertible R x → IsFoldedPair R beta x a b v → IsFoldedPair R beta x a b w → v ≡ w
  one_folded_value beta x a b v w inverse first second =
      invertible_cancel R x v w inverse (invertible_cancel R (two R) (x ⊗ v) (x ⊗ w) (two_invertible R (two R) refl) (first ∙ sym second))

  -- and two folded values have one pair
  pub one_pair : (beta gamma x a b c d v w : A) → IsInvertible R x → IsInvertible R (minus R beta gamma)
      → IsFoldedPair R beta x a b v → IsFoldedPair R gamma x a b w
      → IsFoldedPair R beta x c d v → IsFoldedPair R gamma x c d w → (a ≡ c) × (b ≡ d)
  one_pair beta gamma x a b c d v w inverse apart first second third fourth = (
    invertible_cancel R (two R) a c (two_invertible R (two R) refl) (first_of a b ∙ ap₂ ◌⊕◌ sums differences ∙ sym (first_of c d)),
    invertible_cancel R (two R) b d (two_invertible R (two R) refl) (second_of a b ∙ ap₂ (λ p q. p ⊕ neg q) sums differences ∙ sym (second_of c d)),
  )
    where
      difference_of : (p q : A) → minus R beta gamma ⊗ minus R p q ≡ minus R (x ⊗ (p ⊕ q) ⊕ beta ⊗ minus R p q) (x ⊗ (p ⊕ q) ⊕ gamma ⊗ minus R p q)
      difference_of p q =
          solve R (beta ∷ gamma ∷ x ∷ p ∷ q ∷ []) ((va ⊟ vb) ⊠ (vd ⊟ ve)) ((vc ⊠ (vd ⊞ ve) ⊞ va ⊠ (vd ⊟ ve)) ⊟ (vc ⊠ (vd ⊞ ve) ⊞ vb ⊠ (vd ⊟ ve))) refl

      differences : minus R a b ≡ minus R c d
      differences =
          invertible_cancel R (minus R beta gamma) (minus R a b) (minus R c d) apart
          (difference_of a b ∙ ap₂ (minus R) (sym first ∙ third) (sym second ∙ fourth) ∙ sym (difference_of c d))

      sum_of : (p q : A) → x ⊗ (p ⊕ q) ≡ minus R (x ⊗ (p ⊕ q) ⊕ beta ⊗ minus R p q) (beta ⊗ minus R p q)
      sum_of p q = solve R (beta ∷ x ∷ p ∷ q ∷ []) (vb ⊠ (vc ⊞ vd)) ((vb ⊠ (vc ⊞ vd) ⊞ va ⊠ (vc ⊟ vd)) ⊟ va ⊠ (vc ⊟ vd)) refl

      sums : a ⊕ b ≡ c ⊕ d
      sums =
          invertible_cancel R x (a ⊕ b) (c ⊕ d) inverse
          (sum_of a b ∙ ap₂ (λ p q. minus R p (beta ⊗ q)) (sym first ∙ third) differences ∙ sym (sum_of c d))

      first_of : (p q : A) → two R ⊗ p ≡ (p ⊕ q) ⊕ minus R p q
      first_of p q = solve R (p ∷ q ∷ []) ((oneₑ ⊞ oneₑ) ⊠ va) ((va ⊞ vb) ⊞ (va ⊟ vb)) refl

      second_of : (p q : A) → two R ⊗ q ≡ (p ⊕ q) ⊕ neg (minus R p q)
      second_of p q = solve R (p ∷ q ∷ []) ((oneₑ ⊞ oneₑ) ⊠ vb) ((va ⊞ vb) ⊟ (va ⊟ vb)) refl

  -- where a factor is the challenge over twice x
  pub pair_by_factor : (beta x near far factor h result : A) → h ⊕ h ≡ near ⊕ far → result ≡ h ⊕ factor ⊗ minus R near far → two R ⊗ (x ⊗ factor) ≡ beta
      → IsFoldedPair R beta x near far result
  pair_by_factor beta x near far factor h result twice is challenge =
      ap (λ v. two R ⊗ (x ⊗ v)) is
      ∙ solve R (x ∷ h ∷ factor ∷ minus R near far ∷ []) ((oneₑ ⊞ oneₑ) ⊠ (va ⊠ (vb ⊞ vc ⊠ vd))) (va ⊠ (vb ⊞ vb) ⊞ ((oneₑ ⊞ oneₑ) ⊠ (va ⊠ vc)) ⊠ vd) refl
      ∙ ap₂ (λ p q. x ⊗ p ⊕ q ⊗ minus R near far) twice challenge

  -- as it is at a point, from the inverses of the shift and of the root
  pub factor_at_point : (g : ℕ → A) (k i : ℕ) (s t u h beta factor : A) → s ⊗ t ≡ 𝟙 → g (suc k) ⊗ u ≡ 𝟙 → h ⊕ h ≡ beta → factor ≡ (h ⊗ t) ⊗ power R u i
      → two R ⊗ (point R g (suc k) s i ⊗ factor) ≡ beta
  factor_at_point g k i s t u h beta factor shift root twice is =
      let p = power R (g (suc k)) i in
      let q = power R u i in
      ap₂ (λ a b. two R ⊗ (a ⊗ b)) (point-mul R g (suc k) s i) is
      ∙ solve R (s ∷ p ∷ h ∷ t ∷ q ∷ []) ((oneₑ ⊞ oneₑ) ⊠ ((va ⊠ vb) ⊠ ((vc ⊠ vd) ⊠ ve))) (((va ⊠ vd) ⊠ (vb ⊠ ve)) ⊠ (vc ⊞ vc)) refl
      ∙ ap₂ (λ a b. (a ⊗ b) ⊗ (h ⊕ h)) shift (power-inverse R (g (suc k)) u i root) ∙ ap₂ ◌⊗◌ (R.mul_one 𝟙) twice ∙ Rings.one-mul R beta

  -- a polynomial's value at -x by its even and odd coefficients
  parts_of_opposite : (n : ℕ) (f : ℕ → A) (x : A) → poly R (2 * n) f (neg x) ≡ poly R n (λ j. f (2 * j)) (x ⊗ x) ⊕ neg x ⊗ poly R n (λ j. f (2 * j + 1)) (x ⊗ x)
  parts_of_opposite n f x =
      poly-split R n f (neg x)
      ∙ ap (λ y. poly R n (λ j. f (2 * j)) y ⊕ neg x ⊗ poly R n (λ j. f (2 * j + 1)) y) (solve R (x ∷ []) (⊝ va ⊠ ⊝ va) (va ⊠ va) refl)

  -- so the folded polynomial's value at x * x makes a folded pair with them
  pub folded_poly : (n : ℕ) (f : ℕ → A) (beta x : A)
      → IsFoldedPair R beta x (poly R (2 * n) f x) (poly R (2 * n) f (neg x)) (poly R n (λ j. f (2 * j) ⊕ beta ⊗ f (2 * j + 1)) (x ⊗ x))
  folded_poly n f beta x =
      let e = poly R n (λ j. f (2 * j)) (x ⊗ x) in
      let o = poly R n (λ j. f (2 * j + 1)) (x ⊗ x) in
      let value : poly R n (λ j. f (2 * j) ⊕ beta ⊗ f (2 * j + 1)) (x ⊗ x) ≡ e ⊕ beta ⊗ o =
      poly-add R n (λ j. f (2 * j)) (λ j. beta ⊗ f (2 * j + 1)) (x ⊗ x) ∙ ap (λ y. e ⊕ y) (poly-times R n beta (λ j. f (2 * j + 1)) (x ⊗ x)) in
      ap (λ v. two R ⊗ (x ⊗ v)) value ∙ pair_of_parts beta x e o
      ∙ ap₂ (λ a b. x ⊗ (a ⊕ b) ⊕ beta ⊗ minus R a b) (sym (poly-split R n f x)) (sym (parts_of_opposite n f x))

module _ {A : Type 0} (R : Ring A) {g : ℕ → A} {bits : ℕ} (G : AreRoots R bits g) where
  open R use {add as ◌⊕◌, mul as ◌⊗◌, neg, one as 𝟙}

  infixl 60 ◌⊕◌
  infixl 70 ◌⊗◌
  -- ---- rows
  -- the folded polynomial's value at a point makes a folded pair with the rows at the point and at minus it
  polynomials_fold : (beta : A) (k : ℕ) (s : A) (c m : Matrix A) → k < bits → IsValues R g c (suc k) s m → (i j : ℕ) → i < 2 ^ k → j < c.width
      → IsFoldedPair R beta (point R g (suc k) s i) (m.entry i j) (m.entry (2 ^ k + i) j)
      (poly R ((c.height + 1) / 2) (λ q. (folded_coefficients R beta c).entry q j) (point R g k (s ⊗ s) i))
  polynomials_fold beta k s c m within v i j below inside =
      let n = (c.height + 1) / 2 in
      let x = point R g (suc k) s i in
      let f = λ (q : ℕ). (lengthened R.zero (2 * n) c).entry q j in
      let all = lengthened_values R g c m (2 * n) (suc k) s (omega arith) v in
      let near : m.entry i j ≡ poly R (2 * n) f x = entry-poly R g (lengthened R.zero (2 * n) c) (suc k) s m all i j (omega (arith, two-pow-succ k)) inside in
      let far : m.entry (2 ^ k + i) j ≡ poly R (2 * n) f (neg x) =
      entry-poly R g (lengthened R.zero (2 * n) c) (suc k) s m all (2 ^ k + i) j (omega (arith, two-pow-succ k)) inside
      ∙ ap (poly R (2 * n) f) (point_opposite R G k s i within) in
      ap (λ y. two R ⊗ (x ⊗ poly R n (λ q. f (2 * q) ⊕ beta ⊗ f (2 * q + 1)) y)) (sym (point_squared R G k s i within))
      ∙ folded_poly R n f beta x ∙ ap₂ (λ a b. x ⊗ (a ⊕ b) ⊕ beta ⊗ minus R a b) (sym near) (sym far)

  -- rows that are folded pair by pair have the values of the folded polynomials
  pub folded_values : (beta : A) (k : ℕ) (s : A) (m out : Matrix A) → k < bits → IsInvertible R s
      → AreFoldedRows R g beta k s m out → IsFolding R g beta k s m out
  folded_values beta k s m out within inverse folded c v =
      is_values R g (folded_coefficients R beta c) k (s ⊗ s) out folded.half (folded.width ∙ v.width)
      (λ i j below inside.
      one_folded_value R beta (point R g (suc k) s i) (m.entry i j) (m.entry (2 ^ k + i) j) (out.entry i j) _
      (point_invertible R G (suc k) s i (point R g (suc k) s i) refl (omega (arith, within)) inverse)
      (folded.rows i j below (omega (arith, inside, v.width)))
      (polynomials_fold beta k s c m within v i j below inside))

  -- in either layout
  folded_in_layout : (layout : Layout) (beta : A) (k : ℕ) (s : A) (m out : Matrix A) → m.height ≡ 2 ^ suc k → out.height ≡ 2 ^ k → out.width ≡ m.width
      → ((i j : ℕ) → i < 2 ^ k → j < m.width
      → IsFoldedPair R beta (point R g (suc k) s (pair_point layout k i)) (m.entry (near_row layout k i) j) (m.entry (far_row layout k i) j) (out.entry i j))
      → AreFoldedRows R g beta k s (arrangement layout (suc k) m) (arrangement layout k out)
  folded_in_layout Natural beta k s m out tall high wide rows = record { height = tall; half = high; width = wide; rows = rows }
  folded_in_layout BitReversed beta k s m out tall high wide rows = record {
    height = tall;
    half = high;
    width = wide;
    rows = λ i j below inside.
        pair_same R beta (ap (point R g (suc k) s) (rev-rev k i below))
        (ap (λ n. m.entry n j) (sym (rev-low k i below))) (ap (λ n. m.entry n j) (sym (rev-high k i below)))
        refl (rows (rev k i) j (rev-lt k i) inside);
  }

  -- from a factor for each pair: the challenge over twice its point
  pub rows_by_factors : (layout : Layout) (beta : A) (k log half : ℕ) (s : A) (m out : Matrix A) (factor read : ℕ → A)
      → log ≡ k → half ≡ 2 ^ k → m.height ≡ 2 ^ suc k → out.height ≡ half → out.width ≡ m.width
      → ((i : ℕ) → i < 2 ^ log → two R ⊗ (point R g (suc log) s (pair_point layout log i) ⊗ factor i) ≡ beta)
      → ((i : ℕ) → read i ≡ factor i)
      → ((x : ℕ → A) → ((i : ℕ) → i < half → two R ⊗ (x i ⊗ read i) ≡ beta) → (i j : ℕ) → i < half → j < m.width
      → IsFoldedPair R beta (x i) (m.entry (near_row layout k i) j) (m.entry (far_row layout k i) j) (out.entry i j))
      → AreFoldedRows R g beta k s (arrangement layout (suc k) m) (arrangement layout k out)
  rows_by_factors layout beta k log half s m out factor read same power tall high wide factors reads rows =
      let here : (i : ℕ) → i < 2 ^ k → two R ⊗ (point R g (suc k) s (pair_point layout k i) ⊗ factor i) ≡ beta =
      subst (λ n. (i : ℕ) → i < 2 ^ n → two R ⊗ (point R g (suc n) s (pair_point layout n i) ⊗ factor i) ≡ beta) same factors in
      folded_in_layout layout beta k s m out tall (high ∙ power) wide
      (λ i j below inside.
      rows (λ q. point R g (suc k) s (pair_point layout k q)) (λ q l. ap (λ y. two R ⊗ (point R g (suc k) s (pair_point layout k q) ⊗ y)) (reads q)
      ∙ here q (omega (arith, l, power)))
      i j (omega (arith, below, power)) inside)

  -- ---- back
  module _ (beta gamma : A) (apart : IsInvertible R (minus R beta gamma)) (k : ℕ) (s : A) (within : k < bits) (inverse : IsInvertible R s) where
    abbrev at : ℕ → A
    at i = point R g (suc k) s i

    at_invertible : (i : ℕ) → IsInvertible R (at i)
    at_invertible i = point_invertible R G (suc k) s i (point R g (suc k) s i) refl (omega (arith, within)) inverse

    -- what holds of both rows of each pair holds of each row
    by_pairs : (P : ℕ → Type 0) → ((i : ℕ) → i < 2 ^ k → P i × P (2 ^ k + i)) → (i : ℕ) → i < 2 ^ suc k → P i
    by_pairs P both i below = cases (cases_lt i (2 ^ k))
      where
        cases : (i < 2 ^ k) ⊎ (2 ^ k ≤ i) → P i
        cases (inl first) = (both i first).0
        cases (inr second) =
            let place : 2 ^ k + (i - 2 ^ k) ≡ i = omega (arith, second) in
            subst P place (both (i - 2 ^ k) (omega (arith, below, second, two-pow-succ k))).1

    -- matrices with the same two foldings are one
    pub foldings_determine : (m n y z : Matrix A)
        → AreFoldedRows R g beta k s m y → AreFoldedRows R g gamma k s m z → AreFoldedRows R g beta k s n y → AreFoldedRows R g gamma k s n z → Same m n
    foldings_determine m n y z first second third fourth = record {
      height = first.height ∙ sym third.height;
      width = sym first.width ∙ third.width;
      alike = λ i j below inside. by_pairs (λ q. m.entry q j ≡ n.entry q j) (λ q l. both q j l inside) i (omega (arith, below, first.height));
    }
      where
        both : (i j : ℕ) → i < 2 ^ k → j < m.width → (m.entry i j ≡ n.entry i j) × (m.entry (2 ^ k + i) j ≡ n.entry (2 ^ k + i) j)
        both i j below inside =
            let other : j < n.width = omega (arith, inside, first.width, third.width) in
            one_pair R beta gamma (at i) (m.entry i j) (m.entry (2 ^ k + i) j) (n.entry i j) (n.entry (2 ^ k + i) j)
            (y.entry i j) (z.entry i j) (at_invertible i) apart
            (first.rows i j below inside) (second.rows i j below inside) (third.rows i j below other) (fourth.rows i j below other)

    -- the coefficients whose foldings are c with beta and d with gamma
    abbrev pub unfolded : Matrix A → Matrix A → Matrix A
    unfolded c d =
        let odd = λ (q j : ℕ). apart.0 ⊗ minus R (c.entry q j) (d.entry q j) in
        record {
          height = 2 * c.height;
          width = c.width;
          entry = λ i j. cond (eqb (i % 2) 0) (minus R (c.entry (i / 2) j) (beta ⊗ odd (i / 2) j)) (odd (i / 2) j);
        }

    -- where both foldings have the values of polynomials with so many coefficients, the rows have those of polynomials with twice as many
    pub unfolded_values : (c d m y z : Matrix A) → c.height ≡ d.height → IsValues R g c k (s ⊗ s) y → IsValues R g d k (s ⊗ s) z
        → AreFoldedRows R g beta k s m y → AreFoldedRows R g gamma k s m z → IsValues R g (unfolded c d) (suc k) s m
    unfolded_values c d m y z tall of_y of_z first second =
        is_values R g (unfolded c d) (suc k) s m first.height (sym first.width ∙ of_y.width)
        (λ i j below inside. by_pairs (λ q. m.entry q j ≡ poly R (2 * h) (u j) (at q)) (λ q l. both q j l inside) i below)
      where
        h : ℕ
        h = c.height

        t : A
        t = apart.0

        u : ℕ → ℕ → A
        u j q = (unfolded c d).entry q j

        both : (i j : ℕ) → i < 2 ^ k → j < c.width
            → (m.entry i j ≡ poly R (2 * h) (u j) (at i)) × (m.entry (2 ^ k + i) j ≡ poly R (2 * h) (u j) (at (2 ^ k + i)))
        both i j below inside =
            let x = at i in
            let p = point R g k (s ⊗ s) i in
            let squared : x ⊗ x ≡ p = point_squared R G k s i within in
            let in_y : j < y.width = omega (arith, inside, of_y.width) in
            let in_m : j < m.width = omega (arith, in_y, first.width) in
            let in_d : j < d.width = omega (arith, in_m, second.width, of_z.width) in
            let f = λ (q : ℕ). c.entry q j in
            let e = λ (q : ℕ). d.entry q j in
            let v : y.entry i j ≡ poly R h f (x ⊗ x) = entry-poly R g c k (s ⊗ s) y of_y i j below inside ∙ ap (poly R h f) (sym squared) in
            let w : z.entry i j ≡ poly R h e (x ⊗ x) =
            entry-poly R g d k (s ⊗ s) z of_z i j below in_d ∙ ap (λ n. poly R n e p) (sym tall) ∙ ap (poly R h e) (sym squared) in
            let even : (q : ℕ) → u j (2 * q) ≡ minus R (f q) (beta ⊗ (t ⊗ minus R (f q) (e q))) = λ q.
            (let rest : (2 * q) % 2 ≡ 0 = omega arith in let half : (2 * q) / 2 ≡ q = omega arith in
            ap₂ (λ a b. cond (eqb a 0) (minus R (f b) (beta ⊗ (t ⊗ minus R (f b) (e b)))) (t ⊗ minus R (f b) (e b))) rest half) in
            let odd : (q : ℕ) → u j (2 * q + 1) ≡ t ⊗ minus R (f q) (e q) = λ q.
            (let rest : (2 * q + 1) % 2 ≡ 1 = omega arith in let half : (2 * q + 1) / 2 ≡ q = omega arith in
            ap₂ (λ a b. cond (eqb a 0) (minus R (f b) (beta ⊗ (t ⊗ minus R (f b) (e b)))) (t ⊗ minus R (f b) (e b))) rest half) in
            let with_beta : poly R h (λ q. u j (2 * q) ⊕ beta ⊗ u j (2 * q + 1)) (x ⊗ x) ≡ y.entry i j =
            poly_same R h (λ q. u j (2 * q) ⊕ beta ⊗ u j (2 * q + 1)) f (x ⊗ x)
            (λ q l. ap₂ (λ a b. a ⊕ beta ⊗ b) (even q) (odd q)
            ∙ solve R (f q ∷ beta ∷ t ⊗ minus R (f q) (e q) ∷ []) ((va ⊟ vb ⊠ vc) ⊞ vb ⊠ vc) va refl) ∙ sym v in
            let with_gamma : poly R h (λ q. u j (2 * q) ⊕ gamma ⊗ u j (2 * q + 1)) (x ⊗ x) ≡ z.entry i j =
            poly_same R h (λ q. u j (2 * q) ⊕ gamma ⊗ u j (2 * q + 1)) e (x ⊗ x)
            (λ q l. ap₂ (λ a b. a ⊕ gamma ⊗ b) (even q) (odd q)
            ∙ solve R (f q ∷ beta ∷ t ∷ minus R (f q) (e q) ∷ gamma ∷ []) ((va ⊟ vb ⊠ (vc ⊠ vd)) ⊞ ve ⊠ (vc ⊠ vd)) (va ⊟ ((vb ⊟ ve) ⊠ vc) ⊠ vd) refl
            ∙ ap (λ r. minus R (f q) (r ⊗ minus R (f q) (e q))) apart.1
            ∙ solve R (f q ∷ e q ∷ []) (va ⊟ oneₑ ⊠ (va ⊟ vb)) vb refl) ∙ sym w in
            let pair = one_pair R beta gamma x (m.entry i j) (m.entry (2 ^ k + i) j) (poly R (2 * h) (u j) x)
            (poly R (2 * h) (u j) (neg x)) (y.entry i j) (z.entry i j) (at_invertible i) apart
            (first.rows i j below in_m) (second.rows i j below in_m)
            (ap (λ r. two R ⊗ (x ⊗ r)) (sym with_beta) ∙ folded_poly R h (u j) beta x)
            (ap (λ r. two R ⊗ (x ⊗ r)) (sym with_gamma) ∙ folded_poly R h (u j) gamma x) in
            (pair.0, pair.1 ∙ ap (poly R (2 * h) (u j)) (sym (point_opposite R G k s i within)))
