-- Chunks of rows: a network in two halves. Of 2 ^ (mid + left) rows, a chunk of the second half has 2 ^ left rows that follow one another.
use Rattle.p3_networks.proofs.Names.{◌≡◌, ℕ, zero, suc, ◌+◌, ◌*◌, ◌-◌, ◌/◌, ◌%◌, ◌<◌, ◌≤◌, ◌^◌, List, get_or, refl, sym, ap, ap₂, ◌∙◌, [], ◌∷◌, arith, pow-add}
use Rattle.p3_networks.proofs.Names.{pow_pos, div-add-mod', div_below, mod_below, Ring, power, AreRoots, solve, va, vb, vc, ◌⊠◌, power-add, power-mul}
use Rattle.p3_networks.proofs.Names.{power_of_product, root_strided, root_all, rev, rev-block, rev-lt, rev-rev, point, poly, poly_same, poly-add, poly-append}
use Rattle.p3_networks.proofs.Names.{poly-none, poly-times, poly_zeros, point-mul}
use Rattle.p3_networks.proofs.Networks.Stages.{twiddle}

-- the digits of a row of a chunk, in reverse
pub row_digits : (mid left a t : ℕ) → t < 2 ^ left → rev (mid + left) (a * 2 ^ left + t) ≡ rev left t * 2 ^ mid + rev mid a
row_digits mid left a t inside = let order : mid + left ≡ left + mid = omega arith in ap (λ n. rev n (a * 2 ^ left + t)) order ∙ rev-block left mid a t inside

next_place : {A : Type 0} (R : Ring A) (n m : ℕ) (c : ℕ → A) (j : ℕ) (x : A)
    → R.add (c j) (R.mul (power R x m) (poly R n (λ q. c (m + (q * m + j))) (power R x m))) ≡ poly R (suc n) (λ q. c (q * m + j)) (power R x m)
unfolding poly
next_place R n m c j x = ap₂ (λ a b. R.add a (R.mul (power R x m) b)) (ap c (omega arith)) (poly_same R n _ _ (power R x m) (λ q p. ap c (omega arith)))

-- n * m coefficients, by those at every m-th place: their n values at the m-th power are the coefficients of a polynomial with the value of the whole
pub poly_by_places : {A : Type 0} (R : Ring A) (n m : ℕ) (c : ℕ → A) (x : A)
    → poly R (n * m) c x ≡ poly R m (λ j. poly R n (λ q. c (q * m + j)) (power R x m)) x
poly_by_places R zero m c x =
    let none : 0 * m ≡ 0 = omega arith in
    ap (λ k. poly R k c x) none ∙ poly-none R c x ∙ sym (poly_zeros R m _ x (λ j p. poly-none R _ _))
poly_by_places R (suc n) m c x =
    let more : suc n * m ≡ m + n * m = omega arith in
    let y = power R x m in
    let f = λ (j : ℕ). poly R n (λ q. c (m + (q * m + j))) y in
    ap (λ k. poly R k c x) more ∙ poly-append R m (n * m) c x
    ∙ ap (λ z. R.add (poly R m c x) (R.mul y z)) (poly_by_places R n m (λ j. c (m + j)) x)
    ∙ ap (λ z. R.add (poly R m c x) z) (sym (poly-times R m y f x)) ∙ sym (poly-add R m c (λ j. R.mul y (f j)) x)
    ∙ poly_same R m _ _ x (λ j p. next_place R n m c j x)

module _ {A : Type 0} (R : Ring A) {g : ℕ → A} {bits : ℕ} (G : AreRoots R bits g) (s : A) where
  open R use {mul as ◌⊗◌}

  infixl 70 ◌⊗◌
  -- chunk b is a network of its own, on the coset of point rev mid b: with `done` of its layers done, its block u takes what block
  -- b * 2 ^ done + u of the whole does
  pub chunk_twiddle : (mid left done b u : ℕ) → mid + left ≤ bits → done < left → u < 2 ^ done
      → power R s (2 ^ (mid + left - 1 - (mid + done))) ⊗ power R (g (mid + done + 1)) (rev (mid + done) (b * 2 ^ done + u))
      ≡ twiddle R g (point R g (mid + left) s (rev mid b)) done (left - 1 - done) (rev done u)
  unfolding twiddle
  chunk_twiddle mid left done b u within below inside =
      let e = left - 1 - done in
      let f : mid + left - 1 - (mid + done) ≡ e = omega arith in
      let order : mid + done ≡ done + mid = omega arith in
      let digits : rev (mid + done) (b * 2 ^ done + u) ≡ rev done u * 2 ^ mid + rev mid b =
      ap (λ n. rev n (b * 2 ^ done + u)) order ∙ rev-block done mid b u inside in
      let top : mid + done + 1 ≡ suc done + mid = omega arith in
      let whole : mid + done + 1 + e ≡ mid + left = omega arith in
      let first : power R (g (mid + done + 1)) (rev done u * 2 ^ mid) ≡ power R (g (suc done)) (rev done u) =
      ap (λ n. power R (g n) (rev done u * 2 ^ mid)) top ∙ root_strided R G (suc done) mid (rev done u) (omega arith) in
      let second : power R (g (mid + done + 1)) (rev mid b) ≡ power R (power R (g (mid + left)) (rev mid b)) (2 ^ e) =
      sym (root_strided R G (mid + done + 1) e (rev mid b) (omega arith))
      ∙ ap (λ n. power R (g n) (rev mid b * 2 ^ e)) whole ∙ power-mul R (g (mid + left)) (rev mid b) (2 ^ e) in
      ap₂ (λ n t. power R s (2 ^ n) ⊗ power R (g (mid + done + 1)) t) f digits
      ∙ ap (λ x. power R s (2 ^ e) ⊗ x) (power-add R (g (mid + done + 1)) (rev done u * 2 ^ mid) (rev mid b) ∙ ap₂ ◌⊗◌ first second)
      ∙ solve R (power R s (2 ^ e) ∷ power R (g (suc done)) (rev done u) ∷ power R
      (power R (g (mid + left)) (rev mid b)) (2 ^ e) ∷ []) (va ⊠ (vb ⊠ vc)) ((va ⊠ vc) ⊠ vb) refl
      ∙ ap (λ x. x ⊗ power R (g (suc done)) (rev done u)) (sym
      (ap (λ x. power R x (2 ^ e)) (point-mul R g (mid + left) s (rev mid b)) ∙ power_of_product R s _ (2 ^ e)))

  -- where the chunks of the second half end: at the points of the whole, in bit reversed order
  pub chunk_point : (mid left a t : ℕ) → mid + left ≤ bits → t < 2 ^ left
      → point R g left (point R g (mid + left) s (rev mid a)) (rev left t) ≡ point R g (mid + left) s (rev (mid + left) (a * 2 ^ left + t))
  chunk_point mid left a t within inside =
      let order : mid + left ≡ left + mid = omega arith in
      let digits = row_digits mid left a t inside in
      let root : power R (g (mid + left)) (rev left t * 2 ^ mid) ≡ power R (g left) (rev left t) =
      ap (λ n. power R (g n) (rev left t * 2 ^ mid)) order ∙ root_strided R G left mid (rev left t) (omega arith) in
      point-mul R g left (point R g (mid + left) s (rev mid a)) (rev left t)
      ∙ ap (λ x. x ⊗ power R (g left) (rev left t)) (point-mul R g (mid + left) s (rev mid a))
      ∙ solve R (s ∷ power R (g (mid + left)) (rev mid a) ∷ power R (g left) (rev left t) ∷ []) ((va ⊠ vb) ⊠ vc) (va ⊠ (vc ⊠ vb)) refl
      ∙ ap (λ x. s ⊗ (x ⊗ power R (g (mid + left)) (rev mid a))) (sym root)
      ∙ ap (λ x. s ⊗ x) (sym (power-add R (g (mid + left)) (rev left t * 2 ^ mid) (rev mid a)) ∙ ap (power R (g (mid + left))) (sym digits))
      ∙ sym (point-mul R g (mid + left) s (rev (mid + left) (a * 2 ^ left + t)))

  -- and what their 2 ^ left-th powers are: the points of the first half
  pub chunk_point_power : (mid left a t : ℕ) → mid + left ≤ bits
      → power R (point R g left (point R g (mid + left) s (rev mid a)) (rev left t)) (2 ^ left) ≡ point R g mid (power R s (2 ^ left)) (rev mid a)
  chunk_point_power mid left a t within =
      let n = 2 ^ left in
      let x = power R (g (mid + left)) (rev mid a) in
      let y = power R (g left) (rev left t) in
      let round : power R y n ≡ R.one = sym (power-mul R (g left) (rev left t) n) ∙ root_all R G left (rev left t) (omega arith) in
      let lower : power R x n ≡ power R (g mid) (rev mid a) = sym (power-mul R (g (mid + left)) (rev mid a) n) ∙ root_strided R G mid left (rev mid a) within in
      ap (λ z. power R z n) (point-mul R g left (point R g (mid + left) s (rev mid a)) (rev left t)
      ∙ ap (λ z. z ⊗ y) (point-mul R g (mid + left) s (rev mid a)))
      ∙ power_of_product R (s ⊗ x) y n ∙ ap₂ ◌⊗◌ (power_of_product R s x n ∙ ap (λ z. power R s n ⊗ z) lower) round ∙
      R.mul_one (power R s n ⊗ power R (g mid) (rev mid a))
      ∙ sym (point-mul R g mid (power R s n) (rev mid a))

  -- both halves: the second makes of what the first made, with the rows in bit reversed order, the values of the whole, times a scale
  pub halves_joined : (mid left a t : ℕ) (c : ℕ → A) (scale : A) → mid + left ≤ bits → t < 2 ^ left
      → poly R (2 ^ left) (λ q. poly R (2 ^ mid) (λ p. c (p * 2 ^ left + rev left (rev left q))) (point R g mid (power R s (2 ^ left)) (rev mid a)) ⊗ scale)
      (point R g left (point R g (mid + left) s (rev mid a)) (rev left t))
      ≡ poly R (2 ^ (mid + left)) (λ q. c q ⊗ scale) (point R g (mid + left) s (rev (mid + left) (a * 2 ^ left + t)))
  halves_joined mid left a t c scale within inside =
      let x = point R g left (point R g (mid + left) s (rev mid a)) (rev left t) in
      let y = point R g mid (power R s (2 ^ left)) (rev mid a) in
      let n = 2 ^ mid in
      let m = 2 ^ left in
      poly_same R m _ _ x (λ q p.
      R.mul_comm _ scale ∙ sym (poly-times R n scale (λ u. c (u * m + rev left (rev left q))) y)
      ∙ poly_same R n _ _ y (λ u l. R.mul_comm scale _ ∙ ap (λ k. c (u * m + k) ⊗ scale) (rev-rev left q p))
      ∙ ap (poly R n (λ u. c (u * m + q) ⊗ scale)) (sym (chunk_point_power mid left a t within)))
      ∙ sym (poly_by_places R n m (λ u. c u ⊗ scale) x)
      ∙ ap₂ (λ k z. poly R k (λ u. c u ⊗ scale) z) (sym (pow-add 2 mid left)) (chunk_point mid left a t within inside)

  -- a slot of an extension by a bits ends at its points of the whole, in bit reversed order
  pub slot_point : (k a m t : ℕ) → k + a ≤ bits → t < 2 ^ k
      → point R g k (point R g (k + a) s (rev a m)) (rev k t) ≡ point R g (k + a) s (rev (k + a) (m * 2 ^ k + t))
  slot_point k a m t within inside =
      let order : k + a ≡ a + k = omega arith in
      ap (λ n. point R g k (point R g n s (rev a m)) (rev k t)) order
      ∙ chunk_point a k m t (omega (arith, within)) inside
      ∙ ap (λ n. point R g n s (rev n (m * 2 ^ k + t))) (sym order)

  -- both halves, on rows of w entries: the first leads from before to middle, and the second, with the rows in bit reversed order, to
  -- the first n chunks of after
  pub rows_of_halves : {T : Type 0} (value : T → A) (d : T) (mid left w n : ℕ) (before middle after : List T) → mid + left ≤ bits
      → ((a t j : ℕ) → a < 2 ^ left → t < 2 ^ mid → j < w → value (get_or middle ((a * 2 ^ mid + t) * w + j) d)
      ≡ poly R (2 ^ mid) (λ q. value (get_or before ((a * 2 ^ mid + rev mid q) * w + j) d)) (point R g mid (power R s (2 ^ left)) t))
      → ((a t j : ℕ) → a < n → t < 2 ^ left → j < w → value (get_or after ((a * 2 ^ left + t) * w + j) d)
      ≡ poly R (2 ^ left) (λ q. value (get_or middle ((rev left q * 2 ^ mid + rev mid a) * w + j) d))
      (point R g left (point R g (mid + left) s (rev mid a)) (rev left t)))
      → (r j : ℕ) → r < n * 2 ^ left → j < w → value (get_or after (r * w + j) d)
      ≡ poly R (2 ^ (mid + left)) (λ q. value (get_or before (rev (mid + left) q * w + j) d)) (point R g (mid + left) s (rev (mid + left) r))
  rows_of_halves value d mid left w n before middle after within first second r j below inside =
      let positive = pow_pos left in
      let a = r / 2 ^ left in
      let t = r % 2 ^ left in
      let whole : a * 2 ^ left + t ≡ r = div-add-mod' r (2 ^ left) in
      let small : t < 2 ^ left = mod_below r (2 ^ left) positive in
      let outer : a < n = div_below r (2 ^ left) n positive below in
      let x = point R g left (point R g (mid + left) s (rev mid a)) (rev left t) in
      let y = point R g mid (power R s (2 ^ left)) (rev mid a) in
      let c = λ (q : ℕ). value (get_or before (rev (mid + left) q * w + j) d) in
      let same : (q p : ℕ) → value (get_or before ((rev left q * 2 ^ mid + rev mid p) * w + j) d) ≡ c (p * 2 ^ left + rev left (rev left q)) = λ q p.
      ap (λ u. value (get_or before ((u * 2 ^ mid + rev mid p) * w + j) d)) (sym (rev-rev left (rev left q) (rev-lt left q)))
      ∙ ap (λ u. value (get_or before (u * w + j) d)) (sym (row_digits mid left p (rev left (rev left q)) (rev-lt left (rev left q)))) in
      ap (λ u. value (get_or after (u * w + j) d)) (sym whole) ∙ second a t j outer small inside
      ∙ poly_same R (2 ^ left) _ _ x (λ q p.
      first (rev left q) (rev mid a) j (rev-lt left q) (rev-lt mid a) inside
      ∙ poly_same R (2 ^ mid) _ _ y (λ u l. same q u) ∙ sym (R.mul_one _))
      ∙ halves_joined mid left a t c R.one within small
      ∙ poly_same R (2 ^ (mid + left)) _ _ (point R g (mid + left) s (rev (mid + left) (a * 2 ^ left + t))) (λ q p. R.mul_one _)
      ∙ ap (λ u. poly R (2 ^ (mid + left)) c (point R g (mid + left) s (rev (mid + left) u))) whole
