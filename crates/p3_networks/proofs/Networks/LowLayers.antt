-- The layers of the low rows as a program does them, on rows of w entries by a table of twiddles: before the first, one after another, and after the last.
use Rattle.p3_networks.proofs.Names.{◌≡◌, ℕ, ◌+◌, ◌*◌, ◌-◌, ◌/◌, ◌^◌, ◌<◌, sym, ap, ap₂, ◌∙◌, subst, arith, div-eq_of_lt, AreRoots, rev, dit_near, dit_far}
use Rattle.p3_networks.proofs.Names.{rev-rev, point, poly, IsLayer, AreLowTwiddles}
use Rattle.p3_networks.proofs.Networks.Formulas.{whole_layer_taken}
use Rattle.p3_networks.proofs.Networks.LowRows.{low_row, low_rows, low_start, low_end}
use Rattle.p3_networks.proofs.Networks.Stages.{twiddle, twiddle_is}
use Rattle.p3_field.specs.declared.fields.Valued.{Ghosts as FieldMembers}

module _ {F : Type 0} (field : FieldMembers F) (root : ℕ → field.Element) (s : field.Element) (k w : ℕ) where
  -- of rows in bit reversed order, before a layer
  pub low_begun : (cell : ℕ → field.Element) (j r : ℕ) → r < 2 ^ k → cell (r * w + j) ≡ low_row field.ring root s 0 (k - 0) (λ q. cell (rev k q * w + j)) r
  low_begun cell j r below =
      let e : k - 0 ≡ k = omega arith in
      sym (low_start field.ring root s (k - 0) (λ u. cell (rev k u * w + j)) r ∙ ap (λ u. cell (u * w + j)) (ap (λ n. rev k (rev n r)) e ∙ rev-rev k r below))

  -- layer l, from the cells x to y: it takes twiddle t at place t
  pub low_layer : AreRoots field.ring k root
      → (l half blocks : ℕ) (at : ℕ → ℕ → F) (c : ℕ → field.Element) (x y : ℕ → field.Element) → l < k → half ≡ 2 ^ l
      → blocks * (2 * half) ≡ 2 ^ k
      → AreLowTwiddles field root s k at
      → IsLayer blocks (half * w) (λ b i. dit_near field.ring (field.value (at l (i / w)))) (λ b i. dit_far field.ring (field.value (at l (i / w)))) x y
      → (j : ℕ) → j < w → ((r : ℕ) → r < 2 ^ k → x (r * w + j) ≡ low_row field.ring root s l (k - l) c r)
      → (r : ℕ) → r < 2 ^ k → y (r * w + j) ≡ low_row field.ring root s (l + 1) (k - (l + 1)) c r
  low_layer roots l half blocks at c x y below h whole twiddles layer =
      let entry = λ (t : ℕ). field.value (at l t) in
      let power_is : (t : ℕ) → t < half → entry t ≡ twiddle field.ring root s l (k - 1 - l) t =
      λ t inside. twiddles l t below (omega (arith, inside, h)) ∙ sym (twiddle_is field.ring root s l (k - 1 - l) t) in
      whole_layer_taken (low_rows field.ring root s roots c) k l w half blocks (λ u t. dit_near field.ring (entry t)) (λ u t. dit_far field.ring (entry t)) x y
      (omega arith) below h whole (λ u t p q. ap (dit_near field.ring) (power_is t q)) (λ u t p q. ap (dit_far field.ring) (power_is t q)) layer

  -- the first layer, whose blocks are pairs of rows that all take twiddle 0
  pub low_first : AreRoots field.ring k root → (pairs : ℕ) (at : ℕ → ℕ → F) (c : ℕ → field.Element) (x y : ℕ → field.Element) → 0 < k → pairs * (2 * 1) ≡ 2 ^ k
      → AreLowTwiddles field root s k at
      → IsLayer pairs w (λ b i. dit_near field.ring (field.value (at 0 0))) (λ b i. dit_far field.ring (field.value (at 0 0))) x y
      → (j : ℕ) → j < w → ((r : ℕ) → r < 2 ^ k → x (r * w + j) ≡ low_row field.ring root s 0 (k - 0) c r)
      → (r : ℕ) → r < 2 ^ k → y (r * w + j) ≡ low_row field.ring root s 1 (k - 1) c r
  low_first roots pairs at c x y some whole twiddles met =
      let e : 1 * w ≡ w = omega arith in
      let entry = λ (i : ℕ). field.value (at 0 (i / w)) in
      let first : (i : ℕ) → i < w → field.value (at 0 0) ≡ entry i = λ i inside. ap (λ t. field.value (at 0 t)) (sym (div-eq_of_lt inside)) in
      low_layer roots 0 1 pairs at c x y some (omega arith) whole twiddles
      (subst (λ (h : ℕ). IsLayer pairs h (λ b i. dit_near field.ring (entry i)) (λ b i. dit_far field.ring (entry i)) x y) (sym e)
      (λ b p. record {
        near_cell = λ i q. (met b p).near_cell i q ∙ ap (λ t. dit_near field.ring t (x (b * (2 * w) + i)) (x (b * (2 * w) + (w + i)))) (first i q);
        far_cell = λ i q. (met b p).far_cell i q ∙ ap (λ t. dit_far field.ring t (x (b * (2 * w) + i)) (x (b * (2 * w) + (w + i)))) (first i q);
      }))

  -- after all layers
  pub low_done : (l : ℕ) (c : ℕ → field.Element) (y : field.Element) (r : ℕ) → l ≡ k
      → y ≡ low_row field.ring root s l (k - l) c r → r < 2 ^ k
      → y ≡ poly field.ring (2 ^ k) c (point field.ring root k s r)
  low_done l c y r all is below =
      let d : k - l ≡ 0 = omega (arith, all) in
      is ∙ ap₂ (λ u v. low_row field.ring root s u v c r) all d ∙ low_end field.ring root s k c r below
