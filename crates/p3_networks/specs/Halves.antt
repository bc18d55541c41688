-- What the two halves of a network make of rows of w entries, for any roots g and any shift s of which their twiddles are made.
use Rattle.std.specs.Prelude.{◌≡◌, ℕ, ◌+◌, ◌*◌, ◌^◌, ◌<◌, ◌≤◌, List, get_or}
use Rattle.p3_field.specs.Ring.{AreRoots}
use Rattle.p3_field.specs.declared.fields.Valued.{Ghosts as FieldMembers}
use Rattle.p3_matrix.specs.BitOrder.{rev}
use Rattle.p3_matrix.specs.Cosets.{point}
use Rattle.p3_matrix.specs.Polynomials.{poly}
use Rattle.p3_networks.specs.Layers.{AreValuesOfRows}
use Rattle.p3_networks.specs.Twiddles.{coset_twiddles}

module _ {F : Type 0} (f : FieldMembers F) where
  -- twiddle t of layer l below k, for a low half on the coset of s
  abbrev pub AreLowTwiddles : (ℕ → f.Element) → f.Element → ℕ → (ℕ → ℕ → F) → Type 0
  AreLowTwiddles g s k at = (l t : ℕ) → l < k → t < 2 ^ l → f.value (at l t) ≡ coset_twiddles f g s k l t

  -- for the high half of all k layers from `first` on: block b has the twiddle with the l digits of b in reverse
  abbrev pub AreHighTwiddles : (ℕ → f.Element) → f.Element → ℕ → ℕ → (ℕ → ℕ → F) → Type 0
  AreHighTwiddles g s first k at = (l b : ℕ) → first ≤ l → l < k → b < 2 ^ l → f.value (at l b) ≡ coset_twiddles f g s k l (rev l b)

  -- 2 ^ k rows in bit reversed order, the coefficients of polynomials, become their values on a coset, in natural order
  abbrev pub IsLowNetwork : (k w : ℕ) → (ℕ → ℕ → F) → List F → List F → Type 0
  IsLowNetwork k w at before after = (g : ℕ → f.Element) (s : f.Element) → AreRoots f.ring k g → AreLowTwiddles g s k at
      → AreValuesOfRows f w (2 ^ k) (rev k) (point f.ring g k s) before after

  -- the low half: so does each of n chunks
  abbrev pub IsLowHalf : (n k w : ℕ) → (ℕ → ℕ → F) → List F → List F → Type 0
  IsLowHalf n k w at before after = (g : ℕ → f.Element) (s : f.Element) → AreRoots f.ring k g → AreLowTwiddles g s k at
      → (a t j : ℕ) → a < n → t < 2 ^ k → j < w → f.value (get_or after ((a * 2 ^ k + t) * w + j) f.zero)
      ≡ poly f.ring (2 ^ k) (λ q. f.value (get_or before ((a * 2 ^ k + rev k q) * w + j) f.zero)) (point f.ring g k s t)

  -- chunk a of 2 ^ left rows holds, in bit reversed order, the values on a coset of its own of the polynomials whose coefficient q of column j is c q j
  abbrev pub IsHighNetwork : (mid left w a : ℕ) → (ℕ → ℕ → F) → (ℕ → ℕ → f.Element) → List F → Type 0
  IsHighNetwork mid left w a at c after = (g : ℕ → f.Element) (s : f.Element) → AreRoots f.ring (mid + left) g → AreHighTwiddles g s mid (mid + left) at
      → (t j : ℕ) → t < 2 ^ left → j < w → f.value (get_or after (t * w + j) f.zero)
      ≡ poly f.ring (2 ^ left) (λ q. c q j) (point f.ring g left (point f.ring g (mid + left) s (rev mid a)) (rev left t))

  -- the high half: so does each of the first n chunks, with coefficient c a q j in chunk a
  abbrev pub IsHighHalf : (n mid left w : ℕ) → (ℕ → ℕ → F) → (ℕ → ℕ → ℕ → f.Element) → List F → Type 0
  IsHighHalf n mid left w at c after = (g : ℕ → f.Element) (s : f.Element) → AreRoots f.ring (mid + left) g → AreHighTwiddles g s mid (mid + left) at
      → (a t j : ℕ) → a < n → t < 2 ^ left → j < w → f.value (get_or after ((a * 2 ^ left + t) * w + j) f.zero)
      ≡ poly f.ring (2 ^ left) (λ q. c a q j) (point f.ring g left (point f.ring g (mid + left) s (rev mid a)) (rev left t))

-- chunk a of the high half has n entries, and there are the twiddles of its layers
pub record IsHighChunk (mid left w a : ℕ) (has : ℕ → Type 0) (n : ℕ) : Type 0 where
  pub width : 1 ≤ w
  pub fits_u64 : mid + left < 64
  pub chunk : a < 2 ^ mid
  pub size : n ≡ 2 ^ left * w
  pub table : (l : ℕ) → mid ≤ l → l < mid + left → has l
