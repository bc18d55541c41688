-- The twiddles that an engine keeps, and what its tables show of themselves.
use Rattle.std.specs.Prelude.{◌≡◌, ℕ, ◌+◌, ◌-◌, ◌^◌, ◌<◌, ◌≤◌, leb, List, [], length, get_or, Bool, if◌then◌else◌, Option, Some, None, Vec}
use Rattle.p3_field.specs.Ring.{power}
use Rattle.p3_field.specs.declared.fields.Valued.{Ghosts as FieldMembers}
use Rattle.p3_matrix.specs.BitOrder.{mid_of, rev}

module _ {F : Type 0} (f : FieldMembers F) where
  -- a table of the n values p 0, p 1, ..
  pub record AreTwiddles (n : ℕ) (p : ℕ → f.Element) (twiddles : List F) : Type 0 where
    pub size : length twiddles ≡ n
    pub entries : (e : ℕ) → e < n → f.value (get_or twiddles e f.zero) ≡ p e

  -- tables one after another, one for each layer l below log: it begins at place 2 ^ l - 1 and has the 2 ^ l values p l 0, p l 1, ..
  pub record AreTwiddlesOfLayers (log : ℕ) (p : ℕ → ℕ → f.Element) (twiddles : List F) : Type 0 where
    pub size : 2 ^ log - 1 ≤ length twiddles
    pub entries : (l t : ℕ) → l < log → t < 2 ^ l → f.value (get_or twiddles (2 ^ l - 1 + t) f.zero) ≡ p l t

  -- in layer l of log, on the coset of s: the powers of the root of order 2 ^ (l + 1), each times s ^ (2 ^ (log - 1 - l))
  abbrev pub coset_twiddles : (ℕ → f.Element) → f.Element → ℕ → ℕ → ℕ → f.Element
  coset_twiddles g s log l t = f.ring.mul (power f.ring s (2 ^ (log - 1 - l))) (power f.ring (g (l + 1)) t)

  -- one table for all layers l below log: those of layer l are its first 2 ^ l entries, p l 0, p l 1, ..
  pub record AreTwiddlesFromStart (log : ℕ) (p : ℕ → ℕ → f.Element) (twiddles : List F) : Type 0 where
    pub size : (l : ℕ) → l < log → 2 ^ l ≤ length twiddles
    pub entries : (l b : ℕ) → l < log → b < 2 ^ l → f.value (get_or twiddles b f.zero) ≡ p l b

  -- in a layer of 2 ^ l blocks: the powers of the root of order 2 ^ (l + 1), in bit reversed order
  abbrev pub block_powers : (ℕ → f.Element) → ℕ → ℕ → f.Element
  block_powers root l b = power f.ring (root (l + 1)) (rev l b)

  -- the generators, and their inverses
  abbrev pub forward_root : (ℕ → F) → ℕ → f.Element
  forward_root generator n = f.value (generator n)

  abbrev pub backward_root : (ℕ → F) → ℕ → f.Element
  backward_root generator n = power f.ring (f.value (generator n)) (2 ^ n - 1)

-- twiddle t of layer l, where the layers follow one another, and where each has the first entries of one table
abbrev pub by_layer : {T : Type 0} → T → List T → ℕ → ℕ → T
by_layer d xs l t = get_or xs (2 ^ l - 1 + t) d

abbrev pub from_start : {T : Type 0} → T → List T → ℕ → ℕ → T
from_start d xs l t = get_or xs t d

-- what is held, if anything is
abbrev pub items_if_any : {T Z : Type 0} → Option (Vec T Z) → List T
items_if_any None = []
items_if_any (Some v) = v.items

-- the generator of order 2 ^ n, or its inverse
abbrev pub root_of : {F : Type 0} (f : FieldMembers F) → (ℕ → F) → Bool → ℕ → f.Element
root_of f generator inverse n = if inverse then backward_root f generator n else forward_root f generator n

-- in layer l: the powers of that of order 2 ^ (l + 1)
abbrev pub root_powers : {F : Type 0} (f : FieldMembers F) → (ℕ → F) → Bool → ℕ → ℕ → f.Element
root_powers f generator inverse l t = power f.ring (root_of f generator inverse (l + 1)) t

-- where an entry of a layer of 2 ^ l comes from: its own place, or that with the l digits in reverse
abbrev pub layer_place : Bool → ℕ → ℕ → ℕ
layer_place reversed l t = if reversed then rev l t else t

-- the table of the coset of s of order 2 ^ log: layer after layer, in natural order in the first half of the layers, and in bit reversed order in the second
abbrev pub IsCosetTable : {F : Type 0} (f : FieldMembers F) → (ℕ → F) → f.Element → ℕ → List F → Type 0
IsCosetTable f generator s log twiddles =
    AreTwiddlesOfLayers f log
    (λ l t. coset_twiddles f (forward_root f generator) s log l (layer_place (leb (mid_of log) l) l t)) twiddles

-- the number by which rows are multiplied, if there is one
abbrev pub factor : {F : Type 0} (f : FieldMembers F) → Option F → f.Element
factor f None = f.ring.one
factor f (Some s) = f.value s

-- and what that adds to the products of an entry
abbrev pub scale_cost : {F : Type 0} → Option F → ℕ
scale_cost None = 0
scale_cost (Some s) = 1
