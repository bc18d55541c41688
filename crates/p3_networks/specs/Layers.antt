-- Layers of butterflies on cells that lie one after another, w of them in each row.
use Rattle.std.specs.Prelude.{◌≡◌, ℕ, ◌+◌, ◌-◌, ◌*◌, ◌^◌, ◌<◌, ◌≤◌, List, length, get_or}
use Rattle.p3_field.specs.declared.fields.Valued.{Ghosts as FieldMembers}
use Rattle.p3_matrix.specs.Polynomials.{poly}

-- n entries are 2 ^ k rows of w entries
pub record AreRows (k w n : ℕ) : Type 0 where
  pub width : 1 ≤ w
  pub fits_u64 : k < 64
  pub size : n ≡ 2 ^ k * w

-- Layer e of k takes the cells `before e` to `after e`, for each e. The 2 ^ k rows come in blocks of two halves of 2 ^ e rows. In
-- block b each cell of the first half meets its like in the second: near stands in the first of them, far in the other.
pub record AreLayers {A : Type 0} (k w : ℕ) (near far : ℕ → A → A → A) (before after : ℕ → ℕ → A) : Type 0 where
  pub near_cell : (e b i : ℕ) → e < k → b < 2 ^ (k - 1 - e) → i < 2 ^ e * w
      → after e (b * (2 * (2 ^ e * w)) + i) ≡ near b (before e (b * (2 * (2 ^ e * w)) + i)) (before e (b * (2 * (2 ^ e * w)) + (2 ^ e * w + i)))
  pub far_cell : (e b i : ℕ) → e < k → b < 2 ^ (k - 1 - e) → i < 2 ^ e * w
      → after e (b * (2 * (2 ^ e * w)) + (2 ^ e * w + i)) ≡ far b (before e (b * (2 * (2 ^ e * w)) + i)) (before e (b * (2 * (2 ^ e * w)) + (2 ^ e * w + i)))

-- cell i of the first half of a block meets its like in the second: near stands in the first of them, far in the other
pub record MeetHalves {A : Type 0} (half : ℕ) (near far : ℕ → A → A → A) (before after : ℕ → A) : Type 0 where
  pub near_cell : (i : ℕ) → i < half → after i ≡ near i (before i) (before (half + i))
  pub far_cell : (i : ℕ) → i < half → after (half + i) ≡ far i (before i) (before (half + i))

-- of 2 * n cells each two neighbours meet: near stands in the first of them, far in the other
pub record MeetInPairs {A : Type 0} (n : ℕ) (near far : ℕ → A → A → A) (before after : ℕ → A) : Type 0 where
  pub near_cell : (i : ℕ) → i < n → after (2 * i) ≡ near i (before (2 * i)) (before (2 * i + 1))
  pub far_cell : (i : ℕ) → i < n → after (2 * i + 1) ≡ far i (before (2 * i)) (before (2 * i + 1))

-- pair i of a list by twiddle i of another
abbrev pub MeetByTwiddles : {F : Type 0} (f : FieldMembers F)
    → (near far : f.Element → f.Element → f.Element → f.Element) → ℕ → List F → List F → List F → Type 0
MeetByTwiddles f near far n twiddles before after =
    MeetInPairs n (λ i. near (f.value (get_or twiddles i f.zero))) (λ i. far (f.value (get_or twiddles i f.zero)))
    (λ k. f.value (get_or before k f.zero)) (λ k. f.value (get_or after k f.zero))

-- one layer: each of so many blocks, of two halves of so many cells
abbrev pub IsLayer : {A : Type 0} → ℕ → ℕ → (ℕ → ℕ → A → A → A) → (ℕ → ℕ → A → A → A) → (ℕ → A) → (ℕ → A) → Type 0
IsLayer blocks half near far before after =
    (b : ℕ) → b < blocks
    → MeetHalves half (near b) (far b) (λ n. before (b * (2 * half) + n)) (λ n. after (b * (2 * half) + n))

-- a list holds the cells from number `first` on
abbrev pub HoldsCells : {T A : Type 0} → (T → A) → T → ℕ → (ℕ → A) → List T → Type 0
HoldsCells value d first cells xs = (i : ℕ) → i < length xs → value (get_or xs i d) ≡ cells (first + i)

-- on rows of w entries, one after another: row r of after has the values at point r of the columns of before, whose coefficient q lies in row place q
abbrev pub AreValuesOfRows : {F : Type 0} (f : FieldMembers F) → ℕ → ℕ → (ℕ → ℕ) → (ℕ → f.Element) → List F → List F → Type 0
AreValuesOfRows f w n place point before after = (r j : ℕ) → r < n → j < w → f.value (get_or after (r * w + j) f.zero)
    ≡ poly f.ring n (λ q. f.value (get_or before (place q * w + j) f.zero)) (point r)
