-- Words, by which callers name elements of fields and matrices of them.
use Rattle.std.specs.Prelude.{◌≡◌, ℕ, ◌*◌, ◌^◌, ◌<◌, List}
use Rattle.std.specs.List.{All, AllZip}
use Rattle.p3_field.specs.Ring.{IsInvertible}
use Rattle.p3_field.specs.declared.fields.Valued.{Ghosts as FieldMembers}
use Rattle.p3_matrix.specs.RowMajor.{RowMajor, height}
use Rattle.p3_dft.specs.ColumnCosets.{column_shift}
use Rattle.p3_dft.specs.Shapes.{FitsLde}

-- a field, the generators of its subgroups of order 2 ^ n for n up to two_adicity, and words that name its elements by
-- their numbers, which are below the modulus
pub record FieldInWords (F W : Type 0) : Type 1 where
  pub members : FieldMembers F
  pub generator : ℕ → F
  pub two_adicity : ℕ
  pub modulus : ℕ
  pub number : W → ℕ

abbrev pub in_words : {F W : Type 0} → FieldMembers F → (ℕ → F) → ℕ → ℕ → (W → ℕ) → FieldInWords F W
in_words members generator two_adicity modulus number =
    record { members = members; generator = generator; two_adicity = two_adicity; modulus = modulus; number = number }

-- so many words are whole rows of this width, of a matrix that can be extended by a bits into as many words as are there for it
pub record Fits (two_adicity count width a extended : ℕ) : Type 0 where
  pub rows : ℕ
  pub full : rows * width ≡ count
  pub fits : FitsLde two_adicity rows width a
  pub room : extended ≡ count * 2 ^ a

module _ {F W : Type 0} (f : FieldInWords F W) where
  -- the word names the element
  abbrev pub Names : W → F → Type 0
  Names word x = f.number word ≡ f.members.number (f.members.value x)

  -- a shift and other words have numbers below the modulus
  abbrev pub AreBelow : W → List W → Type 0
  AreBelow shift words = (f.number shift < f.modulus) × All (λ word. f.number word < f.modulus) words

  -- so has a step besides
  abbrev pub AreBelowWithStep : W → W → List W → Type 0
  AreBelowWithStep step shift words = (f.number step < f.modulus) × AreBelow shift words

  -- the shift names an element with an inverse
  abbrev pub HasInverse : W → Type 0
  HasInverse shift = (x : F) × Names shift x × IsInvertible f.members.ring (f.members.value x)

  -- a shift and a step name elements by which the shift of each of so many columns has an inverse
  abbrev pub HaveInverses : W → W → ℕ → Type 0
  HaveInverses shift step width = (s t : F) × Names shift s × Names step t
      × ((j : ℕ) → j < width → IsInvertible f.members.ring (column_shift f.members.ring (f.members.value s) (f.members.value t) j))

  -- words, row after row, and a shift name the entries of a matrix of 2 ^ log rows of this width, and an element
  pub record AreNamed (words : List W) (w log : ℕ) (shift : W) (m : RowMajor F) (s : F) : Type 0 where
    pub width : m.width ≡ w
    pub height : height m ≡ 2 ^ log
    pub entries : AllZip Names words m.values
    pub coset : Names shift s
