-- What the clauses of the engines say again and again, in words.
use Rattle.std.specs.Prelude.{◌≡◌, ◌↔◌, ◌⊎◌, ◌≢◌, ℕ, ◌+◌, ◌*◌, ◌^◌, ◌≤◌, max, List, Result, IfErr, IsOk}
use Rattle.std.specs.declared.vec.Vec.{Vec}
use Rattle.p3_field.specs.declared.fields.Valued.{Ghosts as FieldMembers}
use Rattle.p3_matrix.specs.declared.error.DftError.{DftError}
use Rattle.p3_matrix.specs.Room.{IsWithinEither}
use Rattle.p3_matrix.specs.RowMajor.{RowMajor, height}
use Rattle.p3_matrix.specs.Cosets.{Coset, HasCoset}
use Rattle.p3_dft.specs.Extensions.{extension_bound}

-- at the k with height 2 ^ k
abbrev pub AtLog : ℕ → (ℕ → Type 0) → Type 0
AtLog height P = (k : ℕ) → height ≡ 2 ^ k → P k

-- what holds of the engines of a type, in each of their states, and what their calls make
pub record EngineFacts (E F : Type 0) : Type 1 where
  -- a transform of height 2 ^ k and both inverses are promised to succeed
  pub Succeeds : E → ℕ → Type 0
  -- and where they are, so is a transform on the coset of this shift
  pub SucceedsOnCoset : E → ℕ → F → Type 0
  -- what is known, from then on, at the logarithm of a height that was transformed
  pub IsLeftPrepared : E → ℕ → Type 0
  -- how many products a transform of 2 ^ k rows of w entries makes at most
  pub transform_products : ℕ → ℕ → ℕ
  -- and an extension of them by a bits, as k a w
  pub extension_products : ℕ → ℕ → ℕ → ℕ
  -- how many rows a published block of an extension of 2 ^ k rows by a bits has
  pub block_rows : ℕ → ℕ → ℕ
  -- how many products an engine has made
  pub products_made : E → ℕ
  -- for how many tables the list that an engine keeps may need room, and how many bytes each takes
  pub tables : E → ℕ
  pub table_bytes : ℕ

-- the facts of an engine whose extensions are an inverse transform and a transform on the larger coset, and published
-- as one block, and which keeps no list of tables
abbrev pub plain_facts : {E F : Type 0} → (E → ℕ → Type 0) → (E → ℕ → F → Type 0) → (E → ℕ → Type 0) → (ℕ → ℕ → ℕ) → (E → ℕ) → EngineFacts E F
plain_facts Succeeds SucceedsOnCoset IsLeftPrepared transform_products products_made = record {
  Succeeds = Succeeds;
  SucceedsOnCoset = SucceedsOnCoset;
  IsLeftPrepared = IsLeftPrepared;
  transform_products = transform_products;
  extension_products = extension_bound transform_products;
  block_rows = λ k a. 2 ^ (k + a);
  products_made = products_made;
  tables = λ e. 0;
  table_bytes = 0;
}

module _ {E F : Type 0} (facts : EngineFacts E F) where
  -- an engine later: what was promised is promised still, of each coset too, what is known of heights stays known, and no product is forgotten
  pub record IsLater (before after : E) : Type 0 where
    pub keeps : (k : ℕ) → facts.Succeeds before k → facts.Succeeds after k
    pub keeps_cosets : (k : ℕ) (s : F) → facts.SucceedsOnCoset before k s → facts.SucceedsOnCoset after k s
    pub keeps_prepared : (k : ℕ) → facts.IsLeftPrepared before k → facts.IsLeftPrepared after k
    pub grows : facts.products_made before ≤ facts.products_made after

  -- products that were counted elsewhere came to an engine, and what is promised and known of heights and cosets is the same
  pub record HasProductsMore (before after : E) (products : ℕ) : Type 0 where
    pub counter : facts.products_made after ≡ facts.products_made before + products
    pub same : (k : ℕ) → facts.Succeeds before k ↔ facts.Succeeds after k
    pub same_cosets : (k : ℕ) (s : F) → facts.SucceedsOnCoset before k s ↔ facts.SucceedsOnCoset after k s
    pub same_prepared : (k : ℕ) → facts.IsLeftPrepared before k ↔ facts.IsLeftPrepared after k
    pub same_tables : facts.tables after ≡ facts.tables before

  -- what every engine's facts meet
  pub record EngineLaws (IsNew : E → Type 0) (IsClone : E → E → Type 0) (IsInfallible : E → Type 0) : Type 0 where
    pub power_of_two : (k a : ℕ) → (l : ℕ) × (l ≤ k + a) × (facts.block_rows k a ≡ 2 ^ l)
    pub new_made_none : (e : E) → IsNew e → facts.products_made e ≡ 0
    pub clone_made_none : (e copy : E) → IsClone e copy → facts.products_made copy ≡ 0
    pub clones : (e : E) → IsInfallible e

-- after a call whose entries take so many bytes each
module _ {E F : Type 0} (facts : EngineFacts E F) (bytes : ℕ) where
  -- an engine after a call of 2 ^ k rows: whatever it answered, at most so many products were made, and its list of tables has room for at most so many more;
  -- where it answered the values, what is said of k is known; and where it answered an error, memory was refused to a
  -- vector of no more entries than the answer has, or to the list of tables
  pub record IsAfter {A : Type 0} (before after : E) (result : Result A DftError) (height : ℕ) (known : ℕ → Type 0)
      (products : ℕ → ℕ) (entries new_tables : ℕ) : Type 0 where
    pub later : IsLater facts before after
    pub prepared : IsOk result → AtLog height known
    pub cost : AtLog height (λ k. facts.products_made after ≤ facts.products_made before + products k)
    pub tables : facts.tables after ≤ facts.tables before + new_tables
    pub refused : IfErr result (IsWithinEither bytes entries facts.table_bytes (facts.tables after))

  -- after a transform of a matrix of m's shape or its inverse, with so many more products an entry
  abbrev pub AfterDft : {A T : Type 0} → E → E → Result A DftError → RowMajor T → ℕ → Type 0
  AfterDft before after result m more =
      IsAfter before after result (height m) (facts.IsLeftPrepared after)
      (λ k. facts.transform_products k m.width + more * (2 ^ k * m.width)) (height m * m.width) 1

  -- after an extension of one by a bits
  abbrev pub AfterLde : {A T : Type 0} → E → E → Result A DftError → RowMajor T → ℕ → Type 0
  AfterLde before after result m a =
      IsAfter before after result (height m) (λ k. facts.IsLeftPrepared after k × facts.IsLeftPrepared after (k + a))
      (λ k. facts.extension_products k a m.width) (height m * m.width * 2 ^ a) (2 ^ a + 1)

  -- after an extension by a bits of one of coefficients: a transform of the larger height, and a product for each coefficient
  abbrev pub AfterLdeOfCoefficients : {A T : Type 0} → E → E → Result A DftError → RowMajor T → ℕ → Type 0
  AfterLdeOfCoefficients before after result m a =
      IsAfter before after result (height m) (λ k. facts.IsLeftPrepared after (k + a))
      (λ k. facts.transform_products (k + a) m.width + 2 ^ k * m.width) (height m * m.width * 2 ^ a) 1

  -- and after one by an inverse transform and a transform on the larger coset
  abbrev pub AfterLdeByParts : {A T : Type 0} → E → E → Result A DftError → RowMajor T → ℕ → Type 0
  AfterLdeByParts before after result m a =
      IsAfter before after result (height m) (λ k. facts.IsLeftPrepared after k × facts.IsLeftPrepared after (k + a))
      (λ k. extension_bound facts.transform_products k a m.width) (height m * m.width * 2 ^ a) (2 ^ a + 1)

-- a matrix of one column
abbrev pub one_column : {T : Type 0} → List T → RowMajor T
one_column entries = record { width = 1; values = entries }

-- a vector as a matrix of one column, which `new_col` makes of it
abbrev pub col : {T Z : Type 0} → Vec T Z → RowMajor T
col vec = one_column vec.items

-- the logarithm of the largest height whose twiddles are there, and the number of products that were made
pub record EngineState : Type 0 where
  pub prepared : ℕ
  pub products : ℕ

-- height 2 ^ k can be transformed without memory, as height one always can, and each height with every larger one
abbrev pub IsPrepared : EngineState → ℕ → Type 0
IsPrepared e k = k ≤ e.prepared

-- no height above 2 ^ k was made prepared
abbrev pub PreparesNoneAbove : ℕ → EngineState → EngineState → Type 0
PreparesNoneAbove k before after = after.prepared ≤ max before.prepared k

-- what an engine shows of itself that keeps tables of cosets besides
pub record CosetEngineState (F : Type 0) : Type 0 where
  pub roots : EngineState
  pub cosets : List (Coset F)

-- the coset of s of order 2 ^ k can be transformed without memory: as a single point, as the subgroup, or by a table of its own
abbrev pub IsCosetPrepared : {F : Type 0} (f : FieldMembers F) → CosetEngineState F → ℕ → f.Element → Type 0
IsCosetPrepared f e k s = (k ≡ 0) ⊎ (((s ≡ f.ring.one) × IsPrepared e.roots k) ⊎ ((s ≢ f.ring.one) × HasCoset f e.cosets k s))
