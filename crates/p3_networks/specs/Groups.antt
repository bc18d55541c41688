-- The order of layers, and layers in groups, each on one piece of the cells after another.
use Rattle.std.specs.Prelude.{◌≡◌, ◌⊎◌, ℕ, ◌+◌, ◌-◌, ◌*◌, ◌^◌, ◌<◌, ◌≤◌, List, length, get_or}
use Rattle.p3_field.specs.declared.fields.Valued.{Ghosts as FieldMembers}
use Rattle.p3_networks.specs.Layers.{AreLayers, HoldsCells}
use Rattle.p3_networks.specs.declared.groups.Order.{Order}
use Rattle.p3_networks.specs.declared.groups.Order.TheVariants.{LargestFirst, SmallestFirst}

-- groups of three of the layers from r up to k, counted from the largest blocks: group g ends at k - 3 * g, and at r where less than that is left
abbrev pub group_end : ℕ → ℕ → ℕ → ℕ
group_end r k g = r + (k - r - 3 * g)

-- the group that comes when so many of a number of groups are done
abbrev pub group_of : Order → ℕ → ℕ → ℕ
group_of LargestFirst count done = done
group_of SmallestFirst count done = count - 1 - done

-- the layer that comes when so many of those from `from` up to `to` are done
abbrev pub layer_of : Order → ℕ → ℕ → ℕ → ℕ
layer_of LargestFirst from to done = to - 1 - done
layer_of SmallestFirst from to done = from + done

-- cells e stand before layer e where the smallest blocks come first, and else behind it: which ones stand when so many layers are done
abbrev pub cells_of : Order → ℕ → ℕ → ℕ → ℕ
cells_of LargestFirst from to done = to - done
cells_of SmallestFirst from to done = from + done

-- layer e of k takes cells e to cells e + 1, or back
abbrev pub AreLayersInOrder : {A : Type 0} → Order → ℕ → ℕ → (ℕ → A → A → A) → (ℕ → A → A → A) → (ℕ → ℕ → A) → Type 0
AreLayersInOrder LargestFirst k w near far cells = AreLayers k w near far (λ e. cells (e + 1)) cells
AreLayersInOrder SmallestFirst k w near far cells = AreLayers k w near far cells (λ e. cells (e + 1))

-- of 2 ^ top rows of w cells, chunk `number`: it held the cells from, by the values that it had, and then holds the cells to
pub record TakesCells {T A : Type 0} (value_before value : T → A) (d : T) (order : Order) (w top number : ℕ)
    (near far : ℕ → A → A → A) (from to : ℕ) (before after : List T) : Type 0 where
  pub taken : (k : ℕ) (cells : ℕ → ℕ → A) → AreLayersInOrder order k w near far cells → (number + 1) * 2 ^ top ≤ 2 ^ k
      → HoldsCells value_before d (number * length before) (cells from) before → HoldsCells value d (number * length before) (cells to) after

-- chunk `number` of 2 ^ top rows of w entries has n entries, its rows have numbers of 64 bits, and its blocks have some of so many twiddles
pub record IsChunk (w top number twiddles n : ℕ) : Type 0 where
  pub width : 1 ≤ w
  pub fits_u64 : (number + 1) * 2 ^ top < 2 ^ 64
  pub enough : (number + 1) * 2 ^ top ≤ 2 * twiddles
  pub size : n ≡ 2 ^ top * w

-- chunk `number` of 2 ^ to rows of w entries, on which the layers from `from` up to `to` are done in pieces of so many cells, has n entries;
-- its rows have numbers of 64 bits, and its blocks have twiddles
pub record IsGroupChunk (w from to cells number : ℕ) (has : ℕ → Type 0) (n : ℕ) : Type 0 where
  pub width : 1 ≤ w
  pub order : from ≤ to
  pub fits_u64 : (number + 1) * 2 ^ to < 2 ^ 64
  pub piece : 1 ≤ cells
  pub size : n ≡ 2 ^ to * w
  pub in_table : (b : ℕ) → 2 * b < (number + 1) * 2 ^ to → has b

-- in their order, the layers from `from` up to `to` of such a chunk: near and far stand behind a butterfly of a twiddle, and block b has twiddle b
abbrev pub DoesLayers : {F : Type 0} (f : FieldMembers F) → Order
    → (near far : f.Element → f.Element → f.Element → f.Element) → List F → (w top number from to : ℕ) → List F → List F
    → Type 0
DoesLayers f order near far twiddles w top number from to = TakesCells f.value f.value f.zero order w top number
    (λ b. near (f.value (get_or twiddles b f.zero))) (λ b. far (f.value (get_or twiddles b f.zero)))
    (cells_of order from to 0) (cells_of order from to (to - from))

-- rows of `part` cells, of which the list's first cell is number `first`, hold those of the columns from `at` up to `end`
abbrev pub HoldsColumns : {T A : Type 0} → (T → A) → T → ℕ → ℕ → ℕ → ℕ → ℕ → (ℕ → A) → List T → Type 0
HoldsColumns value d part rows first at end cells xs =
    (r j : ℕ) → r < rows → j < part → at ≤ j → j < end
    → value (get_or xs (r * part + j) d) ≡ cells (first + (r * part + j))

-- they hold other cells there, and the other columns stay
pub record TakesColumns {T A : Type 0} (value : T → A) (d : T) (part rows first at end : ℕ) (to : ℕ → A) (before after : List T) : Type 0 where
  pub taken : HoldsColumns value d part rows first at end to after
  pub kept : (r j : ℕ) → r < rows → j < part → (j < at) ⊎ (end ≤ j) → get_or after (r * part + j) d ≡ get_or before (r * part + j) d

-- of two halves of rows of `part` cells, the columns from `at` up to `end` meet, and the others stay
pub record MeetInColumns {T A : Type 0} (value : T → A) (d : T) (part half at end : ℕ) (near far : A → A → A) (before after : List T) : Type 0 where
  pub near_half : (t j : ℕ) → t < half → j < part → at ≤ j → j < end
      → value (get_or after (t * part + j) d)
      ≡ near (value (get_or before (t * part + j) d)) (value (get_or before (half * part + (t * part + j)) d))
  pub far_half : (t j : ℕ) → t < half → j < part → at ≤ j → j < end
      → value (get_or after (half * part + (t * part + j)) d)
      ≡ far (value (get_or before (t * part + j) d)) (value (get_or before (half * part + (t * part + j)) d))
  pub kept : (t j : ℕ) → t < half → j < part → (j < at) ⊎ (end ≤ j)
      → (get_or after (t * part + j) d ≡ get_or before (t * part + j) d)
      × (get_or after (half * part + (t * part + j)) d ≡ get_or before (half * part + (t * part + j)) d)
