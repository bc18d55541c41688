-- Digests of rows at their numbers, and the tree over them.
use Rattle.std.specs.Prelude.{◌≡◌, ℕ, zero, suc, ◌+◌, ◌*◌, ◌/◌, ◌%◌, ◌^◌, ◌<◌, ◌≤◌, ◌==◌, cond, ⊤, List, [], ◌∷◌, get_or, length}
use Rattle.p3_matrix.specs.RowMajor.{RowMajor, height, row}

-- the root over the first 2 ^ k leaves: those of the first half and of the second, joined
abbrev pub tree : {V : Type 0} → (V → V → V) → ℕ → (ℕ → V) → V
tree join zero leaf = leaf 0
tree join (suc k) leaf = join (tree join k leaf) (tree join k (λ i. leaf (2 ^ k + i)))

-- of the places from `start` on n have digests worth so much, as far as there are places, and the rest is as before
pub record AreHashed {D V : Type 0} (worth : D → V) (of : ℕ → V) (start n : ℕ) (before after : List D) : Type 0 where
  pub long : length after ≡ length before
  pub hashed : (r : ℕ) (d : D) → r < n → start + r < length before → worth (get_or after (start + r) d) ≡ of r
  pub below : (i : ℕ) (d : D) → i < start → get_or after i d ≡ get_or before i d
  pub behind : (i : ℕ) (d : D) → start + n ≤ i → get_or after i d ≡ get_or before i d

-- digest i is worth what row i is hashed to
pub record AreDigests {T D V : Type 0} (worth : D → V) (of_row : List T → V) (m : RowMajor T) (digests : List D) : Type 0 where
  pub long : length digests ≡ height m
  pub each : (i : ℕ) → i < height m → (d : D) → worth (get_or digests i d) ≡ of_row (row m i)

-- the nodes of the tree over so many leaves by their numbers: node 1 is the root, and node n has the children 2 n and 2 n + 1
pub record AreNodes {D V : Type 0} (worth : D → V) (join : V → V → V) (leaves : ℕ) (leaf : ℕ → V) (nodes : List D) : Type 0 where
  pub long : length nodes ≡ 2 * leaves
  pub last : (i : ℕ) (d : D) → i < leaves → worth (get_or nodes (leaves + i) d) ≡ leaf i
  pub joined : (n : ℕ) (d : D) → 1 ≤ n → n < leaves → worth (get_or nodes n d) ≡ join (worth (get_or nodes (2 * n) d)) (worth (get_or nodes (2 * n + 1) d))

-- what the parent of node n is worth, from what the node and its sibling are
abbrev pub parent : {V : Type 0} → (V → V → V) → ℕ → V → V → V
parent join n v sibling = cond (n % 2 == 0) (join v sibling) (join sibling v)

-- what the root is worth, where node n is worth v, and the siblings of it and of those above it are worth so much
abbrev pub climbed : {V : Type 0} → (V → V → V) → ℕ → V → List V → V
climbed join n v [] = v
climbed join n v (sibling ∷ path) = climbed join (n / 2) (parent join n v sibling) path

-- two pairs that are joined to one are one pair: join tells others apart
abbrev pub AreToldApart : {V : Type 0} → (V → V → V) → V → V → V → V → Type 0
AreToldApart join a b c d = join a b ≡ join c d → (a ≡ c) × (b ≡ d)

-- on the way up from leaf i, worth v there, each pair is told apart from the tree's pair in its place
abbrev pub AreToldApartOnPath : {V : Type 0} → (V → V → V) → ℕ → V → List V → (ℕ → V) → Type 0
AreToldApartOnPath join i v [] leaf = ⊤
AreToldApartOnPath join i v (sibling ∷ path) leaf =
    AreToldApart join (cond (i % 2 == 0) v sibling) (cond (i % 2 == 0) sibling v) (leaf (2 * (i / 2))) (leaf (2 * (i / 2) + 1))
    × AreToldApartOnPath join (i / 2) (parent join i v sibling) path (λ q. join (leaf (2 * q)) (leaf (2 * q + 1)))
