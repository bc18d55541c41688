-- The nodes of a tree by their numbers, and the paths that lead through them.
use Rattle.std.proofs.Common.{◌≡◌, ℕ, zero, suc, ◌+◌, ◌-◌, ◌*◌, ◌/◌, ◌%◌, ◌^◌, ◌<◌, ◌≤◌, ◌==◌, cond, ◌⊎◌, inl, inr}
use Rattle.std.proofs.Common.{List, [], ◌∷◌, ◌++◌, get_or, length, map, refl, sym, ap, ap₂, ◌∙◌, arith}
use Rattle.std.proofs.Math.Nat.{mul-le-mul_left, two-pow-succ}
use Rattle.std.proofs.lemmas.Bool.{cases_lt}
use Rattle.std.proofs.lemmas.Nat.{pow_pos}
use Rattle.examples.specs.MerkleTrees.{AreNodes, AreToldApart, AreToldApartOnPath, climbed, parent, tree}
use Rattle.examples.proofs.MerkleTrees.{tree_same}

-- the sibling of a node below the root is a node
pub sibling_inside : (n s leaves : ℕ) → 2 ≤ n → n < 2 * leaves → (n % 2 ≡ 0 → s ≡ n + 1) → (n % 2 ≡ 1 → s ≡ n - 1) → s < 2 * leaves
sibling_inside n s leaves some inside even odd = cases (cases_lt (n % 2) 1)
  where
    cases : (n % 2 < 1) ⊎ (1 ≤ n % 2) → s < 2 * leaves
    cases (inl low) = let none : n % 2 ≡ 0 = omega (arith, low) in omega (arith, even none, inside, none)
    cases (inr high) = let one : n % 2 ≡ 1 = omega (arith, high) in omega (arith, odd one, inside, one)

module _ {D V : Type 0} {worth : D → V} {join : V → V → V} {leaves : ℕ} {leaf : ℕ → V} {nodes : List D}
    (are : AreNodes worth join leaves leaf nodes) (d : D) where
  abbrev at : ℕ → V
  at n = worth (get_or nodes n d)

  -- node n is worth what the tree over the leaves below it is
  subtree : (m n : ℕ) → 1 ≤ n → n * 2 ^ m + 2 ^ m ≤ 2 * leaves → at n ≡ tree join m (λ i. at (n * 2 ^ m + i))
  subtree zero n some below = let place : n ≡ n * 2 ^ 0 + 0 = omega arith in ap at place
  subtree (suc m) n some below =
      let twice = two-pow-succ m in
      let whole : n * 2 ^ suc m ≡ n * (2 ^ m + 2 ^ m) = ap (λ p. n * p) twice in
      let one : 1 ≤ 2 ^ m = pow_pos m in
      let inside : n < leaves = omega (arith, below, twice, whole, one, mul-le-mul_left n one) in
      are.joined n d some inside
      ∙ ap₂ join
      (subtree m (2 * n) (omega (arith, some)) (omega (arith, below, twice, whole))
      ∙ tree_same join m _ _ (λ i l. let place : (2 * n) * 2 ^ m + i ≡ n * 2 ^ suc m + i = omega (arith, whole) in ap at place))
      (subtree m (2 * n + 1) (omega (arith, some)) (omega (arith, below, twice, whole))
      ∙ tree_same join m _ _ (λ i l. let place : (2 * n + 1) * 2 ^ m + i ≡ n * 2 ^ suc m + (2 ^ m + i) = omega (arith, whole) in ap at place))

  -- so the root is that of the tree
  pub root_of_nodes : (k : ℕ) → leaves ≡ 2 ^ k → at 1 ≡ tree join k leaf
  root_of_nodes k power =
      subtree k 1 (omega arith) (omega (arith, power))
      ∙ tree_same join k _ leaf (λ i l. let place : 1 * 2 ^ k + i ≡ leaves + i = omega (arith, power) in ap at place ∙ are.last i d (omega (arith, l, power)))

  -- a node and its sibling make their parent
  pub parent_of_even : (n : ℕ) → 2 ≤ n → n < 2 * leaves → n % 2 ≡ 0 → parent join n (at n) (at (n + 1)) ≡ at (n / 2)
  parent_of_even n some inside even =
      let place : n ≡ 2 * (n / 2) = omega (arith, even) in
      rw even (ap (λ q. join (at q) (at (q + 1))) place ∙ sym (are.joined (n / 2) d (omega (arith, some)) (omega (arith, inside))))

  pub parent_of_odd : (n : ℕ) → 2 ≤ n → n < 2 * leaves → n % 2 ≡ 1 → parent join n (at n) (at (n - 1)) ≡ at (n / 2)
  parent_of_odd n some inside odd =
      let place : n ≡ 2 * (n / 2) + 1 = omega (arith, odd) in
      let before : n - 1 ≡ 2 * (n / 2) = omega (arith, odd) in
      rw odd (ap₂ (λ p q. join (at p) (at q)) before place ∙ sym (are.joined (n / 2) d (omega (arith, some)) (omega (arith, inside))))

  -- so with its sibling a node leads to where its parent does
  pub one_step : (n s : ℕ) (x : D) (rest : List V) (root : V) → 2 ≤ n → n < 2 * leaves → (n % 2 ≡ 0 → s ≡ n + 1)
      → (n % 2 ≡ 1 → s ≡ n - 1) → x ≡ get_or nodes s d
      → climbed join (n / 2) (at (n / 2)) rest ≡ root → climbed join n (at n) (worth x ∷ rest) ≡ root
  one_step n s x rest root some inside even odd is leads = ap (λ v. climbed join (n / 2) v rest) (cases (cases_lt (n % 2) 1)) ∙ leads
    where
      cases : (n % 2 < 1) ⊎ (1 ≤ n % 2) → parent join n (at n) (worth x) ≡ at (n / 2)
      cases (inl low) =
          let none : n % 2 ≡ 0 = omega (arith, low) in
          ap (λ y. parent join n (at n) (worth y)) (is ∙ ap (λ q. get_or nodes q d) (even none)) ∙ parent_of_even n some inside none
      cases (inr high) =
          let one : n % 2 ≡ 1 = omega (arith, high) in
          ap (λ y. parent join n (at n) (worth y)) (is ∙ ap (λ q. get_or nodes q d) (odd one)) ∙ parent_of_odd n some inside one

pub map_pushed : {D V : Type 0} (f : D → V) (xs : List D) (y : D) (rest : List V) → map f (xs ++ y ∷ []) ++ rest ≡ map f xs ++ (f y ∷ rest)
map_pushed f [] y rest = refl
map_pushed f (x ∷ xs) y rest = ap (λ ys. f x ∷ ys) (map_pushed f xs y rest)

module _ {V : Type 0} (join : V → V → V) where
  -- the tree over leaves is that over their pairs, joined
  tree_of_joined : (k : ℕ) (leaf : ℕ → V) → tree join (suc k) leaf ≡ tree join k (λ i. join (leaf (2 * i)) (leaf (2 * i + 1)))
  tree_of_joined zero leaf = refl
  tree_of_joined (suc k) leaf =
      ap₂ join (tree_of_joined k leaf)
      (tree_of_joined k (λ i. leaf (2 ^ suc k + i))
      ∙ tree_same join k _ _
      (λ i l.
      let twice = two-pow-succ k in
      let first : 2 ^ suc k + 2 * i ≡ 2 * (2 ^ k + i) = omega (arith, twice) in
      let second : 2 ^ suc k + (2 * i + 1) ≡ 2 * (2 ^ k + i) + 1 = omega (arith, twice) in
      ap₂ (λ p q. join (leaf p) (leaf q)) first second))

  -- what leads from a leaf's place to the root is the leaf, or there is a collision on the way
  pub bound_leaf : (path : List V) (k i : ℕ) (leaf : ℕ → V) (v : V) → length path ≡ k → i < 2 ^ k → AreToldApartOnPath join i v path leaf
      → climbed join (2 ^ k + i) v path ≡ tree join k leaf → v ≡ leaf i
  bound_leaf [] zero i leaf v long inside told leads = let first : i ≡ 0 = omega (arith, inside) in leads ∙ ap leaf (sym first)
  bound_leaf [] (suc k) i leaf v long inside told leads = absurd (omega (arith, long))
  bound_leaf (s ∷ path) zero i leaf v long inside told leads = absurd (omega (arith, long))
  bound_leaf (s ∷ path) (suc k) i leaf v long inside told leads =
      let node = 2 ^ suc k + i in
      let halved : 2 ^ k + i / 2 ≡ node / 2 = omega (arith, two-pow-succ k) in
      let parity : i % 2 ≡ node % 2 = omega (arith, two-pow-succ k) in
      of_pair i s leaf v told.0
      (bound_leaf path k (i / 2) (λ q. join (leaf (2 * q)) (leaf (2 * q + 1))) (parent join i v s)
      (omega (arith, long)) (omega (arith, inside, two-pow-succ k)) told.1
      (ap₂ (λ n p. climbed join n (cond (p == 0) (join v s) (join s v)) path) halved parity ∙ leads ∙ tree_of_joined k leaf))
    where
      of_pair : (i : ℕ) (s : V) (leaf : ℕ → V) (v : V)
          → AreToldApart join (cond (i % 2 == 0) v s) (cond (i % 2 == 0) s v) (leaf (2 * (i / 2)))
          (leaf (2 * (i / 2) + 1))
          → parent join i v s ≡ join (leaf (2 * (i / 2))) (leaf (2 * (i / 2) + 1)) → v ≡ leaf i
      of_pair i s leaf v told pair = cases (cases_lt (i % 2) 1)
        where
          cases : (i % 2 < 1) ⊎ (1 ≤ i % 2) → v ≡ leaf i
          cases (inl low) =
              let even : i % 2 ≡ 0 = omega (arith, low) in
              let place : 2 * (i / 2) ≡ i = omega (arith, low) in
              ((rw even at told) (rw even at pair)).0 ∙ ap leaf place
          cases (inr high) =
              let odd : i % 2 ≡ 1 = omega (arith, high) in
              let place : 2 * (i / 2) + 1 ≡ i = omega (arith, high) in
              ((rw odd at told) (rw odd at pair)).1 ∙ ap leaf place
