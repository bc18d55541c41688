-- Layers of a chunk, one after another in an order.
use Rattle.p3_networks.proofs.Names.{◌≡◌, ℕ, ◌+◌, ◌*◌, ◌-◌, ◌<◌, ◌≤◌, ◌^◌, List, length, sym, subst, arith, TakesCells, cells_of, layer_of, AreLayers}
use Rattle.p3_networks.proofs.Names.{HoldsCells}
use Rattle.p3_networks.proofs.Layers.Chunks.{held_as_long}
use Rattle.p3_networks.specs.declared.groups.Order.{Order}
use Rattle.p3_networks.specs.declared.groups.Order.TheVariants.{LargestFirst, SmallestFirst}

module _ {T A : Type 0} (value : T → A) (d : T) (w top number : ℕ) (near far : ℕ → A → A → A) where
  -- the chunk is led from some cells to others
  abbrev Takes : Order → ℕ → ℕ → List T → List T → Type 0
  Takes order from to = TakesCells value value d order w top number near far from to

  -- by the layers from `from` up to `to`
  abbrev Does : Order → ℕ → ℕ → List T → List T → Type 0
  Does order from to = Takes order (cells_of order from to 0) (cells_of order from to (to - from))

  -- one layer, by the cells before and behind it
  pub layer_does : (order : Order) (e : ℕ) (x y : List T)
      → ((k : ℕ) (before after : ℕ → ℕ → A) → AreLayers k w near far before after → (number + 1) * 2 ^ top ≤ 2 ^ k
      → HoldsCells value d (number * length x) (before e) x → HoldsCells value d (number * length x) (after e) y)
      → Does order e (e + 1) x y
  layer_does LargestFirst e x y step = record {
    taken = λ k cells layers room holds.
        let begin : e + 1 - 0 ≡ e + 1 = omega arith in
        let end : e ≡ e + 1 - (e + 1 - e) = omega arith in
        subst (λ n. HoldsCells value d (number * length x) (cells n) y) end (step k (λ n. cells (n + 1)) cells layers
        room (subst (λ n. HoldsCells value d (number * length x) (cells n) x) begin holds));
  }
  layer_does SmallestFirst e x y step = record {
    taken = λ k cells layers room holds.
        let begin : e + 0 ≡ e = omega arith in
        let end : e + 1 ≡ e + (e + 1 - e) = omega arith in
        subst (λ n. HoldsCells value d (number * length x) (cells n) y) end (step k cells (λ n. cells (n + 1)) layers
        room (subst (λ n. HoldsCells value d (number * length x) (cells n) x) begin holds));
  }

  -- layers that follow others
  cells_joined : (order : Order) (a b c e : ℕ) (x y z : List T) → b ≡ c → length y ≡ length x → Takes order a b x y → Takes order c e y z → Takes order a e x z
  cells_joined order a b c e x y z same len first second = record {
    taken = λ k cells layers room holds.
        let middle = subst (λ n. HoldsCells value d (number * length x) (cells n) y) same (first.taken k cells layers room holds) in
        held_as_long value d (cells e) number z len (second.taken k cells layers room (held_as_long value d (cells c) number y (sym len) middle));
  }

  -- one layer more of those from `from` up to `to`
  pub layer_more : (order : Order) (from to done : ℕ) (x y z : List T) → done < to - from → length y ≡ length x
      → Takes order (cells_of order from to 0) (cells_of order from to done) x y
      → Does order (layer_of order from to done) (layer_of order from to done + 1) y z → Takes order
      (cells_of order from to 0) (cells_of order from to (done + 1)) x z
  layer_more LargestFirst from to done x y z below len so_far layer =
      let begin : to - done ≡ to - 1 - done + 1 - 0 = omega (arith, below) in
      let end : to - 1 - done + 1 - (to - 1 - done + 1 - (to - 1 - done)) ≡ to - (done + 1) = omega (arith, below) in
      subst (λ n. Takes LargestFirst (cells_of LargestFirst from to 0) n x z) end (cells_joined LargestFirst _ _ _ _ x y z begin len so_far layer)
  layer_more SmallestFirst from to done x y z below len so_far layer =
      let begin : from + done ≡ from + done + 0 = omega arith in
      let end : from + done + (from + done + 1 - (from + done)) ≡ from + (done + 1) = omega arith in
      subst (λ n. Takes SmallestFirst (cells_of SmallestFirst from to 0) n x z) end (cells_joined SmallestFirst _ _ _ _ x y z begin len so_far layer)

  -- the layers from m on, then those up to m, or first these
  pub upper_then_lower : (order : Order) → order ≡ LargestFirst → (from m to : ℕ) (x y z : List T) → from ≤ m → m ≤ to
      → length y ≡ length x → Does order m to x y → Does order from m y z → Does order from to x z
  upper_then_lower order is from m to x y z low high len =
      let middle : to - (to - m) ≡ m - 0 = omega (arith, high) in
      let end : m - (m - from) ≡ to - (to - from) = omega (arith, low, high) in
      subst (λ o. Does o m to x y → Does o from m y z → Does o from to x z) (sym is)
      (λ upper lower. subst (λ n. Takes LargestFirst (cells_of LargestFirst from to 0) n x z) end
      (cells_joined LargestFirst _ _ _ _ x y z middle len upper lower))

  pub lower_then_upper : (order : Order) → order ≡ SmallestFirst → (from m to : ℕ) (x y z : List T) → from ≤ m → m ≤ to
      → length y ≡ length x → Does order from m x y → Does order m to y z → Does order from to x z
  lower_then_upper order is from m to x y z low high len =
      let middle : from + (m - from) ≡ m + 0 = omega (arith, low) in
      let end : m + (to - m) ≡ from + (to - from) = omega (arith, low, high) in
      subst (λ o. Does o from m x y → Does o m to y z → Does o from to x z) (sym is)
      (λ lower upper. subst (λ n. Takes SmallestFirst (cells_of SmallestFirst from to 0) n x z) end
      (cells_joined SmallestFirst _ _ _ _ x y z middle len lower upper))
