-- Both halves of the rows as networks of their own, and then the layer that joins them.
use Rattle.p3_networks.proofs.Names.{◌≡◌, ℕ, ◌+◌, ◌*◌, ◌-◌, ◌/◌, ◌^◌, ◌++◌, ◌<◌, List, length, get_or, take, drop, sym, ap, ap₂, ◌∙◌, arith, rules, ⊎_elim}
use Rattle.p3_networks.proofs.Names.{cases_lt, places, mul-div_cancel, power, power_of_one, rev, rev-lt, poly, poly_same, AreValuesOfRows}
use Rattle.p3_networks.proofs.Layers.Blocks.{row_below}
use Rattle.p3_networks.proofs.Layers.Counts.{two_halves}
use Rattle.p3_networks.proofs.Layers.Halves.{in_first, in_second}
use Rattle.p3_networks.proofs.Networks.LowRows.{low_row, low_chunk}
use Rattle.p3_field.specs.declared.fields.Valued.{Ghosts as FieldMembers}
use Rattle.p3_field.proofs.Rings

-- half of the cells
pub half_size : (k w len : ℕ) → 0 < k → len ≡ 2 ^ k * w → len / 2 ≡ 2 ^ (k - 1) * w
half_size k w len some full =
    let double : 2 ^ k ≡ 2 * 2 ^ (k - 1) = two_halves k (λ e. absurd (omega (arith, e, some))) in
    let twice : len ≡ 2 ^ (k - 1) * w * 2 = full ∙ ap (λ n. n * w) double ∙ omega arith in
    ap (λ n. n / 2) twice ∙ mul-div_cancel (2 ^ (k - 1) * w) (omega arith)

-- and the other half
pub rest_size : (k w len rest : ℕ) → 0 < k → len ≡ 2 ^ k * w → rest + len / 2 ≡ len → rest ≡ 2 ^ (k - 1) * w
rest_size k w len rest some full whole =
    let double : 2 ^ k ≡ 2 * 2 ^ (k - 1) = two_halves k (λ e. absurd (omega (arith, e, some))) in
    let twice : len ≡ 2 * (2 ^ (k - 1) * w) = full ∙ ap (λ n. n * w) double ∙ omega arith in
    omega (arith, whole, twice, half_size k w len some full)

module _ {F : Type 0} (field : FieldMembers F) (root : ℕ → field.Element) (k w : ℕ) (before first second : List F) where
  -- cell j of row u
  abbrev cell : List F → ℕ → ℕ → field.Element
  cell xs j u = field.value (get_or xs (u * w + j) field.zero)

  -- what is left where each half has the values of its own rows
  pub low_halves : (low high : List F) (n : ℕ) → 0 < k → n ≡ 2 ^ (k - 1) * w → low ≡ take n before → high ≡ drop n before → length first ≡ n
      → AreValuesOfRows field w (2 ^ (k - 1)) (rev (k - 1)) (power field.ring (root (k - 1))) low first
      → AreValuesOfRows field w (2 ^ (k - 1)) (rev (k - 1)) (power field.ring (root (k - 1))) high second
      → (j : ℕ) → j < w → (r : ℕ) → r < 2 ^ k → field.value (get_or (first ++ second) (r * w + j) field.zero)
      ≡ low_row field.ring root field.ring.one (k - 1) (k - (k - 1)) (λ q. field.value (get_or before (rev k q * w + j) field.zero)) r
  low_halves low high n some size front back len values_1 values_2 j inside r below =
      ⊎_elim
      (λ near.
      let inner : r * w + j < n = omega (arith, row_below r j w (2 ^ l) near inside, size) in
      joined 0 r (omega arith) (omega arith) near
      (ap field.value (in_first first second (r * w + j) field.zero (omega (arith, inner, len)))
      ∙ values_1 r j near inside ∙ poly_same field.ring (2 ^ l) _ _ _ (λ q p. ap field.value (at_first (rev l q) (rev-lt l q)))))
      (λ far.
      let t = r - 2 ^ l in
      let row : r ≡ 1 * 2 ^ l + t = omega (arith, far) in
      let place : r * w + j ≡ n + (t * w + j) =
      ap (λ u. u * w + j) row
      ∙ (let spread : (1 * 2 ^ l + t) * w + j ≡ 2 ^ l * w + (t * w + j) = omega arith in spread)
      ∙ ap (λ u. u + (t * w + j)) (sym size) in
      let small : t < 2 ^ l = omega (arith, far, below, double) in
      joined 1 t (omega arith) row small
      (ap (λ u. field.value (get_or (first ++ second) u field.zero)) place ∙ ap field.value (in_second first second n (t * w + j) field.zero len)
      ∙ values_2 t j small inside ∙ poly_same field.ring (2 ^ l) _ _ _ (λ q p. ap field.value (at_second (rev l q)))))
      (cases_lt r (2 ^ l))
    where
      l : ℕ
      l = k - 1

      double : 2 ^ k ≡ 2 * 2 ^ l
      double = two_halves k (λ e. absurd (omega (arith, e, some)))

      at_first : (u : ℕ) → u < 2 ^ l → get_or low (u * w + j) field.zero ≡ get_or before ((0 * 2 ^ l + u) * w + j) field.zero
      at_first u p =
          let inner : u * w + j < n = omega (arith, row_below u j w (2 ^ l) p inside, size) in
          let at : get_or (take n before) (u * w + j) field.zero ≡ get_or before (u * w + j) field.zero = search (rules, places) in
          let place : u * w + j ≡ (0 * 2 ^ l + u) * w + j = omega arith in
          ap (λ xs. get_or xs (u * w + j) field.zero) front ∙ at ∙ ap (λ i. get_or before i field.zero) place

      at_second : (u : ℕ) → get_or high (u * w + j) field.zero ≡ get_or before ((1 * 2 ^ l + u) * w + j) field.zero
      at_second u =
          let at : get_or (drop n before) (u * w + j) field.zero ≡ get_or before (n + (u * w + j)) field.zero = search (rules, places) in
          let place : 2 ^ l * w + (u * w + j) ≡ (1 * 2 ^ l + u) * w + j = omega arith in
          ap (λ xs. get_or xs (u * w + j) field.zero) back ∙ at ∙ ap (λ i. get_or before i field.zero) (ap (λ m. m + (u * w + j)) size ∙ place)

      joined : (b t : ℕ) → b < 2 ^ 1 → r ≡ b * 2 ^ l + t → t < 2 ^ l
          → cell (first ++ second) j r ≡ poly field.ring (2 ^ l) (λ q. cell before j (b * 2 ^ l + rev l q)) (power field.ring (root l) t)
          → cell (first ++ second) j r ≡ low_row field.ring root field.ring.one l (k - l) (λ q. cell before j (rev k q)) r
      joined b t half is place held =
          let whole : 1 + l ≡ k = omega (arith, some) in
          let left : 1 ≡ k - l = omega (arith, some) in
          let one_power =
          ap (λ x. field.ring.mul x (power field.ring (root l) t)) (power_of_one field.ring (2 ^ 1))
          ∙ Rings.one-mul field.ring (power field.ring (root l) t) in
          held ∙ ap (poly field.ring (2 ^ l) (λ q. cell before j (b * 2 ^ l + rev l q))) (sym one_power)
          ∙ sym (low_chunk field.ring root field.ring.one l 1 (cell before j) b t half place)
          ∙ ap (λ n. low_row field.ring root field.ring.one l 1 (λ q. cell before j (rev n q)) (b * 2 ^ l + t)) whole
          ∙ ap₂ (λ m u. low_row field.ring root field.ring.one l m (λ q. cell before j (rev k q)) u) left (sym is)
