-- One table for all layers: where its entries are those of the last layer, its first entries are those of each layer.
use Rattle.p3_networks.proofs.Names.{◌≡◌, ℕ, zero, suc, ◌+◌, ◌*◌, ◌-◌, ◌/◌, ◌<◌, ◌≤◌, ◌^◌, List, length, get_or, sym, ap, ap₂, ◌∙◌, subst, arith, lit≤}
use Rattle.p3_networks.proofs.Names.{mul-le-mul_right, pow-le-pow_right, pow-add, pow_pos, power, AreRoots, power-zero, power_of_one, root_strided, rev}
use Rattle.p3_networks.proofs.Names.{rev-block, rev_of_zero, AreHighTwiddles, AreTwiddles, AreTwiddlesFromStart, block_powers, from_start}
use Rattle.p3_networks.proofs.Layers.Counts.{two_halves}
use Rattle.p3_field.specs.declared.fields.Valued.{Ghosts as FieldMembers}
use Rattle.p3_field.proofs.Rings

module _ {F : Type 0} (f : FieldMembers F) (root : ℕ → f.Element) where
  -- a power of a root is one of the root of a layer
  layer_power : {bits : ℕ} → AreRoots f.ring bits root → (l m b : ℕ) → suc l + m ≤ bits → b < 2 ^ l
      → power f.ring (root (suc l + m)) (rev (l + m) b) ≡ power f.ring (root (suc l)) (rev l b)
  layer_power G l m b within inside =
      let first : b ≡ 0 * 2 ^ l + b = omega arith in
      let digits : rev l b * 2 ^ m + rev m 0 ≡ rev l b * 2 ^ m = ap (λ x. rev l b * 2 ^ m + x) (rev_of_zero m) ∙ omega arith in
      ap (power f.ring (root (suc l + m))) (ap (rev (l + m)) first ∙ rev-block l m 0 b inside ∙ digits) ∙ root_strided f.ring G (suc l) m (rev l b) within

  pub first_entries : {bits : ℕ} → AreRoots f.ring bits root → (log : ℕ) (table : List F) → log ≤ bits
      → AreTwiddles f (2 ^ (log - 1)) (block_powers f root (log - 1)) table
      → AreTwiddlesFromStart f log (block_powers f root) table
  first_entries G log table within are = record {
    size = λ l below. let rise : 2 ^ l ≤ 2 ^ (log - 1) = fewer l below in omega (arith, are.size, rise);
    entries = λ l b below inside.
        let rise : 2 ^ l ≤ 2 ^ (log - 1) = fewer l below in
        let m = log - 1 - l in
        let whole : log - 1 + 1 ≡ suc l + m = omega (arith, below) in
        let digits : log - 1 ≡ l + m = omega (arith, below) in
        are.entries b (omega (arith, inside, rise)) ∙ ap₂ (λ n u. power f.ring (root n) (rev u b)) whole digits
        ∙ layer_power G l m b (omega (arith, within, below)) inside
        ∙ ap (λ n. power f.ring (root n) (rev l b)) (let next : suc l ≡ l + 1 = omega arith in next);
  }
    where
      fewer : (l : ℕ) → l < log → 2 ^ l ≤ 2 ^ (log - 1)
      fewer l below = let less : l ≤ log - 1 = omega (arith, below) in pow-le-pow_right {n = 2} (lit≤ tt) less

  -- the same of powers of the root of the whole
  pub from_powers : {bits : ℕ} → AreRoots f.ring bits root → (log : ℕ) (table : List F) → 1 ≤ log → log ≤ bits
      → AreTwiddles f (2 ^ (log - 1)) (λ b. power f.ring (root log) (rev (log - 1) b)) table
      → AreTwiddlesFromStart f log (block_powers f root) table
  from_powers G log table some within are =
      first_entries G log table within
      (subst (λ (n : ℕ). AreTwiddles f (2 ^ (log - 1)) (λ b. power f.ring (root n) (rev (log - 1) b)) table)
      (let whole : log ≡ log - 1 + 1 = omega (arith, some) in whole) are)

  -- powers that were made from a first one that is one
  pub powers_from_one : (n : ℕ) (one x : f.Element) (table : List F) → one ≡ f.ring.one → x ≡ root (n + 1)
      → AreTwiddles f (2 ^ n) (λ b. f.ring.mul one (power f.ring x (rev n b))) table → AreTwiddles f (2 ^ n) (block_powers f root n) table
  powers_from_one n one x table is_one is_root are = record {
    size = are.size;
    entries = λ b below.
        are.entries b below ∙ ap₂ (λ y z. f.ring.mul y (power f.ring z (rev n b))) is_one is_root
        ∙ Rings.one-mul f.ring (power f.ring (root (n + 1)) (rev n b));
  }

  -- the first is one, and there is one for each block of the largest layer
  pub first_is_one : (log : ℕ) (table : List F) → 1 ≤ log → AreTwiddlesFromStart f log (block_powers f root) table
      → f.value (get_or table 0 f.zero) ≡ f.ring.one
  first_is_one log table some are = are.entries 0 0 some (pow_pos 0) ∙ ap (power f.ring (root 1)) (rev_of_zero 0) ∙ power-zero f.ring (root 1)

  pub enough_from_start : (log : ℕ) (table : List F) → 1 ≤ log → AreTwiddlesFromStart f log (block_powers f root) table → 2 ^ log ≤ 2 * length table
  enough_from_start log table some are =
      let size = are.size (log - 1) (omega (arith, some)) in
      let d = two_halves log (λ e. absurd (omega (arith, e, some))) in
      omega (arith, size, d)

  -- for blocks they are the twiddles of the subgroup
  pub block_table : (mid k log : ℕ) (table : List F) → k ≤ log → AreTwiddlesFromStart f log (block_powers f root) table
      → AreHighTwiddles f root f.ring.one mid k (from_start f.zero table)
  block_table mid k log table less are l b from below inside =
      let power_is = block_powers f root l b in
      are.entries l b (omega (arith, less, below)) inside
      ∙ sym
      (ap (λ x. f.ring.mul x power_is) (power_of_one f.ring (2 ^ (k - 1 - l))) ∙ Rings.one-mul f.ring power_is)

  -- the power for row q of 2 ^ (log - a) that are spread by 2 ^ a
  pub spread_root : (log a : ℕ) (table : List F) → a ≤ log → 1 ≤ log
      → AreTwiddlesFromStart f log (block_powers f root) table → (q t : ℕ) → q < 2 ^ (log - a) → t < 2 ^ a
      → power f.ring (f.value (get_or table (q * (2 ^ a / 2)) f.zero)) t ≡ power f.ring (power f.ring (root log) (rev (log - a) q)) t
  spread_root log zero table within some are q t inside below =
      let none : t ≡ 0 = omega arith in
      ap (power f.ring (f.value (get_or table (q * (2 ^ 0 / 2)) f.zero))) none ∙ power-zero f.ring _
      ∙ sym (ap (power f.ring (power f.ring (root log) (rev (log - 0) q))) none ∙ power-zero f.ring _)
  spread_root log (suc a) table within some are q t inside below =
      let double : 2 ^ suc a ≡ 2 * 2 ^ a = let d : 2 ^ suc a ≡ 2 * 2 ^ a = omega arith in d in
      let half : q * (2 ^ suc a / 2) ≡ q * 2 ^ a = ap (λ n. q * n) (let h : 2 ^ suc a / 2 ≡ 2 ^ a = omega (arith, double) in h) in
      let plain : q * 2 ^ a ≡ q * 2 ^ a + 0 = omega arith in
      let m = log - suc a in
      let digits : log - 1 ≡ a + m = omega (arith, within) in
      let whole : log - 1 + 1 ≡ log = omega (arith, some) in
      let room : suc q * 2 ^ a ≤ 2 ^ m * 2 ^ a = mul-le-mul_right (2 ^ a) inside in
      let next : suc q * 2 ^ a ≡ q * 2 ^ a + 2 ^ a = omega arith in
      let all : 2 ^ m * 2 ^ a ≡ 2 ^ (log - 1) = omega arith ∙ sym (pow-add 2 a m) ∙ ap (λ n. 2 ^ n) (sym digits) in
      let place : rev (log - 1) (q * 2 ^ a) ≡ rev m q =
      ap₂ rev digits plain ∙ rev-block a m q 0 (pow_pos a) ∙ ap (λ n. n * 2 ^ m + rev m q) (rev_of_zero a) ∙ omega arith in
      ap (λ x. power f.ring x t)
      (ap (λ n. f.value (get_or table n f.zero)) half ∙ are.entries (log - 1) (q * 2 ^ a) (omega (arith, some)) (omega (arith, room, next, all, pow_pos a))
      ∙ ap₂ (λ n e. power f.ring (root n) e) whole place)

-- what serves a height serves a smaller one
pub fewer_from_start : {F : Type 0} (f : FieldMembers F) (p : ℕ → ℕ → f.Element) (log most : ℕ) (table : List F)
    → log ≤ most → AreTwiddlesFromStart f most p table → AreTwiddlesFromStart f log p table
fewer_from_start f p log most table fewer are = record {
  size = λ l below. are.size l (omega (arith, below, fewer));
  entries = λ l b below inside. are.entries l b (omega (arith, below, fewer)) inside;
}
