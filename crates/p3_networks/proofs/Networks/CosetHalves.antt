-- Both halves of a network on a coset, by the table of the coset: it reaches for both, and where the rows lead from one half to the other they
-- are values in the end. The first half takes the larger half of the layers.
use Rattle.p3_networks.proofs.Names.{⊤, ◌≡◌, ℕ, ◌+◌, ◌*◌, ◌-◌, ◌/◌, ◌^◌, ◌≤◌, List, get_or, Result, sym, ap, ◌∙◌, arith, MatchResult-weaker, AreRoots, rev}
use Rattle.p3_networks.proofs.Names.{mid_of, point, poly, RowMajor, RisesAtMost, IsHighHalf, IsLowHalf, AreRows, HasRowsOnCoset, LentInBlocks, by_layer}
use Rattle.p3_networks.proofs.Names.{IsCosetTable, forward_root}
use Rattle.p3_networks.proofs.Layers.Counts.{halves_counted}
use Rattle.p3_networks.proofs.Networks.Chunks.{rows_of_halves}
use Rattle.p3_networks.proofs.Tables.CosetTables.{high_of_coset, low_of_coset}
use Rattle.p3_networks.proofs.Tables.RootPowers.{fewer_roots}
use Rattle.p3_field.specs.declared.fields.Valued.{Ghosts as FieldMembers}

-- the layers of both halves, and the chunks of the second
pub halves_whole : (k : ℕ) → mid_of k + (k - mid_of k) ≡ k
halves_whole k = omega arith

-- the rows of both
pub both_rows : (k w n len : ℕ) → AreRows k w n → len ≡ n → AreRows (mid_of k + (k - mid_of k)) w len
both_rows k w n len rows same = record {
  width = rows.width;
  fits_u64 = omega (arith, rows.fits_u64);
  size = same ∙ rows.size ∙ ap (λ n. 2 ^ n * w) (sym (halves_whole k));
}

-- what both halves count
pub both_counted : (k w before middle after : ℕ) → RisesAtMost (2 ^ (k - mid_of k) * (w * (mid_of k * 2 ^ mid_of k / 2))) before middle
    → RisesAtMost (2 ^ mid_of k * (w * ((k - mid_of k) * 2 ^ (k - mid_of k) / 2))) middle after → RisesAtMost (w * (k * 2 ^ k / 2)) before after
both_counted k w before middle after first second =
    let mid = mid_of k in
    let left = k - mid in
    let none : 2 ^ mid * (w * (left * 2 ^ left / 2)) ≡ 2 ^ mid * (w * (left * 2 ^ left / 2) + 0 * (2 ^ left * w)) =
    let e : w * (left * 2 ^ left / 2) ≡ w * (left * 2 ^ left / 2) + 0 * (2 ^ left * w) = omega arith in
    ap (λ n. 2 ^ mid * n) e in
    let e = halves_counted mid left k w 0 (halves_whole k) in
    record { grows = omega (arith, first.grows, second.grows); cost = omega (arith, e, none, first.cost, second.cost) }

module _ {F : Type 0} (field : FieldMembers F) (generator : ℕ → F) (s : field.Element) (k : ℕ) (twiddles : List F)
    (table : IsCosetTable field generator s k twiddles) where
  -- the first n chunks of the second half, from rows that are reversed before it
  abbrev Second : ℕ → List F → List F → ℕ → Type 0
  Second w middle after n =
      IsHighHalf field n (mid_of k) (k - mid_of k) w (by_layer field.zero twiddles) (λ a q j. field.value
      (get_or middle ((rev (k - mid_of k) q * 2 ^ mid_of k + rev (mid_of k) a) * w + j) field.zero)) after

  -- the first half leads from before to middle, the second to the first n chunks of after
  pub rows_on_coset : {bits : ℕ} → AreRoots field.ring bits (forward_root field generator) → k ≤ bits → (w n : ℕ) (before middle after : List F)
      → IsLowHalf field (2 ^ (k - mid_of k)) (mid_of k) w (by_layer field.zero twiddles) before middle → Second w middle
      after n → HasRowsOnCoset field generator k w s (n * 2 ^ (k - mid_of k)) before after
  rows_on_coset roots_law within w n before middle after first second r j below inside =
      let gen = forward_root field generator in
      let mid = mid_of k in
      let left = k - mid in
      let k_is = halves_whole k in
      let roots = fewer_roots field.ring (mid + left) _ (omega (arith, within)) roots_law in
      let fewer = fewer_roots field.ring mid (mid + left) (omega arith) roots in
      rows_of_halves field.ring roots s field.value field.zero mid left w n before middle after (omega arith)
      (λ a t v p q l. first gen _ fewer (low_of_coset field generator s k twiddles mid left (omega arith) k_is table) a t v p q l)
      (λ a t v p q l. second gen s roots (high_of_coset field generator s k twiddles mid (mid + left) (omega arith) (sym k_is) table) a t v p q l)
      r j below inside
      ∙ ap (λ m. poly field.ring (2 ^ m) (λ q. field.value (get_or before (rev m q * w + j) field.zero)) (point field.ring gen m s (rev m r))) k_is

  -- and what the second lends are such rows
  pub lent_on_coset : {C R : Type 0} {bits : ℕ} → AreRoots field.ring bits (forward_root field generator) → k ≤ bits
      → (step : C → ℕ → RowMajor F → Result ⊤ R → C → Type 0) (first_row w : ℕ) (before middle after : List F)
      (c : C) (result : Result ⊤ R) (e : C) → IsLowHalf field (2 ^ (k - mid_of k)) (mid_of k) w (by_layer field.zero twiddles) before middle
      → LentInBlocks step first_row (2 ^ (k - mid_of k)) w (2 ^ mid_of k) (Second w middle after) after c result e
      → LentInBlocks step first_row (2 ^ (k - mid_of k)) w (2 ^ mid_of k)
      (λ n. HasRowsOnCoset field generator k w s (n * 2 ^ (k - mid_of k)) before after) after c result e
  lent_on_coset roots_law within step first_row w before middle after c result e first lent =
      MatchResult-weaker result lent
      (λ _ given. (rows_on_coset roots_law within w (2 ^ mid_of k) before middle after first given.0, given.1))
      (λ refusal given.
      let (m, below, second, stopped) = given in
      (m, below, rows_on_coset roots_law within w (m + 1) before middle after first second, stopped))
