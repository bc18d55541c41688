use Rattle.p3_networks.proofs.Lemmas.{◌≡◌, ℕ, ◌+◌, ◌<◌, ◌≤◌, length, rev, point, AddsCosets, HasCoset, HasCosets, IsCosetAt, forward_root}
use Rattle.p3_networks.proofs.radix_2_dit_parallel.coset_tables.CosetTables.make_all.Given as goal

-- the cosets of the first slots have their tables, and none of those that were made is of another slot's
abbrev pub invariant-loop-slot : goal.invariant-loop-slot
invariant-loop-slot g l =
    let field = g.F.Valued in
    let k = l.fn.log_h in
    let a = l.fn.added_bits in
    let s = field.value l.fn.shift in
    let at = point field.ring (forward_root field g.F.TwoAdicField.generator) (k + a) s in
    record {
      inside : l.there ≤ length l.self;
      few : length l.self ≤ length l.fn.self + l.slot;
      made : (m : ℕ) → m < l.slot → HasCoset field l.self k (at (rev a m));
      others : (m : ℕ) → l.slot ≤ m → m < l.slots → (i : ℕ) → l.there ≤ i → IsCosetAt field l.self k (at (rev a m)) i → ⊥;
      once : HasCosets field g.F.TwoAdicField.generator l.fn.self k a s → l.self ≡ l.fn.self;
      only : AddsCosets field g.F.TwoAdicField.generator k a s l.fn.self l.self;
      keeps : (n : ℕ) (x : field.Element) → HasCoset field l.fn.self n x → HasCoset field l.self n x;
    }
