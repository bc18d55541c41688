use Rattle.p3_networks.proofs.Lemmas.{ℕ, ◌<◌, ◌≤◌, IsCosetAt}
use Rattle.p3_networks.proofs.radix_2_dit_parallel.coset_tables.CosetTables.find_within.Given as goal

-- none of those so far is that of the coset
abbrev pub invariant-loop-place : goal.invariant-loop-place
invariant-loop-place g l = (i : ℕ) → l.fn.start ≤ i → i < l.place → IsCosetAt g.F.Valued l.fn.self l.fn.log_h (g.F.Valued.value l.fn.shift) i → ⊥
