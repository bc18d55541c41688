use Rattle.std.specs.List.{FoldsTo}
use Rattle.p3_field.proofs.totals.add_all.Given as goal

-- the operator took the first element through the items so far
abbrev pub invariant-loop-x : goal.invariant-loop-x
invariant-loop-x g l = FoldsTo g.A.Add.add_gives l.initial.sum l.yielded l.sum
