use Rattle.std.proofs.Common.{◌≡◌, map, take}
use Rattle.std.specs.List.{fold}
use Rattle.examples.proofs.merkle_root.HornerHashRowHash.hash_row.Given as goal

abbrev pub invariant-loop-x : goal.invariant-loop-x
invariant-loop-x g l =
    let field = g.F.Valued in
    field.value l.digest
    ≡ fold (λ sum x. field.ring.add (field.ring.mul sum (field.value l.self.base)) x) field.ring.zero
    (map field.value (take l.x-index l.row))
