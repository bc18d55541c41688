use Rattle.p3_field.proofs.Lemmas.{◌≡◌, power}
use Rattle.p3_field.proofs.fields.Field.exp_u64.Given as goal

abbrev pub invariant-loop-left : goal.invariant-loop-left
invariant-loop-left g l =
    let ring = g.Self.Valued.ring in
    let value = g.Self.Valued.value in
    ring.mul (value l.product) (power ring (value l.square) l.left) ≡ power ring (value l.fn.self) l.n

abbrev pub decreases-loop-left : goal.decreases-loop-left
decreases-loop-left g l = l.left
