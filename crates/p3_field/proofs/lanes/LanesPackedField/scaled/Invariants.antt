use Rattle.p3_field.proofs.Lemmas.{◌≡◌, map, length, until}
use Rattle.p3_field.proofs.lanes.LanesPackedField.scaled.Given as goal

abbrev pub invariant-loop-i : goal.invariant-loop-i
invariant-loop-i g l =
    let value = g.F.Valued.value in
    record {
      long : length l.lanes ≡ g.row.N;
      lanes : map value l.lanes ≡ until l.i (map (λ x. g.F.Valued.ring.mul x (value l.fn.t)) (map value l.fn.self.lanes)) (map value l.fn.self.lanes);
    }
