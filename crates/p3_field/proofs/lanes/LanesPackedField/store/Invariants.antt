use Rattle.p3_field.proofs.Lemmas.{◌≡◌, map, length, until}
use Rattle.p3_field.proofs.lanes.LanesPackedField.store.Given as goal

abbrev pub invariant-loop-i : goal.invariant-loop-i
invariant-loop-i g l =
    let value = g.F.Valued.value in
    record {
      long : length l.to ≡ g.row.N;
      lanes : map value l.to ≡ until l.i (map value l.fn.self.lanes) (map value l.fn.to);
    }
