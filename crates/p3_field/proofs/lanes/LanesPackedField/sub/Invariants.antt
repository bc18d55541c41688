use Rattle.p3_field.proofs.Lemmas.{◌≡◌, map, length, minus, by_lanes, until}
use Rattle.p3_field.proofs.lanes.LanesPackedField.sub.Given as goal

abbrev pub invariant-loop-i : goal.invariant-loop-i
invariant-loop-i g l =
    let value = g.F.Valued.value in
    record {
      long : length l.lanes ≡ g.row.N;
      lanes : map value l.lanes
          ≡ until l.i (by_lanes (minus g.F.Valued.ring) (map value l.fn.self.lanes) (map value l.fn.other.lanes))
          (map value l.fn.self.lanes);
    }
