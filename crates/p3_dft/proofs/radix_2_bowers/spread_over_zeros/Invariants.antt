use Rattle.p3_dft.proofs.Lemmas.{◌≤◌, RowsSpread}
use Rattle.p3_dft.proofs.radix_2_bowers.spread_over_zeros.Given as goal

abbrev pub invariant-loop-row : goal.invariant-loop-row
invariant-loop-row g l =
    record {
      some : 1 ≤ l.row;
      spread : RowsSpread g.F.Valued.zero l.added_bits l.fn.mat l.row l.mat;
    }
