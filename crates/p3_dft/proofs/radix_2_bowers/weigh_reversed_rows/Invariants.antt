use Rattle.p3_dft.proofs.Lemmas.{◌≡◌, ◌+◌, ◌*◌, get_or, RowsWeighed}
use Rattle.p3_dft.proofs.radix_2_bowers.weigh_reversed_rows.Given as goal

abbrev pub invariant-loop-i : goal.invariant-loop-i
invariant-loop-i g l =
    record {
      rows : RowsWeighed g.F.Valued (λ p. g.F.Valued.value (get_or l.weights p g.F.Valued.zero)) l.fn.mat l.i l.mat;
      count : l.products ≡ l.fn.products + l.i * l.fn.mat.width;
    }
