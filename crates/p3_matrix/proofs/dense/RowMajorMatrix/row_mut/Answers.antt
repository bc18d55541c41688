use Rattle.p3_matrix.proofs.Lemmas.{sym, taken_whole}
use Rattle.p3_matrix.proofs.dense.RowMajorMatrix.row_mut.Goals as goal

pub invariant_of-self-lent : goal.invariant_of-self-lent
invariant_of-self-lent g c w =
    taken_whole c.self.inside.values.len c.self.inside.width c.self.inside.values.items _
    (sym c.self.inside.values.ok.0) c.self.invariant
