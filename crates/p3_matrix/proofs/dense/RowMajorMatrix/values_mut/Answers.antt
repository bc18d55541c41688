use Rattle.p3_matrix.proofs.Lemmas.{taken_whole, sym}
use Rattle.p3_matrix.proofs.dense.RowMajorMatrix.values_mut.Goals as goal

pub invariant_of-self-lent : goal.invariant_of-self-lent
invariant_of-self-lent g c w =
    taken_whole c.self.inside.values.len c.self.inside.width c.self.inside.values.items w
    (sym c.self.inside.values.ok.0) c.self.invariant
