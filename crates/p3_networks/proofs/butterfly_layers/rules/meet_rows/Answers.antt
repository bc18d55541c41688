use Rattle.p3_matrix.proofs.Rows.Overwritten.{lane_at}
use Rattle.p3_networks.proofs.butterfly_layers.rules.meet_rows.Goals as goal

pub returns-clause-near : goal.returns-clause-near
returns-clause-near g c j inside =
    let field = g.F.Valued in
    lane_at (g.B.Butterfly.near field.Element field.ring field.value c.args.butterfly) field.value field.zero
    c.apply_to_rows.new.row_1 c.args.row_1.now c.args.row_2.now j c.requires inside c.apply_to_rows.ensures.near

pub returns-clause-far : goal.returns-clause-far
returns-clause-far g c j inside =
    let field = g.F.Valued in
    lane_at (g.B.Butterfly.far field.Element field.ring field.value c.args.butterfly) field.value field.zero
    c.apply_to_rows.new.row_2 c.args.row_1.now c.args.row_2.now j c.requires inside c.apply_to_rows.ensures.far
