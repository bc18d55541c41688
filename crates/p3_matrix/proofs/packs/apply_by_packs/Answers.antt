use Rattle.p3_matrix.proofs.Lemmas.{sym, ◌∙◌, rows_in_parts, products_in_parts}
use Rattle.p3_matrix.proofs.packs.apply_by_packs.Goals as goal

pub returns-clause-near : goal.returns-clause-near
returns-clause-near g c =
    let f = g.F.Valued in
    let one = c.split_at_mut-packed_1 in
    let two = c.split_at_mut-packed_2 in
    rows_in_parts f.value (g.B.Butterfly.near f.Element f.ring f.value c.args.butterfly.now) c.args.row_1.now
    c.args.row_2.now one.result.0.now one.result.1.now two.result.0.now two.result.1.now
    c.apply_to_packs.new.row_1 c.apply_to_elements.new.row_1 one.ensures.value two.ensures.value
    (one.ensures.front_len ∙ sym two.ensures.front_len) c.apply_to_packs.ensures.near
    c.apply_to_elements.ensures.near

pub returns-clause-far : goal.returns-clause-far
returns-clause-far g c =
    let f = g.F.Valued in
    let one = c.split_at_mut-packed_1 in
    let two = c.split_at_mut-packed_2 in
    rows_in_parts f.value (g.B.Butterfly.far f.Element f.ring f.value c.args.butterfly.now) c.args.row_1.now
    c.args.row_2.now one.result.0.now one.result.1.now two.result.0.now two.result.1.now
    c.apply_to_packs.new.row_2 c.apply_to_elements.new.row_2 one.ensures.value two.ensures.value
    (one.ensures.front_len ∙ sym two.ensures.front_len) c.apply_to_packs.ensures.far
    c.apply_to_elements.ensures.far

pub returns-clause-count : goal.returns-clause-count
returns-clause-count g c =
    products_in_parts _ _ _ g.B.Butterfly.cost _ _ _ c.split_at_mut-packed_1.ensures.value
    c.apply_to_packs.ensures.count c.apply_to_elements.ensures.count
