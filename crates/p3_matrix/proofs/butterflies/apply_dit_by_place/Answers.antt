use Rattle.p3_matrix.proofs.Lemmas.{sym, ◌∙◌, minus, three_in_parts}
use Rattle.p3_matrix.proofs.butterflies.apply_dit_by_place.Goals as goal

pub returns-clause-near : goal.returns-clause-near
returns-clause-near g c =
    let f = g.F.Valued in
    let three = c.split_at in
    let one = c.split_at_mut-packed_1 in
    let two = c.split_at_mut-packed_2 in
    three_in_parts f.value f.ring.add f.ring.mul c.args.row_1.now c.args.row_2.now c.args.twiddles.now one.result.0.now
    one.result.1.now two.result.0.now two.result.1.now three.result.0.now three.result.1.now
    c.dit_on_packs.new.row_1 c.dit_on_elements.new.row_1 one.ensures.value two.ensures.value three.ensures.by_index.0
    (one.ensures.front_len ∙ sym two.ensures.front_len)
    (two.ensures.front_len ∙ sym three.ensures.front_len) c.dit_on_packs.ensures.near c.dit_on_elements.ensures.near

pub returns-clause-far : goal.returns-clause-far
returns-clause-far g c =
    let f = g.F.Valued in
    let three = c.split_at in
    let one = c.split_at_mut-packed_1 in
    let two = c.split_at_mut-packed_2 in
    three_in_parts f.value (minus f.ring) f.ring.mul c.args.row_1.now c.args.row_2.now c.args.twiddles.now
    one.result.0.now one.result.1.now two.result.0.now two.result.1.now three.result.0.now three.result.1.now
    c.dit_on_packs.new.row_2 c.dit_on_elements.new.row_2 one.ensures.value two.ensures.value three.ensures.by_index.0
    (one.ensures.front_len ∙ sym two.ensures.front_len)
    (two.ensures.front_len ∙ sym three.ensures.front_len) c.dit_on_packs.ensures.far c.dit_on_elements.ensures.far
