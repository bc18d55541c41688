use Rattle.p3_matrix.proofs.Lemmas.{◌*◌, length, sym, ap, ◌∙◌, arith, rows_in_parts, products_in_parts}
use Rattle.p3_matrix.proofs.butterflies.Butterfly.apply_to_rows_oop.Goals as goal

pub apply_to_packs_oop-requires-2-clause-whole : goal.apply_to_packs_oop-requires-2-clause-whole
apply_to_packs_oop-requires-2-clause-whole g c =
    let n = length c.split_at.result.1.now in
    (n, omega (arith, ap (λ m. n * m) g.met.F.Packable.one_lane_law))

pub returns-clause-near : goal.returns-clause-near
returns-clause-near g c =
    let f = g.F.Valued in
    let one = c.split_at in
    let two = c.split_at-2 in
    rows_in_parts f.value (g.Self.Butterfly.near f.Element f.ring f.value c.args.self.now) c.args.src_1.now
    c.args.src_2.now one.result.0.now one.result.1.now two.result.0.now two.result.1.now
    c.apply_to_packs_oop.new.dst_1 c.apply_to_packs_oop-2.new.dst_1 one.ensures.by_index.0 two.ensures.by_index.0
    (one.ensures.front_len ∙ sym two.ensures.front_len) c.apply_to_packs_oop.ensures.near
    c.apply_to_packs_oop-2.ensures.near

pub returns-clause-far : goal.returns-clause-far
returns-clause-far g c =
    let f = g.F.Valued in
    let one = c.split_at in
    let two = c.split_at-2 in
    rows_in_parts f.value (g.Self.Butterfly.far f.Element f.ring f.value c.args.self.now) c.args.src_1.now
    c.args.src_2.now one.result.0.now one.result.1.now two.result.0.now two.result.1.now
    c.apply_to_packs_oop.new.dst_2 c.apply_to_packs_oop-2.new.dst_2 one.ensures.by_index.0 two.ensures.by_index.0
    (one.ensures.front_len ∙ sym two.ensures.front_len) c.apply_to_packs_oop.ensures.far
    c.apply_to_packs_oop-2.ensures.far

pub returns-clause-count : goal.returns-clause-count
returns-clause-count g c =
    let one = c.split_at in
    products_in_parts _ _ _ g.Self.Butterfly.cost c.args.src_1.now one.result.0.now one.result.1.now
    one.ensures.by_index.0 c.apply_to_packs_oop.ensures.count c.apply_to_packs_oop-2.ensures.count
