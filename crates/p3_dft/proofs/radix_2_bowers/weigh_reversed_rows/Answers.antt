use Rattle.p3_dft.proofs.Lemmas.{◌≡◌, ◌/◌, length, refl, ap, ap₂, ◌∙◌, arith, rules, get_or_read_under, turn_counted, height, room_of, powers_fit}
use Rattle.p3_dft.proofs.NetworkG.{one_weighed, weighed_alike, weighed_by_table}
use Rattle.p3_dft.proofs.radix_2_bowers.weigh_reversed_rows.Goals as goal

pub row_mut-requires : goal.row_mut-requires
row_mut-requires g c =
    let many = ap length c.as_slice-weights.ensures.value ∙ c.in_ok-powers.ensures.powers.size in
    let tall : height c.loop-i.mat ≡ height c.args.mat.now = ap₂ ◌/◌ c.loop-i.invariant.rows.rows.size c.loop-i.invariant.rows.wide in
    omega (arith, c.loop-i-test.true, many, tall, c.requires.rows.height)

pub loop-i-preserved : goal.loop-i-preserved
loop-i-preserved g c =
    let i = c.loop-i.i in
    let many = ap length c.as_slice-weights.ensures.value ∙ c.in_ok-powers.ensures.powers.size in
    let weight = get_or_read_under c.as_slice-weights.result.now i _ _ g.F.Valued.zero c.index-weights-i.is c.loop-i-test.true refl in
    let (rows, size) =
    one_weighed g.F.Valued _ c.args.mat.now i c.loop-i.mat c.row_mut.result.now c.scale_slice_in_place.new.values _ c.requires.rows.whole
    (omega (arith, c.loop-i-test.true, many, c.requires.rows.height)) c.row_mut.ensures.row c.scale_slice_in_place.auto.values
    c.scale_slice_in_place.ensures.values (ap g.F.Valued.value weight) c.loop-i.invariant.rows in
    record {
      rows = rows;
      count = turn_counted i c.args.mat.now.width _ c.args.products.now c.loop-i.products c.scale_slice_in_place.new.products size
          c.loop-i.invariant.count c.scale_slice_in_place.ensures.count;
    }

pub returns-in_err-powers-clause-room : goal.returns-in_err-powers-clause-room
returns-in_err-powers-clause-room g c =
    room_of _ c.from_residual.result _ _ _ c.from_residual.ensures
    (powers_fit c.args.log_h c.requires.rows.whole.width c.requires.rows.height) c.in_err-powers.ensures.room

pub returns-clause-rows : goal.returns-clause-rows
returns-clause-rows g c =
    weighed_by_table g.F.Valued c.args.mat.now c.loop-i.mat c.as_slice-weights.result.now _ c.loop-i.i c.args.log_h _ _
    c.requires.rows.height c.as_slice-weights.ensures.value c.in_ok-powers.ensures.powers (omega (arith, c.loop-i-test.false))
    c.loop-i.invariant.rows

pub returns-then-eq-clause-rows : goal.returns-then-eq-clause-rows
returns-then-eq-clause-rows g c =
    weighed_alike g.F.Valued c.args.mat.now c.scale.new.self c.args.log_h (g.F.Valued.value c.args.scale)
    (g.F.Valued.value c.args.shift) c.requires.rows.whole c.requires.rows.height
    ((g.met.F.Field.eq_law c.args.shift c.ONE.result).0 (search rules) ∙ ap g.F.Valued.value c.ONE.ensures ∙ g.met.F.Field.one_law)
    c.scale.ensures.width c.scale.ensures.values
