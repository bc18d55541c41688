use Rattle.p3_matrix.proofs.Lemmas.{◌-◌, length, refl, ap, arith, ◌∙◌, HasRoom, length-append}
use Rattle.p3_matrix.proofs.Recordings.{one_more_block, one_more_place}
use Rattle.p3_matrix.proofs.blocks.RecorderBlockConsumer.consume.Goals as goal

pub returns : goal.returns
returns g c =
    let before = c.self.inside in
    let values = c.values-rows.ensures.values in
    let more = one_more_block before.elements.items c.args.block.values before.places.items c.args.start c.args.block.width c.self.invariant.each in
    let room : HasRoom c.args.self.now c.args.block =
    rw (← c.self.view_is, ← values) (omega (arith, c.if-self-eq0.false), omega (arith, c.if-self-rows.false)) in
    record {
      accepted = refl;
      kept =
          λ given. rw (
            ← c.self.view_is,
            c.push_reserved.ensures.items,
            c.append_reserved.ensures.items,
            c.width.ensures.width,
            c.len-first.ensures,
            values,
            before.elements.ok.0,
          )
          (ap (λ blocks. record {
            blocks = blocks;
            missed = before.missed;
            blocks_left = before.blocks_left - 1;
            elements_left = before.elements_left - length c.args.block.values;
          }) more);
      missed = λ none. absurd (none room);
    }

pub invariant_of-self-2 : goal.invariant_of-self-2
invariant_of-self-2 g c =
    let before = c.self.inside in
    let rows = c.values-rows.result.now in
    record {
      each =
          one_more_place before.elements.items rows _ before.places.items _ c.args.start c.width.result
          c.len-first.result c.args.block c.self.invariant.each c.append_reserved.ensures.items
          c.push_reserved.ensures.items (c.len-first.ensures ∙ before.elements.ok.0) c.width.ensures.whole c.width.ensures.width c.values-rows.ensures.values;
      places_fit = omega (arith, c.push_reserved.ensures.len, c.push_reserved.ensures.capacity, c.self.invariant.places_fit, c.if-self-eq0.false);
      elements_fit =
          omega (
            arith,
            c.append_reserved.new.elements.ok.0,
            ap length c.append_reserved.ensures.items,
            length-append before.elements.items rows,
            before.elements.ok.0,
            c.append_reserved.ensures.capacity,
            c.self.invariant.elements_fit,
            c.if-self-rows.false,
          );
    }
