use Rattle.std.proofs.Common.{◌++◌, ◌∷◌, [], ap, ◌∙◌, arith, sym, append-nil, refl}
use Rattle.p3_field.proofs.Lists.{taken_more, all_taken, room_made}
use Rattle.p3_field.proofs.algebra.BasedVectorSpace.push_coordinates.Goals as goal

pub loop-i-preserved : goal.loop-i-preserved
loop-i-preserved g c =
    let all = g.Self.BasedVectorSpace.coordinates c.args.self.now in
    record {
      items = c.push_reserved.ensures.items ∙ ap (λ xs. xs ++ c.coordinate.result ∷ []) c.loop-i.invariant.items
          ∙ taken_more c.args.to.now.items all c.loop-i.i c.coordinate.result
          (omega (arith, c.loop-i-test.true, c.DIMENSION-i-end.ensures, g.met.Self.BasedVectorSpace.dimension_law c.args.self.now)) c.coordinate.ensures;
      room = omega (arith, c.loop-i.invariant.room, c.push_reserved.ensures.len, c.push_reserved.ensures.capacity);
    }

pub loop-i-init : goal.loop-i-init
loop-i-init g c = record { items = c.reserve.ensures.items ∙ sym (append-nil _); room = room_made _ _ _ _ c.DIMENSION.ensures c.in_ok-reserve.ensures.ok }

pub returns : goal.returns
returns g c = record {
  items =
      c.loop-i.invariant.items
      ∙ ap (λ xs. c.args.to.now.items ++ xs) (all_taken c.loop-i.i _ _ _ c.loop-i-test.false c.DIMENSION-i-end.ensures
      (g.met.Self.BasedVectorSpace.dimension_law c.args.self.now));
  room = λ _. refl;
  refused = tt;
  asked = tt;
}
