use Rattle.std.proofs.Common.{◌<◌, length, ap, ap₂, ◌∙◌, arith}
use Rattle.std.proofs.lemmas.List.{get_or_read, get_or-set_other}
use Rattle.p3_field.specs.Ring.{minus}
use Rattle.p3_field.proofs.LaneLoops.{next_written}
use Rattle.p3_interpolation.proofs.barycentric.subtract_one.Goals as goal

pub loop-i-preserved : goal.loop-i-preserved
loop-i-preserved g c =
    let f = g.F.Valued in
    let l = c.loop-i in
    let inside : l.i < length l.elements = omega (arith, c.loop-i-test.true, l.auto.elements) in
    let read = get_or_read l.elements l.i _ inside c.index-elements-i.is f.zero ∙ l.invariant.rest l.i (omega arith) in
    record {
      done = next_written f.value f.zero _ l.elements l.i c.sub.result inside l.invariant.done
          (g.met.F.Field.sub_law _ _ _ c.sub.ensures ∙ ap₂ (minus f.ring) (ap f.value read) (ap f.value c.ONE.ensures ∙ g.met.F.Field.one_law));
      rest = λ j behind. get_or-set_other l.elements l.i j _ f.zero (λ same. absurd (omega (arith, same, behind))) ∙ l.invariant.rest j (omega (arith, behind));
    }
