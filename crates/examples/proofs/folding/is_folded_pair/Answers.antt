use Rattle.std.proofs.Common.{◌≡◌, IsTrue, ap, ap₂, subst, sym, ◌∙◌}
use Rattle.p3_field.specs.Ring.{minus, two}
use Rattle.p3_field.proofs.Rings
use Rattle.examples.proofs.folding.is_folded_pair.Goals as goal

pub returns : goal.returns
returns g c =
    let f = g.F.Valued in
    let law = g.met.F.Field in
    let left : f.value c.double.result ≡ f.ring.mul (two f.ring) (f.ring.mul (f.value c.args.x) (f.value c.args.folded)) =
    c.double.ensures ∙ sym (Rings.two-mul f.ring (f.value c.mul.result)) ∙ ap (f.ring.mul (two f.ring)) (law.mul_law _ _ _ c.mul.ensures) in
    let right : f.value c.add-2.result
    ≡ f.ring.add (f.ring.mul (f.value c.args.x) (f.ring.add (f.value c.args.near) (f.value c.args.far)))
    (f.ring.mul (f.value c.args.beta) (minus f.ring (f.value c.args.near) (f.value c.args.far))) =
    law.add_law _ _ _ c.add-2.ensures
    ∙ ap₂ f.ring.add (law.mul_law _ _ _ c.mul-2.ensures ∙ ap (f.ring.mul (f.value c.args.x)) (law.add_law _ _ _ c.add.ensures))
    (law.mul_law _ _ _ c.mul-3.ensures ∙ ap (f.ring.mul (f.value c.args.beta)) (law.sub_law _ _ _ c.sub.ensures)) in (
      λ told. sym left ∙ (law.eq_law _ _).0 (subst IsTrue c.eq.ensures told) ∙ right,
      λ pair. subst IsTrue (sym c.eq.ensures) ((law.eq_law _ _).1 (left ∙ pair ∙ sym right)),
    )
