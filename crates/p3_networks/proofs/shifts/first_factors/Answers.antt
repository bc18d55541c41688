use Rattle.p3_networks.proofs.Lemmas.{◌<◌, length, sym, ap₂, ◌∙◌, subst, power, same_entries}
use Rattle.p3_networks.proofs.shifts.first_factors.Goals as goal

pub returns-clause-factors : goal.returns-clause-factors
returns-clause-factors g c = λ l inside.
    let field = g.F.Valued in
    let filled = c.fill.new.to in
    let below : l < length filled = subst (λ n. l < n) (sym (c.fill.ensures.long ∙ c.requires)) inside in
    let within : l < length c.args.part.now = subst (λ n. l < n) (sym c.requires) inside in
    same_entries field.value filled (g.P.PackedField.lanes c.load-factors.result) l field.zero c.load-factors.ensures below
    ∙ c.fill.ensures.powers l within
    ∙ ap₂ (λ s b. field.ring.mul (field.value s) (power field.ring (field.value b) l)) c.shifted_powers.ensures.start c.shifted_powers.ensures.base
