use Rattle.std.proofs.Common.{arith, sym, ◌∙◌, ap}
use Rattle.std.proofs.lemmas.Result.{IfOk-weaker}
use Rattle.p3_dft.proofs.Laws.Convolutions.{inverse_of_products}
use Rattle.examples.proofs.product.product.Goals as goal

pub returns-clause-coefficients : goal.returns-clause-coefficients
returns-clause-coefficients g c =
    let fits = c.requires.fits in
    IfOk-weaker c.idft.result _ _
    (λ out given. inverse_of_products g.F.Valued g.F.TwoAdicField.generator
    (ap g.F.Valued.value (sym g.met.F.Field.same_zero) ∙ g.met.F.Field.zero_law) c.args.a.items c.args.b.items
    c.in_ok-entries.entries.items c.in_ok-others.others.items
    c.entry_products.result.items out.items c.args.size g.F.Valued.ring.one fits.log fits.height (c.entry_products.ensures.long ∙ c.in_ok-entries.ensures.long)
    (omega (arith, c.requires.room, c.args.a.ok.0, c.args.b.ok.0)) (c.in_ok-entries.ensures.values fits.log fits.height)
    (c.in_ok-others.ensures.values fits.log fits.height)
    (rw (sym c.in_ok-entries.ensures.long, sym c.deref.ensures.value) c.entry_products.ensures.products) given)
    c.idft.ensures.coefficients
