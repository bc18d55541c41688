use Rattle.p3_dft.proofs.Lemmas.{ap, ◌∙◌, refl, values_of_parts, root_powers}
use Rattle.p3_dft.proofs.radix_2_bowers.evaluate_to_natural.Goals as goal

pub network_g-requires-clause-twiddles : goal.network_g-requires-clause-twiddles
network_g-requires-clause-twiddles g c =
    root_powers g.F.Valued _ _ _ _ _ _ (ap g.F.Valued.value c.ONE.ensures ∙ g.met.F.Field.one_law)
    c.two_adic_generator-generator.ensures c.as_slice.ensures.value c.in_ok-twiddles.ensures.powers

pub returns-clause-values : goal.returns-clause-values
returns-clause-values g c =
    values_of_parts g.F.Valued g.F.TwoAdicField.generator c.args.mat.now _ c.values_mut.result.now c.network_g.new.values _
    c.width-width.result c.args.log_h c.args.log_h refl c.requires.rows.whole c.requires.rows.height
    c.values_mut.ensures.values c.width-width.ensures.width c.network_g.auto.values refl refl c.network_g.ensures.values
