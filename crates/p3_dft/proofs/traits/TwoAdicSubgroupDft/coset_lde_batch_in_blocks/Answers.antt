use Rattle.p3_dft.proofs.Lemmas.{of_calls, IfErr-weaker, IfOk-weaker, reversed_rows, values_of, extended_of_same, on_refused_weaker}
use Rattle.p3_dft.proofs.traits.TwoAdicSubgroupDft.coset_lde_batch_in_blocks.Goals as goal

pub returns-clause-values : goal.returns-clause-values
returns-clause-values g c =
    IfOk-weaker c.coset_lde_batch_with_blocks.result _ _ (λ p given. extended_of_same g.F.Valued
    g.F.TwoAdicField.generator _ g.Self.TwoAdicSubgroupDft.LAYOUT (g.N.IntoRowMajorMatrix.stored c.args.mat)
    (values_of g.F.Valued (reversed_rows p.0.bits p.0.physical)) c.args.added_bits (g.F.Valued.value c.args.shift)
    (λ told answered called. search of_calls) given) c.coset_lde_batch_with_blocks.ensures.values

pub returns-clause-refused : goal.returns-clause-refused
returns-clause-refused g c =
    IfErr-weaker c.coset_lde_batch_with_blocks.result _ _ (λ stopped. on_refused_weaker stopped _ _ (λ consumer refusal given k e.
    let x = given k e in (
      x.0,
      extended_of_same g.F.Valued g.F.TwoAdicField.generator _ g.Self.TwoAdicSubgroupDft.LAYOUT
          (g.N.IntoRowMajorMatrix.stored c.args.mat) x.0 c.args.added_bits (g.F.Valued.value c.args.shift)
          (λ told answered called. search of_calls) x.1,
      x.2,
    ))) c.coset_lde_batch_with_blocks.ensures.refused
