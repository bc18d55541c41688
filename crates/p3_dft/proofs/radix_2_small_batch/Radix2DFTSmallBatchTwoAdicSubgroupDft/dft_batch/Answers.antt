use Rattle.p3_dft.proofs.Lemmas.{ap₂, transform_of_row, after_prepared, up_to, on_err_weaker}
use Rattle.p3_dft.proofs.radix_2_small_batch.Radix2DFTSmallBatchTwoAdicSubgroupDft.dft_batch.Goals as goal

pub on_prepared-requires-clause-alone : goal.on_prepared-requires-clause-alone
on_prepared-requires-clause-alone g c whole = transform_of_row g.F.Valued g.F.TwoAdicField.generator _

pub returns : goal.returns
returns g c = rw (← c.self.view_is) (record {
  values = c.on_prepared.ensures.answer;
  succeeds = c.on_prepared.ensures.succeeds;
  made = c.on_prepared.ensures.made;
  one_row = λ one. let (same, kept) = c.on_prepared.ensures.one_row one in (same, ap₂ up_to kept.0 kept.1);
  refused = on_err_weaker c.on_prepared.result (λ same. ap₂ up_to same.0 same.1) c.on_prepared.ensures.refused;
  engine =
      after_prepared _ _ c.on_prepared.ensures.keeps c.on_prepared.ensures.grows
      c.on_prepared.ensures.made c.on_prepared.ensures.cost c.on_prepared.ensures.room;
})
