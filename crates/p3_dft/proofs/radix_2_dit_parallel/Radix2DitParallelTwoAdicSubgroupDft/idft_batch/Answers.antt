use Rattle.p3_dft.proofs.Lemmas.{ap₂, refl, le-add_right, le_refl, on_err_weaker, if_first, interpolation_of_row, later_with_tables, tabled}
use Rattle.p3_dft.proofs.radix_2_dit_parallel.Radix2DitParallelTwoAdicSubgroupDft.idft_batch.Goals as goal

pub on_prepared-requires-clause-alone : goal.on_prepared-requires-clause-alone
on_prepared-requires-clause-alone g c whole = interpolation_of_row g.F.Valued g.F.TwoAdicField.generator g.met.F.TwoAdicField.roots_law _ c.requires.fits

pub returns : goal.returns
returns g c = rw (← c.self.view_is) (record {
  coefficients = c.on_prepared.ensures.answer;
  succeeds = c.on_prepared.ensures.succeeds;
  made = c.on_prepared.ensures.made;
  refused =
      on_err_weaker c.on_prepared.result
      (λ same. ap₂ (λ log products. tabled log products c.self.inside.cosets) same.0 same.1)
      c.on_prepared.ensures.refused;
  one_row = λ one. let (same, kept) = c.on_prepared.ensures.one_row one in (same, ap₂ (λ log products. tabled log products c.self.inside.cosets) kept.0 kept.1);
  cosets = refl;
  engine = record {
    later = later_with_tables g.F.Valued refl c.on_prepared.ensures.keeps (λ k s has. has) c.on_prepared.ensures.grows;
    prepared = λ done k high. tt;
    cost = c.on_prepared.ensures.cost;
    tables = le-add_right _ _;
    refused = if_first _ _ _ _ (le_refl _) (le_refl _) _ _ c.on_prepared.result c.on_prepared.ensures.room;
  };
})
