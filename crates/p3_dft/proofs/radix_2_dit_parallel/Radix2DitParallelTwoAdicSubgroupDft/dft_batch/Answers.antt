use Rattle.p3_dft.proofs.Lemmas.{◌≡◌, ap₂, refl, ◌∙◌, le-add_right, le_refl, first_of, row_handed_back, row_seen, later_with_tables, tabled}
use Rattle.p3_dft.proofs.radix_2_dit_parallel.Radix2DitParallelTwoAdicSubgroupDft.dft_batch.Goals as goal

pub on_prepared-requires-clause-alone : goal.on_prepared-requires-clause-alone
on_prepared-requires-clause-alone g c whole one = ((refl, refl), λ bits high. row_seen g.F.Valued g.F.TwoAdicField.generator _ _ _ bits whole one refl high)

pub returns-in_err-mat-clause-engine : goal.returns-in_err-mat-clause-engine
returns-in_err-mat-clause-engine g c = rw (← c.self.view_is) (record {
  later = later_with_tables g.F.Valued refl c.on_prepared.ensures.keeps (λ k s has. has) c.on_prepared.ensures.grows;
  prepared = λ done k high. tt;
  cost = c.on_prepared.ensures.cost;
  tables = le-add_right _ _;
  refused = first_of _ _ _ _ (le_refl _) (le_refl _) _ _ c.from_residual.result _ c.from_residual.ensures c.in_err-mat.ensures.room;
})

pub returns-clause-values : goal.returns-clause-values
returns-clause-values g c = rw c.bit_reverse_rows.ensures.matrix (c.in_ok-mat.ensures.answer.1 _ c.bit_reverse_rows.ensures.height)

pub returns-clause-made : goal.returns-clause-made
returns-clause-made g c = rw (← c.self.view_is) c.in_ok-mat.ensures.made

pub returns-clause-one_row : goal.returns-clause-one_row
returns-clause-one_row g c = rw (← c.self.view_is) (λ one.
    let (same, kept) = c.in_ok-mat.ensures.one_row one in
    let is : c.in_ok-mat.mat ≡ g.N.IntoRowMajorMatrix.stored c.args.mat = cc in (
      row_handed_back c.bit_reverse_rows.result _ _ (c.bit_reverse_rows.ensures.matrix ∙ is)
          c.bit_reverse_rows.ensures.height (c.in_ok-mat.ensures.answer.0.0 ∙ one),
      ap₂
          (λ log products. tabled log products c.self.inside.cosets) kept.0 kept.1,
    ))

pub returns-clause-engine : goal.returns-clause-engine
returns-clause-engine g c = rw (← c.self.view_is) (record {
  later = later_with_tables g.F.Valued refl c.on_prepared.ensures.keeps (λ k s has. has) c.on_prepared.ensures.grows;
  prepared = λ done k high. tt;
  cost = c.on_prepared.ensures.cost;
  tables = le-add_right _ _;
  refused = tt;
})
