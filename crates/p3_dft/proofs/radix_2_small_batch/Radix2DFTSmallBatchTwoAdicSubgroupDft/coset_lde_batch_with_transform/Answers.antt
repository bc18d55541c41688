use Rattle.p3_dft.proofs.Lemmas.{refl, IfOk-from_err, extension_of_equal, after_refusal, as_stored}
use Rattle.p3_dft.specs.declared.traits.Layout.TheVariants.{Natural}
use Rattle.p3_dft.proofs.radix_2_small_batch.Radix2DFTSmallBatchTwoAdicSubgroupDft.coset_lde_batch_with_transform.Goals as goal

pub returns : goal.returns
returns g c = record {
  values =
      extension_of_equal g.F.Valued g.F.TwoAdicField.generator _ Natural _ _ c.args.added_bits
      (g.F.Valued.value c.args.shift) _ _ refl c.to_row_major_matrix.ensures c.in_ok-values.ensures.values;
  only = c.in_ok-values.ensures.only;
  engine = as_stored c.in_ok-values.ensures.engine;
}

pub returns-in_err-values : goal.returns-in_err-values
returns-in_err-values g c =
    let err = c.from_residual.ensures.0 in
    record {
      values = IfOk-from_err _ _ err;
      only = c.in_err-values.ensures.only;
      engine = after_refusal c.from_residual.ensures c.in_err-values.ensures.engine;
    }
