use Rattle.p3_dft.proofs.Lemmas.{◌+◌, sym, subst, RowMajor, IsExtendedTransform, as_stored}
use Rattle.p3_dft.proofs.traits.TwoAdicSubgroupDft.coset_lde_batch_of_coefficients_bit_reversed.Goals as goal

pub into_bit_reversed-requires : goal.into_bit_reversed-requires
into_bit_reversed-requires g c =
    let fits = c.requires.fits in
    (fits.log + c.args.added_bits, (c.in_ok-extension.ensures.values fits.log fits.height).height)

pub returns : goal.returns
returns g c =
    let mat = g.N.IntoRowMajorMatrix.stored c.args.mat in
    record {
      values =
          subst (λ (out : RowMajor g.row.F.Denot). IsExtendedTransform g.F.Valued g.F.TwoAdicField.generator mat
          c.args.added_bits (g.F.Valued.value c.args.shift) out) (sym c.into_bit_reversed.ensures)
          c.in_ok-extension.ensures.values;
      engine = as_stored c.in_ok-extension.ensures.engine;
    }
