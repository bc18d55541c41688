use Rattle.p3_dft.proofs.Lemmas.{◌≡◌, ◌^◌, refl, ap, ◌∙◌, count, count-power_of_two, backward_root, block_powers, fewer_from_start, interpolation_of_reversed}
use Rattle.p3_dft.proofs.radix_2_small_batch.InterpolationMatrixWorkRootTables.on_matrix.Goals as goal

pub returns-clause-takes : goal.returns-clause-takes
returns-clause-takes g c =
    let field = g.F.Valued in
    let k = c.args.log_h in
    let inverse = field.value c.div_2exp_u64-inverse.result in
    let undone : field.ring.mul (count field.ring (2 ^ k)) inverse ≡ field.ring.one =
    ap (λ x. field.ring.mul x inverse) (count-power_of_two field.ring k) ∙ c.div_2exp_u64-inverse.ensures
    ∙ ap field.value c.ONE.ensures ∙ g.met.F.Field.one_law in
    interpolation_of_reversed field g.F.TwoAdicField.generator g.met.F.TwoAdicField.roots_law c.args.mat.now
    c.reverse_rows.new.mat _ c.values_mut.result.now c.scaled_dif_network.new.values _ k c.width-width.result
    inverse c.requires.within c.requires.rows.whole c.requires.rows.height c.reverse_rows.ensures.shape
    c.reverse_rows.ensures.size c.reverse_rows.ensures.rows c.values_mut.ensures.values c.width-width.ensures.width
    c.scaled_dif_network.auto.values refl refl undone c.scaled_dif_network.ensures.values

pub scaled_dif_network-requires-clause-twiddles : goal.scaled_dif_network-requires-clause-twiddles
scaled_dif_network-requires-clause-twiddles g c =
    fewer_from_start g.F.Valued (block_powers g.F.Valued (backward_root g.F.Valued g.F.TwoAdicField.generator))
    c.args.log_h _ _ c.requires.in_table c.backward-twiddles.ensures.table
