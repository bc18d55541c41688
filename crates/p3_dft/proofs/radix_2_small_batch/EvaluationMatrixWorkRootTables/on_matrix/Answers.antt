use Rattle.p3_dft.proofs.Lemmas.{ℕ, refl, forward_root, block_powers, enough_from_start, fewer_from_start, first_is_one, transform_of_reversed}
use Rattle.p3_dft.proofs.radix_2_small_batch.EvaluationMatrixWorkRootTables.on_matrix.Goals as goal

pub dif_network-requires-clause-first : goal.dif_network-requires-clause-first
dif_network-requires-clause-first g c = first_is_one g.F.Valued (λ (n : ℕ). g.F.Valued.value (g.F.TwoAdicField.generator n)) c.args.log_h _ c.requires.nonzero
    (fewer_from_start g.F.Valued (block_powers g.F.Valued (forward_root g.F.Valued g.F.TwoAdicField.generator))
    c.args.log_h _ _ c.requires.in_table c.forward-twiddles.ensures.table)

pub dif_network-requires-clause-enough : goal.dif_network-requires-clause-enough
dif_network-requires-clause-enough g c =
    enough_from_start g.F.Valued (λ (n : ℕ). g.F.Valued.value (g.F.TwoAdicField.generator n)) c.args.log_h _
    c.requires.nonzero
    (fewer_from_start g.F.Valued (block_powers g.F.Valued (forward_root g.F.Valued g.F.TwoAdicField.generator))
    c.args.log_h _ _ c.requires.in_table c.forward-twiddles.ensures.table)

pub returns-clause-takes : goal.returns-clause-takes
returns-clause-takes g c =
    transform_of_reversed g.F.Valued g.F.TwoAdicField.generator c.args.mat.now c.reverse_rows.new.mat _
    c.values_mut.result.now c.dif_network.new.values _ c.args.log_h c.width-width.result
    c.requires.rows.whole c.requires.rows.height c.width-width.ensures.width c.reverse_rows.ensures.shape
    c.reverse_rows.ensures.size (c.reverse_rows.ensures.rows c.args.log_h c.requires.rows.height)
    c.values_mut.ensures.values c.dif_network.auto.values refl refl
    (c.dif_network.ensures.values _ (λ (n : ℕ). g.F.Valued.value (g.F.TwoAdicField.generator n)) g.met.F.TwoAdicField.roots_law c.requires.within
    (fewer_from_start g.F.Valued (block_powers g.F.Valued (forward_root g.F.Valued g.F.TwoAdicField.generator))
    c.args.log_h _ _ c.requires.in_table c.forward-twiddles.ensures.table))
