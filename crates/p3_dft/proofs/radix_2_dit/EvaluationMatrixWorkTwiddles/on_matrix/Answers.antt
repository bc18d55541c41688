use Rattle.p3_dft.proofs.Lemmas.{refl, ℕ, ap, ap₂, sym, length, ◌∙◌, ◌*◌, arith, le-add_right, fewer_layers, layer_there, transform_of_reversed, larger_bound}
use Rattle.p3_dft.proofs.radix_2_dit.EvaluationMatrixWorkTwiddles.on_matrix.Goals as goal

pub dit_network_to_natural-requires-clause-size : goal.dit_network_to_natural-requires-clause-size
dit_network_to_natural-requires-clause-size g c =
    ap length c.values_mut.ensures.values ∙ c.reverse_rows.ensures.size ∙ sym c.requires.rows.whole.full
    ∙ ap₂ (λ (h w : ℕ). h * w) c.requires.rows.height (sym c.width-width.ensures.width)

pub dit_network_to_natural-requires-clause-table : goal.dit_network_to_natural-requires-clause-table
dit_network_to_natural-requires-clause-table g c =
    layer_there c.args.log_h _ c.requires.rows.fits_u64 (fewer_layers g.F.Valued _ c.args.log_h _ _ c.requires.in_table c.as_slice.ensures.table).size

pub dit_network_to_natural-requires-clause-twiddles : goal.dit_network_to_natural-requires-clause-twiddles
dit_network_to_natural-requires-clause-twiddles g c l t below inside = c.as_slice.ensures.table.entries l t (omega (arith, below, c.requires.in_table)) inside

pub returns-clause-takes : goal.returns-clause-takes
returns-clause-takes g c =
    transform_of_reversed g.F.Valued g.F.TwoAdicField.generator c.args.mat.now c.reverse_rows.new.mat _
    c.values_mut.result.now c.dit_network_to_natural.new.values _ c.args.log_h c.width-width.result
    c.requires.rows.whole c.requires.rows.height c.width-width.ensures.width c.reverse_rows.ensures.shape
    c.reverse_rows.ensures.size (c.reverse_rows.ensures.rows c.args.log_h c.requires.rows.height)
    c.values_mut.ensures.values c.dit_network_to_natural.auto.values refl refl c.dit_network_to_natural.ensures.values

pub returns-clause-cost : goal.returns-clause-cost
returns-clause-cost g c = rw (← c.width-width.ensures.width) (larger_bound _ _ _ _ c.dit_network_to_natural.ensures.cost (le-add_right _ _))
