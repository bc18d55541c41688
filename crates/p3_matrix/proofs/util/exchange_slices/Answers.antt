use Rattle.p3_matrix.proofs.RowExchanges.{exchanged_parts}
use Rattle.p3_matrix.proofs.util.exchange_slices.Goals as goal

pub returns : goal.returns
returns g c =
    let parts = c.split_at_mut-front in
    exchanged_parts c.args.values.now parts.result.0.now parts.result.1.now c.swap_with_slice.new.self
    c.swap_with_slice.new.other c.args.first c.args.second c.args.count
    parts.ensures.value parts.ensures.front_len c.requires.apart c.requires.within c.swap_with_slice.ensures.after c.swap_with_slice.ensures.other_after
