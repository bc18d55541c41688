use Rattle.p3_networks.proofs.Lemmas.{ℕ, ◌*◌, get_or, length, RisesAtMost, TakesCells, cells_of}
use Rattle.p3_networks.proofs.tiles.layers_of_chunk.Given as goal

abbrev pub invariant-loop-done : goal.invariant-loop-done
invariant-loop-done g l =
    let field = g.F.Valued in
    let order = g.D.NetworkDecimation.order in
    let entry = λ (b : ℕ). field.value (get_or l.fn.twiddles b field.zero) in
    record {
      cells : TakesCells field.value field.value field.zero order l.fn.width l.fn.top l.fn.number
          (λ b. g.D.Decimation.near field.Element field.ring field.value l.fn.decimation (entry b))
          (λ b. g.D.Decimation.far field.Element field.ring field.value l.fn.decimation (entry b))
          (cells_of order l.fn.from l.fn.top 0) (cells_of order l.fn.from l.fn.top l.done) l.fn.values l.values;
      cost : RisesAtMost (g.D.Decimation.cost * (l.done * length l.fn.values)) (2 * l.fn.products) (2 * l.products);
    }
