use Rattle.p3_networks.proofs.Lemmas.{ℕ, ◌+◌, ◌*◌, ◌<◌, ap, ◌∙◌, arith, row_below, in_first, in_second, of_halves}
use Rattle.p3_networks.proofs.groups.ColumnsChunkWork.on_chunk.Goals as goal

-- What is said of the rows of the two halves is said of the block, which is one half behind the other.
pub returns-clause-chunk : goal.returns-clause-chunk
returns-clause-chunk g c =
    let field = g.F.Valued in
    let part = c.args.self.now.part in
    let half = c.args.self.now.half in
    let size = half * part in
    let near =
    λ (x y : g.row.F.Denot). g.R.Rule.near field.Element field.ring field.value c.args.self.now.rule
    (c.args.self.now.first_block + c.args.number) 0 (field.value x) (field.value y) in
    let far =
    λ (x y : g.row.F.Denot). g.R.Rule.far field.Element field.ring field.value c.args.self.now.rule
    (c.args.self.now.first_block + c.args.number) 0 (field.value x) (field.value y) in
    let low = c.on_halves.new.low in
    let high = c.on_halves.new.high in
    let front = c.split_at_mut-low.ensures in
    let met = c.on_halves.ensures in
    let first = λ (n : ℕ) (below : n < size). in_first low high n field.zero (omega (arith, below, c.on_halves.auto.low, front.front_len)) in
    let second = λ (n : ℕ). in_second low high size n field.zero (omega (arith, c.on_halves.auto.low, front.front_len)) in
    record {
      near_half =
          λ t j row column p q.
          let below = row_below t j part half row column in
          ap field.value (first _ below) ∙ met.near t j row column p q
          ∙ of_halves near c.args.chunk.now _ _ size _ field.zero front.front front.back below;
      far_half =
          λ t j row column p q.
          let below = row_below t j part half row column in
          ap field.value (second _) ∙ met.far t j row column p q
          ∙ of_halves far c.args.chunk.now _ _ size _ field.zero front.front front.back below;
      kept = λ t j row column o.
          let below = row_below t j part half row column in
          let stays = met.kept t j row column o in (
            first _ below ∙ stays.0 ∙ of_halves (λ x y. x) c.args.chunk.now _ _ size _ field.zero front.front front.back below,
            second _ ∙ stays.1 ∙ of_halves (λ x y. y) c.args.chunk.now _ _ size _ field.zero front.front front.back below,
          );
    }
