use Rattle.p3_networks.proofs.Lemmas.{ℕ, ◌+◌, ◌*◌, ◌-◌, ◌^◌, ◌≤◌, length, sym, ap, ◌∙◌, subst, Fits-le, le-add_right, le_of_lt, le_trans, HoldsColumns}
use Rattle.p3_networks.proofs.Lemmas.{TakesColumns, cells_of, rises_as, cover_counted, group_sizes, piece_held, piece_of, piece_start, pieces_all}
use Rattle.p3_networks.proofs.Lemmas.{pieces_counted, pieces_cover, pieces_few, pieces_next}
use Rattle.p3_networks.proofs.groups.GroupLayersChunkWork.on_chunk.Goals as goal

pub overflow_shl-part : goal.overflow_shl-part
overflow_shl-part g c = (group_sizes c.requires).digits

pub overflow_mul-part : goal.overflow_mul-part
overflow_mul-part g c = Fits-le ((group_sizes c.requires).within _ c.requires.size).1 search

pub overflow_sub-pieces : goal.overflow_sub-pieces
overflow_sub-pieces g c = (group_sizes c.requires).nonzero c.requires.width

pub overflow_add-pieces : goal.overflow_add-pieces
overflow_add-pieces g c =
    let sizes = group_sizes c.requires in
    Fits-le (le_trans (pieces_few c.args.self.now.piece _ (sizes.nonzero c.requires.width)) (sizes.within _ c.requires.size).1) search

pub overflow_mul-at : goal.overflow_mul-at
overflow_mul-at g c =
    let sizes = group_sizes c.requires in
    let start = piece_start c.loop-p.p c.args.self.now.piece _ c.requires.piece (sizes.nonzero c.requires.width) c.loop-p-test.true in
    Fits-le (le_trans (le_of_lt start) (sizes.within _ c.requires.size).1) search

pub overflow_sub-part : goal.overflow_sub-part
overflow_sub-part g c =
    le_of_lt (piece_start c.loop-p.p c.args.self.now.piece _ c.requires.piece ((group_sizes c.requires).nonzero c.requires.width) c.loop-p-test.true)

pub overflow_add-end : goal.overflow_add-end
overflow_add-end g c =
    let sizes = group_sizes c.requires in
    let some = sizes.nonzero c.requires.width in
    let here = piece_of c.loop-p.p c.args.self.now.piece _ _ _ sizes.part_is c.requires.piece some c.loop-p-test.true c.min.ensures in
    Fits-le (le_trans here.inside (sizes.within _ c.requires.size).0) search

pub on_piece-requires-clause-group : goal.on_piece-requires-clause-group
on_piece-requires-clause-group g c = record {
  width = c.requires.width;
  order = c.requires.order;
  fits_u64 = c.requires.fits_u64;
  piece = c.requires.piece;
  size = c.loop-p.auto.chunk ∙ c.requires.size;
  in_table = c.requires.in_table;
}

pub on_piece-requires-clause-inside : goal.on_piece-requires-clause-inside
on_piece-requires-clause-inside g c =
    let sizes = group_sizes c.requires in
    (piece_of c.loop-p.p c.args.self.now.piece _ _ _ sizes.part_is c.requires.piece (sizes.nonzero c.requires.width) c.loop-p-test.true c.min.ensures).inside

-- One piece more: the columns up to its end hold what they take, and the others stay.
pub loop-p-preserved : goal.loop-p-preserved
loop-p-preserved g c =
    let field = g.F.Valued in
    let from = c.args.self.now.from in
    let to = c.args.self.now.to in
    let order = c.args.self.now.order in
    let p = c.loop-p.p in
    let piece = c.args.self.now.piece in
    let rows = 2 ^ (to - from) in
    let part = 2 ^ from * c.args.self.now.width in
    let first = c.args.number * length c.args.chunk.now in
    let at = p * piece in
    let end = at + c.min.result in
    let sizes = group_sizes c.requires in
    let here = piece_of p piece _ _ _ sizes.part_is c.requires.piece (sizes.nonzero c.requires.width) c.loop-p-test.true c.min.ensures in
    let ordered : at ≤ end = le-add_right at c.min.result in
    record {
      cells = λ k cells layers room holds.
          let so_far = c.loop-p.invariant.cells k cells layers room holds in
          let before = cells (cells_of order from to 0) in
          let after = cells (cells_of order from to (to - from)) in
          pieces_next field.value field.zero part rows first at end ((p + 1) * piece) after c.args.chunk.now
          c.loop-p.chunk c.on_piece.new.chunk ordered here.within here.last so_far
          (subst (λ (n : ℕ). TakesColumns field.value field.zero part rows (c.args.number * n) at end after
          c.loop-p.chunk c.on_piece.new.chunk) c.loop-p.auto.chunk
          (c.on_piece.ensures.cells k cells layers room
          (subst (λ (n : ℕ). HoldsColumns field.value field.zero part rows (c.args.number * n) at end before c.loop-p.chunk) (sym c.loop-p.auto.chunk)
          (piece_held field.value field.zero part rows first at end before after c.args.chunk.now c.loop-p.chunk
          (c.requires.size ∙ sizes.rows) holds so_far))));
      cost =
          let counted = λ (n : ℕ). g.R.Rule.cost * ((to - from) * (rows * n)) in
          rises_as _ _ _ _ (ap counted (sym here.there))
          (pieces_counted g.R.Rule.cost (to - from) rows at end _ _ _ ordered
          (rises_as _ _ _ _ (ap counted here.here) c.loop-p.invariant.cost) c.on_piece.ensures.cost);
    }

-- The pieces are all columns of the chunk.
pub returns-clause-chunk : goal.returns-clause-chunk
returns-clause-chunk g c = record {
  taken = λ k cells layers room holds.
      let field = g.F.Valued in
      let from = c.args.self.now.from in
      let to = c.args.self.now.to in
      let sizes = group_sizes c.requires in
      pieces_all field.value field.zero (2 ^ from * c.args.self.now.width) (2 ^ (to - from))
      (c.args.number * length c.args.chunk.now) (c.loop-p.p * c.args.self.now.piece)
      (cells (cells_of c.args.self.now.order from to (to - from))) c.args.chunk.now c.loop-p.chunk
      (subst (λ (n : ℕ). 1 ≤ n) sizes.part_is (sizes.nonzero c.requires.width))
      (pieces_cover c.loop-p.p c.args.self.now.piece _ _ sizes.part_is c.requires.piece c.loop-p-test.false)
      (c.loop-p.auto.chunk ∙ c.requires.size ∙ sizes.rows) (c.loop-p.invariant.cells k cells layers room holds);
}

pub returns-clause-cost : goal.returns-clause-cost
returns-clause-cost g c =
    let from = c.args.self.now.from in
    let to = c.args.self.now.to in
    let rows = 2 ^ (to - from) in
    let sizes = group_sizes c.requires in
    let all = cover_counted _ _ (pieces_cover c.loop-p.p c.args.self.now.piece _ _ sizes.part_is c.requires.piece c.loop-p-test.false) in
    rises_as _ _ _ _ (ap (λ n. g.R.Rule.cost * ((to - from) * n)) (ap (λ n. rows * n) all ∙ sym sizes.rows ∙ sym c.requires.size)) c.loop-p.invariant.cost
