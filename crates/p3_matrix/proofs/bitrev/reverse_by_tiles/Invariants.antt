use Rattle.p3_matrix.proofs.Lemmas.{◌≡◌, ◌+◌, ◌*◌, ◌^◌, ◌<◌, rev, IsRowsHalfReversed, tile_order}
use Rattle.p3_matrix.proofs.bitrev.reverse_by_tiles.Given as goal

abbrev pub invariant-loop-tile : goal.invariant-loop-tile
invariant-loop-tile g l = record {
  mirror : l.tile < 2 ^ l.inner → l.mirror ≡ rev l.inner l.tile;
  below : l.mirror < 2 ^ l.inner;
  half : IsRowsHalfReversed l.fn.width l.fn.bits (tile_order (2 ^ l.inner) (2 ^ l.fn.outer)) (l.tile * 2 ^ l.fn.outer * 2 ^ l.fn.outer) l.fn.values l.values;
}

abbrev pub invariant-loop-first : goal.invariant-loop-first
invariant-loop-first g l = record {
  half : IsRowsHalfReversed l.fn.width l.fn.bits (tile_order (2 ^ l.inner) (2 ^ l.fn.outer))
      ((l.tile * 2 ^ l.fn.outer + l.first) * 2 ^ l.fn.outer) l.fn.values l.values;
}

abbrev pub invariant-loop-last : goal.invariant-loop-last
invariant-loop-last g l = record {
  half : IsRowsHalfReversed l.fn.width l.fn.bits (tile_order (2 ^ l.inner) (2 ^ l.fn.outer))
      ((l.tile * 2 ^ l.fn.outer + l.first) * 2 ^ l.fn.outer + l.last) l.fn.values l.values;
}
