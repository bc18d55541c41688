use Rattle.p3_matrix.proofs.Lemmas.{chunk_fits, Fits-le, le-add_right, le_trans, le-mul_of_pos_right, lt_of_le_of_lt, zero-le}
use Rattle.p3_matrix.proofs.bitrev.chunk_number.Goals as goal

pub overflow_add-result-2 : goal.overflow_add-result-2
overflow_add-result-2 c =
    chunk_fits c.args.first c.args.tile c.args.last c.args.tiles c.args.side c.requires.first c.requires.tile
    c.requires.last c.requires.fits_u64

pub overflow_add-result : goal.overflow_add-result
overflow_add-result c =
    Fits-le (le_trans (le-mul_of_pos_right _ (lt_of_le_of_lt zero-le c.requires.last)) (le-add_right _ _)) (chunk_fits
    c.args.first c.args.tile c.args.last c.args.tiles c.args.side c.requires.first c.requires.tile c.requires.last
    c.requires.fits_u64)
