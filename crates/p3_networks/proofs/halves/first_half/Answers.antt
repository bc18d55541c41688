use Rattle.p3_networks.proofs.Lemmas.{Bor, ◌≡◌, ℕ, ◌<◌, ◌+◌, ◌*◌, ◌-◌, ◌/◌, ◌^◌, List, length, get_or, Option, Some, None, refl, ap, ◌∙◌, arith, IfSome_then}
use Rattle.p3_networks.proofs.Lemmas.{rev, point, poly, rev-lt, part_size, chunk_of, chunk_of_source, source_of, AreRows, turns_halved, block_room, one_shifted}
use Rattle.p3_networks.proofs.Lemmas.{tile_sizes, row_taken}
use Rattle.p3_networks.proofs.halves.first_half.Goals as goal

-- a chunk of the source is one of what work begins with
source_chunk : {T : Type 0} (source : Option (Bor (List T))) (values : List T) (size n : ℕ)
    → length (chunk_of size n values) ≡ size
    → chunk_of_source source n (chunk_of size n values) ≡ chunk_of size n (source_of source values)
source_chunk None values size n long = refl
source_chunk (Some source) values size n long = ap (λ k. chunk_of k n source.now) long

pub on_each_chunk-requires-clause-whole : goal.on_each_chunk-requires-clause-whole
on_each_chunk-requires-clause-whole g c =
    (tile_sizes c.args.log_h c.args.mid c.args.width (length c.args.values.now) c.requires.rows.fits_u64
    c.requires.parts c.requires.rows.size).whole

pub on_each_chunk-requires-clause-accepts : goal.on_each_chunk-requires-clause-accepts
on_each_chunk-requires-clause-accepts g c n below =
    let sizes = tile_sizes c.args.log_h c.args.mid c.args.width (length c.args.values.now) c.requires.rows.fits_u64 c.requires.parts c.requires.rows.size in
    let rows : AreRows c.args.mid c.args.width (length c.args.values.now / one_shifted (c.args.log_h - c.args.mid)) =
    record {
      width = c.requires.rows.width;
      fits_u64 = omega (arith, c.requires.rows.fits_u64, c.requires.parts);
      size = sizes.size_is;
    } in
    (rows, c.requires.table, IfSome_then c.args.source c.requires.source (λ source is. block_room n _ _ (length source.now) below (is ∙ sizes.whole)))

pub returns-clause-values : goal.returns-clause-values
returns-clause-values g c root s roots table a t j below inside column =
    let field = g.F.Valued in
    let mid = c.args.mid in
    let sizes = tile_sizes c.args.log_h mid c.args.width (length c.args.values.now) c.requires.rows.fits_u64 c.requires.parts c.requires.rows.size in
    let chunk : a < one_shifted (c.args.log_h - mid) = omega (arith, below, sizes.tiles_is) in
    let x = point field.ring root mid s t in
    row_taken field.zero _ field.ring field.value field.value (2 ^ mid) c.args.width (rev mid) _ a t j x
    (source_of c.args.source c.args.values.now) c.on_each_chunk.new.values sizes.size_is refl (λ q l. rev-lt mid q)
    inside column
    (c.on_each_chunk.ensures.chunks a chunk root s roots table t j inside column
    ∙ ap (λ xs. poly field.ring (2 ^ mid) (λ q. field.value (get_or xs (rev mid q * c.args.width + j) field.zero)) x)
    (source_chunk c.args.source c.args.values.now _ a (part_size c.args.values.now _ _ (block_room a _ _ _ chunk sizes.whole))))

pub returns-clause-cost : goal.returns-clause-cost
returns-clause-cost g c =
    let sizes = tile_sizes c.args.log_h c.args.mid c.args.width (length c.args.values.now) c.requires.rows.fits_u64 c.requires.parts c.requires.rows.size in
    turns_halved _ _ (c.args.width * (c.args.mid * 2 ^ c.args.mid / 2)) _ _ sizes.tiles_is c.on_each_chunk.ensures.cost
