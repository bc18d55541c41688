use Rattle.p3_networks.proofs.Lemmas.{◌+◌, ◌*◌, ◌/◌, ◌^◌, length, refl, arith, rev, point, factor, scale_cost, turns_halved, first_shift, shifted_sizes}
use Rattle.p3_networks.proofs.Lemmas.{row_taken}
use Rattle.p3_networks.proofs.halves.second_half.Goals as goal

pub on_each_chunk-requires-clause-whole : goal.on_each_chunk-requires-clause-whole
on_each_chunk-requires-clause-whole g c =
    (shifted_sizes c.args.mid (c.args.mid + c.args.left) c.args.left c.args.width (length c.args.values.now)
    (omega (arith, c.requires.rows.fits_u64)) refl c.requires.rows.size).whole

pub on_each_chunk-requires-clause-accepts : goal.on_each_chunk-requires-clause-accepts
on_each_chunk-requires-clause-accepts g c n below =
    let sizes =
    shifted_sizes c.args.mid (c.args.mid + c.args.left) c.args.left c.args.width (length c.args.values.now)
    (omega (arith, c.requires.rows.fits_u64)) refl c.requires.rows.size in
    let count = first_shift c.args.mid c.args.left c.requires.rows.fits_u64 in
    record {
      width = c.requires.rows.width;
      fits_u64 = c.requires.rows.fits_u64;
      chunk = omega (arith, below, count);
      size = sizes.size_is;
      table = c.requires.table;
    }

pub returns-clause-values : goal.returns-clause-values
returns-clause-values g c root s roots table a t j below inside column =
    let field = g.F.Valued in
    let mid = c.args.mid in
    let left = c.args.left in
    let sizes =
    shifted_sizes mid (mid + left) left c.args.width (length c.args.values.now)
    (omega (arith, c.requires.rows.fits_u64)) refl c.requires.rows.size in
    row_taken field.zero _ field.ring (λ x. field.ring.mul (field.value x) (factor field c.args.scale)) field.value (2 ^ left) c.args.width (λ q. q) _ a t j
    (point field.ring root left (point field.ring root (mid + left) s (rev mid a)) (rev left t)) c.args.values.now
    c.on_each_chunk.new.values sizes.size_is refl (λ q l. l) inside column
    (c.on_each_chunk.ensures.chunks a (omega (arith, below, first_shift mid left c.requires.rows.fits_u64)) root s roots table t j inside column)

pub returns-clause-cost : goal.returns-clause-cost
returns-clause-cost g c =
    turns_halved _ _ (c.args.width * (c.args.left * 2 ^ c.args.left / 2) + scale_cost c.args.scale * (2 ^ c.args.left * c.args.width)) _ _
    (first_shift c.args.mid c.args.left c.requires.rows.fits_u64) c.on_each_chunk.ensures.cost
