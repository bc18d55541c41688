use Rattle.p3_networks.proofs.Lemmas.{◌≡◌, ◌+◌, ◌*◌, ◌<◌, ◌^◌, ℕ, Fits, Fits-le, w64, le-add_left, length, ap, ◌∙◌, subst, arith, mul-div_cancel, RowMajor}
use Rattle.p3_networks.proofs.Lemmas.{rises_halved, one_shifted, second_shift, lent_once}
use Rattle.p3_networks.proofs.Tables.BlockTables.{blocks_within}
use Rattle.p3_networks.proofs.radix_2_dit_parallel.published_slots.LentLayersLendingWork.on_chunk.Goals as goal

-- the rows of a chunk have numbers
rows_fit : (first mid left chunk : ℕ) → mid + left < 64 → first + 2 ^ (mid + left) < 2 ^ 64 → chunk < 2 ^ mid → Fits w64 (first + chunk * one_shifted left)
rows_fit first mid left chunk small numbers below =
    rw (second_shift mid left small) (record { fits = omega (arith, numbers, blocks_within chunk mid left below) })

pub overflow_mul-row : goal.overflow_mul-row
overflow_mul-row g c =
    let it = c.args.self.now.layers in
    Fits-le (le-add_left _ c.args.self.now.first_row)
    (rows_fit c.args.self.now.first_row it.mid it.left c.args.number c.requires.0.fits_u64 c.requires.1 c.requires.0.chunk)

pub overflow_add-row : goal.overflow_add-row
overflow_add-row g c =
    let it = c.args.self.now.layers in
    rows_fit c.args.self.now.first_row it.mid it.left c.args.number c.requires.0.fits_u64 c.requires.1 c.requires.0.chunk

pub new-block-requires-clause-full : goal.new-block-requires-clause-full
new-block-requires-clause-full g c =
    let it = c.args.self.now.layers in
    let size : length c.on_chunk.new.chunk ≡ 2 ^ it.left * it.width = c.on_chunk.auto.chunk ∙ c.requires.0.size in
    rw size (ap (λ n. n * it.width) (mul-div_cancel (2 ^ it.left) c.requires.0.width))

pub returns-clause-lent : goal.returns-clause-lent
returns-clause-lent g c =
    let it = c.args.self.now.layers in
    let row = c.args.self.now.first_row + c.args.number * one_shifted it.left in
    let one : 2 ^ it.left ≡ 1 * 2 ^ it.left = omega arith in
    lent_once g.C.BlockConsumer.step row _ (2 ^ it.left) it.width c.on_chunk.new.chunk _ c.args.consumer.now c.consume.result
    c.consume.new.self (ap (λ n. c.args.self.now.first_row + c.args.number * n) (second_shift it.mid it.left c.requires.0.fits_u64 ∙ one))
    (c.on_chunk.auto.chunk ∙ c.requires.0.size) c.on_chunk.ensures.chunk
    (subst (λ (block : RowMajor g.row.F.Denot). g.C.BlockConsumer.step c.args.consumer.now row block c.consume.result c.consume.new.self)
    c.new-block.ensures c.consume.ensures)

pub returns-clause-cost : goal.returns-clause-cost
returns-clause-cost g c = rises_halved _ _ _ c.on_chunk.ensures.cost
