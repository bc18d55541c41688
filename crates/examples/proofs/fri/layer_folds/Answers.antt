use Rattle.std.proofs.Common.{◌≡◌, suc, ◌+◌, ◌-◌, ◌^◌, ◌<◌, get_or, length, ap, sym, ◌∙◌, arith}
use Rattle.std.proofs.lemmas.List.{get_or_read}
use Rattle.std.proofs.lemmas.Nat.{one_shl}
use Rattle.p3_field.specs.Ring.{power}
use Rattle.examples.proofs.Queries.{place_inside}
use Rattle.examples.proofs.fri.layer_folds.Goals as goal

pub is_folded-requires-else-l-openings-clause-row : goal.is_folded-requires-else-l-openings-clause-row
is_folded-requires-else-l-openings-clause-row g c =
    let log = c.args.commitment.now.log_height in
    let below : c.args.l < log = omega (arith, c.requires.at, c.requires.layers) in
    let last : log - length c.args.openings.now ≡ log - 1 - c.args.l = omega (arith, c.requires.at, c.if-l-openings.false) in
    omega (arith, place_inside log c.args.l c.args.index below c.requires.inside, c.requires.last, ap (λ k. 2 ^ k) last)

pub returns-then-l-openings-clause-between : goal.returns-then-l-openings-clause-between
returns-then-l-openings-clause-between g c = λ o below.
    let f = g.F.Valued in
    let one : c.args.l + 1 ≡ suc c.args.l = omega arith in
    let log : c.args.commitment.now.log_height - suc c.args.l ≡ c.args.commitment.now.log_height - 1 - c.args.l = omega arith in
    let opening = get_or_read c.args.openings.now _ _ c.requires.at c.index-openings-l.is o in
    let next =
    get_or_read c.args.openings.now _ _ c.if-l-openings.true c.index-openings-l-then-l-openings.is o
    ∙ ap (λ n. get_or c.args.openings.now n o) one in
    let challenge =
    get_or_read c.args.commitment.now.challenges.items _ _
    (omega (arith, c.requires.at, c.requires.challenges, c.args.commitment.now.challenges.ok.0))
    c.index-challenge.ensures f.zero in
    let shift : f.value c.exp_u64-shift.result ≡ power f.ring (f.value c.args.commitment.now.shift) (2 ^ c.args.l) =
    c.exp_u64-shift.ensures
    ∙ ap (power f.ring (f.value c.args.commitment.now.shift))
    (one_shl c.args.l 64 (omega (arith, c.requires.at, c.requires.layers, c.requires.fits_u64))) in
    rw (log, sym opening ∙ c.index-openings-l.is, sym next ∙ c.index-openings-l-then-l-openings.is, sym challenge, sym shift) c.is_folded.ensures

pub returns-else-l-openings-clause-to_last : goal.returns-else-l-openings-clause-to_last
returns-else-l-openings-clause-to_last g c = λ o last.
    let f = g.F.Valued in
    let log : c.args.commitment.now.log_height - suc c.args.l ≡ c.args.commitment.now.log_height - 1 - c.args.l = omega arith in
    let opening = get_or_read c.args.openings.now _ _ c.requires.at c.index-openings-l.is o in
    let challenge =
    get_or_read c.args.commitment.now.challenges.items _ _
    (omega (arith, c.requires.at, c.requires.challenges, c.args.commitment.now.challenges.ok.0))
    c.index-challenge.ensures f.zero in
    let shift : f.value c.exp_u64-shift.result ≡ power f.ring (f.value c.args.commitment.now.shift) (2 ^ c.args.l) =
    c.exp_u64-shift.ensures
    ∙ ap (power f.ring (f.value c.args.commitment.now.shift))
    (one_shl c.args.l 64 (omega (arith, c.requires.at, c.requires.layers, c.requires.fits_u64))) in
    rw (log, sym opening ∙ c.index-openings-l.is, sym challenge, sym shift) c.is_folded-else-l-openings.ensures
