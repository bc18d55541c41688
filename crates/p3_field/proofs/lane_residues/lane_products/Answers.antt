use Rattle.p3_field.proofs.Lemmas.{◌∙◌, arith, lit<, map-id, shifts_fit_splat}
use Rattle.p3_field.proofs.LaneArithmetic.{uppers_fit, rests_of_products_fit, rests_of_products_below, products_of_lanes, widened}
use Rattle.p3_field.proofs.lane_residues.lane_products.Goals as goal

pub overflow_cast-product : goal.overflow_cast-product
overflow_cast-product g c = widened c.args.a c.fits-a.1

pub overflow_cast-product-2 : goal.overflow_cast-product-2
overflow_cast-product-2 g c = widened c.args.b c.fits-b.1

pub overflow_shr-upper : goal.overflow_shr-upper
overflow_shr-upper g c = shifts_fit_splat 64 _ _ 30 (lit< tt)

pub overflow_cast-upper : goal.overflow_cast-upper
overflow_cast-upper g c =
    let N = g.N.Numbers in
    uppers_fit N.numbers.modulus N.numbers.above N.small_law N.quotient_law c.args.a c.args.b _ c.fits-a.0 c.requires.first c.requires.second

pub overflow_cast-estimate : goal.overflow_cast-estimate
overflow_cast-estimate g c =
    let N = g.N.Numbers in
    let uppers = uppers_fit N.numbers.modulus N.numbers.above N.small_law N.quotient_law c.args.a c.args.b _ c.fits-a.0 c.requires.first c.requires.second in
    rw map-id (widened _ uppers)

pub overflow_shr-estimate : goal.overflow_shr-estimate
overflow_shr-estimate g c = shifts_fit_splat 64 _ _ 32 (lit< tt)

pub overflow_cast-product-3 : goal.overflow_cast-product-3
overflow_cast-product-3 g c =
    let N = g.N.Numbers in
    rw (c.MODULUS-modulus.ensures ∙ N.modulus_law)
    (rests_of_products_fit N.numbers.modulus N.numbers.above N.small_law N.quotient_law c.args.a c.args.b _ c.fits-a.0 c.requires.first c.requires.second)

pub remainders-requires : goal.remainders-requires
remainders-requires g c =
    let N = g.N.Numbers in
    let m = N.numbers.modulus in
    let below = rests_of_products_below m N.numbers.above N.small_law N.quotient_law c.args.a c.args.b _ c.fits-a.0 c.requires.first c.requires.second in
    (omega (arith, c.requires.lanes), (c.requires.lanes, rw (c.MODULUS-modulus.ensures ∙ N.modulus_law) below))

pub returns-clause-value : goal.returns-clause-value
returns-clause-value g c =
    let N = g.N.Numbers in
    c.remainders.ensures.value
    ∙ rw (c.MODULUS-modulus.ensures ∙ N.modulus_law)
    (products_of_lanes N.numbers.modulus N.numbers.above N.small_law N.quotient_law c.args.a c.args.b _ c.fits-a.0 c.requires.first c.requires.second)
