use Rattle.std.proofs.Common.{◌+◌, ◌∙◌, arith, of_calls}
use Rattle.p3_matrix.proofs.Consumers.{all_counted, limit_exceeded, limit_refused, limit_stays}
use Rattle.p3_dft.proofs.Calls.PublishedExtensions.{power_divides}
use Rattle.p3_dft.proofs.Laws.Blocks.{where_refused}
use Rattle.examples.proofs.Limits.{one_too_many}
use Rattle.examples.proofs.published.limited_extension.Goals as goal

pub returns-in-Ok-clause-counted : goal.returns-in-Ok-clause-counted
returns-in-Ok-clause-counted g c = λ k e.
    c.seen.ensures.seen ∙ all_counted _ _ c.in-Ok.out.physical c.in-Ok.taken (λ r made. search of_calls) (c.in-Ok.ensures.published k e)

pub returns-in-Ok-clause-within : goal.returns-in-Ok-clause-within
returns-in-Ok-clause-within g c =
    let told =
    limit_stays _ _ c.in-Ok.out.physical c.in-Ok.taken c.args.limit (λ r made. search of_calls)
    (c.in-Ok.ensures.published c.requires.log c.requires.height) in
    omega (arith, c.seen.ensures.seen, c.seen.ensures.within, told)

pub returns-in-Refused-clause-refused : goal.returns-in-Refused-clause-refused
returns-in-Refused-clause-refused g c = λ k e.
    let x = where_refused _ _ _ _ c.in-Refused.is c.in-Err.ensures.refused k e in
    let told = limit_refused _ _ _ _ _ _ x.2 in
    let law = g.met.D.TwoAdicSubgroupDft.laws.power_of_two k c.args.added_bits in
    let whole = power_divides (g.D.TwoAdicSubgroupDft.facts.block_rows k c.args.added_bits) law.0 (k + c.args.added_bits) law.1 law.2 in
    let high = (x.1.extended k e).height in
    (told.1, rw high at told.2, limit_exceeded _ _ _ _ _ _ c.args.limit x.2 (λ r made. search of_calls) _ high whole.0 whole.1)

pub returns-in-Refused-clause-one_too_many : goal.returns-in-Refused-clause-one_too_many
returns-in-Refused-clause-one_too_many g c = λ k e.
    let x = where_refused _ _ _ _ c.in-Refused.is c.in-Err.ensures.refused k e in
    let (taken, refused, parts, many, start) = one_too_many _ _ _ _ _ _ c.args.limit (λ r made. search of_calls) x.2 in
    (x.0, x.1, taken, refused, parts, many, start)
