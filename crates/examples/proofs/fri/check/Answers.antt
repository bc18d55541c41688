use Rattle.std.proofs.Common.{◌<◌, length, arith}
use Rattle.examples.proofs.Queries.{some_element}
use Rattle.examples.proofs.fri.check.Goals as goal

pub are_folded-requires-clause-pairs : goal.are_folded-requires-clause-pairs
are_folded-requires-clause-pairs g c = λ q o below.
    let roots = c.args.commitment.now.roots in
    let root : q < length roots.items = omega (arith, below, c.if-openings-len.false, roots.ok.0) in
    let opened = c.are_opened.ensures.0 c.if-not-are_opened.false q o (some_element roots.items q root) below in
    (opened.height, opened.width)

pub returns : goal.returns
returns g c = (
  λ told. (omega (arith, c.if-openings-len.false), c.are_opened.ensures.0 c.if-not-are_opened.false, c.are_folded.ensures.0 told),
  λ all. c.are_folded.ensures.1 all.2,
)
