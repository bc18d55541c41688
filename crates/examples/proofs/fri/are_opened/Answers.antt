use Rattle.std.proofs.Common.{◌≡◌, suc, ◌-◌, inl, inr, rules, sym, arith}
use Rattle.std.proofs.lemmas.Bool.{cases_lt}
use Rattle.std.proofs.lemmas.List.{get_or_read}
use Rattle.examples.proofs.Queries.{place_inside}
use Rattle.examples.proofs.fri.are_opened.Goals as goal

pub is_opened-requires-clause-inside : goal.is_opened-requires-clause-inside
is_opened-requires-clause-inside g c =
    place_inside c.args.commitment.now.log_height c.loop-l.l c.args.index
    (omega (arith, c.requires.layers, c.requires.count, c.loop-l-test.true)) c.requires.inside

pub loop-l-preserved : goal.loop-l-preserved
loop-l-preserved g c = λ q o d below.
    let hash = g.H.RowHash in
    let cases = cases_lt q c.loop-l.l in
    elim cases [
      | inl less ↦ c.loop-l.invariant q o d less
      | inr more ↦
          let here : c.loop-l.l ≡ q = omega (arith, below, more) in
          let log : c.args.commitment.now.log_height - 1 - c.loop-l.l ≡ c.args.commitment.now.log_height - suc c.loop-l.l = omega arith in
          let opening = get_or_read c.args.openings.now _ _ c.loop-l-test.true c.index-openings-l.is o in
          let root =
          get_or_read c.args.commitment.now.roots.items _ _
          (omega (arith, c.requires.count, c.args.commitment.now.roots.ok.0, c.loop-l-test.true)) c.index.ensures d in
          let told = c.is_opened.ensures.0 c.if-not-is_opened.false in
          rw (sym here, sym opening, sym root) (rw (log, c.width-width.ensures.width) at told)
    ]

pub returns : goal.returns
returns g c = (λ told q o d below. c.loop-l.invariant q o d (omega (arith, below, c.loop-l-test.false)), λ all. search rules)
