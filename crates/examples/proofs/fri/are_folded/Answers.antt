use Rattle.std.proofs.Common.{◌≡◌, suc, inl, inr, IsTrue, length, rules, sym, arith}
use Rattle.std.proofs.lemmas.Bool.{cases_lt, true≢false}
use Rattle.examples.proofs.Queries.{some_element}
use Rattle.examples.proofs.fri.are_folded.Goals as goal

pub loop-l-preserved : goal.loop-l-preserved
loop-l-preserved g c = λ q o below.
    let cases = cases_lt q c.loop-l.l in
    elim cases [
      | inl less ↦ c.loop-l.invariant q o less
      | inr more ↦
          let here : q ≡ c.loop-l.l = omega (arith, below, more) in
          rw here (
            λ between. (c.layer_folds.ensures.between o between).0 c.if-not-layer_folds.false,
            λ last. (c.layer_folds.ensures.to_last o last).0 c.if-not-layer_folds.false,
          )
    ]

pub returns : goal.returns
returns g c = (
  λ told o. record {
    between = λ l below. (c.loop-l.invariant l o (omega (arith, below, c.loop-l-test.false))).0 below;
    to_last = λ l last. (c.loop-l.invariant l o (omega (arith, last, c.loop-l-test.false))).1 last;
  },
  λ all. search rules,
)

pub returns-then-not-layer_folds : goal.returns-then-not-layer_folds
returns-then-not-layer_folds g c = (
  λ t. absurd (true≢false (sym t)),
  λ all.
      let o = some_element c.args.openings.now c.loop-l.l c.loop-l-test.true in
      let down = all o in
      let cases = cases_lt (suc c.loop-l.l) (length c.args.openings.now) in
      let told : IsTrue c.layer_folds.result =
      elim cases [
        | inl below ↦ (c.layer_folds.ensures.between o below).1 (down.between c.loop-l.l below)
        | inr more ↦
            let last : suc c.loop-l.l ≡ length c.args.openings.now = omega (arith, more, c.loop-l-test.true) in
            (c.layer_folds.ensures.to_last o last).1 (down.to_last c.loop-l.l last)
      ] in
      rw c.if-not-layer_folds.true at told,
)
