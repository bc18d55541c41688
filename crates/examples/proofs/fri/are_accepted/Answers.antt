use Rattle.std.proofs.Common.{◌≡◌, ◌↔◌, ℕ, ◌+◌, ◌-◌, inl, inr, false, IsTrue, [], ◌∷◌, ◌++◌, get_or, length, refl, ap, subst, sym, ◌∙◌, arith}
use Rattle.std.proofs.lemmas.Bool.{true≢false}
use Rattle.std.proofs.lemmas.Fn.{FoldsTo-push}
use Rattle.std.proofs.lemmas.List.{get_or_read, length-append}
use Rattle.examples.specs.Fri.{IsAcceptedQuery}
use Rattle.examples.proofs.Queries.{one_more_query}
use Rattle.examples.proofs.fri.are_accepted.Goals as goal
use Rattle.examples.proofs.fri.are_accepted.Goals.{then-not-check, else-not-check}

pub loop-q-init : goal.loop-q-init
loop-q-init g c = record { indexes = []; long = refl; drawn = refl; accepted = (λ yes q d below. absurd (omega (arith, below)), λ all. refl) }

pub loop-q-preserved : goal.loop-q-preserved
loop-q-preserved g c =
    let f = g.F.Valued in
    let hash = g.H.RowHash in
    let gen = λ (n : ℕ). f.value (g.F.TwoAdicField.generator n) in
    let known = c.args.commitment.now in
    let before = c.loop-q.invariant in
    let i = c.draw_index-index.result in
    let v = c.index-queries-q.result in
    let P = λ (k : ℕ) (x : _).
    IsAcceptedQuery f gen hash.worth (hash.of_pair c.args.hash.now) (hash.of_row c.args.hash.now) known.log_height (f.value known.shift)
    (λ l. f.value (get_or known.challenges.items l f.zero)) known.roots.items known.last k x in
    let one : IsTrue c.check.result ↔ P i v.items =
    subst (λ xs. IsTrue c.check.result ↔ P i xs) c.deref.ensures.value (rw known.roots.ok.0 at c.check.ensures) in
    let read = λ (d : _). sym (get_or_read c.args.queries.now c.loop-q.q v c.loop-q-test.true c.index-queries-q.is d) in
    record {
      indexes = before.indexes ++ i ∷ [];
      long = length-append before.indexes (i ∷ []) ∙ ap (λ (n : ℕ). n + 1) before.long;
      drawn = FoldsTo-push _ _ before.indexes _ i _ before.drawn c.draw_index-index.ensures.drawn;
      accepted =
          one_more_query (λ k x. P k x.items) before.indexes c.args.queries.now c.loop-q.q i v c.loop-q.accepted
          c.if-not-check.accepted (IsTrue c.check.result) before.long read before.accepted one
          (elim c.if-not-check.branch [
            | then-not-check w ↦ inr (w.accepted-is, λ yes. true≢false (sym yes ∙ w.if-not-check.true))
            | else-not-check w ↦ inl (w.accepted-is, w.if-not-check.false)
          ]);
    }

pub returns : goal.returns
returns g c =
    let inv = c.loop-q.invariant in
    let all : c.loop-q.q ≡ length c.args.queries.now = omega (arith, c.loop-q-test.false, c.loop-q.auto.q-end) in (
      inv.indexes,
      inv.long ∙ all,
      inv.drawn,
      (λ yes q d below. inv.accepted.0 yes q d (omega (arith, below, all)), λ given. inv.accepted.1 (λ q d below. given q d (omega (arith, below, all)))),
    )
