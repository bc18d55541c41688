use Rattle.std.proofs.Common.{◌≡◌, ◌+◌, [], ◌∷◌, ◌++◌, get_or, length, map, take, refl, ap, subst, sym, ◌∙◌, arith}
use Rattle.std.proofs.lemmas.Fn.{FoldsTo-push}
use Rattle.std.proofs.lemmas.List.{get_or_read, map_push, take_all, take_more}
use Rattle.examples.specs.Fri.{AreDrawn}
use Rattle.examples.proofs.Refusals.{told_by_growth}
use Rattle.examples.proofs.fri.draw_challenges.Goals as goal

pub returns-in_err-challenges-clause-refused : goal.returns-in_err-challenges-clause-refused
returns-in_err-challenges-clause-refused g c = told_by_growth c.from_residual.result _ _ _ c.from_residual.ensures c.in_err-challenges.ensures.room

pub loop-l-init : goal.loop-l-init
loop-l-init g c =
    let none = c.in_ok-challenges.ensures.items in
    record {
      long = ap length none;
      room = omega (arith, c.in_ok-challenges.ensures.capacity);
      drawn = record { rounds = []; of_roots = refl; are_challenges = sym none; drawn = refl };
    }

pub loop-l-preserved : goal.loop-l-preserved
loop-l-preserved g c =
    let before = c.loop-l.invariant in
    let was = before.drawn in
    let roots = c.args.roots.now in
    let l = c.loop-l.l in
    let root = c.index-roots-l.result in
    let challenge = c.draw.result in
    let read : root ≡ get_or roots l root = get_or_read roots l root c.loop-l-test.true c.index-roots-l.is root in
    record {
      long = omega (arith, before.long, c.push_reserved.ensures.len, c.loop-l.challenges.ok.0, c.push_reserved.new.self.ok.0);
      room = omega (arith, before.room, c.push_reserved.ensures.capacity);
      drawn = record {
        rounds = was.rounds ++ (root, challenge) ∷ [];
        of_roots =
            map_push (λ r. r.0) was.rounds (root, challenge) ∙ ap (λ xs. xs ++ root ∷ []) was.of_roots
            ∙ ap (λ x. take l roots ++ x ∷ []) read ∙ sym (take_more roots l root c.loop-l-test.true);
        are_challenges =
            map_push (λ r. r.1) was.rounds (root, challenge) ∙ ap (λ xs. xs ++ challenge ∷ []) was.are_challenges
            ∙ sym c.push_reserved.ensures.items;
        drawn = FoldsTo-push _ _ was.rounds _ (root, challenge) _ was.drawn c.draw.ensures;
      };
    }

pub returns-clause-drawn : goal.returns-clause-drawn
returns-clause-drawn g c =
    subst (λ rs. AreDrawn g.T.Transcript.draws c.args.transcript.now rs c.loop-l.challenges.items c.loop-l.transcript)
    (take_all c.loop-l.l c.args.roots.now (omega (arith, c.loop-l-test.false))) c.loop-l.invariant.drawn
