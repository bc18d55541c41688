use Rattle.std.proofs.Common.{subst}
use Rattle.examples.specs.Fri.{AreDrawn}
use Rattle.examples.proofs.fri.verify.Goals as goal

pub returns-clause-verdict : goal.returns-clause-verdict
returns-clause-verdict g c = λ shape.
    let challenges = c.in_ok-challenges.challenges.items in
    let drawn = c.draw_challenges.new.transcript in
    let (indexes, long, numbers, accepted) = c.are_accepted.ensures in (
      challenges,
      indexes,
      drawn,
      c.take.new.self,
      subst (λ roots. AreDrawn g.T.Transcript.draws c.args.transcript.now roots challenges drawn) c.deref.ensures.value
          c.in_ok-challenges.ensures.drawn,
      c.take.ensures,
      long,
      numbers,
      accepted,
    )
