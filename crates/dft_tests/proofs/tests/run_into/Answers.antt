use Rattle.std.proofs.Common.{ap, sym}
use Rattle.dft_program.proofs.Took.{took-contents}
use Rattle.dft_tests.proofs.tests.run_into.Goals as goal

pub returns-clause-ended : goal.returns-clause-ended
returns-clause-ended c is =
    let told = c.run-status.ensures.ended is in (
      told.0,
      told.1,
      took-contents c.new-out.result c.run-status.new.out c.args.held.items c.into_writer.result.items told.0
          (ap (λ calls. calls.contents) c.new-out.ensures) (sym c.into_writer.ensures) told.2,
    )
