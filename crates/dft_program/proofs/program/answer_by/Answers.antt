use Rattle.std.proofs.Common.{◌+◌, ap, arith, length}
use Rattle.p3_dft.specs.Jobs.{answer_entries}
use Rattle.dft_program.proofs.Refused.{either_refused}
use Rattle.dft_program.proofs.program.answer_by.Goals as goal

pub returns-in-Parallel-clause-refused : goal.returns-in-Parallel-clause-refused
returns-in-Parallel-clause-refused g c =
    let entries = answer_entries c.args.job in
    let none = ap length c.default-in-Parallel.ensures.1 in
    either_refused _ entries _ (length c.default-in-Parallel.result.cosets + 1 + entries + 1) (entries + 2) c.requires.small.element
    (omega arith) c.requires.small.table (omega (arith, none)) c.answer_to-in-Parallel.result c.answer_to-in-Parallel.ensures.refused
