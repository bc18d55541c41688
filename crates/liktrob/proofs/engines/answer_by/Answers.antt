use Rattle.std.proofs.Common.{arith}
use Rattle.liktrob.proofs.Named.{without_tables}
use Rattle.liktrob.proofs.engines.answer_by.Goals as goal

pub returns-in-Fastest-engine-clause-refused : goal.returns-in-Fastest-engine-clause-refused
returns-in-Fastest-engine-clause-refused g c =
    without_tables _ _ _ _ _ c.answer_to-in-Fastest-engine.result (omega arith)
    c.answer_to-in-Fastest-engine.ensures.refused
