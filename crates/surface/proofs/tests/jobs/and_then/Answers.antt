use Rattle.std.proofs.Common.{◌∷◌, []}
use Rattle.std.proofs.lemmas.List.Elements.{All-append, All-from_recursion}
use Rattle.p3_dft.specs.Jobs.{CanRun}
use Rattle.surface.proofs.tests.jobs.and_then.Goals as goal

pub returns : goal.returns
returns g c =
    let runs = CanRun g.F.Valued g.F.TwoAdicField.TWO_ADICITY in
    let items = rw c.expect.ensures at c.push.ensures.items in
    rw items (All-append runs c.args.jobs.items (c.args.job ∷ []) c.requires.jobs (All-from_recursion runs (c.args.job ∷ []) (c.requires.job, tt)))
