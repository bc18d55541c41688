use Rattle.std.proofs.lemmas.Fn.{FoldsTo-push}
use Rattle.p3_field.proofs.totals.multiply_all.Goals as goal

pub loop-x-preserved : goal.loop-x-preserved
loop-x-preserved g c = FoldsTo-push _ _ _ _ _ _ c.loop-x.invariant c.mul-product.ensures
