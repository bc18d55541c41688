use Rattle.p3_field.proofs.Lemmas.{refl, ◌<◌, bounded-eq}
use Rattle.p3_field.proofs.residue31.Residue31Field.ZERO.Goals as goal

pub returns : goal.returns
returns g c = bounded-eq (λ n (h : n < g.N.Numbers.numbers.modulus). record { number = n; of = _; below = h }) _ _ _ _ refl
