use Rattle.p3_field.proofs.Lemmas.{◌∙◌, quotient_of_words}
use Rattle.p3_field.proofs.lane_residues.quotient.Goals as goal

pub returns-clause-value : goal.returns-clause-value
returns-clause-value g c =
    let N = g.N.Numbers in
    rw (c.MODULUS.ensures ∙ N.modulus_law) (quotient_of_words N.numbers.modulus N.numbers.above N.small_law c.args.t c.requires)
