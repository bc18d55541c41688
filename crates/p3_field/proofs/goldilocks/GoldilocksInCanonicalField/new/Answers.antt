use Rattle.p3_field.proofs.Lemmas.{sym, count_law, goldilocks_numbers, residue-eq}
use Rattle.p3_field.proofs.goldilocks.GoldilocksInCanonicalField.new.Goals as goal

pub returns-then-number-lt-MODULUS-clause-value : goal.returns-then-number-lt-MODULUS-clause-value
returns-then-number-lt-MODULUS-clause-value g c =
    residue-eq _ _ (sym (count_law goldilocks_numbers.modulus goldilocks_numbers.above goldilocks_numbers.odd c.args.number c.if-number-lt-MODULUS.true))
