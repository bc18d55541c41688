use Rattle.std.proofs.Common.{◌≡◌, take}
use Rattle.std.specs.List.{AllZip}
use Rattle.liktrob.proofs.words.write.Given as goal

-- the first i words name the first i elements
abbrev pub invariant-loop-i : goal.invariant-loop-i
invariant-loop-i g l = AllZip (λ word x. g.F.WordField.word_number word ≡ g.F.Valued.number (g.F.Valued.value x)) (take l.i l.words) (take l.i l.elements)
