use Rattle.std.proofs.Common.{◌≡◌, map, take}
use Rattle.std.specs.Vec.{vec_items}
use Rattle.p3_matrix.specs.RowMajor.{rows}
use Rattle.dft_program.specs.Text.{text_of_rows}
use Rattle.dft_program.proofs.matrices.text_of.Given as goal

-- the text of the first rows
abbrev pub invariant-loop-i : goal.invariant-loop-i
invariant-loop-i g l =
    vec_items l.text ≡ text_of_rows (map (map (λ x. g.F.Valued.number (g.F.Valued.value x))) (take l.i (rows l.matrix)))
