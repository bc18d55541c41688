use Rattle.std.proofs.Common.{◌≡◌, ℕ, ◌+◌, ◌<◌, ◌≤◌, get_or, length}
use Rattle.std.specs.Prelude.{vec_capacity}
use Rattle.p3_matrix.specs.Cosets.{point}
use Rattle.p3_dft.specs.Engines.{IsLater}
use Rattle.p3_dft.specs.Parts.{row_as_matrix}
use Rattle.p3_dft.specs.Transforms.{IsTransform}
use Rattle.examples.proofs.by_parts.transform_each_row.Given as goal

abbrev pub invariant-loop-i : goal.invariant-loop-i
invariant-loop-i g l =
    let f = g.F.Valued in
    let gen = g.F.TwoAdicField.generator in
    let point_at = λ (i : ℕ). point f.ring (λ n. f.value (gen n)) (l.log_parts + l.log_rows) (f.value l.fn.shift) i in
    record {
      long : length l.parts.items ≡ l.i;
      room : l.i-end ≤ vec_capacity l.parts;
      parts : (i : ℕ) (d : _) → i < l.i → IsTransform f gen (row_as_matrix l.width l.wide i) (point_at i) (get_or l.parts.items i d);
      later : IsLater g.D.TwoAdicSubgroupDft.facts l.fn.engine l.engine;
    }
