use Rattle.p3_matrix.proofs.Lemmas.{◌≡◌, ◌+◌, ◌-◌, ◌*◌, ℕ, length, map, rows_done}
use Rattle.p3_matrix.proofs.packs.apply_to_packs_oop.Given as goal

abbrev pub invariant-loop-at : goal.invariant-loop-at
invariant-loop-at g l =
    let f = g.F.Valued in
    let xs = map f.value l.src_1 in
    let ys = map f.value l.src_2 in
    record {
      width : l.width ≡ g.P.PackedField.WIDTH;
      left : (k : ℕ) × (l.at + k * l.width ≡ length l.src_1);
      near : map f.value l.dst_1 ≡ rows_done (g.B.Butterfly.near f.Element f.ring f.value l.butterfly) l.at xs ys (map f.value l.fn.dst_1);
      far : map f.value l.dst_2 ≡ rows_done (g.B.Butterfly.far f.Element f.ring f.value l.butterfly) l.at xs ys (map f.value l.fn.dst_2);
      count : l.products ≡ l.fn.products + g.B.Butterfly.cost * l.at;
    }

abbrev pub decreases-loop-at : goal.decreases-loop-at
decreases-loop-at g l = length l.src_1 - l.at
