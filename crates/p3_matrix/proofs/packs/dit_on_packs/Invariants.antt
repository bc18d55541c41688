use Rattle.p3_matrix.proofs.Lemmas.{◌≡◌, ◌+◌, ◌-◌, ◌*◌, ℕ, length, map, by_lanes, minus, rows_done}
use Rattle.p3_matrix.proofs.packs.dit_on_packs.Given as goal

abbrev pub invariant-loop-at : goal.invariant-loop-at
invariant-loop-at g l =
    let f = g.F.Valued in
    let xs = map f.value l.fn.row_1 in
    let ys = map f.value l.fn.row_2 in
    let multiples = by_lanes f.ring.mul ys (map f.value l.fn.twiddles) in
    record {
      width : l.width ≡ g.P.PackedField.WIDTH;
      left : (k : ℕ) × (l.at + k * l.width ≡ length l.fn.row_1);
      near : map f.value l.row_1 ≡ rows_done f.ring.add l.at xs multiples xs;
      far : map f.value l.row_2 ≡ rows_done (minus f.ring) l.at xs multiples ys;
      count : l.products ≡ l.fn.products + l.at;
    }

abbrev pub decreases-loop-at : goal.decreases-loop-at
decreases-loop-at g l = length l.initial.row_1 - l.at
