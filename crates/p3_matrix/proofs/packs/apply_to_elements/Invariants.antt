use Rattle.p3_matrix.proofs.Lemmas.{◌≡◌, ◌+◌, ◌*◌, map, by_lanes, until}
use Rattle.p3_matrix.proofs.packs.apply_to_elements.Given as goal

abbrev pub invariant-loop-i : goal.invariant-loop-i
invariant-loop-i g l =
    let f = g.F.Valued in
    let b = g.B.Butterfly in
    let xs = map f.value l.fn.row_1 in
    let ys = map f.value l.fn.row_2 in
    record {
      near : map f.value l.row_1 ≡ until l.i (by_lanes (b.near f.Element f.ring f.value l.butterfly) xs ys) xs;
      far : map f.value l.row_2 ≡ until l.i (by_lanes (b.far f.Element f.ring f.value l.butterfly) xs ys) ys;
      count : l.products ≡ l.fn.products + b.cost * l.i;
    }
