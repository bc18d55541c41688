use Rattle.p3_matrix.proofs.Lemmas.{◌≡◌, ◌+◌, map, by_lanes, minus, until}
use Rattle.p3_matrix.proofs.packs.dit_on_elements.Given as goal

abbrev pub invariant-loop-i : goal.invariant-loop-i
invariant-loop-i g l =
    let f = g.F.Valued in
    let xs = map f.value l.fn.row_1 in
    let ys = map f.value l.fn.row_2 in
    let multiples = by_lanes f.ring.mul ys (map f.value l.fn.twiddles) in
    record {
      near : map f.value l.row_1 ≡ until l.i (by_lanes f.ring.add xs multiples) xs;
      far : map f.value l.row_2 ≡ until l.i (by_lanes (minus f.ring) xs multiples) ys;
      count : l.products ≡ l.fn.products + l.i;
    }
