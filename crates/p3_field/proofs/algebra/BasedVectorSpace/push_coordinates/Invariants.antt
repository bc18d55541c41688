use Rattle.std.proofs.Common.{◌≡◌, ◌+◌, ◌≤◌, ◌++◌, take, vec_len, vec_capacity}
use Rattle.p3_field.proofs.algebra.BasedVectorSpace.push_coordinates.Given as goal

-- the first i coordinates are there, and room for the others
abbrev pub invariant-loop-i : goal.invariant-loop-i
invariant-loop-i g l =
    record {
      items : l.to.items ≡ l.fn.to.items ++ take l.i (g.Self.BasedVectorSpace.coordinates l.fn.self);
      room : vec_len l.to + g.Self.BasedVectorSpace.DIMENSION ≤ vec_capacity l.to + l.i;
    }
