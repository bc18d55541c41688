use Rattle.p3_field.proofs.Lemmas.{ℕ, ◌≡◌, ◌+◌, ◌*◌, ◌<◌, ◌≤◌, length, get_or, IsInverse, first_product}
use Rattle.p3_field.proofs.batch_inverse.batch_multiplicative_inverse_to.Given as goal

-- each place before i has the product of the elements before it
abbrev pub invariant-loop-i : goal.invariant-loop-i
invariant-loop-i g l =
    let values = λ (j : ℕ). g.F.Valued.value (get_or l.x j g.F.Valued.zero) in
    record {
      product : g.F.Valued.value l.product ≡ first_product g.F.Valued.ring values l.i;
      before : (j : ℕ) → j < l.i → g.F.Valued.value (get_or l.inverses j g.F.Valued.zero) ≡ first_product g.F.Valued.ring values j;
      count : l.products ≡ l.initial.products + l.i;
    }

-- each place before i has that still, and each from there on its inverse
abbrev pub invariant-loop-i-2 : goal.invariant-loop-i-2
invariant-loop-i-2 g l =
    let values = λ (j : ℕ). g.F.Valued.value (get_or l.x j g.F.Valued.zero) in
    record {
      inverse : IsInverse g.F.Valued.ring (first_product g.F.Valued.ring values l.i) (g.F.Valued.value l.inverse);
      before : (j : ℕ) → j < l.i → g.F.Valued.value (get_or l.inverses j g.F.Valued.zero) ≡ first_product g.F.Valued.ring values j;
      done : (j : ℕ) → l.i ≤ j → j < length l.x → IsInverse g.F.Valued.ring (values j) (g.F.Valued.value (get_or l.inverses j g.F.Valued.zero));
      count : l.products + 2 * l.i ≡ l.initial.products + 2 * length l.x;
    }
