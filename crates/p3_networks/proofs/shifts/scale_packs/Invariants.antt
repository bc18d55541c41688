use Rattle.p3_networks.proofs.Lemmas.{◌≡◌, ℕ, ◌+◌, ◌*◌, ◌<◌, get_or, power, RowsDone}
use Rattle.p3_networks.proofs.shifts.scale_packs.Given as goal

-- the packs below i are multiplied, the others are as they were, and the next factors are at hand
abbrev pub invariant-loop-i : goal.invariant-loop-i
invariant-loop-i g l =
    let field = g.F.Valued in
    let factor = λ (n : ℕ). field.ring.mul (field.value l.fn.first) (power field.ring (field.value l.fn.base) n) in
    record {
      factors : (k : ℕ) → k < l.width → field.value (get_or (g.P.PackedField.lanes l.factors) k field.zero) ≡ factor (l.i * l.width + k);
      values : RowsDone field.zero l.width (λ i k y. field.value y
          ≡ field.ring.mul (field.value (get_or l.fn.values (i * l.width + k) field.zero)) (factor (i * l.width + k)))
          l.initial.values l.i l.values;
      count : l.products ≡ l.fn.products + l.i * l.width;
    }
