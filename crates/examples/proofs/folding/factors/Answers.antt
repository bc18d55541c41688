use Rattle.std.proofs.Common.{◌≡◌, ℕ, ◌^◌, ◌<◌, suc, length, ap, ap₂, sym, ◌∙◌, arith, add-one, get_or}
use Rattle.p3_field.specs.Ring.{power, two}
use Rattle.p3_matrix.specs.BitOrder.{rev}
use Rattle.p3_matrix.specs.Cosets.{point}
use Rattle.p3_matrix.proofs.BitReversal.{rev-lt}
use Rattle.p3_matrix.proofs.TwoPowers.{log_of_usize}
use Rattle.examples.specs.Foldings.{pair_point}
use Rattle.examples.proofs.FoldedValues.{factor_at_point, written_over}
use Rattle.examples.proofs.folding.factors.Goals as goal
use Rattle.examples.proofs.folding.factors.Goals.{in-BitReversed, in-Natural}

pub overflow_add-log_half : goal.overflow_add-log_half
overflow_add-log_half g c = omega (arith, log_of_usize c.args.log_half (omega (arith, c.requires.half, c.ranges.half)))

pub returns-clause-factors : goal.returns-clause-factors
returns-clause-factors g c = λ i below.
    let f = g.F.Valued in
    let k = c.args.log_half in
    let roots = λ (n : ℕ). f.value (g.F.TwoAdicField.generator n) in
    let u = f.value c.inverse-root.result in
    let xs = c.in_ok-factors.factors.items in
    let size : length xs ≡ 2 ^ k = omega (arith, c.in_ok-factors.ensures.long, c.requires.half, c.in_ok-factors.factors.ok.0) in
    -- where row i has the factor made at place p
    let at =
    λ (p : ℕ) (inside : p < 2 ^ k) (place : pair_point c.args.layout k i ≡ p)
    (made : get_or c.match-layout.factors.items i f.zero ≡ get_or xs p f.zero).
    ap₂ (λ q y. f.ring.mul (two f.ring) (f.ring.mul (point f.ring roots (suc k) (f.value c.args.shift) q) (f.value y))) place made
    ∙ factor_at_point f.ring roots k p (f.value c.args.shift) (f.value c.inverse.result) u (f.value c.halve.result) (f.value c.args.beta) _ c.inverse.ensures
    (ap (λ n. f.ring.mul (roots n) u) (sym (add-one k)) ∙ ap (λ y. f.ring.mul y u) (sym c.invertible_root.ensures.same)
    ∙ c.inverse-root.ensures) c.halve.ensures
    (c.in_ok-factors.ensures.powers p (omega (arith, inside, c.requires.half))
    ∙ ap₂ (λ a b. f.ring.mul (f.value a) (power f.ring (f.value b) p)) c.shifted_powers.ensures.start c.shifted_powers.ensures.base
    ∙ ap (λ y. f.ring.mul y (power f.ring u p)) (g.met.F.Field.mul_law _ _ _ c.mul-first.ensures)) in
    elim c.match-layout.branch [
      | in-Natural w ↦ at i below (ap (λ l. pair_point l k i) w.in-Natural.is) (ap (λ v. get_or v.items i f.zero) w.factors-is)
      | in-BitReversed w ↦
          let now : length w.deref_mut.result.now ≡ 2 ^ k = ap length w.deref_mut.ensures.value ∙ size in
          let kept : length w.reverse_slice_index_bits.new.values ≡ length w.deref_mut.result.now = w.reverse_slice_index_bits.auto.values in
          let all : c.in_ok-factors.factors.len ≡ 2 ^ k = omega (arith, size, c.in_ok-factors.factors.ok.0) in
          at (rev k i) (rev-lt k i) (ap (λ l. pair_point l k i) w.in-BitReversed.is)
          (ap (λ v. get_or v.items i f.zero) w.factors-is
          ∙ written_over _ i xs _ f.zero (omega (arith, size, all)) (omega (arith, kept, now, all)) (omega (arith, below, all))
          ∙ w.reverse_slice_index_bits.ensures k now f.zero i below ∙ ap (λ zs. get_or zs (rev k i) f.zero) w.deref_mut.ensures.value)
    ]
