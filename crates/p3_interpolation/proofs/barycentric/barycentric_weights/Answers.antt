use Rattle.std.proofs.Common.{◌≡◌, ℕ, ◌<◌, ◌^◌, List, get_or, sym, ap, ap₂, ◌∙◌, arith, subst}
use Rattle.p3_field.specs.Ring.{IsInverse, minus, power}
use Rattle.p3_networks.proofs.Layers.Sizes.{first_shift}
use Rattle.p3_matrix.proofs.Rows.Overwritten.{written}
use Rattle.p3_interpolation.specs.Interpolations.{AreWeights}
use Rattle.p3_interpolation.proofs.BarycentricFormula.{listed_weights, ratio_apart}
use Rattle.p3_interpolation.proofs.barycentric.barycentric_weights.Goals as goal

pub batch_multiplicative_inverse-requires : goal.batch_multiplicative_inverse-requires
batch_multiplicative_inverse-requires g c i below =
    let f = g.F.Valued in
    let x = f.value c.args.point in
    let t = f.value c.inverse.result in
    let h = f.value c.inverse-step.result in
    let root : IsInverse f.ring (f.value (g.F.TwoAdicField.generator c.args.log_height)) h =
    ap (λ z. f.ring.mul z h) (sym c.invertible_root.ensures.same) ∙ c.inverse-step.ensures in
    let apart =
    ratio_apart f.ring g.met.F.TwoAdicField.roots_law c.args.log_height (f.value c.args.shift) t x h i
    c.requires.within c.inverse.ensures root c.requires.off_coset in
    let all = c.as_slice.ensures.len ∙ c.in_ok-divisors.divisors.ok.0 ∙ c.in_ok-divisors.ensures.long in
    let is = ap (λ xs. f.value (get_or xs i f.zero)) c.as_slice.ensures.value ∙ c.in_ok-divisors.ensures.values i (subst (λ n. i < n) all below)
    ∙ ap (λ y. minus f.ring (f.ring.mul y (power f.ring h i)) f.ring.one) (g.met.F.Field.mul_law _ _ _ c.mul-ratio.ensures) in
    (apart.0, ap (λ y. f.ring.mul y apart.0) is ∙ apart.1)

-- With z the point over the shift, h the inverse of the generator and n = 2^k: divisor i is z * h^i - 1, and weight i its
-- inverse times (z^n - 1) / n.
pub returns : goal.returns
returns g c =
    let f = g.F.Valued in
    let k = c.args.log_height in
    let x = f.value c.args.point in
    let t = f.value c.inverse.result in
    let h = f.value c.inverse-step.result in
    let scale = f.value c.div_2exp_u64-scale.result in
    let root : IsInverse f.ring (f.value (g.F.TwoAdicField.generator k)) h =
    ap (λ z. f.ring.mul z h) (sym c.invertible_root.ensures.same) ∙ c.inverse-step.ensures in
    let over : f.value c.mul-ratio.result ≡ f.ring.mul x t = g.met.F.Field.mul_law _ _ _ c.mul-ratio.ensures in
    let scaled = c.div_2exp_u64-scale.ensures ∙ g.met.F.Field.sub_law _ _ _ c.sub-vanishing.ensures
    ∙ ap₂ (minus f.ring) (c.exp_power_of_2.ensures ∙ ap (λ y. power f.ring y (2 ^ k)) over) (ap f.value c.ONE.ensures ∙ g.met.F.Field.one_law) in
    let shifted = first_shift k 0 (omega (arith, c.requires.size)) in
    let all = c.as_slice.ensures.len ∙ c.in_ok-divisors.divisors.ok.0 ∙ c.in_ok-divisors.ensures.long ∙ shifted in
    let divisors = λ (i : ℕ) (below : i < 2 ^ k).
    c.in_ok-divisors.ensures.values i (subst (λ n. i < n) (sym shifted) below) ∙ ap (λ y. minus f.ring (f.ring.mul y (power f.ring h i)) f.ring.one) over in
    let inverses = λ (i : ℕ) (below : i < 2 ^ k).
    ap₂ (λ xs ys. f.ring.mul (f.value (get_or xs i f.zero)) (f.value (get_or ys i f.zero))) (sym c.as_slice.ensures.value) c.as_mut_slice.ensures.value
    ∙ c.in_ok-weights.ensures.inverses i (subst (λ n. i < n) (sym all) below) in
    let ws = c.scale_slice_in_place.new.values in
    let many = c.as_mut_slice.ensures.len ∙ c.in_ok-weights.ensures.long ∙ all in
    let same = written _ ws _ (c.scale_slice_in_place.auto.values ∙ c.as_mut_slice.ensures.len) in
    record {
      long = c.in_ok-weights.ensures.long ∙ all;
      weights =
          subst (λ (xs : List g.row.F.Denot). AreWeights f.ring (λ n. f.value (g.F.TwoAdicField.generator n)) k
          (f.value c.args.shift) x (λ i. f.value (get_or xs i f.zero))) (sym same)
          (listed_weights f.ring g.met.F.TwoAdicField.roots_law f.value f.zero c.in_ok-divisors.divisors.items
          c.as_mut_slice.result.now ws k (f.value c.args.shift) t x h scale c.requires.within
          c.inverse.ensures root scaled divisors inverses many c.scale_slice_in_place.auto.values c.scale_slice_in_place.ensures.values);
      room = tt;
    }
