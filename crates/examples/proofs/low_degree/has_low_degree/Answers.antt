use Rattle.std.proofs.Common.{◌≡◌, ◌↔◌, ℕ, ◌+◌, ◌-◌, ◌^◌, ◌≤◌, IsTrue, sym, ap, ◌∙◌, subst, arith}
use Rattle.std.proofs.lemmas.Result.{IfOk-weaker}
use Rattle.std.proofs.lemmas.Nat.{pow-add, pow_pos}
use Rattle.p3_matrix.proofs.TwoPowers.{log_lt, log_same}
use Rattle.p3_matrix.specs.Cosets.{values_of}
use Rattle.p3_dft.specs.Codes.{HasDegreeBelow}
use Rattle.p3_dft.proofs.Laws.TwoCalls.{exponent_within}
use Rattle.examples.proofs.low_degree.has_low_degree.Goals as goal

-- a smaller power of two has the smaller logarithm
degree_within : (j k tall : ℕ) → tall ≡ 2 ^ k → 2 ^ j ≤ tall → j ≤ k
degree_within j k tall high less = omega (arith, log_lt j (k + 1) (omega (arith, high, less, pow-add 2 k 1, pow_pos k)))

degree_added : (j k : ℕ) → j ≤ k → j + (k - j) ≡ k
degree_added j k less = omega arith

pub overflow_sub-log_points : goal.overflow_sub-log_points
overflow_sub-log_points g c =
    degree_within c.args.log_degree _ _ (sym c.height.ensures.height ∙ c.log2_strict_usize-log_points.ensures.power) c.requires.degree

pub new-code-requires-clause-within : goal.new-code-requires-clause-within
new-code-requires-clause-within g c =
    let points = sym c.height.ensures.height ∙ c.log2_strict_usize-log_points.ensures.power in
    omega (arith, exponent_within _ c.requires.fits points, degree_within c.args.log_degree _ _ points c.requires.degree)

pub is_codeword-told-requires-clause-points : goal.is_codeword-told-requires-clause-points
is_codeword-told-requires-clause-points g c =
    let points = sym c.height.ensures.height ∙ c.log2_strict_usize-log_points.ensures.power in
    rw c.new-code.ensures (points ∙ ap (λ n. 2 ^ n) (sym (degree_added c.args.log_degree _ (degree_within c.args.log_degree _ _ points c.requires.degree))))

pub returns-clause-exact : goal.returns-clause-exact
returns-clause-exact g c k high =
    let points = sym c.height.ensures.height ∙ c.log2_strict_usize-log_points.ensures.power in
    let degree = degree_within c.args.log_degree _ _ points c.requires.degree in
    let log : c.log2_strict_usize-log_points.result ≡ k = log_same _ k (sym points ∙ high) in
    let all = degree_added c.args.log_degree c.log2_strict_usize-log_points.result degree ∙ log in
    IfOk-weaker c.is_codeword-told.result _ _
    (λ told exact. subst (λ (n : ℕ). IsTrue told
    ↔ HasDegreeBelow g.F.Valued g.F.TwoAdicField.generator (2 ^ c.args.log_degree) n
    (g.F.Valued.value c.args.shift) (values_of g.F.Valued c.args.values.now)) all exact)
    (rw c.new-code.ensures at c.is_codeword-told.ensures.exact)
