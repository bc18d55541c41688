use Rattle.std.proofs.Common.{◌≡◌, ℕ, sym, ap, ◌∙◌}
use Rattle.p3_field.specs.Ring.{power}
use Rattle.p3_matrix.specs.Cosets.{point}
use Rattle.p3_matrix.proofs.Polynomials.Cosets.{point-mul}
use Rattle.liktrob.proofs.calls.point_of.Goals as goal

pub returns-clause-answer : goal.returns-clause-answer
returns-clause-answer g c = λ answer told.
    let field = g.F.Valued in
    let ring = field.ring in
    let roots = λ (n : ℕ). field.value (g.F.TwoAdicField.generator n) in
    let s = field.value c.from_word.result in
    let root = ap (λ (x : field.Element). power ring x c.args.index) c.two_adic_generator-root.ensures in
    let is : field.value c.mul.result ≡ point ring roots c.args.bits s c.args.index =
    g.met.F.Field.mul_law _ _ _ c.mul.ensures ∙ ap (ring.mul s) (c.exp_u64.ensures ∙ root) ∙ sym (point-mul ring roots c.args.bits s c.args.index) in
    record {
      by = c.from_word.result;
      named = c.from_word.ensures (c.is_below.ensures.0 c.if-not-is_below.false);
      told = told ∙ ap field.number is;
    }
