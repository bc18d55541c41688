use Rattle.std.proofs.Common.{suc, ◌*◌, ap, sym, ◌∙◌}
use Rattle.p3_dft.proofs.Laws.TwoCalls.{exponent_within}
use Rattle.examples.proofs.FoldedValues.{foldings_determine, unfolded, unfolded_values}
use Rattle.examples.proofs.folding.fold_twice.Goals as goal

pub returns-clause-determined : goal.returns-clause-determined
returns-clause-determined g c = λ k other high first second.
    let f = g.F.Valued in
    foldings_determine f.ring g.met.F.TwoAdicField.roots_law (f.value c.args.beta) (f.value c.args.gamma) c.requires.apart k (f.value c.args.shift)
    (exponent_within (suc k) c.requires.fits high) c.requires.invertible _ other _ _
    (c.in_ok-first.ensures.folded k high).1 (c.in_ok-second.ensures.folded k high).1 first second

pub returns-clause-degree : goal.returns-clause-degree
returns-clause-degree g c = λ k h high of_first of_second.
    let f = g.F.Valued in
    let within = exponent_within (suc k) c.requires.fits high in
    record {
      coefficients =
          unfolded f.ring g.met.F.TwoAdicField.roots_law (f.value c.args.beta) (f.value c.args.gamma) c.requires.apart k
          (f.value c.args.shift) within c.requires.invertible
          of_first.coefficients of_second.coefficients;
      height = ap (λ n. 2 * n) of_first.height;
      values =
          unfolded_values f.ring g.met.F.TwoAdicField.roots_law (f.value c.args.beta) (f.value c.args.gamma)
          c.requires.apart k (f.value c.args.shift) within c.requires.invertible
          of_first.coefficients of_second.coefficients _ _ _ (of_first.height ∙ sym of_second.height) of_first.values of_second.values
          (c.in_ok-first.ensures.folded k high).1 (c.in_ok-second.ensures.folded k high).1;
    }
