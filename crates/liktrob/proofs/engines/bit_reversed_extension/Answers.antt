use Rattle.std.proofs.Common.{◌≡◌, ℕ, ◌+◌, ◌*◌, ◌^◌, ◌∙◌, of_calls, rules, refl, sym, ap, subst, arith}
use Rattle.p3_matrix.specs.BitOrder.{reversed_rows}
use Rattle.p3_matrix.specs.Cosets.{values_of}
use Rattle.p3_matrix.specs.RowMajor.{IsRowMajor, height}
use Rattle.p3_matrix.proofs.TwoPowers.{log_same}
use Rattle.p3_dft.specs.Extensions.{IsExtension}
use Rattle.p3_dft.proofs.Calls.ExtendedTransforms.{extended_of_same}
use Rattle.p3_dft.proofs.Calls.PublishedExtensions.{physical_entries, physical_height}
use Rattle.liktrob.proofs.engines.bit_reversed_extension.Given as given
use Rattle.liktrob.proofs.engines.bit_reversed_extension.Goals as goal

-- the extension as it was answered, whose transform gives back the coefficients
lying : (g : given.Over) (c : goal.After-bit_reverse_rows g)
    → IsExtension g.F.Valued g.F.TwoAdicField.generator c.args.mat c.args.added_bits (g.F.Valued.value c.args.shift)
    (reversed_rows c.in_ok-values.values.bits c.bit_reverse_rows.result)
lying g c =
    let f = g.F.Valued in
    let lies = c.in_ok-values.values in
    rw c.bit_reverse_rows.ensures.matrix
    (extended_of_same f g.F.TwoAdicField.generator _ g.D.TwoAdicSubgroupDft.LAYOUT c.args.mat
    (values_of f (reversed_rows lies.bits lies.physical)) c.args.added_bits (f.value c.args.shift)
    (λ told answered called. search of_calls) c.in_ok-values.ensures.values)

pub returns-clause-values : goal.returns-clause-values
returns-clause-values g c = λ k high.
    let f = g.F.Valued in
    let a = c.args.added_bits in
    let bits = c.in_ok-values.values.bits in
    let out = c.bit_reverse_rows.result in
    let tall = c.bit_reverse_rows.ensures.height in
    let whole : IsRowMajor out = search rules in
    let log : bits ≡ k + a =
    log_same bits (k + a) (sym tall
    ∙ physical_height f bits (k + a) out (reversed_rows bits out) whole tall refl
    ((lying g c).extended k high).height) in
    subst (λ (n : ℕ). IsExtension f g.F.TwoAdicField.generator c.args.mat a (f.value c.args.shift) (reversed_rows n out)) log (lying g c)

pub returns-clause-size : goal.returns-clause-size
returns-clause-size g c =
    let m = c.args.mat in
    let a = c.args.added_bits in
    let out = c.bit_reverse_rows.result in
    let whole : IsRowMajor m = search rules in
    let out_whole : IsRowMajor out = search rules in
    let by_rows : (height m * 2 ^ a) * m.width ≡ height m * m.width * 2 ^ a = omega arith in
    physical_entries g.F.Valued c.requires c.in_ok-values.values.bits out_whole c.bit_reverse_rows.ensures.height
    (lying g c)
    ∙ by_rows ∙ ap (λ n. n * 2 ^ a) whole.full
