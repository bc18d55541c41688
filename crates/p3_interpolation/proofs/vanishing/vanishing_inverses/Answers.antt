use Rattle.std.proofs.Common.{◌+◌, ◌<◌, get_or, sym, ap, ◌∙◌, arith, subst}
use Rattle.p3_interpolation.proofs.VanishingValues.{off_subgroups, vanishing_invertible}
use Rattle.p3_interpolation.proofs.vanishing.vanishing_inverses.Goals as goal

pub batch_multiplicative_inverse-requires : goal.batch_multiplicative_inverse-requires
batch_multiplicative_inverse-requires g c i below =
    let f = g.F.Valued in
    let roots = g.met.F.TwoAdicField.roots_law in
    let n = c.args.log_height in
    let l = n + c.args.added_bits in
    let inside = subst (λ k. i < k) (c.as_slice.ensures.len ∙ c.in_ok-values.ensures.long) below in
    let is = ap (λ xs. f.value (get_or xs i f.zero)) c.as_slice.ensures.value ∙ c.in_ok-values.ensures.values i 0 inside in
    let has =
    vanishing_invertible f.ring roots _ _ (off_subgroups f.ring roots l l n (f.value c.args.shift) _
    c.requires.within (omega arith) (omega arith) c.requires.off_subgroup) in
    (has.0, ap (λ x. f.ring.mul x has.0) is ∙ has.1)

pub returns-clause-inverses : goal.returns-clause-inverses
returns-clause-inverses g c i j below =
    let f = g.F.Valued in
    let all = c.as_slice.ensures.len ∙ c.in_ok-values.ensures.long in
    let is = ap (λ xs. f.value (get_or xs i f.zero)) c.as_slice.ensures.value ∙ c.in_ok-values.ensures.values i j below in
    ap (λ x. f.ring.mul x (f.value (get_or c.in_ok-inverses.inverses.items i f.zero))) (sym is)
    ∙ c.in_ok-inverses.ensures.inverses i (subst (λ n. i < n) (sym all) below)
