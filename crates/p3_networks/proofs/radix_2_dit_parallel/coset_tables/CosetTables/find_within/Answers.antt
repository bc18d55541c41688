use Rattle.p3_networks.proofs.Lemmas.{◌≡◌, Bool, false, IsTrue, refl, arith, ⊎_elim, subst, cases_lt, IsCosetAt, coset_read, coset_found}
use Rattle.p3_networks.proofs.radix_2_dit_parallel.coset_tables.CosetTables.find_within.Goals as goal

not_both : (b : Bool) → b ≡ false → IsTrue b → ⊥
not_both b fails holds = cc

pub loop-place-preserved : goal.loop-place-preserved
loop-place-preserved g c i from below at =
    let field = g.F.Valued in
    let s = field.value c.args.shift in
    let place = c.loop-place.place in
    ⊎_elim
    (λ less. c.loop-place.invariant i from less at)
    (λ not_less.
    let same : i ≡ place = omega (arith, below, not_less) in
    not_both c.is_of.result c.if-is_of.false (c.is_of.ensures.1
    (coset_read field c.args.self.now c.args.log_h place s c.get.result.now c.get.ensures
    (subst (IsCosetAt field c.args.self.now c.args.log_h s) same at))))
    (cases_lt i place)

pub returns-clause-none : goal.returns-clause-none
returns-clause-none g c none i from below = c.loop-place.invariant i from (omega (arith, below, from, c.loop-place-test.false, c.loop-place.auto.place-end))

pub returns-then-is_of-clause-found : goal.returns-then-is_of-clause-found
returns-then-is_of-clause-found g c =
    coset_found g.F.Valued c.args.self.now c.args.log_h c.loop-place.place (g.F.Valued.value c.args.shift)
    c.get.result.now (omega (arith, c.requires, c.loop-place-test.true)) c.get.ensures (c.if-is_of.ensures.0 refl)
