use Rattle.p3_networks.proofs.Lemmas.{ℕ, Bool, sym, subst, AreTwiddlesFromStart, block_powers, root_of}
use Rattle.p3_networks.proofs.radix_2_dit_parallel.tables.Tables.high.Goals as goal

pub returns-then-inverse-clause-table : goal.returns-then-inverse-clause-table
returns-then-inverse-clause-table g c =
    let field = g.F.Valued in
    let gen = g.F.TwoAdicField.generator in
    subst (λ (n : ℕ). AreTwiddlesFromStart field n (block_powers field (root_of field gen c.args.inverse)) c.backward.result.now) c.self.view_is
    (subst (λ (b : Bool). AreTwiddlesFromStart field c.self.inside.high (block_powers field (root_of field gen b))
    c.backward.result.now) (sym c.if-inverse.true) c.backward.ensures.table)

pub returns-else-inverse-clause-table : goal.returns-else-inverse-clause-table
returns-else-inverse-clause-table g c =
    let field = g.F.Valued in
    let gen = g.F.TwoAdicField.generator in
    subst (λ (n : ℕ). AreTwiddlesFromStart field n (block_powers field (root_of field gen c.args.inverse)) c.forward.result.now) c.self.view_is
    (subst (λ (b : Bool). AreTwiddlesFromStart field c.self.inside.high (block_powers field (root_of field gen b))
    c.forward.result.now) (sym c.if-inverse.false) c.forward.ensures.table)
