use Rattle.p3_networks.proofs.Lemmas.{sym, subst, Coset, IsCosetTable}
use Rattle.p3_networks.proofs.radix_2_dit_parallel.coset_tables.CosetTable.twiddles.Goals as goal

pub returns-clause-table : goal.returns-clause-table
returns-clause-table g c =
    let field = g.F.Valued in
    let gen = g.F.TwoAdicField.generator in
    subst (λ (t : Coset g.row.F.Denot). IsCosetTable field gen (field.value t.shift) t.log_h c.as_slice.result.now) c.self.view_is
    (subst (IsCosetTable field gen (field.value c.self.inside.shift) c.self.inside.log_h) (sym c.as_slice.ensures.value) c.self.invariant.1)
