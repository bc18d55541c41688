use Rattle.p3_networks.proofs.Lemmas.{IsTrue, sym, subst, Coset, IsCosetOf}
use Rattle.p3_networks.proofs.radix_2_dit_parallel.coset_tables.CosetTable.is_of.Goals as goal

pub returns-then-self-log_h : goal.returns-then-self-log_h
returns-then-self-log_h g c =
    let field = g.F.Valued in
    let s = field.value c.args.shift in
    let law = g.met.F.Field.eq_law c.self.inside.shift c.args.shift in
    subst (λ (t : Coset g.row.F.Denot). (IsTrue c.eq.result → IsCosetOf field c.args.log_h s t) ×
    (IsCosetOf field c.args.log_h s t → IsTrue c.eq.result)) c.self.view_is (
      λ yes. (c.if-self-log_h.true, law.0 (subst IsTrue c.eq.ensures yes)),
      λ is. subst IsTrue (sym c.eq.ensures) (law.1 is.1),
    )
