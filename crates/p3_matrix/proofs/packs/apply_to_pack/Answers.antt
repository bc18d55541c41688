use Rattle.p3_matrix.proofs.Lemmas.{by_lanes, ap₂, ◌∙◌}
use Rattle.p3_matrix.proofs.packs.apply_to_pack.Goals as goal

pub returns-else-ONE_BY_ONE : goal.returns-else-ONE_BY_ONE
returns-else-ONE_BY_ONE g c = record {
  near =
      c.store.ensures ∙ c.apply-near.ensures.near
      ∙ ap₂ (by_lanes (g.B.Butterfly.near g.F.Valued.Element g.F.Valued.ring g.F.Valued.value c.args.butterfly.now))
      c.load.ensures c.load-else-ONE_BY_ONE.ensures;
  far =
      c.store-else-ONE_BY_ONE.ensures ∙ c.apply-near.ensures.far
      ∙ ap₂ (by_lanes (g.B.Butterfly.far g.F.Valued.Element g.F.Valued.ring g.F.Valued.value c.args.butterfly.now))
      c.load.ensures c.load-else-ONE_BY_ONE.ensures;
  count = c.apply-near.ensures.count;
}
