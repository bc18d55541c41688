use Rattle.p3_networks.proofs.Lemmas.{◌-◌, ◌^◌, AreTwiddles, backward_root, block_powers}
use Rattle.p3_networks.proofs.root_tables.inverse_powers.Given as goal

-- the first chunks of them are there
abbrev pub invariant-loop-l : goal.invariant-loop-l
invariant-loop-l g l =
    AreTwiddles g.F.Valued (2 ^ l.l)
    (block_powers g.F.Valued (backward_root g.F.Valued g.F.TwoAdicField.generator) (l.fn.log_h - 1)) l.inverse.items

-- the first b of them are there
abbrev pub invariant-loop-b : goal.invariant-loop-b
invariant-loop-b g l =
    AreTwiddles g.F.Valued l.b
    (block_powers g.F.Valued (backward_root g.F.Valued g.F.TwoAdicField.generator) (l.fn.log_h - 1)) l.inverse.items
