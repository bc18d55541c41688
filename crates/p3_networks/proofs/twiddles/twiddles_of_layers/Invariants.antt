use Rattle.p3_networks.proofs.Lemmas.{◌≡◌, ◌-◌, ◌^◌, length, AreTwiddlesOfLayers, root_powers}
use Rattle.p3_networks.proofs.twiddles.twiddles_of_layers.Given as goal

-- the first layers are there
abbrev pub invariant-loop-l : goal.invariant-loop-l
invariant-loop-l g l =
    record {
      full : length l.powers.items ≡ 2 ^ l.l - 1;
      layers : AreTwiddlesOfLayers g.F.Valued l.l (root_powers g.F.Valued g.F.TwoAdicField.generator l.fn.inverse) l.powers.items;
    }
