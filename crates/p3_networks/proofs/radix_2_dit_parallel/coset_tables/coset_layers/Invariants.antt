use Rattle.p3_networks.proofs.Lemmas.{◌≡◌, ◌-◌, ◌^◌, leb, length, mid_of, AreTwiddlesOfLayers, coset_twiddles, forward_root, layer_place}
use Rattle.p3_networks.proofs.radix_2_dit_parallel.coset_tables.coset_layers.Given as goal

-- the first layers are there
abbrev pub invariant-loop-l : goal.invariant-loop-l
invariant-loop-l g l =
    let field = g.F.Valued in
    let log = l.fn.log_h in
    record {
      full : length l.twiddles.items ≡ 2 ^ l.l - 1;
      layers : AreTwiddlesOfLayers field l.l (λ i t. coset_twiddles field
          (forward_root field g.F.TwoAdicField.generator) (field.value l.fn.shift) log i
          (layer_place (leb (mid_of log) i) i t)) l.twiddles.items;
    }
