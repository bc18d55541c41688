use Rattle.p3_networks.proofs.Lemmas.{◌≡◌, ◌+◌, ◌*◌, length, sym, ap, ◌∙◌, arith, joined}
use Rattle.p3_networks.proofs.pairs.on_pairs.Goals as goal

pub on_packs-requires-2-clause-whole : goal.on_packs-requires-2-clause-whole
on_packs-requires-2-clause-whole g c =
    let len = length (c.split_at.result.1).now in
    let one : len * 1 ≡ len = omega arith in
    (len, sym (ap (λ n. len * n) g.met.F.Packable.one_lane_law ∙ one))

pub returns-clause-pairs : goal.returns-clause-pairs
returns-clause-pairs g c =
    let field = g.F.Valued in
    let full = c.full_packs-full.result in
    let parts = c.split_at.ensures in
    let pairs = c.split_at_mut-packed_pairs.ensures in
    let size = c.on_packs.auto.values ∙ pairs.front_len in
    let both =
    λ (met : field.Element → field.Element → field.Element → field.Element). joined field.value field.zero met full
    c.args.twiddles.now c.split_at.result.0.now c.split_at.result.1.now c.args.values.now
    c.split_at_mut-packed_pairs.result.0.now c.split_at_mut-packed_pairs.result.1.now c.on_packs.new.values
    c.on_packs-2.new.values parts.front parts.back pairs.front pairs.back size in
    record {
      near_cell =
          both (g.D.Decimation.near field.Element field.ring field.value c.args.decimation) (λ i. 2 * i)
          (λ i below. omega (arith, below)) (λ i. omega arith)
          (λ i below. c.on_packs.ensures.pairs.near_cell i (omega (arith, below, parts.front_len)))
          (length c.args.twiddles.now)
          (λ i below. c.on_packs-2.ensures.pairs.near_cell i (omega (arith, below, parts.back_len)));
      far_cell =
          both (g.D.Decimation.far field.Element field.ring field.value c.args.decimation) (λ i. 2 * i + 1)
          (λ i below. omega (arith, below)) (λ i. omega arith)
          (λ i below. c.on_packs.ensures.pairs.far_cell i (omega (arith, below, parts.front_len)))
          (length c.args.twiddles.now)
          (λ i below. c.on_packs-2.ensures.pairs.far_cell i (omega (arith, below, parts.back_len)));
    }
