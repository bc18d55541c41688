use Rattle.p3_networks.proofs.Lemmas.{ℕ, enough_from_start, first_is_one, from_powers}
use Rattle.p3_networks.proofs.radix_2_bowers.network_g.Goals as goal

pub dif_network-requires-clause-first : goal.dif_network-requires-clause-first
dif_network-requires-clause-first g c =
    let field = g.F.Valued in
    let root = λ (n : ℕ). field.value (g.F.TwoAdicField.generator n) in
    first_is_one field root c.args.log_h c.args.twiddles.now c.requires.nonzero
    (from_powers field root g.met.F.TwoAdicField.roots_law c.args.log_h c.args.twiddles.now c.requires.nonzero c.requires.within c.requires.twiddles)

pub dif_network-requires-clause-enough : goal.dif_network-requires-clause-enough
dif_network-requires-clause-enough g c =
    let field = g.F.Valued in
    let root = λ (n : ℕ). field.value (g.F.TwoAdicField.generator n) in
    enough_from_start field root c.args.log_h c.args.twiddles.now c.requires.nonzero
    (from_powers field root g.met.F.TwoAdicField.roots_law c.args.log_h c.args.twiddles.now c.requires.nonzero c.requires.within c.requires.twiddles)

pub returns-clause-values : goal.returns-clause-values
returns-clause-values g c =
    let field = g.F.Valued in
    let root = λ (n : ℕ). field.value (g.F.TwoAdicField.generator n) in
    c.dif_network.ensures.values _ root (g.met.F.TwoAdicField.roots_law) c.requires.within
    (from_powers field root g.met.F.TwoAdicField.roots_law c.args.log_h c.args.twiddles.now c.requires.nonzero c.requires.within c.requires.twiddles)
