use Rattle.p3_networks.proofs.Lemmas.{ℕ, inverse_root, inverse_roots, enough_from_start, first_is_one, from_powers}
use Rattle.p3_networks.proofs.radix_2_bowers.network_g_transposed.Goals as goal

pub dit_network_to_reversed-requires-clause-first : goal.dit_network_to_reversed-requires-clause-first
dit_network_to_reversed-requires-clause-first g c =
    let field = g.F.Valued in
    let root = inverse_root field.ring (λ (n : ℕ). field.value (g.F.TwoAdicField.generator n)) in
    first_is_one field root c.args.log_h c.args.twiddles.now c.requires.nonzero
    (from_powers field root (inverse_roots field.ring g.met.F.TwoAdicField.roots_law) c.args.log_h c.args.twiddles.now
    c.requires.nonzero c.requires.within c.requires.twiddles)

pub dit_network_to_reversed-requires-clause-enough : goal.dit_network_to_reversed-requires-clause-enough
dit_network_to_reversed-requires-clause-enough g c =
    let field = g.F.Valued in
    let root = inverse_root field.ring (λ (n : ℕ). field.value (g.F.TwoAdicField.generator n)) in
    enough_from_start field root c.args.log_h c.args.twiddles.now c.requires.nonzero
    (from_powers field root (inverse_roots field.ring g.met.F.TwoAdicField.roots_law) c.args.log_h c.args.twiddles.now
    c.requires.nonzero c.requires.within c.requires.twiddles)

pub returns-clause-values : goal.returns-clause-values
returns-clause-values g c =
    let field = g.F.Valued in
    let root = inverse_root field.ring (λ (n : ℕ). field.value (g.F.TwoAdicField.generator n)) in
    c.dit_network_to_reversed.ensures.values _ root ((inverse_roots field.ring g.met.F.TwoAdicField.roots_law)) c.requires.within
    (from_powers field root (inverse_roots field.ring g.met.F.TwoAdicField.roots_law) c.args.log_h c.args.twiddles.now
    c.requires.nonzero c.requires.within c.requires.twiddles)
