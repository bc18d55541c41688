use Rattle.p3_networks.proofs.Lemmas.{◌≡◌, ℕ, ◌+◌, ◌*◌, ◌^◌, get_or, sym, ap, ◌∙◌, arith, power, rev, poly, forward_root, poly-one, enough_from_start}
use Rattle.p3_networks.proofs.Lemmas.{first_is_one}
use Rattle.p3_networks.proofs.radix_2_small_batch.slots.evaluate_to_reversed.Goals as goal

pub dit_network_to_reversed-requires-clause-first : goal.dit_network_to_reversed-requires-clause-first
dit_network_to_reversed-requires-clause-first g c =
    first_is_one g.F.Valued (forward_root g.F.Valued g.F.TwoAdicField.generator) c.args.log_h c.args.twiddles.now
    (omega (arith, c.if-log_h-gt0.true)) c.requires.twiddles

pub dit_network_to_reversed-requires-clause-enough : goal.dit_network_to_reversed-requires-clause-enough
dit_network_to_reversed-requires-clause-enough g c =
    enough_from_start g.F.Valued (forward_root g.F.Valued g.F.TwoAdicField.generator) c.args.log_h c.args.twiddles.now
    (omega (arith, c.if-log_h-gt0.true)) c.requires.twiddles

pub returns-then-log_h-gt0-clause-values : goal.returns-then-log_h-gt0-clause-values
returns-then-log_h-gt0-clause-values g c =
    c.dit_network_to_reversed.ensures.values _ _ g.met.F.TwoAdicField.roots_law c.requires.within c.requires.twiddles

pub returns-else-log_h-gt0-clause-values : goal.returns-else-log_h-gt0-clause-values
returns-else-log_h-gt0-clause-values g c r j below inside =
    let field = g.F.Valued in
    let k = c.args.log_h in
    let one : 2 ^ k ≡ 1 = let none : k ≡ 0 = omega (arith, c.if-log_h-gt0.false) in ap (λ n. 2 ^ n) none in
    let first : r ≡ 0 = omega (arith, below, one) in
    let f = λ (q : ℕ). field.value (get_or c.args.values.now (q * c.args.width + j) field.zero) in
    let x = power field.ring (forward_root field g.F.TwoAdicField.generator k) (rev k r) in
    ap f first ∙ sym (ap (λ n. poly field.ring n f x) one ∙ poly-one field.ring f x)
