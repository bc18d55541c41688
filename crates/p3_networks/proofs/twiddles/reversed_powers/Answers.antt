use Rattle.std.proofs.Common.{◌≡◌, ◌+◌, length, get_or, ap, ◌∙◌, arith}
use Rattle.p3_networks.proofs.twiddles.reversed_powers.Goals as goal

pub returns-clause-powers : goal.returns-clause-powers
returns-clause-powers g c =
    let field = g.F.Valued in
    let none : length c.in_ok-powers.powers.items ≡ 0 = ap length c.in_ok-powers.ensures.items in
    let now = c.push_layer.new.twiddles.items in
    record {
      size = c.in_ok-push_layer.ensures.size ∙ omega (arith, none);
      entries = λ b below.
          let place : b ≡ length c.in_ok-powers.powers.items + b = omega (arith, none) in
          ap (λ n. field.value (get_or now n field.zero)) place ∙ c.in_ok-push_layer.ensures.entries b below;
    }
