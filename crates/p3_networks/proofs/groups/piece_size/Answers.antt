use Rattle.p3_networks.proofs.Lemmas.{◌≡◌, ◌+◌, ◌*◌, ◌-◌, ◌^◌, ◌≤◌, sym, ap, ◌∙◌, arith, lit≤, ⊎_elim, pow-le-pow_right, cases_lt, pow-add}
use Rattle.p3_networks.proofs.groups.piece_size.Goals as goal

pub returns-clause-enough : goal.returns-clause-enough
returns-clause-enough c =
    let rows = c.next_power_of_two.result in
    let k = c.next_power_of_two.ensures.power.0 in
    let is : rows ≡ 2 ^ k = c.next_power_of_two.ensures.power.1 in
    ⊎_elim
    (λ few.
    let less : 2 ^ k ≤ 2 ^ 3 = pow-le-pow_right {n = 2} (lit≤ tt) (let l : k ≤ 3 = omega (arith, few) in l) in
    let eight : 2 ^ 3 ≡ 8 = omega arith in
    omega (arith, less, eight, is, c.next_power_of_two.ensures.lower_bound, c.max.ensures))
    (λ enough.
    let split : k - 3 + 3 ≡ k = omega (arith, enough) in
    let whole : 2 ^ k ≡ 2 ^ (k - 3) * 8 = ap (λ n. 2 ^ n) (sym split) ∙ pow-add 2 (k - 3) 3 in
    omega (arith, whole, is, c.next_power_of_two.ensures.lower_bound, c.max.ensures))
    (cases_lt k 3)
