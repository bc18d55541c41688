use Rattle.p3_field.proofs.Lemmas.{ℕ, ◌+◌, ◌*◌, ◌<◌, arith, refl, sym, ◌∙◌, Residue, joined_places}
use Rattle.p3_field.specs.declared.residue31.Residue31.{Residue31}
use Rattle.p3_field.proofs.residue31_x16.Residue31X16PackedField.store_pairs.Goals as goal

pub returns-clause-first : goal.returns-clause-first
returns-clause-first g c i below =
    let m = g.N.Numbers.numbers.modulus in
    let value : Residue31 g.row.N.Denot g.N.Numbers → Residue m = λ x. record { number = x.number; below = x.below } in
    let make : (n : ℕ) → n < m → Residue31 g.row.N.Denot g.N.Numbers = λ n h. record { number = n; of = _; below = h } in
    let low = c.halves.result.0 in
    let high = c.halves.result.1 in
    sym (joined_places value make (λ n h. refl) 8 (λ i. 2 * i) (λ i less. omega (arith, less)) (λ i. omega arith)
    low.lanes high.lanes c.args.self.lanes low.below high.below c.args.self.below (sym c.halves.ensures) low.eight
    _ _ c.store_pairs.new.to c.store_pairs-2.new.to refl (c.store_pairs.auto.to ∙ c.split_at_mut-first.ensures.front_len)
    (λ i less. sym (c.store_pairs.ensures.first i less)) (λ i less. sym (c.store_pairs-2.ensures.first i less)) i below)

pub returns-clause-second : goal.returns-clause-second
returns-clause-second g c i below =
    let m = g.N.Numbers.numbers.modulus in
    let value : Residue31 g.row.N.Denot g.N.Numbers → Residue m = λ x. record { number = x.number; below = x.below } in
    let make : (n : ℕ) → n < m → Residue31 g.row.N.Denot g.N.Numbers = λ n h. record { number = n; of = _; below = h } in
    let low = c.halves-2.result.0 in
    let high = c.halves-2.result.1 in
    sym (joined_places value make (λ n h. refl) 8 (λ i. 2 * i + 1) (λ i less. omega (arith, less)) (λ i. omega arith)
    low.lanes high.lanes c.args.second.lanes low.below high.below c.args.second.below (sym c.halves-2.ensures) low.eight
    _ _ c.store_pairs.new.to c.store_pairs-2.new.to refl (c.store_pairs.auto.to ∙ c.split_at_mut-first.ensures.front_len)
    (λ i less. sym (c.store_pairs.ensures.second i less)) (λ i less. sym (c.store_pairs-2.ensures.second i less)) i below)
