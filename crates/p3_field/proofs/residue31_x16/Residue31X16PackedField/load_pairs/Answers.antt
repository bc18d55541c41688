use Rattle.p3_field.proofs.Lemmas.{ℕ, ◌+◌, ◌*◌, ◌<◌, arith, refl, Residue, joined_places}
use Rattle.p3_field.specs.declared.residue31.Residue31.{Residue31}
use Rattle.p3_field.proofs.residue31_x16.Residue31X16PackedField.load_pairs.Goals as goal

pub returns-clause-first : goal.returns-clause-first
returns-clause-first g c =
    let m = g.N.Numbers.numbers.modulus in
    let value : Residue31 g.row.N.Denot g.N.Numbers → Residue m = λ x. record { number = x.number; below = x.below } in
    let make : (n : ℕ) → n < m → Residue31 g.row.N.Denot g.N.Numbers = λ n h. record { number = n; of = _; below = h } in
    let low = c.load_pairs.result.0 in
    let high = c.load_pairs-2.result.0 in
    joined_places value make (λ n h. refl) 8 (λ i. 2 * i) (λ i less. omega (arith, less)) (λ i. omega arith)
    low.lanes high.lanes c.joined.result.lanes low.below high.below c.joined.result.below c.joined.ensures low.eight
    _ c.args.from.now _ _ c.split_at.ensures.by_index.0 c.split_at.ensures.front_len
    c.load_pairs.ensures.first c.load_pairs-2.ensures.first

pub returns-clause-second : goal.returns-clause-second
returns-clause-second g c =
    let m = g.N.Numbers.numbers.modulus in
    let value : Residue31 g.row.N.Denot g.N.Numbers → Residue m = λ x. record { number = x.number; below = x.below } in
    let make : (n : ℕ) → n < m → Residue31 g.row.N.Denot g.N.Numbers = λ n h. record { number = n; of = _; below = h } in
    let low = c.load_pairs.result.1 in
    let high = c.load_pairs-2.result.1 in
    joined_places value make (λ n h. refl) 8 (λ i. 2 * i + 1) (λ i less. omega (arith, less)) (λ i. omega arith)
    low.lanes high.lanes c.joined-2.result.lanes low.below high.below c.joined-2.result.below c.joined-2.ensures low.eight
    _ c.args.from.now _ _ c.split_at.ensures.by_index.0 c.split_at.ensures.front_len
    c.load_pairs.ensures.second c.load_pairs-2.ensures.second
