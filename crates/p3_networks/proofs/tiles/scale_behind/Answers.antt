use Rattle.p3_networks.proofs.Lemmas.{◌≡◌, ◌-◌, length, get_or, ap, sym, ◌∙◌, arith, zero-add, part_at, part_size, value_at, in_first, in_second}
use Rattle.p3_networks.proofs.tiles.scale_behind.Goals as goal

pub returns-then-eq-clause-scaled : goal.returns-then-eq-clause-scaled
returns-then-eq-clause-scaled g c n below =
    let field = g.F.Valued in
    let split = c.split_at_mut-first.ensures in
    let first = c.split_at_mut-first.result.0.now in
    let behind = c.split_at_mut-first.result.1.now in
    let from = c.copy_from_slice.new.self in
    let size : length first ≡ c.args.size = split.front_len in
    let long : length from ≡ c.args.count = omega (arith, c.copy_from_slice.ensures.len, split.back_len, c.requires.room, c.copy_from_slice.auto.self) in
    let one : field.value c.args.factor ≡ field.ring.one =
    (g.met.F.Field.eq_law _ _).0 (sym c.eq.ensures ∙ c.if-eq.true) ∙ ap field.value c.ONE.ensures
    ∙ g.met.F.Field.one_law in
    ap field.value (in_second first _ c.args.size n field.zero size ∙ in_first from _ n field.zero (omega (arith, below, long)))
    ∙ ap (λ xs. field.value (get_or xs n field.zero)) c.copy_from_slice.ensures.after
    ∙ ap field.value (part_at first 0 (c.args.count - 0) n field.zero (omega (arith, below))
    ∙ ap (λ i. get_or first i field.zero) (zero-add n)
    ∙ sym (ap (λ xs. get_or xs n field.zero) split.value ∙ in_first first behind n field.zero (omega (arith, below, c.requires.in_table, size))))
    ∙ sym (ap (field.ring.mul (field.value (get_or c.args.values.now n field.zero))) one ∙ field.ring.mul_one _)

pub returns-else-eq-clause-scaled : goal.returns-else-eq-clause-scaled
returns-else-eq-clause-scaled g c n below =
    let field = g.F.Valued in
    let times = λ (x : field.Element). field.ring.mul x (field.value c.args.factor) in
    let split = c.split_at_mut-first.ensures in
    let first = c.split_at_mut-first.result.0.now in
    let behind = c.split_at_mut-first.result.1.now in
    let out = c.scale_slice_oop.new.to in
    let size : length first ≡ c.args.size = split.front_len in
    let long : length out ≡ c.args.count = omega (arith, c.scale_slice_oop.auto.to, split.back_len, c.requires.room) in
    let from_long = part_size first 0 (c.args.count - 0) (omega (arith, c.requires.in_table, size)) in
    ap field.value (in_second first _ c.args.size n field.zero size ∙ in_first out _ n field.zero (omega (arith, below, long)))
    ∙ value_at field.value times _ out n field.zero c.scale_slice_oop.ensures.values (omega (arith, long, from_long)) (omega (arith, below, from_long))
    ∙ ap (λ y. times (field.value y)) (part_at first 0 (c.args.count - 0) n field.zero (omega (arith, below))
    ∙ ap (λ i. get_or first i field.zero) (zero-add n)
    ∙ sym (ap (λ xs. get_or xs n field.zero) split.value ∙ in_first first behind n field.zero (omega (arith, below, c.requires.in_table, size))))
