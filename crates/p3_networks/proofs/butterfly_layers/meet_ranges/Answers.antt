use Rattle.std.proofs.Common.{◌≡◌, ℕ, ◌+◌, ◌*◌, ◌-◌, ◌<◌, ◌≤◌, length, get_or, sym, ap, ap₂, ◌∙◌, subst, arith, rules}
use borrow.Author.Rules.{scaled_fits≤}
use borrow.Rule.Slice.PartMut.{put_mid}
use Rattle.p3_matrix.proofs.Rows.Overwritten.{outside_kept, part_at, part_size, put_in}
use Rattle.p3_networks.proofs.butterfly_layers.meet_ranges.Goals as goal

pub offset_bounds-low-start : goal.offset_bounds-low-start
offset_bounds-low-start g c =
    let below : c.args.start ≤ length c.args.low.now = omega (arith, c.requires.ordered, c.requires.room) in
    scaled_fits≤ _ _ _ below (search rules)

pub offset_bounds-high-start : goal.offset_bounds-high-start
offset_bounds-high-start g c =
    let below : c.args.start ≤ length c.args.high.now = omega (arith, c.requires.ordered, c.requires.room, c.requires.size) in
    scaled_fits≤ _ _ _ below (search rules)

pub returns-clause-near : goal.returns-clause-near
returns-clause-near g c n first last =
    let field = g.F.Valued in
    let start = c.args.start in
    let m = c.args.end - start in
    let back : start + (n - start) ≡ n = omega (arith, first) in
    let inside : n - start < m = omega (arith, first, last) in
    let size = part_size c.args.low.now start m (omega (arith, c.requires.ordered, c.requires.room)) in
    ap (λ i. field.value (get_or (put_mid start m c.args.low.now c.meet.new.row_1) i field.zero)) (sym back)
    ∙ ap field.value (put_in c.args.low.now c.meet.new.row_1 start m (n - start) field.zero
    (omega (arith, c.requires.ordered, c.requires.room)) (omega (arith, inside, c.meet.auto.row_1, size)))
    ∙ c.meet.ensures.near (n - start) (omega (arith, inside, size))
    ∙ ap₂ (g.R.Rule.near field.Element field.ring field.value c.args.rule c.args.block c.args.place)
    (ap field.value (part_at c.args.low.now start m (n - start) field.zero inside ∙ ap (λ i. get_or c.args.low.now i field.zero) back))
    (ap field.value (part_at c.args.high.now start m (n - start) field.zero inside ∙ ap (λ i. get_or c.args.high.now i field.zero) back))

pub returns-clause-far : goal.returns-clause-far
returns-clause-far g c n first last =
    let field = g.F.Valued in
    let start = c.args.start in
    let m = c.args.end - start in
    let back : start + (n - start) ≡ n = omega (arith, first) in
    let inside : n - start < m = omega (arith, first, last) in
    let size = part_size c.args.low.now start m (omega (arith, c.requires.ordered, c.requires.room)) in
    let size_2 = part_size c.args.high.now start m (omega (arith, c.requires.ordered, c.requires.room, c.requires.size)) in
    ap (λ i. field.value (get_or (put_mid start m c.args.high.now c.meet.new.row_2) i field.zero)) (sym back)
    ∙ ap field.value (put_in c.args.high.now c.meet.new.row_2 start m (n - start) field.zero
    (omega (arith, c.requires.ordered, c.requires.room, c.requires.size))
    (omega (arith, inside, c.meet.auto.row_2, size_2)))
    ∙ c.meet.ensures.far (n - start) (omega (arith, inside, size))
    ∙ ap₂ (g.R.Rule.far field.Element field.ring field.value c.args.rule c.args.block c.args.place)
    (ap field.value (part_at c.args.low.now start m (n - start) field.zero inside ∙ ap (λ i. get_or c.args.low.now i field.zero) back))
    (ap field.value (part_at c.args.high.now start m (n - start) field.zero inside ∙ ap (λ i. get_or c.args.high.now i field.zero) back))

pub returns-clause-low_stays : goal.returns-clause-low_stays
returns-clause-low_stays g c n outside =
    let m = c.args.end - c.args.start in
    let size = part_size c.args.low.now c.args.start m (omega (arith, c.requires.ordered, c.requires.room)) in
    let end : c.args.start + m ≡ c.args.end = omega (arith, c.requires.ordered) in
    outside_kept c.args.low.now c.meet.new.row_1 c.args.start m n g.F.Valued.zero
    (omega (arith, c.requires.ordered, c.requires.room)) (c.meet.auto.row_1 ∙ size) (rw end outside)

pub returns-clause-high_stays : goal.returns-clause-high_stays
returns-clause-high_stays g c n outside =
    let m = c.args.end - c.args.start in
    let size = part_size c.args.high.now c.args.start m (omega (arith, c.requires.ordered, c.requires.room, c.requires.size)) in
    let end : c.args.start + m ≡ c.args.end = omega (arith, c.requires.ordered) in
    outside_kept c.args.high.now c.meet.new.row_2 c.args.start m n g.F.Valued.zero
    (omega (arith, c.requires.ordered, c.requires.room, c.requires.size)) (c.meet.auto.row_2 ∙ size)
    (rw end outside)

pub returns-clause-cost : goal.returns-clause-cost
returns-clause-cost g c =
    subst (λ (n : ℕ). c.meet.new.products ≤ c.args.products.now + g.R.Rule.cost * n) (part_size c.args.low.now
    c.args.start (c.args.end - c.args.start) (omega (arith, c.requires.ordered, c.requires.room)))
    c.meet.ensures.cost
