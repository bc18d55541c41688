use Rattle.p3_networks.proofs.Lemmas.{◌≡◌, ℕ, ◌+◌, ◌*◌, ◌/◌, ◌<◌, ◌≤◌, length, get_or, sym, ap, ap₂, ◌∙◌, subst, arith, Fits-le, le_of_lt, mul-le-mul_left}
use Rattle.p3_networks.proofs.Lemmas.{get_or_default, power, part_at, part_size}
use borrow.Author.Rules.{scaled_Fits}
use Rattle.p3_networks.proofs.tiles.SpreadRowsChunkWork.on_chunk.Goals as goal

-- the root of a row is one of the twiddles
root_place : (number copies len : ℕ) → 1 ≤ copies → number * copies + copies ≤ 2 * len → number * (copies / 2) < len
root_place number copies len some room =
    let half : 2 * (copies / 2) ≤ copies = omega arith in
    let twice : number * (2 * (copies / 2)) ≤ number * copies = mul-le-mul_left number half in
    let spread : number * (2 * (copies / 2)) ≡ 2 * (number * (copies / 2)) = omega arith in
    omega (arith, twice, spread, room, some)

-- a product for each cell at most, counted twice
twice_counted : (n len before after : ℕ) → after ≤ before + n → len ≡ n → 2 * after ≤ 2 * before + 2 * len
twice_counted n len before after made full = omega (arith, made, full)

pub overflow_mul-root : goal.overflow_mul-root
overflow_mul-root g c =
    Fits-le (le_of_lt (root_place (c.args.self.now.first + c.args.number) c.args.self.now.copies
    (length c.args.self.now.twiddles.now) c.requires.0 c.requires.4)) search

pub offset_bounds-self-number : goal.offset_bounds-self-number
offset_bounds-self-number g c =
    let it = c.args.self.now in
    scaled_Fits _ _ _ (root_place (it.first + c.args.number) it.copies (length it.twiddles.now) c.requires.0 c.requires.4) search

pub bounds-self-number : goal.bounds-self-number
bounds-self-number g c =
    root_place (c.args.self.now.first + c.args.number) c.args.self.now.copies (length c.args.self.now.twiddles.now)
    c.requires.0 c.requires.4

pub multiples_of_row-requires : goal.multiples_of_row-requires
multiples_of_row-requires g c =
    let it = c.args.self.now in
    c.requires.1 ∙ ap (λ v. it.copies * v) (sym (ap length c.chunk-row.ensures ∙ part_size it.rows.now _ _ c.requires.2))

pub returns-clause-chunk : goal.returns-clause-chunk
returns-clause-chunk g c t j copy inside =
    let field = g.F.Valued in
    let it = c.args.self.now in
    let n = it.first + c.args.number in
    let part_len : length c.chunk-row.result.now ≡ it.width = ap length c.chunk-row.ensures ∙ part_size it.rows.now _ _ c.requires.2 in
    let weight = ap field.value (get_or_default it.weights.now n c.index-self-number-2.result field.zero c.requires.3) in
    let root =
    ap field.value (get_or_default it.twiddles.now (n * (it.copies / 2)) c.index-self-number.result field.zero
    (root_place n it.copies _ c.requires.0 c.requires.4)) in
    ap (λ v. field.value (get_or c.multiples_of_row.new.values (t * v + j) field.zero)) (sym part_len)
    ∙ c.multiples_of_row.ensures.values t j copy (subst (λ v. j < v) (sym part_len) inside)
    ∙ ap₂ field.ring.mul (ap field.value (ap (λ xs. get_or xs j field.zero) c.chunk-row.ensures
    ∙ part_at it.rows.now (n * it.width) it.width j field.zero inside))
    (ap₂ (λ x y. field.ring.mul x (power field.ring y t)) weight root)

pub returns-clause-cost : goal.returns-clause-cost
returns-clause-cost g c = record {
  grows = omega (arith, c.multiples_of_row.ensures.grows);
  cost =
      twice_counted _ _ _ _ c.multiples_of_row.ensures.cost (c.requires.1
      ∙ ap (λ v. c.args.self.now.copies * v)
      (sym (ap length c.chunk-row.ensures ∙ part_size c.args.self.now.rows.now _ _ c.requires.2)));
}
