use Rattle.p3_networks.proofs.Lemmas.{◌≡◌, ℕ, ◌+◌, ◌*◌, ◌^◌, get_or, sym, ap, ◌∙◌, arith, rev, point, poly, poly-one, factor, row_below}
use Rattle.p3_networks.proofs.halves.HighLayersChunkWork.on_chunk.Goals as goal

pub returns-then-self-eq0-clause-chunk : goal.returns-then-self-eq0-clause-chunk
returns-then-self-eq0-clause-chunk g c root s roots table t j p l =
    let field = g.F.Valued in
    let it = c.args.self.now in
    let one : 2 ^ it.left ≡ 1 = ap (λ n. 2 ^ n) c.if-self-eq0.true in
    let first : t ≡ 0 = omega (arith, p, one) in
    let f = λ (q : ℕ). field.ring.mul (field.value (get_or c.args.chunk.now (q * it.width + j) field.zero)) (factor field it.scale) in
    let x = point field.ring root it.left (point field.ring root (it.mid + it.left) s (rev it.mid c.args.number)) (rev it.left t) in
    c.scale_entries.ensures.values (t * it.width + j) (omega (arith, row_below t j it.width (2 ^ it.left) p l, c.requires.size))
    ∙ ap f first ∙ sym (ap (λ n. poly field.ring n f x) one ∙ poly-one field.ring f x)

pub returns-then-self-eq1-clause-chunk : goal.returns-then-self-eq1-clause-chunk
returns-then-self-eq1-clause-chunk g c = rw c.if-self-eq1.true c.high_network.ensures.values
