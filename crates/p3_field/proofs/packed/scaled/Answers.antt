use Rattle.std.proofs.Common.{◌≡◌, ◌+◌, [], ◌∷◌, map, ap, sym, ◌∙◌, get_or}
use Rattle.p3_field.proofs.packed.scaled.Goals as goal

pub returns-clause-value : goal.returns-clause-value
returns-clause-value g c =
    let field = g.F.Valued in
    let of_result = ap (map field.value) (g.met.F.Packable.lane_law c.scaled.result) in
    let of_x = ap (λ xs. map (λ x. field.ring.mul x (field.value c.args.t)) (map field.value xs)) (g.met.F.Packable.lane_law c.args.x) in
    let e : field.value c.scaled.result ∷ [] ≡ field.ring.mul (field.value c.args.x) (field.value c.args.t) ∷ [] =
    sym of_result ∙ c.scaled.ensures.lanes ∙ of_x in
    ap (λ xs. get_or xs 0 (field.value c.scaled.result)) e

pub returns-clause-count : goal.returns-clause-count
returns-clause-count g c = c.scaled.ensures.count ∙ ap (λ n. c.args.products.now + n) g.met.F.Packable.one_lane_law
