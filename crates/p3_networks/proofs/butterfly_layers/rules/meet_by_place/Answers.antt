use Rattle.p3_networks.proofs.Lemmas.{◌≡◌, ℕ, suc, zero, ◌+◌, ◌-◌, ◌<◌, List, [], ◌∷◌, length, get_or, map, take, drop, ap, ◌∙◌, arith, rules, by_lanes, minus}
use Rattle.p3_networks.proofs.Lemmas.{part_at}
use Rattle.p3_networks.proofs.butterfly_layers.rules.meet_by_place.Goals as goal

-- an entry of what an operation makes of a list and of what another makes of two, all of one length
lane_of_three : {T A : Type 0} (op op' : A → A → A) (value : T → A) (d : T) (new xs ys ts : List T) (j : ℕ)
    → length xs ≡ length ys → length xs ≡ length ts → j < length xs
    → map value new ≡ by_lanes op (map value xs) (by_lanes op' (map value ys) (map value ts))
    → value (get_or new j d) ≡ op (value (get_or xs j d)) (op' (value (get_or ys j d)) (value (get_or ts j d)))
lane_of_three op op' value d new [] ys ts j e f inside is = absurd (omega arith)
lane_of_three op op' value d new (x ∷ xs) [] ts j e f inside is = absurd (omega arith)
lane_of_three op op' value d new (x ∷ xs) (y ∷ ys) [] j e f inside is = absurd (omega arith)
lane_of_three op op' value d [] (x ∷ xs) (y ∷ ys) (t ∷ ts) j e f inside is = cc
lane_of_three op op' value d (z ∷ new) (x ∷ xs) (y ∷ ys) (t ∷ ts) zero e f inside is = cc
lane_of_three op op' value d (z ∷ new) (x ∷ xs) (y ∷ ys) (t ∷ ts) (suc j) e f inside is =
    lane_of_three op op' value d new xs ys ts j (omega arith) (omega arith) (omega arith) (cc)

pub returns-clause-near : goal.returns-clause-near
returns-clause-near g c t inside =
    let field = g.F.Valued in
    let part = take (length c.args.low.now - 0) (drop 0 c.args.twiddles.now) in
    let full : length c.args.low.now ≡ length part = search rules in
    let here : 0 + t ≡ t = omega arith in
    lane_of_three field.ring.add field.ring.mul field.value field.zero c.apply_dit_by_place.new.row_1 c.args.low.now
    c.args.high.now part t c.requires.size full inside c.apply_dit_by_place.ensures.near
    ∙ ap (λ x. field.ring.add (field.value (get_or c.args.low.now t field.zero))
    (field.ring.mul (field.value (get_or c.args.high.now t field.zero)) (field.value x)))
    (part_at c.args.twiddles.now 0 _ t field.zero (omega (arith, inside)) ∙ ap (λ n. get_or c.args.twiddles.now n field.zero) here)

pub returns-clause-far : goal.returns-clause-far
returns-clause-far g c t inside =
    let field = g.F.Valued in
    let part = take (length c.args.low.now - 0) (drop 0 c.args.twiddles.now) in
    let full : length c.args.low.now ≡ length part = search rules in
    let here : 0 + t ≡ t = omega arith in
    lane_of_three (minus field.ring) field.ring.mul field.value field.zero c.apply_dit_by_place.new.row_2 c.args.low.now
    c.args.high.now part t c.requires.size full inside c.apply_dit_by_place.ensures.far
    ∙ ap (λ x. minus field.ring (field.value (get_or c.args.low.now t field.zero))
    (field.ring.mul (field.value (get_or c.args.high.now t field.zero)) (field.value x)))
    (part_at c.args.twiddles.now 0 _ t field.zero (omega (arith, inside)) ∙ ap (λ n. get_or c.args.twiddles.now n field.zero) here)
