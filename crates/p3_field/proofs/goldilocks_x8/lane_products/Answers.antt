use Rattle.p3_field.proofs.Lemmas.{◌+◌, ◌*◌, ◌%◌, ap₂, ◌∙◌, zip2, goldilocks_modulus, words_together}
use Rattle.p3_field.proofs.goldilocks_x8.lane_products.Goals as goal

pub returns : goal.returns
returns c =
    c.reduced.ensures ∙ ap₂ (zip2 (λ l h. (l + h * 18446744073709551616) % goldilocks_modulus)) c.wide_products.ensures.low c.wide_products.ensures.high
    ∙ words_together c.args.x c.args.t
