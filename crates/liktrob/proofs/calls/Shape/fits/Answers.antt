use Rattle.std.proofs.Common.{◌≡◌, ◌*◌, ◌/◌, ◌∙◌, refl, sym, arith}
use Rattle.std.proofs.lemmas.Bool.{true≢false}
use Rattle.p3_dft.proofs.Calls.Shapes.{output_log_small}
use Rattle.liktrob.proofs.Shapes.{rows_fit, size_held, whole_rows}
use Rattle.liktrob.proofs.calls.Shape.fits.Goals as goal

pub returns-then-self-ne0 : goal.returns-then-self-ne0
returns-then-self-ne0 g c = (
  λ t. absurd (true≢false (sym t)),
  λ fit. let whole = whole_rows fit in absurd (omega (arith, whole, c.if-self-eq0.false, c.if-self-ne0.true)),
)

pub returns-then-not-fits_lde : goal.returns-then-not-fits_lde
returns-then-not-fits_lde g c = (λ t. absurd (true≢false (sym t)), λ fit. rw c.if-not-fits_lde.true at (c.fits_lde.ensures.1 (rows_fit fit)))

pub overflow_shl-self : goal.overflow_shl-self
overflow_shl-self g c = let fits = c.fits_lde.ensures.0 c.if-not-fits_lde.false in omega (arith, output_log_small _ _ _ _ fits)

pub returns : goal.returns
returns g c =
    let shape = c.args.self in
    let whole : (shape.count / shape.width) * shape.width ≡ shape.count = omega (arith, c.if-self-ne0.false, c.if-self-eq0.false) in
    let fits = c.fits_lde.ensures.0 c.if-not-fits_lde.false in (
      λ _. record {
        rows = shape.count / shape.width;
        full = whole;
        fits = fits;
        room = c.if-self.false ∙ size_held _ _ _ _ whole fits;
      },
      λ _. refl,
    )
