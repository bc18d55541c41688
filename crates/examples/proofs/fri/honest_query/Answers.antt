use Rattle.std.proofs.Common.{◌≡◌, ℕ, ◌<◌, get_or, length, sym, arith}
use Rattle.p3_dft.proofs.Laws.Points.{one_logarithm}
use Rattle.examples.proofs.fri.honest_query.Goals as goal

pub check-requires-clause-within : goal.check-requires-clause-within
check-requires-clause-within g c =
    let fits = c.requires.fits in
    omega (arith, one_logarithm _ _ _ fits.height c.requires.height, fits.within, c.in_ok-layers.ensures.known.0)

pub returns-clause-accepted : goal.returns-clause-accepted
returns-clause-accepted g c =
    let f = g.F.Valued in
    let told = c.in_ok-layers.ensures in
    let opened = c.in_ok-openings.ensures in
    let known = c.in_ok-layers.commitment in
    let layers = c.deref.ensures.value in
    let openings = c.deref-2.ensures.value in
    let count : length c.deref.result.now ≡ c.args.folds = omega (arith, c.deref.ensures.len, told.count.0) in
    let count_too : length c.deref-2.result.now ≡ length c.deref.result.now = omega (arith, c.deref-2.ensures.len, opened.count) in
    let betas = λ (q : ℕ). f.value (get_or known.challenges.items q f.zero) in
    c.check.ensures.1 (
      omega (arith, count, count_too, told.count.1),
      λ l o d below.
          let inside : l < c.args.folds = omega (arith, below, count, count_too) in
          rw (openings, told.known.0, told.roots l d inside, sym layers)
          (opened.opened c.args.hash.now (f.value c.args.shift) betas known.last
          (λ q less. rw layers (told.layers q (omega (arith, less, count)))) l o d
          (omega (arith, below, count_too))),
      λ o.
          rw (count_too, openings, told.known.0, told.known.1)
          (opened.folds c.args.hash.now (f.value c.args.shift) betas known.last (λ q less. rw layers (told.layers q (omega (arith, less, count)))) o),
    )
