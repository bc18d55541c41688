use Rattle.std.proofs.Common.{◌≡◌, ℕ, suc, ◌+◌, ◌<◌, length, sym, ap, ap₂, ◌∙◌, arith}
use Rattle.p3_field.specs.Ring.{power}
use Rattle.p3_matrix.specs.BitOrder.{rev}
use Rattle.p3_matrix.specs.Cosets.{point}
use Rattle.p3_matrix.proofs.Polynomials.Cosets.{point-mul}
use Rattle.examples.proofs.FoldedValues.{row_size, row_value}
use Rattle.examples.proofs.fri.is_folded.Goals as goal

pub returns : goal.returns
returns g c =
    let f = g.F.Valued in
    let gen = λ (n : ℕ). f.value (g.F.TwoAdicField.generator n) in
    let m = c.args.pair.now in
    let n = c.args.next.now in
    let size : length c.row.result.now ≡ m.width = ap length c.row.ensures ∙ row_size m 0 c.width-whole.ensures.whole (omega (arith, c.requires.height)) in
    let one : c.args.log_half + 1 ≡ suc c.args.log_half = omega arith in
    let x_is : f.value c.mul-x.result ≡ point f.ring gen (suc c.args.log_half) (f.value c.args.shift) (rev c.args.log_half c.args.index) =
    g.met.F.Field.mul_law _ _ _ c.mul-x.ensures
    ∙ ap (f.ring.mul (f.value c.args.shift)) (c.exp_u64.ensures
    ∙ ap₂ (power f.ring) (c.two_adic_generator-root.ensures ∙ ap gen one) c.reverse_bits_len.ensures)
    ∙ sym (point-mul f.ring gen (suc c.args.log_half) (f.value c.args.shift) (rev c.args.log_half c.args.index)) in
    let whole = c.width-whole.ensures.whole in
    let near = λ (j : ℕ) (l : j < m.width). row_value f m 0 j _ whole c.row.ensures (omega (arith, c.requires.height)) l in
    let far = λ (j : ℕ) (l : j < m.width). row_value f m 1 j _ whole c.row-2.ensures (omega (arith, c.requires.height)) l in
    let next = λ (j : ℕ) (l : j < m.width). row_value f n c.args.row j _ c.width-whole_too.ensures.whole c.row-3.ensures
    c.requires.row (omega (arith, l, c.requires.width)) in (
      λ told j l.
          rw (sym x_is) (rw (sym (near j l), sym (far j l), sym (next j l)) (c.folds_to.ensures.0 told j (omega (arith, l, size)))),
      λ all.
          c.folds_to.ensures.1
          (λ j l.
          let inside : j < m.width = omega (arith, l, size) in
          rw x_is (rw (near j inside, far j inside, next j inside) (all j inside))),
    )
