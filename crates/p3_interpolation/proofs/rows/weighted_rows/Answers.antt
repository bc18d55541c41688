use Rattle.std.proofs.Common.{◌≡◌, ℕ, ◌+◌, ◌*◌, ◌/◌, ◌≤◌, List, get_or, sym, ap, ap₂, ◌∙◌, arith, mul-div_cancel}
use Rattle.p3_field.specs.Ring.{Ring}
use Rattle.p3_matrix.specs.Polynomials.{sum}
use Rattle.p3_matrix.specs.RowMajor.{RowMajor, height}
use Rattle.p3_interpolation.proofs.rows.weighted_rows.Goals as goal

full_rows : (n h w : ℕ) → 1 ≤ w → n ≡ h * w → n / w * w ≡ n
full_rows n h w some is = ap (λ k. k / w * w) is ∙ ap (λ q. q * w) (mul-div_cancel h some) ∙ sym is

-- a sum whose lists and sizes have other names
renamed : {T A : Type 0} (r : Ring A) (value : T → A) (z : T) (j t h h' w w' n n' : ℕ) (rows rows' weights weights' : List T)
    → h ≡ h' → w ≡ w' → n ≡ n' → rows ≡ rows' → weights ≡ weights'
    → sum r h (λ i. r.mul (value (get_or rows (i * w + j) z)) (value (get_or weights (i * n + t) z)))
    ≡ sum r h' (λ i. r.mul (value (get_or rows' (i * w' + j) z)) (value (get_or weights' (i * n' + t) z)))
renamed r value z j t h h' w w' n n' rows rows' weights weights' high wide many same_rows same_weights =
    ap₂ (λ a b. sum r a (λ i. r.mul (value (get_or rows (i * b + j) z)) (value (get_or weights (i * n + t) z)))) high wide
    ∙ ap (λ a. sum r h' (λ i. r.mul (value (get_or rows (i * w' + j) z)) (value (get_or weights (i * a + t) z)))) many
    ∙ ap₂ (λ a b. sum r h' (λ i. r.mul (value (get_or a (i * w' + j) z)) (value (get_or b (i * n' + t) z)))) same_rows same_weights

pub new-requires : goal.new-requires
new-requires g c =
    let some : 1 ≤ c.width-width.result = omega (arith, c.width-width.ensures.whole.width, c.width-width.ensures.width) in
    record { width = some; full = full_rows _ c.width.result c.width-width.result some c.in_ok-sums.ensures.long }

pub returns : goal.returns
returns g c =
    let f = g.F.Valued in
    let w = c.width-width.result in
    let n = c.width.result in
    let some : 1 ≤ w = omega (arith, c.width-width.ensures.whole.width, c.width-width.ensures.width) in
    record {
      sums = record {
        height = ap height c.new.ensures ∙ ap (λ k. k / w) c.in_ok-sums.ensures.long ∙ mul-div_cancel n some ∙ c.width.ensures.width;
        width = ap (λ (m : RowMajor g.row.F.Denot). m.width) c.new.ensures ∙ c.width-width.ensures.width;
        sums = λ t j below inside.
            ap (λ (m : RowMajor g.row.F.Denot). f.value (get_or m.values (t * m.width + j) f.zero)) c.new.ensures
            ∙ c.in_ok-sums.ensures.sums t j (omega (arith, below, c.width.ensures.width)) (omega (arith, inside, c.width-width.ensures.width))
            ∙ renamed f.ring f.value f.zero j t _ _ _ _ _ _ _ _ _ _ c.height.ensures.height c.width-width.ensures.width
            c.width.ensures.width c.values.ensures.values c.values-2.ensures.values;
      };
      count =
          c.in_ok-sums.ensures.count
          ∙ ap₂ (λ h k. c.args.products.now + h * k) c.height.ensures.height
          (ap₂ ◌*◌ c.width.ensures.width c.width-width.ensures.width);
      room = tt;
    }
