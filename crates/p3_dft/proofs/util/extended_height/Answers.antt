use Rattle.p3_dft.proofs.Lemmas.{◌≡◌, ℕ, ◌*◌, ◌%◌, ◌^◌, ◌<◌, ap, arith, mod-eq_of_lt, mul-le-mul_left, FitsLde, output_log_small, output_size}
use Rattle.p3_dft.proofs.util.extended_height.Goals as goal

entries_small : (most height width added : ℕ) → FitsLde most height width added → height * 2 ^ added * width < 2 ^ 64
entries_small most height width added fits =
    let e : height * 2 ^ added * width ≡ height * width * 2 ^ added = omega arith in
    omega (arith, e, output_size most height width added fits)

rows_small : (most height width added : ℕ) → FitsLde most height width added → height * 2 ^ added < 2 ^ 64
rows_small most height width added fits = omega (arith, mul-le-mul_left (height * 2 ^ added) fits.width, entries_small most height width added fits)

pub overflow_shl-result : goal.overflow_shl-result
overflow_shl-result g c = omega (arith, output_log_small _ _ _ _ c.requires)

pub returns-clause-height : goal.returns-clause-height
returns-clause-height g c = omega (arith, rows_small _ _ _ _ c.requires)

pub returns-clause-entries : goal.returns-clause-entries
returns-clause-entries g c =
    let all : c.args.height * 2 ^ c.args.added_bits % 18446744073709551616 * c.args.width
    ≡ c.args.height * 2 ^ c.args.added_bits * c.args.width =
    ap (λ n. n * c.args.width) (mod-eq_of_lt (rows_small _ _ _ _ c.requires)) in
    omega (arith, all, entries_small _ _ _ _ c.requires)
