-- Shapes that fit: whole rows are as many as the division tells, what is extended has a size that a usize holds, and
-- what is answered is as many times as large.
use Rattle.std.proofs.Common.{add-zero, ◌≡◌, ℕ, ◌*◌, ◌/◌, ◌%◌, ◌^◌, ◌+◌, ◌<◌, ◌≤◌, List, length, sym, ap, ap₂, ◌∙◌, subst, arith, pow_pos}
use Rattle.std.proofs.Math.Nat.{mod-eq_of_lt, mul-div_cancel, mul-le-mul_left}
use Rattle.std.proofs.lemmas.Nat.{pow-add}
use Rattle.std.proofs.lemmas.Slice.Zip.{AllZip-long}
use Rattle.std.specs.List.{AllZip}
use Rattle.p3_field.specs.declared.fields.Valued.{Ghosts as FieldMembers}
use Rattle.p3_matrix.specs.Cosets.{IsValues, values_of}
use Rattle.p3_matrix.specs.Matrix.{Matrix}
use Rattle.p3_matrix.specs.RowMajor.{RowMajor, IsRowMajor, height}
use Rattle.p3_dft.specs.Shapes.{FitsLde}
use Rattle.p3_dft.proofs.Calls.Shapes.{fits_lde_as, output_size}
use Rattle.liktrob.specs.Words.{Fits}

module _ {bits count width a extended : ℕ} where
  pub rows_are : (fit : Fits bits count width a extended) → fit.rows ≡ count / width
  rows_are fit = sym (mul-div_cancel fit.rows fit.fits.width) ∙ ap (λ n. n / width) fit.full

  pub whole_rows : Fits bits count width a extended → (count / width) * width ≡ count
  whole_rows fit = ap (λ n. n * width) (sym (rows_are fit)) ∙ fit.full

  pub no_more : Fits bits count width a extended → count ≤ extended
  no_more fit = let grown : count * 1 ≤ count * 2 ^ a = mul-le-mul_left count (pow_pos a) in omega (arith, grown, fit.room)

  pub rows_fit : Fits bits count width a extended → FitsLde bits (count / width) width a
  rows_fit fit = subst (λ (n : ℕ). FitsLde bits n width a) (rows_are fit) fit.fits

-- what is extended fits, without a bit more
abbrev pub word_fits : {bits count width a extended : ℕ} → Fits bits count width a extended → Fits bits extended width 0 extended
word_fits {width = width} {a = a} fit =
    let by_rows : fit.rows * 2 ^ a * width ≡ fit.rows * width * 2 ^ a = omega arith in
    record {
      rows = fit.rows * 2 ^ a;
      full = by_rows ∙ ap (λ n. n * 2 ^ a) fit.full ∙ sym fit.room;
      fits = record {
        log = fit.fits.log + a;
        within = omega (arith, fit.fits.within);
        height = ap (λ n. n * 2 ^ a) fit.fits.height ∙ sym (pow-add 2 fit.fits.log a);
        width = fit.fits.width;
        size = rw add-zero fit.fits.size;
      };
      room = omega arith;
    }

-- a matrix that words name has as many rows as they are, and fits as they do
module _ {F W : Type 0} (R : W → F → Type 0) {width : ℕ} (words : List W) (m : RowMajor F) (wide : m.width ≡ width) (entries : AllZip R words m.values) where
  rows_named : height m ≡ length words / width
  rows_named = ap₂ (λ (n w : ℕ). n / w) (AllZip-long R words m.values entries) wide

  pub named_high : {bits a extended : ℕ} (fit : Fits bits (length words) width a extended) → height m ≡ 2 ^ fit.fits.log
  named_high fit = rows_named ∙ sym (rows_are fit) ∙ fit.fits.height

  pub named_fits : {bits a extended : ℕ} → Fits bits (length words) width a extended → FitsLde bits (height m) m.width a
  named_fits {bits = bits} {a = a} fit = fits_lde_as bits (length words / width) width a (height m) m.width (rows_fit fit) rows_named wide

-- the size of an extension is not cut off
pub size_held : (bits count width a : ℕ) → (count / width) * width ≡ count → FitsLde bits (count / width) width a
    → count * 2 ^ a % 18446744073709551616 ≡ count * 2 ^ a
size_held bits count width a whole fits = mod-eq_of_lt (subst (λ (n : ℕ). n * 2 ^ a < 2 ^ 64) whole (output_size bits (count / width) width a fits))

-- as many times as many rows have as many times as many entries
size_is : {T : Type 0} (m : RowMajor T) (a rows w : ℕ) → IsRowMajor m → rows ≡ height m * 2 ^ a → w ≡ m.width → rows * w ≡ length m.values * 2 ^ a
size_is m a rows w whole high wide =
    let by_rows : height m * 2 ^ a * m.width ≡ height m * m.width * 2 ^ a = omega arith in
    ap₂ (λ (h v : ℕ). h * v) high wide ∙ by_rows ∙ ap (λ n. n * 2 ^ a) whole.full

-- so have values on a coset of as many times as many points as m has rows
pub values_size : {F : Type 0} (f : FieldMembers F) (g : ℕ → f.Element) (m out : RowMajor F) (k a : ℕ) (s : f.Element)
    (c : Matrix f.Element)
    → IsRowMajor m → IsRowMajor out
    → height m ≡ 2 ^ k → c.width ≡ m.width → IsValues f.ring g c (k + a) s (values_of f out) → length out.values ≡ length m.values * 2 ^ a
values_size f g m out k a s c whole out_whole high wide values =
    sym out_whole.full
    ∙ size_is m a (height out) out.width whole (values.height ∙ pow-add 2 k a ∙ ap (λ h. h * 2 ^ a) (sym high)) (values.width ∙ wide)
