-- Matrices of a power of two of rows, what is said at the logarithm of their height, and what work in place leaves of them.
use Rattle.p3_dft.proofs.Names.{◌≡◌, ℕ, ◌+◌, ◌^◌, ◌<◌, ◌++◌, List, length, take, drop, refl, sym, ap, subst, ◌∙◌, HasShapeOf, IsRowMajor, RowMajor, height}
use Rattle.p3_dft.proofs.Names.{with_zeros, whole_kept, written_shape, written_size, padded_shape, padded_whole, log_same, AtLog, HasEntriesOf, HasTwoPowerRows}

-- what is said at a height's logarithm, shown at the one that a program found
pub at_log : (P : ℕ → Type 0) (height log : ℕ) → height ≡ 2 ^ log → P log → AtLog height P
at_log P height log is holds k high = subst P (log_same log k (sym is ∙ high)) holds

-- all entries were written anew
pub entries_written : {T : Type 0} (m out : RowMajor T) (ys : List T) → out.width ≡ m.width
    → out.values ≡ take (length m.values) (ys ++ drop (length ys) m.values) → length ys ≡ length m.values
    → HasEntriesOf out m
entries_written m out ys wide is size = record { shape = written_shape m out ys wide is size; size = ap length is ∙ written_size m.values ys size }

-- and so they were of a matrix that had as many as another
pub entries_then : {T U V : Type 0} (a : RowMajor T) (b : RowMajor U) (out : RowMajor V) → HasShapeOf b a
    → length b.values ≡ length a.values → HasEntriesOf out b → HasEntriesOf out a
entries_then a b out shape size last = record { shape = (last.shape.0 ∙ shape.0, last.shape.1 ∙ shape.1); size = last.size ∙ size }

pub whole_still : {T U : Type 0} (m : RowMajor T) (out : RowMajor U) → IsRowMajor m → HasEntriesOf out m → IsRowMajor out
whole_still m out whole same = whole_kept m out whole same.shape same.size

pub rows_still : {T U : Type 0} (m : RowMajor T) (out : RowMajor U) (k : ℕ) → HasTwoPowerRows m k → HasEntriesOf out m → HasTwoPowerRows out k
rows_still m out k rows same = record { whole = whole_still m out rows.whole same; height = same.shape.0 ∙ rows.height; fits_u64 = rows.fits_u64 }

-- rows of zeros below it, up to 2 ^ a times as many
pub rows_padded : {T : Type 0} (z : T) (m out : RowMajor T) (k a : ℕ) → IsRowMajor m → height m ≡ 2 ^ k → k + a < 64
    → out ≡ with_zeros z m a → HasTwoPowerRows out (k + a)
rows_padded z m out k a whole high small is = record {
  whole = rw is (padded_whole z m whole a);
  height = (padded_shape z m m out a k whole (refl, refl) high is).0;
  fits_u64 = small;
}
