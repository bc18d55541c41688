-- Stored matrices: entries that fill whole rows, that by index and as stored a matrix has the same rows, and that entries written anew keep the shape.
use Rattle.p3_matrix.proofs.Names.{◌≡◌, ℕ, ◌+◌, ◌*◌, ◌/◌, ◌-◌, ◌<◌, ◌≤◌, List, ◌++◌, length, get_or, map, take, drop, slice_range, refl, sym, ap, ap₂, ◌∙◌}
use Rattle.p3_matrix.proofs.Names.{arith, rules, min, range_with_len, places, fill_by_all, add-mul, mul-le-mul_right, mul-div_cancel, RowMajor, HasShapeOf}
use Rattle.p3_matrix.proofs.Names.{IsRowMajor, height, row, rows, matrix, row_of, list_of_rows}
use Rattle.p3_matrix.proofs.Matrices.{list_same}

-- h rows of w entries are h whole rows
pub whole_rows : (size h w : ℕ) → 1 ≤ w → size ≡ h * w → (size / w ≡ h) × ((size / w) * w ≡ size)
whole_rows size h w wide e =
    let is : size / w ≡ h = rw e (mul-div_cancel h wide) in
    (is, ap (λ n. n * w) is ∙ sym e)

-- row i of h lies within them
pub row_within : (i h w size : ℕ) → i < h → h * w ≡ size → i * w + w ≤ size
row_within i h w size l e = omega (arith, mul-le-mul_right w l, add-mul i 1 w)

-- rows of w entries within h rows are entries within size
pub rows_within : (start n h w size : ℕ) → start + n ≤ h → h * w ≡ size → start * w + n * w ≤ size
rows_within start n h w size l e = omega (arith, mul-le-mul_right w l, add-mul start n w)

-- n rows of a list are whole rows
pub whole_part : {T : Type 0} (xs : List T) (a n k w : ℕ) → 1 ≤ w → k ≡ n * w → a + k ≤ length xs
    → length (take k (drop a xs)) / w * w ≡ length (take k (drop a xs))
whole_part xs a n k w wide e l =
    let is : length (take k (drop a xs)) ≡ n * w = search (rules, places) in
    rw is (ap (λ v. v * w) (mul-div_cancel n wide))

-- a part of a list, by index
pub part_by_index : {T : Type 0} (xs : List T) (a n : ℕ) (d : T) → a + n ≤ length xs
    → slice_range xs a (a + n) ≡ map (λ j. get_or xs (a + j) d) (range_with_len 0 n)
part_by_index xs a n d l =
    let k : a + n - a ≡ n = omega arith in
    rw k (fill_by_all (λ j. get_or xs (a + j) d) (take n (drop a xs)) n d (search (rules, places)) (λ j p. search (rules, places)))

-- a matrix by index has the list of rows that it has as it is stored
pub list_of_rows_stored : {T : Type 0} (d : T) (m : RowMajor T) → IsRowMajor m → list_of_rows (matrix d m) ≡ rows m
list_of_rows_stored d m whole =
    list_same (row_of (matrix d m)) (row m) (height m)
    (λ i p. sym (part_by_index m.values (i * m.width) m.width d (row_within i (height m) m.width (length m.values) p whole.full)))

-- the height of a stored matrix from the number of its entries
pub height_of_parts : {T : Type 0} (m : RowMajor T) (values : List T) (w h : ℕ) → 1 ≤ w → length values ≡ h * w → m.width ≡ w → m.values ≡ values → height m ≡ h
height_of_parts {T} m values w h wide size width_is values_is =
    ap₂ (λ (xs : List T) (v : ℕ). length xs / v) values_is width_is ∙ ap (λ n. n / w) size ∙ mul-div_cancel h (omega arith)

-- what is written over a whole list, any number of entries, leaves its length
taken_size : {T : Type 0} (n : ℕ) (xs ys : List T) → length xs ≡ n → length (take n (ys ++ drop (length ys) xs)) ≡ n
taken_size n xs ys size = search (rules, places)

-- so do entries that are as many as its own
pub written_size : {T : Type 0} (xs ys : List T) → length ys ≡ length xs → length (take (length xs) (ys ++ drop (length ys) xs)) ≡ length xs
written_size xs ys size = taken_size (length xs) xs ys refl

-- a matrix whose entries were all written anew has the shape that it had
pub written_shape : {T : Type 0} (m out : RowMajor T) (ys : List T) → out.width ≡ m.width
    → out.values ≡ take (length m.values) (ys ++ drop (length ys) m.values) → length ys ≡ length m.values
    → HasShapeOf out m
written_shape m out ys wide is size = (ap₂ (λ n w. n / w) (ap length is ∙ written_size m.values ys size) wide, wide)

-- a matrix that keeps its shape and its size stays whole
pub whole_kept : {T U : Type 0} (m : RowMajor T) (out : RowMajor U) → IsRowMajor m → HasShapeOf out m → length out.values ≡ length m.values → IsRowMajor out
whole_kept m out whole (tall, wide) size = record {
  width = omega (arith, whole.width, wide);
  full = ap₂ (λ (h w : ℕ). h * w) tall wide ∙ whole.full ∙ sym size;
}

-- a matrix over which any number of entries are written stays whole
pub taken_whole : {T : Type 0} (n w : ℕ) (xs ys : List T) → length xs ≡ n
    → IsRowMajor {T = T} (record { width = w; values = xs })
    → IsRowMajor {T = T} (record { width = w; values = take n (ys ++ drop (length ys) xs) })
taken_whole n w xs ys size whole =
    let e = taken_size n xs ys size ∙ sym size in
    record { width = whole.width; full = ap (λ k. k / w * w) e ∙ whole.full ∙ sym e }

-- the rows from one on that is at most the last
pub bound_within : {T : Type 0} (m : RowMajor T) (bound h first w : ℕ) (vs : List T) → IsRowMajor m → h ≡ height m
    → first ≡ min bound h → w ≡ m.width → vs ≡ m.values → first * w ≤ length vs
bound_within m bound h first w vs whole tall least wide is =
    let below : first ≤ height m = omega (arith, tall, least) in
    let e : first * w ≡ first * m.width = ap (λ n. first * n) wide in
    omega (arith, e, mul-le-mul_right m.width below, whole.full, ap length is)
