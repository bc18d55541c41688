-- Blocks of rows that are lent one after another.
use Rattle.p3_matrix.proofs.Names.{◌≡◌, ◌≢◌, ℕ, ◌+◌, ◌*◌, ◌-◌, ◌/◌, ◌%◌, ◌<◌, ◌≤◌, length, get_or, take, drop, Result, Ok, sym, ap, ◌∙◌, subst, arith, rules, ⊤}
use Rattle.p3_matrix.proofs.Names.{add-mul, suc-mul, mul-le-mul_right, mul-div_cancel, mul-mod_left, div-mul-le_self, FoldsTo-push, places}
use Rattle.p3_matrix.proofs.Names.{map-range_with_len_more, length-map-range_with_len, get_or-map-range_with_len, IsPermutation-refl, mul-add-lt, AreBlocksOf}
use Rattle.p3_matrix.proofs.Names.{IsBlockOf, IsPublished, IsRefused, Run, RunToRefusal, block, first_blocks, Matrix, Same, matrix, image, RowMajor, IsRowMajor}
use Rattle.p3_matrix.proofs.Names.{height, rows_from}
use Rattle.p3_matrix.proofs.RowMajor.{rows_within}

-- block q of those of b rows ends within the h rows
pub block_within : (q b h : ℕ) → q < h / b → q * b + b ≤ h
block_within q b h l = omega (arith, mul-le-mul_right b l, suc-mul q b, div-mul-le_self h b)

-- and no other begins with its first row
pub starts_differ : (i j b : ℕ) → 1 ≤ b → i < j → i * b ≢ j * b
starts_differ i j b p l e = absurd (omega (arith, mul-le-mul_right b l, suc-mul i b, e, p))

-- one more block that was accepted
pub run_more : {C T R : Type 0} (step : C → ℕ → RowMajor T → Result ⊤ R → C → Type 0) (b : ℕ) (m : RowMajor T) (q : ℕ) (c e d : C)
    → Run step c (first_blocks b m q) e → step e (q * b) (rows_from m (q * b) b) (Ok tt) d → Run step c (first_blocks b m (q + 1)) d
run_more step b m q c e d run accepted =
    rw (map-range_with_len_more (block b m) 0 q q (omega arith)) (FoldsTo-push _ c (first_blocks b m q) e (block b m q) d run accepted)

-- all blocks, in order
pub published_in_order : {C T R : Type 0} (step : C → ℕ → RowMajor T → Result ⊤ R → C → Type 0) (may_make : C → Type 0) (b : ℕ) (m : RowMajor T) (c e : C)
    → may_make c → height m % b ≡ 0 → Run step c (first_blocks b m (height m / b)) e → IsPublished step may_make b m e
published_in_order step may_make b m c e made divides run = record {
  first = c;
  made = made;
  blocks = first_blocks b m (height m / b);
  parts = record { divides = divides; each_once = IsPermutation-refl _ };
  run = run;
}

module _ {A T : Type 0} (value : T → A) (d : T) (m : RowMajor T) (whole : IsRowMajor m) (out : Matrix A)
    (same : Same (image value (matrix d m)) out) (b : ℕ) (some : 1 ≤ b) where
  -- block q of a stored matrix has the values of these rows
  pub is_block : (q : ℕ) → q < height m / b → IsBlockOf (λ r. image value (matrix d r)) b out (block b m q)
  is_block q l =
      let w = m.width in
      let room : q * b + b ≤ height m = block_within q b (height m) l in
      let fits : (q * b) * w + b * w ≤ length m.values = rows_within (q * b) b (height m) w (length m.values) room whole.full in
      let gap : ((q * b) * w + b * w) - (q * b) * w ≡ b * w = omega arith in
      let size : length (take (((q * b) * w + b * w) - (q * b) * w) (drop ((q * b) * w) m.values)) ≡ b * w = search (rules, places) in
      let tall : length (take (((q * b) * w + b * w) - (q * b) * w) (drop ((q * b) * w) m.values)) / w ≡ b =
      ap (λ n. n / w) size ∙ mul-div_cancel b whole.width in
      record {
        multiple = mul-mod_left q b;
        within = omega (arith, room, some, same.height);
        whole = record { width = whole.width; full = ap (λ n. n * w) tall ∙ sym size };
        rows = record {
          height = tall;
          width = same.width;
          alike = λ i j in_rows in_row.
              let low : i < b = omega (arith, in_rows, tall) in
              let inside : i * w + j < b * w = omega (arith, mul-add-lt i w j b low in_row) in
              let e : get_or (take (((q * b) * w + b * w) - (q * b) * w) (drop ((q * b) * w) m.values)) (i * w + j) d
              ≡ get_or m.values ((q * b) * w + (i * w + j)) d =
              search (rules, places) in
              let place : (q * b) * w + (i * w + j) ≡ (q * b + i) * w + j = omega (arith, add-mul (q * b) i w) in
              ap value (e ∙ ap (λ n. get_or m.values n d) place) ∙ same.alike (q * b + i) j (omega (arith, room, low)) in_row;
        };
      }

  -- and so have the first n
  pub are_blocks : (n : ℕ) → n ≤ height m / b → AreBlocksOf (λ r. image value (matrix d r)) b out (first_blocks b m n)
  are_blocks n most =
      let size = length-map-range_with_len (block b m) 0 n in
      record {
        each = λ q e inside.
            let l : q < n = omega (arith, inside, size) in
            subst (IsBlockOf (λ r. image value (matrix d r)) b out)
            (sym (get_or-map-range_with_len (block b m) 0 n q q e l (omega arith)))
            (is_block q (omega (arith, l, most)));
        distinct = λ i j e before inside.
            let l : j < n = omega (arith, inside, size) in
            rw (
              get_or-map-range_with_len (block b m) 0 n i i e (omega (arith, l, before)) (omega arith),
              get_or-map-range_with_len (block b m) 0 n j j e l (omega arith),
            ) (starts_differ i j b some before);
      }

  -- the first blocks, until one is refused
  pub refused_in_order : {C R : Type 0} (step : C → ℕ → RowMajor T → Result ⊤ R → C → Type 0) (may_make : C → Type 0)
      (c e : C) (refusal : R) (q : ℕ)
      → q < height m / b
      → may_make c → RunToRefusal step c (first_blocks b m q) (block b m q) refusal e → IsRefused step may_make (λ r. image value (matrix d r)) b out e refusal
  refused_in_order step may_make c e refusal q l made run = record {
    first = c;
    made = made;
    accepted = first_blocks b m q;
    refused = block b m q;
    blocks = rw (map-range_with_len_more (block b m) 0 q q (omega arith)) at (are_blocks (q + 1) (omega (arith, l)));
    run = run;
  }
