-- Blocks that are kept one after another in two lists.
use Rattle.p3_matrix.proofs.Names.{◌≡◌, ℕ, ◌+◌, ◌-◌, ◌≤◌, List, [], ◌∷◌, ◌++◌, length, map, drop, slice_range, refl, sym, ap, ap₂, ◌∙◌, arith, subst, All}
use Rattle.p3_matrix.proofs.Names.{map-append, take-append-le, length-append, between_is, drop-append_seam, take-length, RowMajor, IsRowMajor}
use Rattle.std.proofs.lemmas.List.Elements.{All-head, All-tail, All-push, All-weaker}
use Rattle.p3_matrix.specs.Consumers.{IsPlaceIn, block_at}
use Rattle.p3_matrix.specs.declared.blocks.Place.{Place}

-- a part of the front of a list
pub part_of_front : {T : Type 0} (xs ys : List T) (a b : ℕ) → a ≤ b → b ≤ length xs → slice_range (xs ++ ys) a b ≡ slice_range xs a b
part_of_front xs ys a b o l = between_is (xs ++ ys) a b ∙ ap (drop a) (take-append-le b xs ys l) ∙ sym (between_is xs a b)

-- what ends a list, as a part of it
pub part_at_end : {T : Type 0} (xs ys : List T) → slice_range (xs ++ ys) (length xs) (length xs + length ys) ≡ ys
part_at_end xs ys =
    let size : length xs + length ys - length xs ≡ length ys = omega arith in
    rw (size, drop-append_seam xs ys) (take-length ys)

-- blocks stay when more elements follow
pub blocks_kept : {T : Type 0} (xs ys : List T) (ps : List Place) → All (IsPlaceIn xs) ps → map (block_at (xs ++ ys)) ps ≡ map (block_at xs) ps
blocks_kept xs ys [] each = refl
blocks_kept xs ys (p ∷ ps) each =
    let first = All-head (IsPlaceIn xs) p ps each in
    ap₂ (λ values rest. (p.start, record { width = p.width; values = values }) ∷ rest) (part_of_front xs ys p.first p.end first.ordered first.within)
    (blocks_kept xs ys ps (All-tail (IsPlaceIn xs) p ps each))

-- and the block of these is one more
pub one_more_block : {T : Type 0} (xs ys : List T) (ps : List Place) (start width : ℕ) → All (IsPlaceIn xs) ps
    → map (block_at (xs ++ ys)) (ps ++ record { start = start; width = width; first = length xs; end = length xs + length ys } ∷ [])
    ≡ map (block_at xs) ps ++ (start, record { width = width; values = ys }) ∷ []
one_more_block xs ys ps start width each =
    map-append (block_at (xs ++ ys)) ps _
    ∙ ap₂ (λ kept values. kept ++ (start, record { width = width; values = values }) ∷ []) (blocks_kept xs ys ps each) (part_at_end xs ys)

-- places stay within the elements when more follow, and those of one more block lie behind them
place_kept : {T : Type 0} (xs ys : List T) (p : Place) → IsPlaceIn xs p → IsPlaceIn (xs ++ ys) p
place_kept {T} xs ys p is = record {
  ordered = is.ordered;
  within = omega (arith, is.within, length-append xs ys);
  whole = subst (λ vs. IsRowMajor {T = T} (record { width = p.width; values = vs })) (sym (part_of_front xs ys p.first p.end is.ordered is.within)) is.whole;
}

pub one_more_place : {T : Type 0} (xs ys zs : List T) (ps qs : List Place) (start width first : ℕ) (block : RowMajor T) → All (IsPlaceIn xs) ps → zs ≡ xs ++ ys
    → qs ≡ ps ++ record { start = start; width = width; first = first; end = first + length ys } ∷ [] → first
    ≡ length xs → IsRowMajor block → width ≡ block.width → ys ≡ block.values
    → All (IsPlaceIn zs) qs
one_more_place {T} xs ys zs ps qs start width first block each more pushed behind whole wide is =
    let part : slice_range (xs ++ ys) first (first + length ys) ≡ ys = ap (λ n. slice_range (xs ++ ys) n (n + length ys)) behind ∙ part_at_end xs ys in
    let fits : IsRowMajor {T = T} (record { width = width; values = slice_range (xs ++ ys) first (first + length ys) }) = rw (part, wide, is) whole in
    rw (more, pushed)
    (All-push (IsPlaceIn (xs ++ ys)) ps _ (All-weaker (IsPlaceIn xs) (IsPlaceIn (xs ++ ys)) (place_kept xs ys) ps each)
    (record { ordered = omega arith; within = omega (arith, behind, length-append xs ys); whole = fits }))
