-- Rows that are worked through pack by pack: what they hold when the places below i are done.
use Rattle.p3_matrix.proofs.Names.{◌≡◌, ℕ, zero, suc, ◌+◌, ◌*◌, ◌<◌, ◌≤◌, List, [], ◌∷◌, ◌++◌, length, take, drop, map, get_or, set, sym, ap, ap₂, ◌∙◌, arith}
use Rattle.p3_matrix.proofs.Names.{append_assoc, append-nil, ◌-◌, refl, take-add, take-length, drop-length, take_at, drop_at, take-map, drop-map, map-append}
use Rattle.p3_matrix.proofs.Names.{drop-drop, length-map, length-take-le, length-append, by_lanes, until, still, written, get_or-by_lanes}
use Rattle.p3_field.proofs.LaneLoops.{all_written}
use Rattle.p3_matrix.proofs.Lanes.{by_lanes-append, length-by_lanes}

module _ {E : Type 0} (op : E → E → E) where
  -- the operation on xs and ys below i, and zs from there on
  abbrev pub rows_done : ℕ → List E → List E → List E → List E
  rows_done i xs ys zs = by_lanes op (take i xs) (take i ys) ++ drop i zs

  done_below : (i : ℕ) (xs ys : List E) → i ≤ length xs → length xs ≡ length ys → length (by_lanes op (take i xs) (take i ys)) ≡ i
  done_below i xs ys l e =
      let a = length-take-le i xs l in
      let b = length-take-le i ys (omega arith) in
      length-by_lanes op (take i xs) (take i ys) (a ∙ sym b) ∙ a

  done_more : (i k : ℕ) (xs ys : List E) → i + k ≤ length xs → length xs ≡ length ys
      → by_lanes op (take (i + k) xs) (take (i + k) ys) ≡ by_lanes op (take i xs) (take i ys) ++ by_lanes op (take k (drop i xs)) (take k (drop i ys))
  done_more i k xs ys l e =
      ap₂ (by_lanes op) (take-add i k xs) (take-add i k ys)
      ∙ by_lanes-append op (take i xs) (take i ys) (take k (drop i xs)) (take k (drop i ys))
      (length-take-le i xs (omega arith) ∙ sym (length-take-le i ys (omega arith)))

  -- all places are done
  pub rows_done_all : (i : ℕ) (xs ys zs : List E) → i ≡ length xs → length xs ≡ length ys → length xs ≡ length zs → rows_done i xs ys zs ≡ by_lanes op xs ys
  rows_done_all i xs ys zs e f h =
      ap₂ (λ us vs. by_lanes op us vs ++ drop i zs) (ap (λ n. take n xs) e ∙ take-length xs) (ap (λ n. take n ys) (e ∙ f) ∙ take-length ys)
      ∙ ap (λ s. by_lanes op xs ys ++ s) (ap (λ n. drop n zs) (e ∙ h) ∙ drop-length zs) ∙ append-nil (by_lanes op xs ys)

  module _ {F : Type 0} (v : F → E) (i : ℕ) (xs ys zs : List E) (cs : List F) where
    -- the next pack is unchanged
    pub next_pack : (k : ℕ) → i ≤ length xs → length xs ≡ length ys → map v cs ≡ rows_done i xs ys zs → map v (take k (drop i cs)) ≡ take k (drop i zs)
    next_pack k l e done =
        sym (take-map v k (drop i cs))
        ∙ ap (take k) (sym (drop-map v i cs) ∙ ap (drop i) done
        ∙ drop_at (by_lanes op (take i xs) (take i ys)) (drop i zs) i (done_below i xs ys l e))

    -- one more pack is done
    pub pack_done : (k n : ℕ) (ps : List F) → i + k ≤ length xs → length xs ≡ length ys → n ≡ i + k → map v cs ≡ rows_done i xs ys zs
        → map v ps ≡ by_lanes op (take k (drop i xs)) (take k (drop i ys)) → map v (take i cs ++ (ps ++ drop k (drop i cs))) ≡ rows_done n xs ys zs
    pack_done k n ps l e is done pack =
        let here = by_lanes op (take i xs) (take i ys) in
        let long = done_below i xs ys (omega arith) e in
        let first : map v (take i cs) ≡ here = sym (take-map v i cs) ∙ ap (take i) done ∙ take_at here (drop i zs) i long in
        let rest : map v (drop k (drop i cs)) ≡ drop n zs =
        sym (drop-map v k (drop i cs))
        ∙ ap (drop k) (sym (drop-map v i cs) ∙ ap (drop i) done ∙ drop_at here (drop i zs) i long)
        ∙ drop-drop k i zs ∙ ap (λ m. drop m zs) (sym is)
        in
        map-append v (take i cs) (ps ++ drop k (drop i cs))
        ∙ ap₂ ◌++◌ first (map-append v ps (drop k (drop i cs)) ∙ ap₂ ◌++◌ pack rest)
        ∙ sym (append_assoc here (by_lanes op (take k (drop i xs)) (take k (drop i ys))) (drop n zs))
        ∙ ap (λ s. s ++ drop n zs) (sym (done_more i k xs ys l e) ∙ ap (λ m. by_lanes op (take m xs) (take m ys)) (sym is))

-- where whole packs are left of n places, one more fits
pub pack_fits : (i k w n : ℕ) → i < n → i + k * w ≡ n → (j : ℕ) × (i + w + j * w ≡ n)
pack_fits i zero w n l e = absurd (omega arith)
pack_fits i (suc j) w n l e = (j, omega arith)

-- an operation on rows, by two parts of them
pub rows_in_parts : {F E : Type 0} (v : F → E) (op : E → E → E) (xs ys us us' vs vs' ps qs : List F) → xs ≡ us ++ us' → ys ≡ vs ++ vs' → length us ≡ length vs
    → map v ps ≡ by_lanes op (map v us) (map v vs) → map v qs ≡ by_lanes op (map v us') (map v vs') → map v (ps ++ qs) ≡ by_lanes op (map v xs) (map v ys)
rows_in_parts v op xs ys us us' vs vs' ps qs e f l p q =
    map-append v ps qs ∙ ap₂ ◌++◌ p q
    ∙ sym (by_lanes-append op (map v us) (map v vs) (map v us') (map v vs') (length-map us v ∙ l ∙ sym (length-map vs v)))
    ∙ ap₂ (by_lanes op) (sym (ap (map v) e ∙ map-append v us us')) (sym (ap (map v) f ∙ map-append v vs vs'))

-- an operation on rows of which one is itself by lanes, by two parts of the three
pub three_in_parts : {F E : Type 0} (v : F → E) (op op' : E → E → E) (xs ys ts us us' vs vs' ws ws' ps qs : List F)
    → xs ≡ us ++ us' → ys ≡ vs ++ vs' → ts ≡ ws ++ ws'
    → length us ≡ length vs → length vs ≡ length ws → map v ps ≡ by_lanes op (map v us) (by_lanes op' (map v vs) (map v ws))
    → map v qs ≡ by_lanes op (map v us') (by_lanes op' (map v vs') (map v ws')) → map v (ps ++ qs) ≡ by_lanes op (map v xs) (by_lanes op' (map v ys) (map v ts))
three_in_parts v op op' xs ys ts us us' vs vs' ws ws' ps qs e f h l m p q =
    let inner : length (map v vs) ≡ length (map v ws) = length-map vs v ∙ m ∙ sym (length-map ws v) in
    let outer : length (map v us) ≡ length (by_lanes op' (map v vs) (map v ws)) =
    length-map us v ∙ l ∙ sym (length-map vs v) ∙ sym (length-by_lanes op' (map v vs) (map v ws) inner) in
    map-append v ps qs ∙ ap₂ ◌++◌ p q
    ∙ sym (by_lanes-append op (map v us) (by_lanes op' (map v vs) (map v ws)) (map v us') (by_lanes op' (map v vs') (map v ws')) outer)
    ∙ ap₂ (by_lanes op) (sym (ap (map v) e ∙ map-append v us us'))
    (sym (by_lanes-append op' (map v vs) (map v ws) (map v vs') (map v ws') inner)
    ∙ ap₂ (by_lanes op') (sym (ap (map v) f ∙ map-append v vs vs')) (sym (ap (map v) h ∙ map-append v ws ws')))

-- products by lanes of two rows are as long as any row of their length
pub products_long : {F E : Type 0} (v : F → E) (op : E → E → E) (xs ys ts : List F) → length xs ≡ length ys
    → length xs ≡ length ts → length (by_lanes op (map v ys) (map v ts)) ≡ length (map v xs)
products_long v op xs ys ts e f =
    let tall : length (map v ys) ≡ length xs = length-map ys v ∙ sym e in
    length-by_lanes op (map v ys) (map v ts) (tall ∙ f ∙ sym (length-map ts v)) ∙ tall ∙ sym (length-map xs v)

-- what packed values of one lane hold
pub of_one_lane : {F E : Type 0} (v : F → E) (op : E → E → E) (lanes : F → List F) → ((x : F) → lanes x ≡ x ∷ []) → (x y r : F)
    → map v (lanes r) ≡ by_lanes op (map v (lanes x)) (map v (lanes y)) → v r ≡ op (v x) (v y)
of_one_lane v op lanes law x y r is = ap (λ l. get_or l 0 (v r)) (ap (map v) (sym (law r)) ∙ is ∙ ap₂ (λ a b. by_lanes op (map v a) (map v b)) (law x) (law y))

-- rows that are worked through element by element: op of two rows, written over a third
module _ {F E : Type 0} (v : F → E) (op : E → E → E) (xs ys : List E) (same : length ys ≡ length xs) (zs : List F) (wide : length zs ≡ length xs) where
  all_long : length (by_lanes op xs ys) ≡ length zs
  all_long = length-by_lanes op xs ys (sym same) ∙ sym wide

  pub element_stays : (now : List F) (i : ℕ) (z : F) (d : E) → i < length xs → length now ≡ length zs → map v now ≡ until i (by_lanes op xs ys) (map v zs)
      → v (get_or now i z) ≡ get_or (map v zs) i d
  element_stays now i z d below full is = still v zs (by_lanes op xs ys) all_long now i z d (omega (arith, below, wide)) full is

  pub element_done : (now : List F) (i : ℕ) (r : F) (d : E) → i < length xs → map v now ≡ until i (by_lanes op xs ys) (map v zs)
      → v r ≡ op (get_or xs i d) (get_or ys i d) → map v (set now i r) ≡ until (i + 1) (by_lanes op xs ys) (map v zs)
  element_done now i r d below is gives =
      written v zs (by_lanes op xs ys) all_long now i r d (omega (arith, below, wide)) is (gives ∙ sym (get_or-by_lanes op xs ys i d same below))

  pub elements_done : (now : List F) (i : ℕ) → i ≡ length xs → map v now ≡ until i (by_lanes op xs ys) (map v zs) → map v now ≡ by_lanes op xs ys
  elements_done now i end is = all_written v zs (by_lanes op xs ys) all_long now i (end ∙ sym wide) is

-- where a place is left, a whole pack is
pub pack_within : (i k w m n : ℕ) → i < m → m ≡ n → i + k * w ≡ n → i + w ≤ n
pack_within i k w m n less same left = omega (arith, (pack_fits i k w n (omega (arith, less, same)) left).1)

-- the loop ends behind the last of the places
pub loop_ends : (i r m n : ℕ) → m ≤ i → m ≡ n → i + r ≡ n → i ≡ n
loop_ends i r m n end same left = omega (arith, end, same, left)

-- all packs are done
pub packs_done : {F E : Type 0} (v : F → E) (op : E → E → E) (i : ℕ) (xs ys zs : List F) → i ≡ length xs → length xs ≡ length ys → length xs ≡ length zs
    → rows_done op i (map v xs) (map v ys) (map v zs) ≡ by_lanes op (map v xs) (map v ys)
packs_done v op i xs ys zs end equal over =
    rows_done_all op i (map v xs) (map v ys) (map v zs) (end ∙ sym (length-map xs v))
    (length-map xs v ∙ equal ∙ sym (length-map ys v)) (length-map xs v ∙ over ∙ sym (length-map zs v))

-- where the pack behind i lies in m places
pub pack_sizes : (i w n m : ℕ) → i + w ≤ n → m ≡ n → (i ≤ m) × ((i + (i + w - i) ≤ m) × (i + w ≡ i + (i + w - i)))
pack_sizes i w n m ends same = (omega (arith, ends, same), (omega (arith, ends, same), omega arith))

-- how many products were made, with those of one more part
pub more_products : (p q r cost a w v : ℕ) → q ≡ p + cost * a → r ≡ q + cost * v → w ≡ v → r ≡ p + cost * (a + w)
more_products p q r cost a w v so_far more same = omega (arith, so_far, more, ap (λ m. cost * m) same)

-- the products of two parts of a list are those of the whole
pub products_in_parts : {T : Type 0} (p q r cost : ℕ) (xs us vs : List T) → xs ≡ us ++ vs → q ≡ p + cost * length us
    → r ≡ q + cost * length vs → r ≡ p + cost * length xs
products_in_parts p q r cost xs us vs parts first second =
    more_products p q r cost (length us) (length vs) (length vs) first second refl
    ∙ ap (λ n. p + cost * n) (sym (ap length parts ∙ length-append us vs))
