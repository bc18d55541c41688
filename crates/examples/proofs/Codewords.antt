-- The codewords of a low degree test, each folded to the next, and what is opened of them.
use Rattle.std.proofs.Common.{◌≡◌, ℕ, zero, suc, ◌+◌, ◌-◌, ◌*◌, ◌/◌, ◌%◌, ◌^◌, ◌<◌, ◌≤◌, ◌⊎◌, inl, inr, List, [], ◌∷◌}
use Rattle.std.proofs.Common.{◌++◌, get_or, length, map, refl, ap, subst, sym, ◌∙◌, arith}
use Rattle.std.proofs.lemmas.Bool.{cases_lt}
use Rattle.std.proofs.lemmas.List.{get_or_past, get_or_push, length-map}
use Rattle.std.proofs.Math.ListN.{get_or-append}
use Rattle.std.proofs.Math.Nat.{mul-le-mul_right}
use Rattle.std.proofs.lemmas.Nat.{shr-shr}
use Rattle.p3_field.specs.Ring.{power}
use Rattle.p3_field.specs.declared.fields.Valued.{Ghosts as FieldMembers}
use Rattle.p3_matrix.specs.BitOrder.{rev}
use Rattle.p3_matrix.specs.Cosets.{point, values_of}
use Rattle.p3_matrix.specs.RowMajor.{RowMajor}
use Rattle.examples.specs.Foldings.{IsFoldedPair}
use Rattle.examples.specs.Fri.{AreLayers, FoldsDown, FoldsTo, IsLayer}

-- an element that is added at the end stands where the default stood
pub get_or_pushed : {X : Type 0} (xs : List X) (x d : X) (i : ℕ) → i ≤ length xs → get_or (xs ++ x ∷ []) i d ≡ get_or xs i x
get_or_pushed [] x d zero within = refl
get_or_pushed [] x d (suc i) within = absurd (omega (arith, within))
get_or_pushed (y ∷ ys) x d zero within = refl
get_or_pushed (y ∷ ys) x d (suc i) within = get_or_pushed ys x d i (omega (arith, within))

get_or_behind : {X : Type 0} (xs : List X) (x d : X) → get_or (xs ++ x ∷ []) (suc (length xs)) d ≡ d
get_or_behind [] x d = refl
get_or_behind (y ∷ ys) x d = get_or_behind ys x d

-- behind the last element stands the default
pub behind_map : {X Y : Type 0} (f : X → Y) (xs : List X) (d : Y) → get_or (map f xs) (length xs) d ≡ d
behind_map f xs d = get_or_past (map f xs) (length xs) d (omega (arith, length-map xs f))

-- fewer rows of one width have fewer entries
pub smaller : (h height w width : ℕ) → h ≤ height → w ≡ width → height * width < 2 ^ 64 → h * w < 2 ^ 64
smaller h height w width fewer same size = let less = mul-le-mul_right width fewer in rw same (omega (arith, less, size))

module _ {F D V : Type 0} (f : FieldMembers F) (g : ℕ → f.Element) (worth : D → V) (join : V → V → V) (of_row : List F → V) (log : ℕ) (s : f.Element) where
  abbrev are : ℕ → List F → List (RowMajor F) → List (List D) → RowMajor F → Type 0
  are n bs cs ns last = AreLayers f g worth join of_row log n s (λ l. f.value (get_or bs l f.zero)) (λ l. get_or cs l last) (λ l. get_or ns l [])

  -- one more layer
  pub layers_pushed : (n : ℕ) (bs : List F) (cs : List (RowMajor F)) (ns : List (List D)) (b : F) (c next : RowMajor F) (nodes : List D)
      → length bs ≡ n → length cs ≡ n → length ns ≡ n → are n bs cs ns c
      → IsLayer f g worth join of_row (log - suc n) (power f.ring s (2 ^ n)) (f.value b) c next nodes
      → are (suc n) (bs ++ b ∷ []) (cs ++ c ∷ []) (ns ++ nodes ∷ []) next
  layers_pushed n bs cs ns b c next nodes bl cl nl before new l below = cases (cases_lt l n)
    where
      layer : (beta : F) (here there : RowMajor F) (tree : List D) → Type 0
      layer beta here there tree = IsLayer f g worth join of_row (log - suc l) (power f.ring s (2 ^ l)) (f.value beta) here there tree

      same : (beta gamma : F) (here at there to : RowMajor F) (tree wood : List D) → beta ≡ gamma → here ≡ at
          → there ≡ to → tree ≡ wood → layer gamma at to wood → layer beta here there tree
      same beta gamma here at there to tree wood a b c d is =
          subst (λ x. layer x here there tree) (sym a) (subst (λ x. layer gamma x there tree) (sym b)
          (subst (λ x. layer gamma at x tree) (sym c) (subst (layer gamma at to) (sym d) is)))

      cases : (l < n) ⊎ (n ≤ l)
          → layer (get_or (bs ++ b ∷ []) l f.zero) (get_or (cs ++ c ∷ []) l next) (get_or (cs ++ c ∷ []) (suc l) next)
          (get_or (ns ++ nodes ∷ []) l [])
      cases (inl less) =
          same _ _ _ _ _ _ _ _ (get_or-append bs (b ∷ []) f.zero l (omega (arith, less, bl))) (get_or_pushed cs c next l (omega (arith, less, cl)))
          (get_or_pushed cs c next (suc l) (omega (arith, less, cl))) (get_or-append ns (nodes ∷ []) [] l (omega (arith, less, nl))) (before l less)
      cases (inr more) =
          let here : n ≡ l = omega (arith, below, more) in
          let behind : length cs ≡ l = cl ∙ here in
          same _ _ _ _ _ _ _ _ (get_or_push bs b f.zero l (bl ∙ here)) (get_or_push cs c next l behind)
          (ap (λ q. get_or (cs ++ c ∷ []) (suc q) next) (sym behind) ∙ get_or_behind cs c next) (get_or_push ns nodes [] l (nl ∙ here))
          (subst (λ q. IsLayer f g worth join of_row (log - suc q) (power f.ring s (2 ^ q)) (f.value b) c next nodes) here new)

  module _ (n : ℕ) (betas : ℕ → f.Element) (codewords : ℕ → RowMajor F) (nodes : ℕ → List D)
      (layers : AreLayers f g worth join of_row log n s betas codewords nodes) where
    -- all of one width
    pub width_of_layer : (m l : ℕ) → l + m ≡ n → (codewords l).width ≡ (codewords n).width
    width_of_layer zero l all = let here : l ≡ n = omega (arith, all) in ap (λ q. (codewords q).width) here
    width_of_layer (suc m) l all = sym (layers l (omega (arith, all))).folds.width ∙ width_of_layer m (suc l) (omega (arith, all))

    -- the pairs that are opened fold down to the last one
    pub pairs_fold : (i : ℕ) (pairs : ℕ → RowMajor F)
        → ((l : ℕ) → l < n → (pairs l).width ≡ (codewords l).width)
        → ((l r j : ℕ) → l < n → r < 2 → j < (codewords l).width
        → (values_of f (pairs l)).entry r j ≡ (values_of f (codewords l)).entry (2 * (i / 2 ^ l) + r) j)
        → ((l : ℕ) → l < n
        → FoldsTo f g (log - suc l) (power f.ring s (2 ^ l)) (betas l) (i / 2 ^ l) (values_of f (pairs l))
        ((values_of f (codewords (suc l))).entry (i / 2 ^ l)))
        → FoldsDown f g log n s betas i (λ l. values_of f (pairs l)) (values_of f (codewords n))
    pairs_fold i pairs wide entries folds = record {
      between = λ l below j in_row.
          let m = i / 2 ^ l in
          let next = i / 2 ^ suc l in
          let one : l + 1 ≡ suc l = omega arith in
          let half : m / 2 ≡ next = shr-shr i l 1 ∙ ap (λ q. i / 2 ^ q) one in
          let place : 2 * next + m % 2 ≡ m = omega (arith, half) in
          let last : l < n = omega (arith, below) in
          let in_next : j < (codewords (suc l)).width = omega (arith, in_row, wide l last, (layers l last).folds.width) in
          let is = entries (suc l) (m % 2) j below (omega arith) in_next ∙ ap (λ q. (values_of f (codewords (suc l))).entry q j) place in
          subst (IsFoldedPair f.ring (betas l)
          (point f.ring g (suc (log - suc l)) (power f.ring s (2 ^ l)) (rev (log - suc l) m))
          ((values_of f (pairs l)).entry 0 j) ((values_of f (pairs l)).entry 1 j)) (sym is)
          (folds l last j in_row);
      to_last =
          λ l last. subst (λ q. FoldsTo f g (log - suc l) (power f.ring s (2 ^ l)) (betas l) (i / 2 ^ l)
          (values_of f (pairs l)) ((values_of f (codewords q)).entry (i / 2 ^ l))) last
          (folds l (omega (arith, last)));
    }
