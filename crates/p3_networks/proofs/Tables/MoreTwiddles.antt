-- The twiddles of one more layer, and of fewer.
use Rattle.p3_networks.proofs.Names.{◌≡◌, ℕ, suc, ◌+◌, ◌*◌, ◌-◌, ◌^◌, ◌<◌, ◌≤◌, List, length, get_or, sym, ap, ◌∙◌, subst, arith, add-one, lit≤, ⊎_elim}
use Rattle.p3_networks.proofs.Names.{pow-le-pow_right, two-pow-succ, cases_lt, pow_pos, AreTwiddlesOfLayers}
use Rattle.p3_field.specs.declared.fields.Valued.{Ghosts as FieldMembers}

-- the twiddles of a layer lie within those of all layers
pub layer_there : (k n : ℕ) → k < 64 → 2 ^ k - 1 ≤ n → (l : ℕ) → l < k → (l < 63) × (2 * 2 ^ l - 1 ≤ n)
layer_there k n small room l h =
    let rise : 2 ^ suc l ≤ 2 ^ k = pow-le-pow_right {n = 2} (lit≤ tt) h in
    (omega (arith, h, small), omega (arith, rise, two-pow-succ l, room))

module _ {F : Type 0} (f : FieldMembers F) (p : ℕ → ℕ → f.Element) where
  pub fewer_layers : (k log : ℕ) (twiddles : List F) → k ≤ log → AreTwiddlesOfLayers f log p twiddles → AreTwiddlesOfLayers f k p twiddles
  fewer_layers k log twiddles fewer are = record {
    size = let rise : 2 ^ k ≤ 2 ^ log = pow-le-pow_right {n = 2} (lit≤ tt) fewer in omega (arith, are.size, rise);
    entries = λ l t below inside. are.entries l t (omega arith) inside;
  }

  pub one_more_layer : (l : ℕ) (before after : List F) → length before ≡ 2 ^ l - 1 → AreTwiddlesOfLayers f l p before → length after ≡ length before + 2 ^ l
      → ((n : ℕ) → n < length before → get_or after n f.zero ≡ get_or before n f.zero)
      → ((t : ℕ) → t < 2 ^ l → f.value (get_or after (length before + t) f.zero) ≡ p l t)
      → AreTwiddlesOfLayers f (l + 1) p after
  one_more_layer l before after full are longer stays added = record {
    size = let twice : 2 ^ (l + 1) ≡ 2 * 2 ^ l = ap (λ n. 2 ^ n) (add-one l) ∙ omega arith in let some = pow_pos l in omega (arith, longer, full, twice, some);
    entries = λ m t below inside.
        ⊎_elim
        (λ less.
        let rise : 2 ^ suc m ≤ 2 ^ l = pow-le-pow_right {n = 2} (lit≤ tt) less in
        let some = pow_pos m in
        ap f.value (stays (2 ^ m - 1 + t) (omega (arith, full, rise, two-pow-succ m, inside, some))) ∙ are.entries m t less inside)
        (λ not_less.
        let same : l ≡ m = omega arith in
        subst (λ (k : ℕ). f.value (get_or after (2 ^ k - 1 + t) f.zero) ≡ p k t) same
        (ap (λ n. f.value (get_or after (n + t) f.zero)) (sym full) ∙ added t (subst (λ (k : ℕ). t < 2 ^ k) (sym same) inside)))
        (cases_lt m l);
  }
