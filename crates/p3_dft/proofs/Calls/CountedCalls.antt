-- Calls of an engine that shows nothing but how many products it made, by the products of their steps. The steps work on m, and the call was given n, which
-- equals it.
use Rattle.p3_dft.proofs.Names.{⊤, ℕ, ◌≡◌, ◌+◌, ◌*◌, ◌^◌, ◌≤◌, Result, Ok, IsErr, IfErr, IsErrAnd, ap, sym, ◌∙◌, arith, le_of_eq, le_trans, IsWithin}
use Rattle.p3_dft.proofs.Names.{HasShapeOf, RowMajor, height, if_within_more, room_of, entries_rise, AfterDft, AfterLde, EngineFacts, plain_facts}
use Rattle.p3_dft.proofs.Names.{extension_bound}
use Rattle.p3_dft.proofs.Calls.EngineSteps.{after_counting}
use Rattle.p3_dft.proofs.Calls.Shapes.{fewer_of_same, same_extended}
use Rattle.p3_dft.proofs.Calls.Stored.{at_log}
use Rattle.p3_matrix.specs.declared.error.DftError.{DftError}

-- what such an engine promises: only heights of one, and nothing of its tables
abbrev pub counting : {F : Type 0} → (ℕ → ℕ → ℕ) → EngineFacts ℕ F
counting t = plain_facts (λ _ k. k ≡ 0) (λ _ _ _. ⊤) (λ _ _. ⊤) t (λ e. e)

module _ {F T A : Type 0} {bytes : ℕ} {t : ℕ → ℕ → ℕ} {m n : RowMajor T} {before inside : ℕ} (same : m ≡ n) (is : inside ≡ before) where
  -- memory was refused to the inverse of an extension
  pub inverse_refused : (after a : ℕ) (e : DftError) (r : Result A DftError) → IsErr r × IsErrAnd r (λ y. y ≡ e)
      → after ≡ inside → IsWithin bytes (height m * m.width) e → AfterLde (counting {F = F} t) bytes before after r n a
  inverse_refused after a e r told kept within =
      after_counting before inside after is (le_of_eq (sym kept)) (λ k. (tt, tt)) (λ k high. omega (arith, kept, is))
      (room_of bytes r e _ _ told (fewer_of_same a (ap height same) (ap (λ (y : RowMajor T). y.width) same)) within)

  -- what is said of 2 ^ log rows
  module _ (log : ℕ) (high : height m ≡ 2 ^ log) where
    -- a transform of a matrix of that shape, with so many products more an entry
    pub after_dft : {v : A} (x : RowMajor T) (after more : ℕ) → HasShapeOf x m → inside ≤ after
        → after ≤ inside + (t log x.width + more * (2 ^ log * x.width))
        → AfterDft (counting {F = F} t) bytes before after (Ok v) n more
    after_dft x after more (tall, wide) grows made =
        let width = wide ∙ ap (λ (y : RowMajor T). y.width) same in
        after_counting before inside after is grows (λ k. tt)
        (at_log (λ k. after ≤ before + (t k n.width + more * (2 ^ k * n.width))) (height n) log (ap height (sym same) ∙ high)
        (rw (← width, ← is) made)) tt

    -- an inverse, with a product for each entry at most, and then an extension of a matrix of that shape
    pub after_lde : (x : RowMajor T) (middle after a : ℕ) (r : Result A DftError) → HasShapeOf x m → inside ≤ middle
        → middle ≤ inside + t log m.width + 2 ^ log * m.width → middle ≤ after
        → after ≤ middle + (2 ^ log * x.width + t (log + a) x.width) → IfErr r (IsWithin bytes (height x * x.width * 2 ^ a))
        → AfterLde (counting {F = F} t) bytes before after r n a
    after_lde x middle after a r (tall, wide) grows made more_grows more_made room =
        let width = ap (λ (y : RowMajor T). y.width) same in
        after_counting before inside after is (le_trans grows more_grows) (λ k. (tt, tt))
        (at_log (λ k. after ≤ before + extension_bound t k a n.width) (height n) log (ap height (sym same) ∙ high)
        (let first : t log m.width ≡ t log n.width = ap (t log) width in
        let second : t (log + a) x.width ≡ t (log + a) n.width = ap (t (log + a)) (wide ∙ width) in
        let entries : 2 ^ log * m.width ≡ 2 ^ log * n.width = ap (λ w. 2 ^ log * w) width in
        let more : 2 ^ log * x.width ≡ 2 ^ log * n.width = ap (λ w. 2 ^ log * w) (wide ∙ width) in
        omega (arith, made, more_made, first, second, entries, more, is, entries_rise log a n.width)))
        (if_within_more bytes r _ _ (same_extended a (tall ∙ ap height same) (wide ∙ width)) room)
