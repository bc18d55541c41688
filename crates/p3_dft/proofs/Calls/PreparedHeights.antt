-- The steps of an engine that shows the largest height whose twiddles are there.
use Rattle.p3_dft.proofs.Names.{⊤, max, ◌≡◌, ℕ, ◌+◌, ◌*◌, ◌≤◌, ◌^◌, Result, Ok, Err, IfErr, IsErr, IsErrAnd, IsOk, OnErr, OnOk, ◌⊎◌, refl, ap, subst, arith}
use Rattle.p3_dft.proofs.Names.{le_refl, rules, IsWithin, RowMajor, height, first_of, if_first, AfterDft, AtLog, EngineFacts, HasProductsMore, IsAfter, IsLater}
use Rattle.p3_dft.proofs.Names.{IsPrepared, EngineState}
use Rattle.p3_dft.proofs.Calls.EngineSteps.{after_error}
use Rattle.p3_dft.proofs.Calls.Shapes.{extended_table_fits}
use Rattle.p3_matrix.specs.declared.error.DftError.{DftError}

-- an engine with twiddles of all heights up to one, and so many products
abbrev pub up_to : ℕ → ℕ → EngineState
up_to log products = record { prepared = log; products = products }

-- the facts of an engine with tables of heights: a prepared height succeeds, whatever the shift, and is all that is known of one
abbrev pub tabled_facts : {F : Type 0} → (ℕ → ℕ → ℕ) → (ℕ → ℕ → ℕ → ℕ) → (ℕ → ℕ → ℕ) → EngineFacts EngineState F
tabled_facts transform_products extension_products block_rows = record {
  Succeeds = IsPrepared;
  SucceedsOnCoset = λ e k s. ⊤;
  IsLeftPrepared = IsPrepared;
  transform_products = transform_products;
  extension_products = extension_products;
  block_rows = block_rows;
  products_made = λ e. e.products;
  tables = λ e. 0;
  table_bytes = 0;
}

module _ {F : Type 0} {t : ℕ → ℕ → ℕ} {x : ℕ → ℕ → ℕ → ℕ} {b : ℕ → ℕ → ℕ} where
  -- no height and no product is lost
  pub later_with_heights : {before : EngineState} {log more_log products more_products : ℕ}
      → up_to log products ≡ before → log ≤ more_log → products ≤ more_products
      → IsLater (tabled_facts {F = F} t x b) before (up_to more_log more_products)
  later_with_heights {log = log} {more_log = more_log} {more_products = more_products} is higher grows =
      let still : (k : ℕ) → k ≤ log → k ≤ more_log = λ k there. omega (arith, there, higher) in
      subst (λ (e : EngineState). IsLater (tabled_facts {F = F} t x b) e (up_to more_log more_products)) is (record {
        keeps = still;
        keeps_cosets = λ k s none. tt;
        keeps_prepared = still;
        grows = grows;
      })

  -- memory for its tables was refused to a call of 2 ^ k rows, before a product was made
  pub tables_refused : {bytes : ℕ} {A : Type 0} {log more_log products h w n : ℕ} {known : ℕ → Type 0} {p : ℕ → ℕ}
      {r : Result A DftError} (k a : ℕ) (e : DftError)
      → IsErr r × IsErrAnd r (λ y. y ≡ e) → log ≤ more_log → 1 ≤ w → h ≡ 2 ^ k → IsWithin bytes (2 ^ (k + a)) e
      → IsAfter (tabled_facts {F = F} t x b) bytes (up_to log products) (up_to more_log products) r h known p (h * w * 2 ^ a) n
  tables_refused {products = products} {r = r} k a e err keeps wide high room =
      after_error err.0 (later_with_heights refl keeps (le_refl products)) refl (omega arith)
      (first_of _ _ _ _ (le_refl _) (extended_table_fits k a wide high) _ _ r e err room)

  -- products that were counted
  pub counted_with_heights : {before : EngineState} {log products more_products n : ℕ} → up_to log products ≡ before → more_products ≡ products + n
      → HasProductsMore (tabled_facts {F = F} t x b) before (up_to log more_products) n
  counted_with_heights {log = log} {more_products = more_products} {n = n} is counted =
      subst (λ (e : EngineState). HasProductsMore (tabled_facts {F = F} t x b) e (up_to log more_products) n) is (record {
        counter = counted;
        same = λ k. (λ there. there, λ there. there);
        same_cosets = λ k s. (λ none. none, λ none. none);
        same_prepared = λ k. (λ there. there, λ there. there);
        same_tables = refl;
      })

-- a height that was made prepared is
held_where : {A E : Type 0} (r : Result A E) (before after k : ℕ) → OnOk r (after ≡ max before k) → IsOk r → k ≤ after
held_where (Ok x) before after k made ok = omega (arith, made)
held_where (Err e) before after k made ok = search rules

-- after a call that `on_prepared` made
pub after_prepared : {bytes : ℕ} {F A T : Type 0} {log more_log products more_products : ℕ} {t : ℕ → ℕ → ℕ}
    {x : ℕ → ℕ → ℕ → ℕ} {b : ℕ → ℕ → ℕ} {r : Result A DftError} (m : RowMajor T) (more : ℕ)
    → log ≤ more_log → products ≤ more_products → AtLog (height m) (λ k. OnOk r (more_log ≡ max log k))
    → AtLog (height m) (λ k. more_products ≤ products + (t k m.width + more * (2 ^ k * m.width))) → IfErr r (IsWithin bytes (height m * m.width))
    → AfterDft (tabled_facts {F = F} t x b) bytes (up_to log products) (up_to more_log more_products) r m more
after_prepared {bytes = bytes} {r = r} m more keeps grows made cost room =
    record {
      later = later_with_heights refl keeps grows;
      prepared = λ done k high. held_where r _ _ k (made k high) done;
      cost = cost;
      tables = omega arith;
      refused = if_first bytes bytes (height m * m.width) (height m * m.width) (le_refl _) (le_refl _) 0 0 r room;
    }

-- a refusal is no answer
pub not_ok : {A E : Type 0} (r : Result A E) (e : E) → r ≡ Err e → IsOk r → ⊥
not_ok (Ok x) e is ok = cc
not_ok (Err x) e is ok = search rules

-- where an answer prepares a height and an error changes nothing, no larger height is prepared
pub none_above : {X T E : Type 0} (prepared : X → ℕ) (r : Result T E) (a b : X) (k : ℕ)
    → OnOk r (prepared b ≡ max (prepared a) k) → OnErr r (b ≡ a) → prepared b ≤ max (prepared a) k
none_above prepared (Ok x) a b k made same = omega (arith, made)
none_above prepared (Err e) a b k made same = omega (arith, ap prepared same)

-- a height that is one of two is no larger than both
pub no_larger : (n m k : ℕ) → (n ≡ m) ⊎ (n ≡ k) → n ≤ max m k
no_larger n m k is = omega (arith, is)
