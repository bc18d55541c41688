-- Which cosets are prepared where tables were added.
use Rattle.p3_dft.proofs.Names.{⊤, ◌≡◌, ◌⊎◌, inl, inr, ℕ, ◌+◌, ◌≤◌, List, [], ◌∷◌, ◌++◌, sym, ap, subst, length, length-append, arith, get_or-append, Coset}
use Rattle.p3_dft.proofs.Names.{HasCoset, IsCosetOf, CosetEngineState, EngineFacts, IsCosetPrepared, IsLater, IsPrepared, plain_facts}
use Rattle.p3_field.specs.declared.fields.Valued.{Ghosts as FieldMembers}

-- an engine with powers of the roots up to a height, so many products, and tables of cosets
abbrev pub tabled : {F : Type 0} → ℕ → ℕ → List (Coset F) → CosetEngineState F
tabled log products cosets = record { roots = record { prepared = log; products = products }; cosets = cosets }

-- the facts of an engine with tables of cosets besides: a prepared coset of a prepared height succeeds
abbrev pub coset_tabled_facts : {F : Type 0} (f : FieldMembers F) → ℕ → (ℕ → ℕ → ℕ) → (ℕ → ℕ → ℕ → ℕ) → (ℕ → ℕ → ℕ) → EngineFacts (CosetEngineState F) F
coset_tabled_facts f table_bytes transform_products extension_products block_rows =
    record (plain_facts (λ e. IsPrepared e.roots) (λ e k s. IsCosetPrepared f e k (f.value s)) (λ _ _. ⊤) transform_products (λ e. e.roots.products)) {
      extension_products = extension_products;
      block_rows = block_rows;
      tables = λ e. length e.cosets + 1;
      table_bytes = table_bytes;
    }

module _ {F : Type 0} (f : FieldMembers F) where
  -- a coset that is in a list is in a longer one
  coset_of_longer : (cosets more : List (Coset F)) (k : ℕ) (s : f.Element) → HasCoset f cosets k s → HasCoset f (cosets ++ more) k s
  coset_of_longer cosets more k s (i, at) = (
    i,
    (omega (arith, at.0, length-append cosets more), λ d. subst (IsCosetOf f k s) (sym (get_or-append cosets more d i at.0)) (at.1 d)),
  )

  -- and where one was added at most
  pub coset_stays : (old new : List (Coset F)) (c : Coset F) → (new ≡ old) ⊎ (new ≡ old ++ c ∷ [])
      → (k : ℕ) (s : f.Element) → HasCoset f old k s → HasCoset f new k s
  coset_stays old new c (inl same) k s has = subst (λ (xs : List (Coset F)). HasCoset f xs k s) (sym same) has
  coset_stays old new c (inr more) k s has = subst (λ (xs : List (Coset F)). HasCoset f xs k s) (sym more) (coset_of_longer old (c ∷ []) k s has)

  -- and the list is longer by one at most
  pub one_table_more : (old new : List (Coset F)) (c : Coset F) → (new ≡ old) ⊎ (new ≡ old ++ c ∷ []) → length new ≤ length old + 1
  one_table_more old new c (inl same) = omega (arith, ap length same)
  one_table_more old new c (inr more) = omega (arith, ap length more, length-append old (c ∷ []))

  -- a prepared coset stays prepared where heights and tables stay
  prepared_coset_stays : (before after : CosetEngineState F) → ((k : ℕ) → IsPrepared before.roots k → IsPrepared after.roots k)
      → ((k : ℕ) (s : f.Element) → HasCoset f before.cosets k s → HasCoset f after.cosets k s) → (k : ℕ) (s : F) →
      IsCosetPrepared f before k (f.value s) → IsCosetPrepared f after k (f.value s)
  prepared_coset_stays before after heights cosets k s (inl point) = inl point
  prepared_coset_stays before after heights cosets k s (inr (inl (one, there))) = inr (inl (one, heights k there))
  prepared_coset_stays before after heights cosets k s (inr (inr (other, has))) = inr (inr (other, cosets k (f.value s) has))

  -- no power, no table and no product is lost
  pub later_with_tables : {bytes : ℕ} {t : ℕ → ℕ → ℕ} {x : ℕ → ℕ → ℕ → ℕ} {b : ℕ → ℕ → ℕ} {before : CosetEngineState F}
      {log more_log products more_products : ℕ} {cosets more_cosets : List (Coset F)}
      → tabled log products cosets ≡ before → log ≤ more_log
      → ((k : ℕ) (s : f.Element) → HasCoset f cosets k s → HasCoset f more_cosets k s) → products ≤ more_products
      → IsLater (coset_tabled_facts f bytes t x b) before (tabled more_log more_products more_cosets)
  later_with_tables {bytes = bytes} {t = t} {x = x} {b = b} {log = log} {more_log = more_log} {products = products}
      {more_products = more_products} {cosets = cosets} {more_cosets = more_cosets} is higher stays grows =
      let still : (k : ℕ) → k ≤ log → k ≤ more_log = λ k there. omega (arith, there, higher) in
      subst (λ (e : CosetEngineState F). IsLater (coset_tabled_facts f bytes t x b) e (tabled more_log more_products more_cosets)) is (record {
        keeps = still;
        keeps_cosets = prepared_coset_stays (tabled log products cosets) (tabled more_log more_products more_cosets) still stays;
        keeps_prepared = λ k none. tt;
        grows = grows;
      })
