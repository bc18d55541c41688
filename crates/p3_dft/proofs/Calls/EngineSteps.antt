-- An engine after one call and then another.
use Rattle.p3_dft.proofs.Names.{⊤, ℕ, ◌≡◌, ◌+◌, ◌*◌, ◌^◌, ◌≤◌, Result, Ok, Err, IsOk, IsErr, IfErr, IsErrAnd, refl, ap, ap₂, ◌∙◌, add-one, arith, rules, subst}
use Rattle.p3_dft.proofs.Names.{le-add_right, le_refl, pow_pos, suc-mul, OnOk, IsWithin, IsWithinEither, either_of, if_first, HasShapeOf, RowMajor, height}
use Rattle.p3_dft.proofs.Names.{AfterDft, AfterLde, AfterLdeOfCoefficients, AtLog, EngineFacts, HasProductsMore, IsAfter, IsLater, plain_facts}
use Rattle.p3_dft.proofs.Calls.Shapes.{extended_entries}
use Rattle.p3_matrix.specs.declared.error.DftError.{DftError}

-- an error is no answer
pub no_answer : {A X : Type 0} (r : Result A X) → IsErr r → IsOk r → ⊥
no_answer (Ok x) err ok = search rules
no_answer (Err x) err ok = search rules

-- what holds where there is an answer
pub where_ok : {A X P : Type 0} (r : Result A X) → (IsOk r → P) → OnOk r P
where_ok (Ok x) given = given refl
where_ok (Err x) given = tt

module _ {E F : Type 0} (facts : EngineFacts E F) where
  pub later_same : (e : E) → IsLater facts e e
  later_same e = record { keeps = λ k was. was; keeps_cosets = λ k s was. was; keeps_prepared = λ k was. was; grows = le_refl _ }

  pub later_still : (a b c : E) → IsLater facts a b → IsLater facts b c → IsLater facts a c
  later_still a b c first second = record {
    keeps = λ k was. second.keeps k (first.keeps k was);
    keeps_cosets = λ k s was. second.keeps_cosets k s (first.keeps_cosets k s was);
    keeps_prepared = λ k was. second.keeps_prepared k (first.keeps_prepared k was);
    grows = omega (arith, first.grows, second.grows);
  }

  -- products that were counted elsewhere are added
  pub later_by_products : (a b : E) (n : ℕ) → HasProductsMore facts a b n → IsLater facts a b
  later_by_products a b n more = record {
    keeps = λ k. (more.same k).0;
    keeps_cosets = λ k s. (more.same_cosets k s).0;
    keeps_prepared = λ k. (more.same_prepared k).0;
    grows = omega (arith, more.counter);
  }

-- the facts are those of the call
module _ {E F : Type 0} {facts : EngineFacts E F} where
  -- memory was refused before a product was made
  pub after_error : {bytes : ℕ} {A : Type 0} {h entries tables : ℕ} {known : ℕ → Type 0} {p : ℕ → ℕ} {a b : E} {r : Result A DftError}
      → IsErr r → IsLater facts a b → facts.products_made b ≡ facts.products_made a
      → facts.tables b
      ≤ facts.tables a + tables → IfErr r (IsWithinEither bytes entries facts.table_bytes (facts.tables b))
      → IsAfter facts bytes a b r h known p entries tables
  after_error {r = r} none later same kept room = record {
    later = later;
    prepared = λ ok. absurd (no_answer r none ok);
    cost = λ k high. omega (arith, same);
    tables = kept;
    refused = room;
  }

  -- memory was refused to what follows a part of a call, which made no more products than all of it may
  pub after_part : {bytes other : ℕ} {A B : Type 0} {h few entries few_tables tables : ℕ}
      {known more_known : ℕ → Type 0} {p q : ℕ → ℕ} {a b : E} {s : Result B DftError} {r : Result A DftError}
      → IsErr r → ((k : ℕ) → p k ≤ q k)
      → few_tables
      ≤ tables → IfErr r (IsWithinEither bytes entries facts.table_bytes (facts.tables b))
      → IsAfter facts other a b s h known p few few_tables
      → IsAfter facts bytes a b r h more_known q entries tables
  after_part {r = r} none fewer more_tables room call = record {
    later = call.later;
    prepared = λ ok. absurd (no_answer r none ok);
    cost = λ k high. let made = call.cost k high in omega (arith, made, fewer k);
    tables = let kept = call.tables in omega (arith, kept, more_tables);
    refused = room;
  }

  -- memory was refused to a part of a call, and `?` hands the error on
  pub part_refused : {bytes : ℕ} {A B : Type 0} {h few entries few_tables tables : ℕ} {known more_known : ℕ → Type 0}
      {p q : ℕ → ℕ} {a b : E} {e : DftError} {r : Result A DftError}
      → IsErr r × IsErrAnd r (λ y. y ≡ e) → ((k : ℕ) → p k ≤ q k)
      → few ≤ entries → few_tables
      ≤ tables → IsAfter facts bytes {A = B} a b (Err e) h known p few few_tables
      → IsAfter facts bytes a b r h more_known q entries tables
  part_refused {bytes = bytes} {few = few} {entries = entries} {b = b} {e = e} {r = r} told fewer smaller more_tables call =
      after_part told.0 fewer more_tables (either_of bytes bytes few entries (le_refl _) smaller
      facts.table_bytes (facts.tables b) (facts.tables b) (le_refl _) r e told call.refused) call

  -- the same where the bounds are those of the whole
  pub after_refusal : {bytes : ℕ} {A B : Type 0} {h entries tables : ℕ} {known : ℕ → Type 0} {p : ℕ → ℕ} {a b : E}
      {e : DftError} {r : Result A DftError}
      → IsErr r × IsErrAnd r (λ y. y ≡ e)
      → IsAfter facts bytes {A = B} a b (Err e) h known p entries tables → IsAfter facts bytes a b r h known p entries tables
  after_refusal told call = part_refused told (λ k. le_refl _) (le_refl _) (le_refl _) call

  -- the answer, as it is stored
  pub as_stored : {bytes : ℕ} {A B : Type 0} {v : A} {w : B} {h entries tables : ℕ} {known : ℕ → Type 0} {p : ℕ → ℕ} {a b : E}
      → IsAfter facts bytes a b (Ok v) h known p entries tables
      → IsAfter facts bytes a b (Ok w) h known p entries tables
  as_stored call = record { later = call.later; prepared = λ yes. call.prepared refl; cost = call.cost; tables = call.tables; refused = tt }

  -- where less is answered
  pub where_answered : {bytes other : ℕ} {A B : Type 0} {h entries tables : ℕ} {known : ℕ → Type 0} {p : ℕ → ℕ}
      {a b : E} {s : Result B DftError} {r : Result A DftError}
      → (IsOk r → IsOk s) → IfErr r (IsWithinEither bytes entries facts.table_bytes (facts.tables b))
      → IsAfter facts other a b s h known p entries tables → IsAfter facts bytes a b r h known p entries tables
  where_answered there room call = record {
    later = call.later;
    prepared = λ yes. call.prepared (there yes);
    cost = call.cost;
    tables = call.tables;
    refused = room;
  }

  -- a transform, and then products, at most one for each entry of a matrix of the same shape
  pub products_after : {bytes : ℕ} {A B T S : Type 0} {v : B} {a b c : E} {w : A} {products : ℕ} (first : ℕ)
      (m : RowMajor T) (n : RowMajor S)
      → HasShapeOf n m → products ≤ height n * n.width
      → AfterDft facts bytes a b (Ok v) m first → HasProductsMore facts b c products → AfterDft facts bytes a c (Ok w) m (first + 1)
  products_after {a = a} {b = b} {c = c} {products = products} first m n (tall, wide) most call more = record {
    later = later_still facts a b c call.later (later_by_products facts b c products more);
    prepared = λ yes k high. (more.same_prepared k).0 (call.prepared refl k high);
    cost = λ k high.
        let made = call.cost k high in
        let entries : height n * n.width ≡ 2 ^ k * m.width = ap₂ (λ (h w : ℕ). h * w) (tall ∙ high) wide in
        let one_more : (first + 1) * (2 ^ k * m.width) ≡ first * (2 ^ k * m.width) + 2 ^ k * m.width = rw add-one (suc-mul first (2 ^ k * m.width)) in
        omega (arith, more.counter, made, entries, most, one_more);
    tables = let kept = call.tables in omega (arith, more.same_tables, kept);
    refused = tt;
  }

  -- products, at most one an entry, and then a transform of 2 ^ bits times as many rows
  pub extended_after : {bytes : ℕ} {A T S : Type 0} {a b c : E} {r : Result A DftError} {products : ℕ} (m : RowMajor T)
      (grown : RowMajor S) (bits log : ℕ)
      → height m ≡ 2 ^ log
      → ((k : ℕ) → height m ≡ 2 ^ k → height grown ≡ 2 ^ (k + bits)) → grown.width ≡ m.width → products ≤ height m * m.width
      → HasProductsMore facts a b products → AfterDft facts bytes b c r grown 0 → AfterLdeOfCoefficients facts bytes a c r m bits
  extended_after {bytes = bytes} {a = a} {b = b} {c = c} {r = r} {products = products} m grown bits log whole tall wide most more call = record {
    later = later_still facts a b c (later_by_products facts a b products more) call.later;
    prepared = λ done k high. call.prepared done (k + bits) (tall k high);
    cost = λ k high.
        let made = call.cost (k + bits) (tall k high) in
        let same : facts.transform_products (k + bits) grown.width ≡ facts.transform_products (k + bits) m.width =
        ap (facts.transform_products (k + bits)) wide in
        let entries : height m * m.width ≡ 2 ^ k * m.width = ap (λ h. h * m.width) high in
        omega (arith, more.counter, made, same, entries, most);
    tables = let kept = call.tables in omega (arith, more.same_tables, kept);
    refused =
        subst (λ (room : ℕ). IfErr r (IsWithinEither bytes room facts.table_bytes (facts.tables c)))
        (extended_entries log bits whole (tall log whole) wide) call.refused;
  }

  -- an inverse, and an extension of the coefficients by so many bits
  pub parts_after : {bytes : ℕ} {A B T S : Type 0} {v : B} {p : ℕ → ℕ} {a b c : E} {r : Result A DftError}
      (m : RowMajor T) (n : RowMajor S) (bits : ℕ)
      → HasShapeOf n m
      → ((k : ℕ) → facts.transform_products k m.width + 2 ^ k * m.width + (facts.transform_products (k + bits) m.width + 2 ^ k * m.width) ≤ p k)
      → AfterDft facts bytes a b (Ok v) m 1 → AfterLdeOfCoefficients facts bytes b c r n bits
      → IsAfter facts bytes a c r (height m) (λ k. facts.IsLeftPrepared c k × facts.IsLeftPrepared c (k + bits)) p
      (height m * m.width * 2 ^ bits) (2 ^ bits + 1)
  parts_after {bytes = bytes} {a = a} {b = b} {c = c} {r = r} m n bits (tall, wide) most one other = record {
    later = later_still facts a b c one.later other.later;
    prepared = λ done k high. (other.later.keeps_prepared k (one.prepared refl k high), other.prepared done k (tall ∙ high));
    cost = λ k high.
        let before = one.cost k high in
        let after = other.cost k (tall ∙ high) in
        let same : facts.transform_products (k + bits) n.width + 2 ^ k * n.width
        ≡ facts.transform_products (k + bits) m.width + 2 ^ k * m.width =
        ap (λ w. facts.transform_products (k + bits) w + 2 ^ k * w) wide in
        omega (arith, before, after, same, most k);
    tables = let first = one.tables in let second = other.tables in omega (arith, first, second, pow_pos bits);
    refused =
        subst (λ (room : ℕ). IfErr r (IsWithinEither bytes room facts.table_bytes (facts.tables c)))
        (ap₂ (λ (h w : ℕ). h * w * 2 ^ bits) tall wide) other.refused;
  }

  -- what came before a call made no product
  pub after_later : {bytes : ℕ} {A : Type 0} {h entries tables : ℕ} {known : ℕ → Type 0} {p : ℕ → ℕ} {a b c : E}
      {r : Result A DftError}
      → IsLater facts a b → facts.products_made b ≡ facts.products_made a → facts.tables b ≡ facts.tables a
      → IsAfter facts bytes b c r h known p entries tables → IsAfter facts bytes a c r h known p entries tables
  after_later {a = a} {b = b} {c = c} first same kept call = record {
    later = later_still facts a b c first call.later;
    prepared = call.prepared;
    cost = λ k high. let made = call.cost k high in omega (arith, made, same);
    tables = let grown = call.tables in omega (arith, kept, grown);
    refused = call.refused;
  }

  -- nothing was done
  pub after_none : {bytes : ℕ} {A : Type 0} {v : A} {h entries tables : ℕ} {known : ℕ → Type 0} {p : ℕ → ℕ} {e : E}
      (now : IsOk {E = DftError} (Ok v) → AtLog h known)
      → IsAfter facts bytes e e (Ok v) h known p entries tables
  after_none {e = e} now = record { later = later_same facts e; prepared = now; cost = λ k high. le-add_right _ _; tables = le-add_right _ _; refused = tt }

-- products were made by an engine that shows nothing but their number, and knows of every height what it always did
pub after_counting : {bytes : ℕ} {A F : Type 0} {t : ℕ → ℕ → ℕ} {r : Result A DftError} {h entries tables : ℕ}
    {known : ℕ → Type 0} {p : ℕ → ℕ} (before inside after : ℕ)
    → inside ≡ before → inside ≤ after → ((k : ℕ) → known k)
    → AtLog h (λ k. after ≤ before + p k) → IfErr r (IsWithin bytes entries) → IsAfter
    (plain_facts {F = F} (λ _ k. k ≡ 0) (λ _ _ _. ⊤) (λ _ _. ⊤) t (λ e. e)) bytes before after r h known p entries
    tables
after_counting {bytes = bytes} {r = r} {entries = entries} before inside after is grows known cost room = record {
  later = record { keeps = λ k was. was; keeps_cosets = λ k s was. was; keeps_prepared = λ k was. was; grows = omega (arith, is, grows) };
  prepared = λ done k high. known k;
  cost = cost;
  tables = omega arith;
  refused = if_first bytes bytes entries entries (le_refl _) (le_refl _) 0 0 r room;
}

-- an engine after a call on a matrix that equals another
module _ {E F T A : Type 0} {bytes : ℕ} {facts : EngineFacts E F} {m n : RowMajor T} {a b : E} {result : Result A DftError} where
  pub dft_of_same : (more : ℕ) → m ≡ n → AfterDft facts bytes a b result m more → AfterDft facts bytes a b result n more
  dft_of_same more same call = subst (λ (x : RowMajor T). AfterDft facts bytes a b result x more) same call

  pub lde_of_same : (bits : ℕ) → m ≡ n → AfterLde facts bytes a b result m bits → AfterLde facts bytes a b result n bits
  lde_of_same bits same call = subst (λ (x : RowMajor T). AfterLde facts bytes a b result x bits) same call
