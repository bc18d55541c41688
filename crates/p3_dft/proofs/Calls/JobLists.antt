-- Lists of jobs that are answered one after another.
use Rattle.p3_dft.proofs.Names.{◌≡◌, ℕ, ◌+◌, ◌*◌, ◌^◌, ◌≤◌, List, [], ◌∷◌, ◌++◌, length, take, get_or, refl, sym, ap, ◌∙◌, subst, append_assoc, length-append}
use Rattle.p3_dft.proofs.Names.{arith, Result, Ok, Err, OnErr, append-nil, All-rest, sum_by_push, AllZip-long, all_zipped_more, All, AllZip, sum, RowMajor}
use Rattle.p3_dft.proofs.Names.{EngineFacts, IsLater, AreFirstAnswers, CanRun, IsAnswer, IsCost, IsPromised, IsPreparedFor, NextIsNotPromised}
use Rattle.std.proofs.Math.Seq.{get_or-append_seam, take-append_seam}
use Rattle.p3_dft.proofs.Calls.Stored.{at_log}
use Rattle.p3_field.specs.declared.fields.Valued.{Ghosts as FieldMembers}
use Rattle.p3_dft.specs.declared.jobs.Job.{Job}
use Rattle.p3_dft.specs.declared.jobs.Job.TheVariants.{Dft, CosetDft, Idft, CosetIdft, Lde, CosetLde}

-- what holds anyway holds on an error
pub on_any_error : {T E P : Type 0} (r : Result T E) → P → OnErr r P
on_any_error (Ok x) p = tt
on_any_error (Err e) p = p

-- one more element was taken
pub split_more : {X : Type 0} (all done left later : List X) (x : X) → all ≡ done ++ left → left ≡ x ∷ later → all ≡ (done ++ x ∷ []) ++ later
split_more all done left later x split next = split ∙ ap (λ rest. done ++ rest) next ∙ sym (append_assoc done (x ∷ []) later)

-- as many of all as were answered are those that were taken, and one more is the next
pub taken : {X Y : Type 0} (R : X → Y → Type 0) (all done left : List X) (answers : List Y) → all ≡ done ++ left → AllZip R done answers
    → take (length answers) all ≡ done
taken R all done left answers split answered =
    ap (take (length answers)) split ∙ ap (λ n. take n (done ++ left)) (AllZip-long R done answers answered) ∙ take-append_seam done left

pub taken_and_next : {X Y : Type 0} (R : X → Y → Type 0) (all done left later : List X) (x : X) (answers : List Y) → all ≡ done ++ left → left ≡ x ∷ later
    → AllZip R done answers → take (length answers + 1) all ≡ done ++ x ∷ []
taken_and_next R all done left later x answers split next answered =
    let long : length answers + 1 ≡ length (done ++ x ∷ []) = omega (arith, AllZip-long R done answers answered, length-append done (x ∷ [])) in
    ap (take (length answers + 1)) (split_more all done left later x split next) ∙ ap (λ n. take n ((done ++ x ∷ []) ++ later)) long
    ∙ take-append_seam (done ++ x ∷ []) later

module _ {E F : Type 0} (facts : EngineFacts E F) where
  -- promises that stay are promises of jobs that stay
  pub promised_later : (a b : E) → IsLater facts a b → (job : Job F) → IsPromised facts a job → IsPromised facts b job
  promised_later a b later (Dft m) (k, high, promised) = (k, high, later.keeps k promised)
  promised_later a b later (CosetDft m s) (k, high, promised, coset) = (k, high, later.keeps k promised, later.keeps_cosets k s coset)
  promised_later a b later (Idft m) (k, high, promised) = (k, high, later.keeps k promised)
  promised_later a b later (CosetIdft m s) (k, high, promised) = (k, high, later.keeps k promised)
  promised_later a b later (Lde m x) none = none
  promised_later a b later (CosetLde m x s) none = none

  -- what stays known of heights stays known of those of a job
  pub ready_later : (a b : E) → IsLater facts a b → (job : Job F) → IsPreparedFor facts a job → IsPreparedFor facts b job
  ready_later a b later (Dft m) ready = λ k high. later.keeps_prepared k (ready k high)
  ready_later a b later (CosetDft m s) ready = λ k high. later.keeps_prepared k (ready k high)
  ready_later a b later (Idft m) ready = λ k high. later.keeps_prepared k (ready k high)
  ready_later a b later (CosetIdft m s) ready = λ k high. later.keeps_prepared k (ready k high)
  ready_later a b later (Lde m x) ready = λ k high. let both = ready k high in (later.keeps_prepared k both.0, later.keeps_prepared (k + x) both.1)
  ready_later a b later (CosetLde m x s) ready = λ k high. let both = ready k high in (later.keeps_prepared k both.0, later.keeps_prepared (k + x) both.1)

  -- a job that can be run has a cost
  cost_of : (f : FieldMembers F) (bits : ℕ) (job : Job F) → CanRun f bits job → (n : ℕ) × IsCost facts job n
  cost_of f bits (Dft m) fits = (facts.transform_products fits.log m.width, at_log _ _ fits.log fits.height refl)
  cost_of f bits (CosetDft m s) fits = (facts.transform_products fits.log m.width + 2 ^ fits.log * m.width, at_log _ _ fits.log fits.height refl)
  cost_of f bits (Idft m) fits = (facts.transform_products fits.log m.width + 2 ^ fits.log * m.width, at_log _ _ fits.log fits.height refl)
  cost_of f bits (CosetIdft m s) (fits, invertible) =
      (facts.transform_products fits.log m.width + 2 * (2 ^ fits.log * m.width), at_log _ _ fits.log fits.height refl)
  cost_of f bits (Lde m a) fits = (facts.extension_products fits.log a m.width, at_log _ _ fits.log fits.height refl)
  cost_of f bits (CosetLde m a s) fits = (facts.extension_products fits.log a m.width, at_log _ _ fits.log fits.height refl)

  -- no job, and one more, that made no more than its cost
  pub costs_none : (none : List (Job F)) (before : ℕ) → none ≡ [] → (costs : List ℕ) × AllZip (IsCost facts) none costs × (before ≤ before + sum costs)
  costs_none none before is = ([], rw is tt, omega arith)

  pub costs_more : (f : FieldMembers F) (bits : ℕ) (done : List (Job F)) (job : Job F) (before now after : ℕ) → CanRun f bits job
      → (costs : List ℕ) × AllZip (IsCost facts) done costs × (now ≤ before + sum costs) → ((n : ℕ) → IsCost facts job n → after ≤ now + n)
      → (costs : List ℕ) × AllZip (IsCost facts) (done ++ job ∷ []) costs × (after ≤ before + sum costs)
  costs_more f bits done job before now after runs (costs, each, so_far) turn =
      let (n, is) = cost_of f bits job runs in
      let made : after ≤ now + n = turn n is in
      let total : sum (costs ++ n ∷ []) ≡ sum costs + n = sum_by_push (λ (x : ℕ). x) costs n in
      (costs ++ n ∷ [], all_zipped_more (IsCost facts) done costs job n each is, omega (arith, so_far, made, total))

module _ {F : Type 0} (f : FieldMembers F) (generator : ℕ → F) where
  -- the answers to the jobs before one that stands unanswered
  pub first_answers : (jobs done left later : List (Job F)) (job : Job F) (answers : List (RowMajor F)) → jobs ≡ done ++ left → left ≡ job ∷ later
      → AllZip (IsAnswer f generator) done answers → AreFirstAnswers f generator jobs answers
  first_answers jobs done left later job answers split next answered =
      let counted : length answers ≡ length done = AllZip-long (IsAnswer f generator) done answers answered in
      let whole : jobs ≡ done ++ job ∷ later = split ∙ ap (λ rest. done ++ rest) next in
      record {
        fewer = omega (arith, counted, ap length whole, length-append done (job ∷ later));
        answered = subst (λ (xs : List (Job F)). AllZip (IsAnswer f generator) xs answers)
            (sym (taken (IsAnswer f generator) jobs done left answers split answered)) answered;
      }

  -- the next job is the one whose place has no answer
  pub next_is : (jobs done left later : List (Job F)) (job : Job F) (answers : List (RowMajor F)) (d : Job F)
      → jobs ≡ done ++ left → left ≡ job ∷ later → AllZip (IsAnswer f generator) done answers
      → get_or jobs (length answers) d ≡ job
  next_is jobs done left later job answers d split next answered =
      let counted : length answers ≡ length done = AllZip-long (IsAnswer f generator) done answers answered in
      ap (λ xs. get_or xs (length answers) d) (split ∙ ap (λ rest. done ++ rest) next)
      ∙ ap (λ n. get_or (done ++ job ∷ later) n d) counted ∙ get_or-append_seam done job later d

  -- where the next job was refused, it was not promised, nor was it before
  pub next_not_promised : {E : Type 0} (facts : EngineFacts E F) (jobs done left later : List (Job F)) (job : Job F)
      (answers : List (RowMajor F)) (before now : E)
      → jobs ≡ done ++ left → left ≡ job ∷ later → AllZip (IsAnswer f generator) done answers → IsLater facts before now
      → (IsPromised facts now job → ⊥) → NextIsNotPromised facts before jobs answers
  next_not_promised facts jobs done left later job answers before now split next answered kept refused d promised =
      let is = next_is jobs done left later job answers d split next answered in
      refused (promised_later facts before now kept job (subst (λ (x : Job F). IsPromised facts before x) is promised))

-- what holds of those that were taken holds of all, when none is left
pub of_all : {X : Type 0} (P : List X → Type 0) (all done left : List X) → all ≡ done ++ left → left ≡ [] → P done → P all
of_all P all done left split none known = subst P (sym (split ∙ ap (λ rest. done ++ rest) none ∙ append-nil done)) known

-- the next one is one of all
pub next_of_all : {X : Type 0} (P : X → Type 0) (x : X) (later left : List X) → left ≡ x ∷ later → All P left → P x
next_of_all P x later left next known = subst (All P) next known 0 x (omega arith)

-- the jobs that are left have costs too
pub costs_rest : {E F : Type 0} (facts : EngineFacts E F) (f : FieldMembers F) (bits : ℕ)
    (jobs done left : List (Job F)) (before now : ℕ)
    → jobs ≡ done ++ left → All (CanRun f bits) left
    → (costs : List ℕ) × AllZip (IsCost facts) done costs × (now ≤ before + sum costs) → (costs : List ℕ)
    × AllZip (IsCost facts) jobs costs × (now ≤ before + sum costs)
costs_rest facts f bits jobs done [] before now split runs so_far =
    of_all (λ xs. (costs : List ℕ) × AllZip (IsCost facts) xs costs × (now ≤ before + sum costs)) jobs done [] split refl so_far
costs_rest facts f bits jobs done (job ∷ left) before now split runs so_far =
    costs_rest facts f bits jobs (done ++ job ∷ []) left before now
    (split_more jobs done (job ∷ left) left job split refl)
    (All-rest (CanRun f bits) job left (job ∷ left) refl runs)
    (costs_more facts f bits done job before now now (next_of_all (CanRun f bits) job left (job ∷ left) refl runs) so_far (λ n is. omega arith))
