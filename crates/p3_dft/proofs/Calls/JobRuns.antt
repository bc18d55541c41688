-- What the call for a job answers, and what it leaves of the engine.
use Rattle.p3_dft.proofs.Names.{◌≡◌, ℕ, ◌^◌, ◌≤◌, inl, inr, List, length, get_or, Result, Ok, Err, IfErr, IfOk, IsOk, IsErr, IsErrAnd, refl, sym, ap, ◌∙◌}
use Rattle.p3_dft.proofs.Names.{subst, arith, le_refl, IfErr-at_err, IfOk-at_ok, IfOk-from_err, RowMajor, height, AfterDft, AfterLde, AtLog, EngineFacts}
use Rattle.p3_dft.proofs.Names.{IsAfter, IsExtension, IsWithin, IsWithinEither, either_of, within_more, CanRun, IsAnswer, IsCost, IsPreparedFor, IsPromised}
use Rattle.p3_dft.proofs.Names.{IsRun, RanOut, answer_entries, FitsDft, FitsLde, IsInterpolation, IsTransform}
use Rattle.p3_dft.proofs.Calls.EngineSteps.{where_ok}
use Rattle.p3_dft.proofs.Calls.PreparedHeights.{not_ok}
use Rattle.p3_field.specs.declared.fields.Valued.{Ghosts as FieldMembers}
use Rattle.p3_matrix.specs.declared.error.DftError.{DftError}
use Rattle.p3_dft.specs.declared.jobs.Job.{Job}
use Rattle.p3_dft.specs.declared.jobs.Job.TheVariants.{Dft, CosetDft, Idft, CosetIdft, Lde, CosetLde}

module _ {E F : Type 0} {facts : EngineFacts E F} {bytes : ℕ} {f : FieldMembers F} {generator : ℕ → F} where
  -- a call on 2 ^ k rows that answers a job
  run_of : {V : Type 0} {h k tables : ℕ} {known : ℕ → Type 0} {p : ℕ → ℕ} {job : Job F} {natural : V → RowMajor F}
      {a b : E} {r : Result V DftError} (asked : Job F)
      → job ≡ asked → h ≡ 2 ^ k → IfOk r (λ v. IsAnswer f generator asked (natural v)) → (IsPromised facts a asked → IsOk r)
      → IsAfter facts bytes a b r h known p (answer_entries asked) tables → (AtLog h known → IsPreparedFor facts b asked)
      → ((n : ℕ) → IsCost facts asked n → p k ≤ n) → IsRun facts bytes f generator job natural a b r
  run_of {k = k} {natural = natural} {a = a} {b = b} {r = r} asked is high values promised call ready bound =
      let made = call.cost k high in
      subst (λ (j : Job F). IsRun facts bytes f generator j natural a b r) (sym is) (record {
        answer = values;
        succeeds = promised;
        prepares = where_ok r (λ ok. ready (call.prepared ok));
        cost = λ n cost. let most = bound n cost in omega (arith, made, most);
        later = call.later;
        room = call.refused;
      })

  module _ {V : Type 0} {job : Job F} {m : RowMajor F} {natural : V → RowMajor F} {a b : E} {r : Result V DftError} (bits : ℕ)
      (runs : CanRun f bits job) where
    pub dft_run : job ≡ Dft m → IfOk r (λ v. IsTransform f generator m f.ring.one (natural v))
        → AtLog (height m) (λ k. facts.Succeeds a k → IsOk r) → AfterDft facts bytes a b r m 0
        → IsRun facts bytes f generator job natural a b r
    dft_run is values promised call =
        let fits : FitsDft bits (height m) m.width = subst (CanRun f bits) is runs in
        run_of (Dft m) is fits.height values (λ p. promised p.0 p.1 p.2) call (λ ready. ready)
        (λ n cost. let same = cost fits.log fits.height in omega (arith, same))

    pub coset_dft_run : (s : F) → job ≡ CosetDft m s → IfOk r (λ v. IsTransform f generator m (f.value s) (natural v))
        → AtLog (height m) (λ k. facts.Succeeds a k → facts.SucceedsOnCoset a k s → IsOk r)
        → AfterDft facts bytes a b r m 1 → IsRun facts bytes f generator job natural a b r
    coset_dft_run s is values promised call =
        let fits : FitsDft bits (height m) m.width = subst (CanRun f bits) is runs in
        run_of (CosetDft m s) is fits.height values (λ p. promised p.0 p.1 p.2 p.3) call (λ ready. ready)
        (λ n cost. let same = cost fits.log fits.height in omega (arith, same))

    pub idft_run : job ≡ Idft m → IfOk r (λ v. IsInterpolation f generator m f.ring.one (natural v))
        → AtLog (height m) (λ k. facts.Succeeds a k → IsOk r) → AfterDft facts bytes a b r m 1
        → IsRun facts bytes f generator job natural a b r
    idft_run is values promised call =
        let fits : FitsDft bits (height m) m.width = subst (CanRun f bits) is runs in
        run_of (Idft m) is fits.height values (λ p. promised p.0 p.1 p.2) call (λ ready. ready)
        (λ n cost. let same = cost fits.log fits.height in omega (arith, same))

    pub coset_idft_run : (s : F) → job ≡ CosetIdft m s
        → IfOk r (λ v. IsInterpolation f generator m (f.value s) (natural v))
        → AtLog (height m) (λ k. facts.Succeeds a k → IsOk r) → AfterDft facts bytes a b r m 2
        → IsRun facts bytes f generator job natural a b r
    coset_idft_run s is values promised call =
        let fits : FitsDft bits (height m) m.width = (subst (CanRun f bits) is runs).0 in
        run_of (CosetIdft m s) is fits.height values (λ p. promised p.0 p.1 p.2) call (λ ready. ready)
        (λ n cost. let same = cost fits.log fits.height in omega (arith, same))

    pub lde_run : (added : ℕ) → job ≡ Lde m added → IfOk r (λ v. IsExtension f generator m added f.ring.one (natural v))
        → AfterLde facts bytes a b r m added → IsRun facts bytes f generator job natural a b r
    lde_run added is values call =
        let fits : FitsLde bits (height m) m.width added = subst (CanRun f bits) is runs in
        run_of (Lde m added) is fits.height values (λ p. absurd p) call (λ ready. ready)
        (λ n cost. let same = cost fits.log fits.height in omega (arith, same))

    pub coset_lde_run : (added : ℕ) (s : F) → job ≡ CosetLde m added s
        → IfOk r (λ v. IsExtension f generator m added (f.value s) (natural v)) → AfterLde facts bytes a b r m added
        → IsRun facts bytes f generator job natural a b r
    coset_lde_run added s is values call =
        let fits : FitsLde bits (height m) m.width added = subst (CanRun f bits) is runs in
        run_of (CosetLde m added s) is fits.height values (λ p. absurd p) call (λ ready. ready)
        (λ n cost. let same = cost fits.log fits.height in omega (arith, same))

  -- where memory was refused, any other error says the same
  pub run_refused : {V W : Type 0} {natural : V → RowMajor F} {job : Job F} {stored : W → RowMajor F} {a b : E}
      {r : Result V DftError} {e : DftError} {s : Result W DftError}
      → r ≡ Err e → IsErr s × IsErrAnd s (λ y. y ≡ e)
      → IsRun facts bytes f generator job natural a b r → IsRun facts bytes f generator job stored a b s
  run_refused {job = job} {b = b} {r = r} {e = e} {s = s} was (err, same) run = record {
    room =
        either_of bytes bytes (answer_entries job) (answer_entries job) (le_refl _) (le_refl _) facts.table_bytes
        (facts.tables b) (facts.tables b) (le_refl _) s e (err, same) (IfErr-at_err _ was run.room);
    answer = IfOk-from_err s _ err;
    succeeds = λ p. absurd (not_ok r e was (run.succeeds p));
    prepares = IfOk-from_err s _ err;
    cost = run.cost;
    later = run.later;
  }

  -- an answer, as it is stored
  pub run_stored : {V : Type 0} {natural : V → RowMajor F} {job : Job F} {a b c : E} {r : Result V DftError} {v w : V}
      {out : RowMajor F}
      → r ≡ Ok v → c ≡ b → w ≡ v → out ≡ natural w
      → IsRun facts bytes f generator job natural a b r → IsRun facts bytes f generator job (λ o. o) a c (Ok out)
  run_stored {natural = natural} {job = job} {a = a} {b = b} {out = out} was engine same stored run =
      subst (λ (e : E). IsRun facts bytes f generator job (λ o. o) a e (Ok out)) (sym engine) (record {
        answer =
            subst (λ (o : RowMajor F). IsAnswer f generator job o) (sym (stored ∙ ap natural same))
            (IfOk-at_ok (λ x. IsAnswer f generator job (natural x)) was run.answer);
        succeeds = λ p. refl;
        prepares = IfOk-at_ok (λ x. IsPreparedFor facts b job) was run.prepares;
        cost = run.cost;
        later = run.later;
        room = tt;
      })

-- what the error that `?` hands on tells of the job without an answer, whatever stands past the end of the list
pub told_of_job : {A E F : Type 0} (facts : EngineFacts E F) (bytes matrix_bytes : ℕ) (b : E) (jobs : List (Job F))
    (answers : List (RowMajor F)) (job : Job F) (r : Result A DftError) (e : DftError)
    → IsErr r
    × IsErrAnd r (λ y. y ≡ e) → ((d : Job F) → get_or jobs (length answers) d ≡ job)
    → IsWithinEither bytes (answer_entries job) facts.table_bytes (facts.tables b) e
    → IfErr r (RanOut facts bytes matrix_bytes b jobs answers)
told_of_job facts bytes matrix_bytes b jobs answers job (Ok x) e told next within = tt
told_of_job facts bytes matrix_bytes b jobs answers job (Err y) e (err, same) next within =
    inr (λ d. subst (λ (j : Job _). IsWithinEither bytes (answer_entries j) facts.table_bytes (facts.tables b) y)
    (sym (next d))
    (subst (IsWithinEither bytes (answer_entries job) facts.table_bytes (facts.tables b)) (sym same) within))

-- and of the list of answers
pub told_of_list : {A E F : Type 0} (facts : EngineFacts E F) (bytes matrix_bytes : ℕ) (b : E) (jobs : List (Job F))
    (answers : List (RowMajor F)) (n : ℕ) (r : Result A DftError) (e : DftError)
    → IsErr r × IsErrAnd r (λ y. y ≡ e) → n ≤ length jobs → IsWithin matrix_bytes n e → IfErr r (RanOut facts bytes matrix_bytes b jobs answers)
told_of_list facts bytes matrix_bytes b jobs answers n (Ok x) e told few within = tt
told_of_list facts bytes matrix_bytes b jobs answers n (Err y) e (err, same) few within =
    inl (subst (IsWithin matrix_bytes (length jobs)) (sym same) (within_more matrix_bytes n (length jobs) few e within))
