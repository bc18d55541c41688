use Rattle.p3_dft.proofs.Lemmas.{ℕ, vec_capacity, refl, ap, ◌≡◌, ◌+◌, ◌<◌, ◌≤◌, le_trans, ◌++◌, List, [], ◌∷◌, length, take, subst, sym, ◌∙◌, arith, inr, inl}
use Rattle.p3_dft.proofs.Lemmas.{le-add_left, nil_from_length, All-nil, All-push, All-rest, All-take, All-weaker, all_zipped_more, IfOk-from_err, All, AllZip}
use Rattle.p3_dft.proofs.Lemmas.{into_iter_items, RowMajor, AreFirstAnswers, CanRun, HasMade, IsAnswer, IsPreparedFor, later_same, later_still, costs_more}
use Rattle.p3_dft.proofs.Lemmas.{costs_none, costs_rest, first_answers, next_is, next_not_promised, next_of_all, of_all, on_any_error, ready_later, split_more}
use Rattle.p3_dft.proofs.Lemmas.{taken, taken_and_next, not_ok}
use Rattle.p3_dft.proofs.Calls.JobRuns.{told_of_job, told_of_list}
use Rattle.p3_dft.proofs.jobs.answer_jobs.Goals as goal

-- where there was no room for answers, there are jobs, and no answer
module _ (answers additional jobs all : ℕ) (none : answers ≡ 0) (as_many : additional ≡ jobs) (are : jobs ≡ all) where
  some_jobs : (capacity : ℕ) → capacity < answers + additional → 0 < all
  some_jobs capacity full = omega (arith, full, none, as_many, are)

  room_for_all : answers + additional ≤ all
  room_for_all = omega (arith, none, as_many, are)

no_room_left : (answers answered jobs all capacity : ℕ) → answers ≡ answered → jobs ≡ all → answered < all → jobs ≤ capacity → capacity ≤ answers → ⊥
no_room_left answers answered jobs all capacity here are some room full = absurd (omega (arith, here, are, some, room, full))

pub run_job-requires : goal.run_job-requires
run_job-requires g c =
    record { runnable = next_of_all (CanRun g.F.Valued g.F.TwoAdicField.TWO_ADICITY) c.in-Some.job _ _ c.in-Some.ensures.steps.0 c.loop-job.invariant.runnable }

pub loop-job-init : goal.loop-job-init
loop-job-init g c =
    let given : into_iter_items c.into_iter-job-iterator.result ≡ c.args.jobs.items = c.into_iter-job-iterator.ensures.into_iter_gives.0 in
    let none : c.reserve_exact.new.items.items ≡ [] = c.in_ok-reserve_exact.ensures.items ∙ c.requires.empty in
    record {
      split = sym given;
      answered = subst (λ (ys : List (RowMajor g.row.F.Denot)). AllZip (IsAnswer g.F.Valued g.F.TwoAdicField.generator) [] ys) (sym none) tt;
      runnable = subst (λ xs. All (CanRun g.F.Valued g.F.TwoAdicField.TWO_ADICITY) xs) (sym given) c.requires.runnable;
      room = subst (λ (n : ℕ). n ≤ vec_capacity c.reserve_exact.new.items) c.len.ensures (le_trans (le-add_left _ _) c.in_ok-reserve_exact.ensures.ok);
      served = All-nil (IsPreparedFor g.D.TwoAdicSubgroupDft.facts c.args.engine.now);
      cost = costs_none g.D.TwoAdicSubgroupDft.facts [] _ refl;
      later = later_same g.D.TwoAdicSubgroupDft.facts _;
    }

pub loop-job-preserved : goal.loop-job-preserved
loop-job-preserved g c =
    let answers = IsAnswer g.F.Valued g.F.TwoAdicField.generator in
    let next = c.in-Some.ensures.steps.0 in
    let so_far = c.loop-job.invariant in
    let facts = g.D.TwoAdicSubgroupDft.facts in
    record {
      split = split_more _ c.loop-job.yielded _ _ c.in-Some.job so_far.split next;
      answered = subst (λ (ys : List (RowMajor g.row.F.Denot)). AllZip answers (c.loop-job.yielded ++ c.in-Some.job ∷ []) ys) (sym c.in_ok-push.ensures.items)
          (all_zipped_more answers c.loop-job.yielded c.loop-job.answers.items c.in-Some.job c.in_ok-answer.answer
          so_far.answered c.in_ok-answer.ensures.answer);
      runnable = All-rest (CanRun g.F.Valued g.F.TwoAdicField.TWO_ADICITY) c.in-Some.job _ _ next so_far.runnable;
      room = le_trans so_far.room c.in_ok-push.ensures.capacity;
      served = All-push (IsPreparedFor facts c.run_job.new.engine) c.loop-job.yielded c.in-Some.job
          (All-weaker (IsPreparedFor facts c.loop-job.engine) (IsPreparedFor facts c.run_job.new.engine) (ready_later facts _ _ c.in_ok-answer.ensures.later)
          c.loop-job.yielded so_far.served)
          c.in_ok-answer.ensures.prepares;
      cost = costs_more facts g.F.Valued g.F.TwoAdicField.TWO_ADICITY c.loop-job.yielded c.in-Some.job _ _ _
          (next_of_all (CanRun g.F.Valued g.F.TwoAdicField.TWO_ADICITY) c.in-Some.job _ _ next so_far.runnable) so_far.cost c.in_ok-answer.ensures.cost;
      later = later_still facts _ _ _ so_far.later c.in_ok-answer.ensures.later;
    }

pub returns-in_err-reserve_exact : goal.returns-in_err-reserve_exact
returns-in_err-reserve_exact g c =
    let err = c.from_residual.ensures.0 in
    let none = c.in_err-reserve_exact.ensures.items ∙ c.requires.empty in
    let empty : c.args.answers.now.len ≡ 0 = c.args.answers.now.ok.0 ∙ ap length c.requires.empty in
    record {
      all = IfOk-from_err _ _ err;
      prepares = IfOk-from_err _ _ err;
      cost =
          costs_rest g.D.TwoAdicSubgroupDft.facts g.F.Valued g.F.TwoAdicField.TWO_ADICITY c.args.jobs.items []
          c.args.jobs.items _ _ refl c.requires.runnable (costs_none g.D.TwoAdicSubgroupDft.facts [] _ refl);
      first = on_any_error _ (subst (AreFirstAnswers g.F.Valued g.F.TwoAdicField.generator c.args.jobs.items) (sym none)
          (record { fewer = some_jobs _ _ _ _ empty c.len.ensures c.args.jobs.ok.0 _ c.in_err-reserve_exact.ensures.full; answered = tt }));
      prepares_first = on_any_error _ (subst (λ (ys : List (RowMajor g.row.F.Denot)). All
          (IsPreparedFor g.D.TwoAdicSubgroupDft.facts c.args.engine.now) (take (length ys) c.args.jobs.items))
          (sym none) (All-nil (IsPreparedFor g.D.TwoAdicSubgroupDft.facts c.args.engine.now)));
      cost_of_first =
          on_any_error _ (costs_rest g.D.TwoAdicSubgroupDft.facts g.F.Valued g.F.TwoAdicField.TWO_ADICITY _ [] _ _ _
          refl (All-take (CanRun g.F.Valued g.F.TwoAdicField.TWO_ADICITY) _ c.args.jobs.items c.requires.runnable)
          (costs_none g.D.TwoAdicSubgroupDft.facts [] _ refl));
      refused = on_any_error _ (inl (refl, none));
      later = later_same _ _;
      room =
          told_of_list g.D.TwoAdicSubgroupDft.facts _ _ _ _ _ _ c.from_residual.result _ c.from_residual.ensures
          (room_for_all _ _ _ _ empty c.len.ensures c.args.jobs.ok.0) c.in_err-reserve_exact.ensures.room;
    }

-- A job was refused: the answers so far are those of the jobs before it, and its call made no more products than it costs.
-- The jobs that were not run have costs too, so that the bound for all holds.
pub returns-in_err-answer : goal.returns-in_err-answer
returns-in_err-answer g c =
    let err = c.from_residual-in_err-answer.ensures.0 in
    let runs = CanRun g.F.Valued g.F.TwoAdicField.TWO_ADICITY in
    let answers = IsAnswer g.F.Valued g.F.TwoAdicField.generator in
    let facts = g.D.TwoAdicSubgroupDft.facts in
    let next = c.in-Some.ensures.steps.0 in
    let so_far = c.loop-job.invariant in
    let result = c.from_residual-in_err-answer.result in
    let made =
    costs_more facts g.F.Valued g.F.TwoAdicField.TWO_ADICITY c.loop-job.yielded c.in-Some.job _ _ _
    (next_of_all runs c.in-Some.job _ _ next so_far.runnable) so_far.cost c.run_job.ensures.cost in
    record {
      all = IfOk-from_err _ _ err;
      prepares = IfOk-from_err _ _ err;
      cost =
          costs_rest facts g.F.Valued g.F.TwoAdicField.TWO_ADICITY _ _ _ _ _
          (split_more _ c.loop-job.yielded _ _ c.in-Some.job so_far.split next)
          (All-rest runs c.in-Some.job _ _ next so_far.runnable) made;
      first =
          on_any_error result (first_answers g.F.Valued g.F.TwoAdicField.generator c.args.jobs.items c.loop-job.yielded
          _ _ c.in-Some.job c.loop-job.answers.items so_far.split next so_far.answered);
      prepares_first = on_any_error result (subst (All (IsPreparedFor facts c.run_job.new.engine))
          (sym (taken answers c.args.jobs.items c.loop-job.yielded _ c.loop-job.answers.items so_far.split
          so_far.answered))
          (All-weaker (IsPreparedFor facts c.loop-job.engine) (IsPreparedFor facts c.run_job.new.engine)
          (ready_later facts _ _ c.run_job.ensures.later) c.loop-job.yielded so_far.served));
      cost_of_first =
          on_any_error result (subst (HasMade facts c.args.engine.now c.run_job.new.engine) (sym (taken_and_next answers
          c.args.jobs.items c.loop-job.yielded _ _ c.in-Some.job c.loop-job.answers.items so_far.split next
          so_far.answered)) made);
      refused =
          on_any_error result (inr (next_not_promised g.F.Valued g.F.TwoAdicField.generator facts c.args.jobs.items
          c.loop-job.yielded _ _ c.in-Some.job c.loop-job.answers.items c.args.engine.now c.loop-job.engine
          so_far.split next so_far.answered so_far.later
          (λ promised. not_ok c.run_job.result _ c.in_err-answer.was (c.run_job.ensures.succeeds promised))));
      later = later_still _ _ _ _ so_far.later c.run_job.ensures.later;
      room = told_of_job facts _ _ _ _ _ c.in-Some.job result _ c.from_residual-in_err-answer.ensures
          (λ d. next_is g.F.Valued g.F.TwoAdicField.generator c.args.jobs.items c.loop-job.yielded _ _ c.in-Some.job
          c.loop-job.answers.items d so_far.split next so_far.answered)
          c.in_err-answer.ensures.room;
    }

-- there is room for the answer to each job
pub returns-in_err-push : goal.returns-in_err-push
returns-in_err-push g c =
    let first =
    first_answers g.F.Valued g.F.TwoAdicField.generator c.args.jobs.items c.loop-job.yielded _ _ c.in-Some.job
    c.loop-job.answers.items c.loop-job.invariant.split c.in-Some.ensures.steps.0 c.loop-job.invariant.answered in
    absurd (no_room_left _ _ _ _ _ c.loop-job.answers.ok.0 c.args.jobs.ok.0 first.fewer c.loop-job.invariant.room c.in_err-push.ensures.full)

pub returns : goal.returns
returns g c =
    record {
      all =
          let left = into_iter_items c.loop-job.job-iterator in
          let none : left ≡ [] =
          nil_from_length left (sym c.loop-job.job-iterator.rest.ok.0 ∙ c.in-None.ensures.steps.0) in
          of_all (λ xs. AllZip (IsAnswer g.F.Valued g.F.TwoAdicField.generator) xs c.loop-job.answers.items) _
          c.loop-job.yielded left c.loop-job.invariant.split none c.loop-job.invariant.answered;
      prepares =
          let left = into_iter_items c.loop-job.job-iterator in
          let none : left ≡ [] =
          nil_from_length left (sym c.loop-job.job-iterator.rest.ok.0 ∙ c.in-None.ensures.steps.0) in
          of_all (λ xs. All (IsPreparedFor g.D.TwoAdicSubgroupDft.facts c.loop-job.engine) xs) _ c.loop-job.yielded left
          c.loop-job.invariant.split none c.loop-job.invariant.served;
      cost =
          costs_rest g.D.TwoAdicSubgroupDft.facts g.F.Valued g.F.TwoAdicField.TWO_ADICITY _ c.loop-job.yielded _ _ _
          c.loop-job.invariant.split c.loop-job.invariant.runnable c.loop-job.invariant.cost;
      first = tt;
      prepares_first = tt;
      cost_of_first = tt;
      refused = tt;
      later = c.loop-job.invariant.later;
      room = tt;
    }
