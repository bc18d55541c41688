use Rattle.p3_dft.proofs.Lemmas.{◌≡◌, ◌⊎◌, inl, inr, Bool, false, ℕ, ◌^◌, IsTrue, length, refl, sym, ap, ◌∙◌, arith, rules, ◌≤◌, max, le-add_right, le_refl}
use Rattle.p3_dft.proofs.Lemmas.{IfOk-from_err, on_ok_weaker, Coset, HasCoset, either_of, CosetEngineState, row_handed_back, row_seen, transform_seen}
use Rattle.p3_dft.proofs.Lemmas.{larger_bound, after_none, on_any_error, coset_stays, later_with_tables, one_table_more, tabled, no_larger, none_above, not_ok}
use Rattle.p3_dft.proofs.Lemmas.{one_less_fits, powers_fit, at_log}
use Rattle.p3_dft.proofs.radix_2_dit_parallel.Radix2DitParallelTwoAdicSubgroupDft.coset_dft_batch.Goals as goal

not_both : (b : Bool) → b ≡ false → IsTrue b → ⊥
not_both b fails holds = cc

-- what a table needs, of what makes a coset prepared that is not the subgroup and has more than a point
its_table : {O T P H : Type 0} → (O → ⊥) → (P → ⊥) → P ⊎ ((O × T) ⊎ ((O → ⊥) × H)) → H
its_table other more (inl point) = absurd (more point)
its_table other more (inr (inl (one, there))) = absurd (other one)
its_table other more (inr (inr (other_too, has))) = has

-- the subgroup is prepared where the coset of one is
its_heights : {O H : Type 0} {k n : ℕ} → O → (k ≡ 0) ⊎ ((O × (k ≤ n)) ⊎ ((O → ⊥) × H)) → k ≤ n
its_heights one (inl point) = omega (arith, point)
its_heights one (inr (inl (same, there))) = there
its_heights one (inr (inr (other, has))) = absurd (other one)

-- and as one it is prepared, once its height is
prepared_alone : {O P H : Type 0} (k n m : ℕ) → O → n ≡ max m k → P ⊎ ((O × (k ≤ n)) ⊎ H)
prepared_alone k n m one made = let there : k ≤ n = omega (arith, made) in inr (inl (one, there))

pub returns-then-eq : goal.returns-then-eq
returns-then-eq g c =
    let is : g.F.Valued.value c.args.shift ≡ g.F.Valued.ring.one =
    (g.met.F.Field.eq_law c.args.shift c.ONE.result).0 (search rules) ∙ ap g.F.Valued.value c.ONE.ensures
    ∙ g.met.F.Field.one_law in
    let call = c.dft_batch.ensures in
    record {
      values = rw is call.values;
      succeeds = λ k high heights ready. call.succeeds k high heights;
      on_prepared = λ k high ready. call.succeeds k high (its_heights is ready);
      tables = λ k high. on_ok_weaker c.dft_batch.result (prepared_alone k _ _ is) (call.made k high);
      only =
          λ k high. none_above (λ (e : CosetEngineState g.row.F.Denot). e.roots.prepared) c.dft_batch.result _ _ k
          (call.made k high) call.refused;
      roots = λ other. absurd (other is);
      once = λ k high ready. call.cosets;
      one = λ same. call.cosets;
      cosets = λ k high. inl call.cosets;
      refused = call.refused;
      one_row = call.one_row;
      engine = record {
        tables = call.engine.tables;
        later = call.engine.later;
        prepared = call.engine.prepared;
        cost = λ k high. larger_bound _ _ _ _ (call.engine.cost k high) (omega arith);
        refused = call.engine.refused;
      };
      pairs = λ k high. omega (arith, call.engine.cost k high);
    }

pub returns-then-height-eq1-clause-values : goal.returns-then-height-eq1-clause-values
returns-then-height-eq1-clause-values g c =
    rw (← c.into_row_major_matrix-mat.ensures) (row_seen g.F.Valued g.F.TwoAdicField.generator _ _ _ _
    c.height.ensures.whole (sym c.height.ensures.height ∙ c.if-height-eq1.true) c.bit_reverse_rows.ensures.matrix
    c.bit_reverse_rows.ensures.height)

pub returns-then-height-eq1-clause-tables : goal.returns-then-height-eq1-clause-tables
returns-then-height-eq1-clause-tables g c =
    rw (← c.into_row_major_matrix-mat.ensures) (at_log _ _ 0 (sym c.height.ensures.height ∙ c.if-height-eq1.true) (inl refl))

pub returns-then-height-eq1-clause-one_row : goal.returns-then-height-eq1-clause-one_row
returns-then-height-eq1-clause-one_row g c same = (
  row_handed_back c.bit_reverse_rows.result _ _
      (c.bit_reverse_rows.ensures.matrix ∙ c.into_row_major_matrix-mat.ensures) c.bit_reverse_rows.ensures.height
      (sym c.height.ensures.height ∙ c.if-height-eq1.true),
  refl,
)

pub returns-then-height-eq1-clause-engine : goal.returns-then-height-eq1-clause-engine
returns-then-height-eq1-clause-engine g c = after_none (λ done k high. tt)

pub evaluate_on_coset_to_reversed-requires-clause-table : goal.evaluate_on_coset_to_reversed-requires-clause-table
evaluate_on_coset_to_reversed-requires-clause-table g c =
    let table = c.get-table.result.now in
    ap (λ (t : Coset g.row.F.Denot). t.log_h) (c.get-table.ensures table) ∙ (c.in_ok-place.ensures.made.1 table).0

-- No memory for a table of the coset, which was not there: nothing has changed.
pub returns-in_err-place : goal.returns-in_err-place
returns-in_err-place g c = rw (← c.self.view_is, ← c.into_row_major_matrix-mat.ensures) (
    let field = g.F.Valued in
    let high = c.log_height-log_h.ensures.rows.height in
    let one_is = ap field.value c.ONE.ensures ∙ g.met.F.Field.one_law in
    let other =
    λ (is : field.value c.args.shift ≡ field.ring.one). not_both c.eq.result c.if-eq.false
    (search (rules, (g.met.F.Field.eq_law c.args.shift c.ONE.result).1 (is ∙ sym one_is))) in
    let more = λ (none : c.log_height-log_h.result ≡ 0). c.if-height-eq1.false (c.height.ensures.height ∙ high ∙ ap (λ n. 2 ^ n) none) in
    let refusal =
    λ (has : HasCoset field c.self.inside.cosets c.log_height-log_h.result (field.value c.args.shift)).
    not_ok c.make.result _ c.in_err-place.was (c.make.ensures.succeeds has) in
    let kept = c.in_err-place.ensures.refused in
    let err = c.from_residual.ensures.0 in
    record {
      values = IfOk-from_err _ _ err;
      succeeds = at_log _ _ _ high (λ heights ready. absurd (refusal (its_table other more ready)));
      on_prepared = at_log _ _ _ high (λ ready. absurd (refusal (its_table other more ready)));
      tables = λ k e. IfOk-from_err _ _ err;
      only = λ k e. no_larger _ _ _ (inl refl);
      roots = λ is_other. refl;
      once = λ k e ready. kept;
      one = λ is. kept;
      cosets = λ k e. inl kept;
      refused = on_any_error _ (ap (tabled c.self.inside.tables c.self.inside.products) kept);
      one_row = λ one. absurd (c.if-height-eq1.false (c.height.ensures.height ∙ one));
      engine = record {
        later =
            later_with_tables field refl (le_refl _) (coset_stays field _ _ _ c.make.ensures.only) (le_refl _);
        prepared = λ done k e. tt;
        cost = λ k e. le-add_right _ _;
        tables = omega (arith, ap length kept);
        refused =
            either_of _ _ _ _ (le_refl _) (one_less_fits _ _ (powers_fit _ c.height.ensures.whole.width high)) _ _ _
            (le_refl _) c.from_residual.result _ c.from_residual.ensures c.in_err-place.ensures.room;
      };
      pairs = λ k e. le-add_right _ _;
    })

-- The rows are the values on the coset by its table, which is that of the shift. A table was added unless it was there.
pub returns : goal.returns
returns g c = rw (← c.self.view_is, ← c.into_row_major_matrix-mat.ensures) (
    let field = g.F.Valued in
    let log = c.log_height-log_h.result in
    let high = c.log_height-log_h.ensures.rows.height in
    let one_is = ap field.value c.ONE.ensures ∙ g.met.F.Field.one_law in
    let other =
    λ (is : field.value c.args.shift ≡ field.ring.one). not_both c.eq.result c.if-eq.false
    (search (rules, (g.met.F.Field.eq_law c.args.shift c.ONE.result).1 (is ∙ sym one_is))) in
    let more = λ (none : c.log_height-log_h.result ≡ 0). c.if-height-eq1.false (c.height.ensures.height ∙ high ∙ ap (λ n. 2 ^ n) none) in
    let out = c.evaluate_on_coset_to_reversed.new.mat in
    let same = c.evaluate_on_coset_to_reversed.ensures.same in
    let made = c.evaluate_on_coset_to_reversed.ensures.cost in
    let table = c.get-table.result.now in
    let shift_is : field.value table.shift ≡ field.value c.args.shift =
    ap (λ (t : Coset g.row.F.Denot). field.value t.shift) (c.get-table.ensures table)
    ∙ (c.in_ok-place.ensures.made.1 table).1 in
    record {
      values = rw c.bit_reverse_rows-2.ensures.matrix
          (transform_seen field g.F.TwoAdicField.generator c.into_row_major_matrix-mat.result out
          (field.value c.args.shift) log c.bit_reverse_rows-2.result.bits high c.height.ensures.whole same.shape
          same.size c.bit_reverse_rows-2.ensures.height
          (rw shift_is at c.evaluate_on_coset_to_reversed.ensures.values));
      succeeds = λ k e heights ready. refl;
      on_prepared = λ k e ready. refl;
      tables = at_log _ _ log high (inr (inr (other, (c.in_ok-place.place, c.in_ok-place.ensures.made))));
      only = λ k e. no_larger _ _ _ (inl refl);
      roots = λ is_other. refl;
      once = at_log _ _ log high (λ ready. c.make.ensures.once (its_table other more ready));
      one = λ is. absurd (other is);
      cosets = at_log _ _ log high c.make.ensures.only;
      refused = tt;
      one_row = λ one. absurd (c.if-height-eq1.false (c.height.ensures.height ∙ one));
      engine = record {
        later =
            later_with_tables field refl (le_refl _) (coset_stays field _ _ _ c.make.ensures.only)
            c.evaluate_on_coset_to_reversed.ensures.grows;
        prepared = λ done k e. tt;
        cost = at_log _ _ log high (larger_bound _ _ _ _ made (le-add_right _ _));
        tables = omega (arith, one_table_more field _ _ _ c.make.ensures.only);
        refused = tt;
      };
      pairs = at_log _ _ log high made;
    })
