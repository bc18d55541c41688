use Rattle.p3_networks.proofs.Lemmas.{◌≡◌, ℕ, ◌+◌, ◌++◌, List, [], ◌∷◌, length, get_or, length-append, refl, sym, ap, ◌∙◌, subst, arith, rules, inr, ◌<◌, ◌≤◌}
use Rattle.p3_networks.proofs.Lemmas.{⊎_elim, cases_lt, Coset, HasCoset, IsCosetAt, IsCosetOf, in_second}
use Rattle.p3_field.specs.declared.fields.Valued.{Ghosts as FieldMembers}
use Rattle.p3_networks.proofs.radix_2_dit_parallel.coset_tables.CosetTables.make_among.Goals as goal

-- a table that was added at the end
added_last : {F : Type 0} (f : FieldMembers F) (before now after : List (Coset F)) (k : ℕ) (s : F) (t : Coset F)
    → now ≡ before → after ≡ before ++ t ∷ [] → t ≡ record { log_h = k; shift = s }
    → IsCosetAt f after k (f.value s) (length now)
added_last f before now after k s t same added is =
    let size : length after ≡ length now + 1 = ap length added ∙ length-append before (t ∷ []) ∙ ap (λ xs. length xs + 1) (sym same) in
    let none : length now ≡ length now + 0 = omega arith in (
      omega (arith, size),
      λ d. subst (IsCosetOf f k (f.value s)) (sym (ap (λ xs. get_or xs (length now) d) added
          ∙ ap (λ n. get_or (before ++ t ∷ []) n d) none
          ∙ in_second before (t ∷ []) (length now) 0 d (ap length (sym same))))
          (subst (IsCosetOf f k (f.value s)) (sym is) (refl, refl)),
    )

-- no place has the coset: none below the end, as was searched, and none from there on
nowhere : {F : Type 0} (f : FieldMembers F) (all : List (Coset F)) (k n : ℕ) (s : f.Element)
    → ((i : ℕ) → i < n → IsCosetAt f all k s i → ⊥) → ((i : ℕ) → n ≤ i → IsCosetAt f all k s i → ⊥) → HasCoset f all k s
    → ⊥
nowhere f all k n s below behind (i, at) = ⊎_elim (λ less. below i less at) (λ more. behind i more at) (cases_lt i n)

pub push-requires : goal.push-requires
push-requires g c there =
    nowhere g.F.Valued c.args.self.now c.args.log_h c.args.end (g.F.Valued.value c.args.shift) (c.find.ensures.none (search rules)) c.requires.others
    (subst (λ t. HasCoset g.F.Valued c.args.self.now t.log_h (g.F.Valued.value t.shift)) c.in_ok-table.ensures.made there)

pub returns-clause-made : goal.returns-clause-made
returns-clause-made g c =
    added_last g.F.Valued c.args.self.now c.as_slice-place.result.now c.push.new.self c.args.log_h c.args.shift
    c.in_ok-table.table c.as_slice-place.ensures c.in_ok-push.ensures.added c.in_ok-table.ensures.made

pub returns-clause-once : goal.returns-clause-once
returns-clause-once g c has =
    absurd (nowhere g.F.Valued c.args.self.now c.args.log_h c.args.end (g.F.Valued.value c.args.shift)
    (c.find.ensures.none (search rules)) c.requires.others has)

pub returns-clause-only : goal.returns-clause-only
returns-clause-only g c = inr (c.in_ok-push.ensures.added ∙ ap (λ t. c.args.self.now ++ t ∷ []) c.in_ok-table.ensures.made)

pub returns-in_err-push-clause-succeeds : goal.returns-in_err-push-clause-succeeds
returns-in_err-push-clause-succeeds g c has =
    absurd (nowhere g.F.Valued c.args.self.now c.args.log_h c.args.end (g.F.Valued.value c.args.shift)
    (c.find.ensures.none (search rules)) c.requires.others has)

pub returns-in_err-push-clause-once : goal.returns-in_err-push-clause-once
returns-in_err-push-clause-once g c has =
    absurd (nowhere g.F.Valued c.args.self.now c.args.log_h c.args.end (g.F.Valued.value c.args.shift)
    (c.find.ensures.none (search rules)) c.requires.others has)

pub returns-in_err-table-clause-succeeds : goal.returns-in_err-table-clause-succeeds
returns-in_err-table-clause-succeeds g c has =
    absurd (nowhere g.F.Valued c.args.self.now c.args.log_h c.args.end (g.F.Valued.value c.args.shift)
    (c.find.ensures.none (search rules)) c.requires.others has)
