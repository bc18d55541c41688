use Rattle.p3_networks.proofs.Lemmas.{◌≡◌, ◌<◌, ◌≤◌, ℕ, List, [], ◌∷◌, ◌++◌, length, sym, ap, ◌∙◌, subst, ⊎_elim, cases_lt, HasEachOnce, Coset, HasCoset}
use Rattle.p3_networks.proofs.Lemmas.{IsCosetAt, items_if_any}
use Rattle.p3_networks.proofs.Tables.CosetTables.{last_place, place_before}
use Rattle.p3_field.specs.declared.fields.Valued.{Ghosts as FieldMembers}
use Rattle.p3_networks.proofs.radix_2_dit_parallel.coset_tables.CosetTables.push.Goals as goal
use Rattle.p3_networks.proofs.radix_2_dit_parallel.coset_tables.CosetTables.push.Goals.{in-Some, in-None+in_ok-tables-in-None}

module _ {F : Type 0} (f : FieldMembers F) (before : List (Coset F)) (added : Coset F) where
  -- so it is in no other place
  apart : (HasCoset f before added.log_h (f.value added.shift) → ⊥) → (k : ℕ) (s : f.Element) (i j : ℕ) → i < length before → length before ≤ j
      → IsCosetAt f (before ++ added ∷ []) k s i → IsCosetAt f (before ++ added ∷ []) k s j → ⊥
  apart fresh k s i j less more at_i at_j =
      let (last, (log, shift)) = last_place f before added k s j more at_j in
      fresh (
        i,
        subst (λ (x : f.Element). IsCosetAt f before added.log_h x i) (sym shift)
            (subst (λ (n : ℕ). IsCosetAt f before n s i) (sym log) (place_before f before added k s i less at_i)),
      )

  once_more : HasEachOnce f before → (HasCoset f before added.log_h (f.value added.shift) → ⊥) → HasEachOnce f (before ++ added ∷ [])
  once_more each fresh k s i j at_i at_j =
      ⊎_elim
      (λ less_i.
      ⊎_elim
      (λ less_j. each k s i j (place_before f before added k s i less_i at_i) (place_before f before added k s j less_j at_j))
      (λ more_j. absurd (apart fresh k s i j less_i more_j at_i at_j))
      (cases_lt j (length before)))
      (λ more_i.
      ⊎_elim
      (λ less_j. absurd (apart fresh k s j i less_j more_i at_j at_i))
      (λ more_j. (last_place f before added k s i more_i at_i).0 ∙ sym (last_place f before added k s j more_j at_j).0)
      (cases_lt j (length before)))
      (cases_lt i (length before))

pub invariant_of-self-in_err-pushed : goal.invariant_of-self-in_err-pushed
invariant_of-self-in_err-pushed g c =
    let held : items_if_any c.self.inside.tables ≡ c.match-take.tables.items =
    elim c.match-take.branch [
      | in-Some w ↦ rw w.tables-is (ap items_if_any (sym c.take.ensures.value ∙ w.in-Some.is))
      | in-None+in_ok-tables-in-None w ↦ rw w.tables-is
          (ap items_if_any (sym c.take.ensures.value ∙ w.in-None.is) ∙ sym w.in_ok-tables-in-None.ensures.items)
    ] in
    subst (HasEachOnce g.F.Valued) (held ∙ sym c.in_err-pushed.ensures.items) c.self.invariant

pub invariant_of-self-2 : goal.invariant_of-self-2
invariant_of-self-2 g c =
    let field = g.F.Valued in
    let s = field.value c.args.table.shift in
    let held : items_if_any c.self.inside.tables ≡ c.match-take.tables.items =
    elim c.match-take.branch [
      | in-Some w ↦ rw w.tables-is (ap items_if_any (sym c.take.ensures.value ∙ w.in-Some.is))
      | in-None+in_ok-tables-in-None w ↦ rw w.tables-is
          (ap items_if_any (sym c.take.ensures.value ∙ w.in-None.is) ∙ sym w.in_ok-tables-in-None.ensures.items)
    ] in
    subst (HasEachOnce field) (sym c.in_ok-pushed.ensures.items)
    (once_more field c.match-take.tables.items c.args.table (subst (HasEachOnce field) held c.self.invariant)
    (λ has. c.requires (subst (λ (xs : List (Coset g.row.F.Denot)). HasCoset field xs c.args.table.log_h s) (sym held ∙ c.self.view_is) has)))
