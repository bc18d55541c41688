use Rattle.p3_networks.proofs.Lemmas.{◌≡◌, ◌⊎◌, inl, inr, ℕ, ◌+◌, ◌^◌, ◌<◌, ◌≤◌, ◌++◌, List, [], ◌∷◌, length, length-append, refl, sym, ap, ◌∙◌, subst, arith}
use Rattle.p3_networks.proofs.Lemmas.{le-add_right, pow_pos, le_of_eq, lt_of_lt_of_le, le_trans, lt_irrefl, false≢true, append-nil, append_assoc, All-append}
use Rattle.p3_networks.proofs.Lemmas.{All-cons, All-nil, rev, point, AddsCosets, Coset, HasCoset, IsCosetAt, IsOneOf, rev-lt, forward_root}
use Rattle.p3_networks.proofs.Tables.CosetTables.{coset_kept, none_behind_kept}
use Rattle.p3_networks.proofs.Tables.CosetsApart.{slot_of_coset, slots_differ}
use borrow.Author.Count.{below_more, below_none}
use Rattle.p3_field.specs.declared.fields.Valued.{Ghosts as FieldMembers}
use Rattle.p3_networks.proofs.radix_2_dit_parallel.coset_tables.CosetTables.make_all.Goals as goal

-- the tables so far, where one of the cosets may be added at the end
one_more : {F : Type 0} (f : FieldMembers F) (generator : ℕ → F) (k a : ℕ) (s : f.Element) (before now after : List (Coset F)) (shift : F) (c : ℕ) → c < 2 ^ a
    → f.value shift ≡ point f.ring (forward_root f generator) (k + a) s c → (after ≡ now) ⊎ (after ≡ now ++ record { log_h = k; shift = shift } ∷ [])
    → AddsCosets f generator k a s before now → AddsCosets f generator k a s before after
one_more f generator k a s before now after shift c below is (inl same) (added, made, each) = (added, same ∙ made, each)
one_more {F} f generator k a s before now after shift c below is (inr longer) (added, made, each) =
    let last : Coset F = record { log_h = k; shift = shift } in (
      added ++ last ∷ [],
      longer ∙ ap (λ xs. xs ++ last ∷ []) made ∙ append_assoc before added (last ∷ []),
      All-append (IsOneOf f generator k a s) added (last ∷ []) each (All-cons (IsOneOf f generator k a s) last [] (c, below, (refl, is)) (All-nil _)),
    )

-- a table that was there is there still, and is that of the coset of an equal shift
coset_there : {F : Type 0} (f : FieldMembers F) (before now : List (Coset F)) (k : ℕ) (x s : f.Element) → now ≡ before
    → x ≡ s → HasCoset f before k s → HasCoset f now k x
coset_there {F} f before now k x s same is has =
    subst (λ (xs : List (Coset F)). HasCoset f xs k x) (sym same)
    (subst (λ (y : f.Element). HasCoset f before k y) (sym is) has)

-- the list grows
longer_list : {T : Type 0} (n : ℕ) (before after : List T) (x : T) → (after ≡ before) ⊎ (after ≡ before ++ x ∷ []) → n ≤ length before → n ≤ length after
longer_list n before after x (inl same) inside = omega (arith, ap length same, inside)
longer_list n before after x (inr longer) inside = omega (arith, ap length longer, length-append before (x ∷ []), inside)

-- by one table at most
one_longer : {T : Type 0} (before after : List T) (x : T) → (after ≡ before) ⊎ (after ≡ before ++ x ∷ []) → (n slot : ℕ)
    → length before ≤ n + slot → length after ≤ n + (slot + 1)
one_longer before after x (inl same) n slot few = omega (arith, ap length same, few)
one_longer before after x (inr longer) n slot few = omega (arith, ap length longer, length-append before (x ∷ []), few)

-- there are no more slots than cosets of the larger one
few_slots : (slots added : ℕ) {P Q : Type 0} → (P × (slots ≡ 1)) ⊎ (Q × (slots ≡ 2 ^ added)) → slots ≤ 2 ^ added
few_slots slots added (inl (zero_shift, one)) = omega (arith, one, pow_pos added)
few_slots slots added (inr (other, all)) = omega (arith, all)

pub loop-slot-init : goal.loop-slot-init
loop-slot-init g c =
    record {
      inside = le_of_eq (ap length c.as_slice-there.ensures);
      few = le-add_right _ _;
      made = below_none _;
      others = λ m from below i behind at. lt_irrefl i (lt_of_lt_of_le at.0 (le_trans (le_of_eq (ap length (sym c.as_slice-there.ensures))) behind));
      once = λ all. refl;
      only = ([], sym (append-nil _), All-nil _);
      keeps = λ k x has. has;
    }

pub make_among-requires-clause-others : goal.make_among-requires-clause-others
make_among-requires-clause-others g c i from at =
    let field = g.F.Valued in
    c.loop-slot.invariant.others c.loop-slot.slot (omega arith) (omega (arith, c.loop-slot-test.true)) i from
    (subst (λ (x : field.Element). IsCosetAt field c.loop-slot.self c.args.log_h x i) c.slot_shift-coset.ensures at)

pub returns-in_err-place-clause-keeps : goal.returns-in_err-place-clause-keeps
returns-in_err-place-clause-keeps g c k x has =
    coset_kept g.F.Valued c.loop-slot.self c.make_among.new.self _ k x c.make_among.ensures.only (c.loop-slot.invariant.keeps k x has)

pub returns-in_err-place-clause-only : goal.returns-in_err-place-clause-only
returns-in_err-place-clause-only g c =
    rw c.in_err-place.ensures.refused c.loop-slot.invariant.only

pub returns-in_err-place-clause-few : goal.returns-in_err-place-clause-few
returns-in_err-place-clause-few g c =
    omega (
      arith,
      c.loop-slot.invariant.few,
      ap length c.in_err-place.ensures.refused,
      c.loop-slot-test.true,
      few_slots _ c.args.added_bits c.slots_apart-slots.ensures,
    )

pub returns-clause-few : goal.returns-clause-few
returns-clause-few g c =
    omega (arith, c.loop-slot.invariant.few, few_slots _ c.args.added_bits c.slots_apart-slots.ensures, c.loop-slot.auto.slot-end)

pub returns-in_err-place-clause-succeeds : goal.returns-in_err-place-clause-succeeds
returns-in_err-place-clause-succeeds g c all =
    let field = g.F.Valued in
    let k = c.args.log_h in
    let a = c.args.added_bits in
    absurd (false≢true (c.in_err-place.ensures.succeeds
    (coset_there field _ _ k _ _ (c.loop-slot.invariant.once all) c.slot_shift-coset.ensures (all (rev a c.loop-slot.slot) (rev-lt a c.loop-slot.slot)))))

-- One slot more has its table: those that were there stay, and at most one is added, of that slot's coset, if there was none.
pub loop-slot-preserved : goal.loop-slot-preserved
loop-slot-preserved g c =
    let field = g.F.Valued in
    let gen = forward_root field g.F.TwoAdicField.generator in
    let k = c.args.log_h in
    let a = c.args.added_bits in
    let s = field.value c.args.shift in
    let at = point field.ring gen (k + a) s in
    let m = c.loop-slot.slot in
    let before = c.loop-slot.self in
    let after = c.make_among.new.self in
    let shift_is = c.slot_shift-coset.ensures in
    let grown = c.make_among.ensures.only in
    let kept : (n : ℕ) (x : field.Element) → HasCoset field before n x → HasCoset field after n x = λ n x has. coset_kept field before after _ n x grown has in
    record {
      inside = longer_list (length c.as_slice-there.result.now) before after _ grown c.loop-slot.invariant.inside;
      few = one_longer before after _ grown _ _ c.loop-slot.invariant.few;
      made = below_more (λ p. HasCoset field after k (at (rev a p))) m (λ p less. kept k _ (c.loop-slot.invariant.made p less))
          (subst (λ (x : field.Element). HasCoset field after k x) shift_is (c.in_ok-place.place, c.in_ok-place.ensures.made));
      others = λ p from below.
          none_behind_kept field before after _ k (length c.as_slice-there.result.now) (at (rev a p)) grown
          (λ same. slots_differ field.ring gen g.met.F.TwoAdicField.roots_law k a s c.slots_apart-slots.result m p
          c.requires.within c.slots_apart-slots.ensures (omega (arith, from)) below (sym shift_is ∙ same))
          (c.loop-slot.invariant.others p (omega (arith, from)) below);
      once = λ all.
          let same = c.loop-slot.invariant.once all in
          c.make_among.ensures.once (coset_there field _ _ k _ _ same shift_is (all (rev a m) (rev-lt a m))) ∙ same;
      only =
          one_more field g.F.TwoAdicField.generator k a s c.args.self.now before after c.slot_shift-coset.result
          (rev a m) (rev-lt a m) shift_is grown c.loop-slot.invariant.only;
      keeps = λ n x has. kept n x (c.loop-slot.invariant.keeps n x has);
    }

pub returns-clause-made : goal.returns-clause-made
returns-clause-made g c i below =
    let field = g.F.Valued in
    let (m, inside, is) =
    slot_of_coset field.ring (forward_root field g.F.TwoAdicField.generator) c.args.log_h c.args.added_bits
    (field.value c.args.shift) c.slots_apart-slots.result i c.slots_apart-slots.ensures below in
    subst (λ (x : field.Element). HasCoset field c.loop-slot.self c.args.log_h x) is
    (c.loop-slot.invariant.made m (omega (arith, inside, c.loop-slot-test.false)))
