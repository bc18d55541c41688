-- The words have one outcome: there is one, and no other.
use Rattle.std.proofs.Common.{◌≡◌, ℕ, ◌/◌, Bool, true, false, not, List, [], ◌∷◌, length, map, drop, Option, Some, None}
use Rattle.std.proofs.Common.{Result, Ok, Err, refl, sym, ap, ap₂, ◌∙◌, subst}
use Rattle.std.specs.Global.{Global}
use Rattle.std.specs.Prelude.{⊤, Vec}
use Rattle.std.proofs.lemmas.List.{length-map}
use Rattle.p3_field.specs.Fields.{FieldNumbers, are_field_generators, baby_bear_numbers, goldilocks_numbers}
use Rattle.p3_field.specs.Residues.{residue-eq}
use Rattle.p3_field.specs.Ring.{AreRoots}
use Rattle.p3_matrix.specs.Matrix.{Same, matrix}
use Rattle.p3_matrix.specs.RowMajor.{rows}
use Rattle.p3_matrix.proofs.Matrices.{list_of_rows_same}
use Rattle.p3_matrix.proofs.RowMajor.{list_of_rows_stored}
use Rattle.p3_dft.specs.declared.jobs.Job.{Job}
use Rattle.p3_dft.specs.Jobs.{CanRun}
use Rattle.p3_dft.specs.Shapes.{FitsLde}
use Rattle.p3_dft.proofs.Laws.OneAnswer.{one_answer}
use Rattle.dft_program.specs.declared.fault.Fault.{Fault}
use Rattle.dft_program.specs.declared.fault.Stopped.{Stopped}
use Rattle.dft_program.specs.declared.fault.Stopped.TheVariants.{OutOfMemory}
use Rattle.dft_program.specs.declared.names.FieldName.{FieldName}
use Rattle.dft_program.specs.declared.names.FieldName.TheVariants.{BabyBear, Goldilocks}
use Rattle.dft_program.specs.declared.names.Operation.{Operation}
use Rattle.dft_program.specs.declared.program.Request.{Request}
use Rattle.dft_program.specs.Answers.{IsText, asked_job}
use Rattle.dft_program.specs.Arguments.{Arguments, arguments, arguments_of, cannot_undo, faults, is_unfit, number_or_zero}
use Rattle.dft_program.specs.Faults.{first_fault, unless_fault}
use Rattle.dft_program.specs.NumberedFields.{NumberedField, has_inverse, members, residue_field}
use Rattle.dft_program.specs.Outcome.{FaultOr, Gives, HaveRefusedAnswer, IsAnswered, IsOutcome, IsOutcomeIn, IsOutcomeOver, Outcome, asked, told}
use Rattle.dft_program.specs.Text.{text_of_rows}
use Rattle.dft_program.proofs.Inverses.{has_inverse-from_true}
use Rattle.dft_program.proofs.Shapes.{unfit-false}
use Rattle.dft_program.proofs.SomeAnswer.{some_answer}
use Rattle.dft_program.proofs.ValuedJobs.{can_run}

-- where no fault is the first, none is there
abbrev NoneThere : List (Bool × Fault) → Type 0
NoneThere [] = ⊤
NoneThere (row ∷ later) = (row.0 ≡ false) × NoneThere later

none_there : (all : List (Bool × Fault)) → first_fault all ≡ None → NoneThere all
none_there [] none = tt
none_there ((true, fault) ∷ later) none = absurd (cc)
none_there ((false, fault) ∷ later) none = (refl, none_there later none)

read_whole : {T : Type 0} (o : Option Fault) (value read : T) → unless_fault o value ≡ Ok read → (o ≡ None) × (value ≡ read)
read_whole None value read e = (refl, cc)
read_whole (Some fault) value read e = absurd (cc)

module _ {A : Type 0} (f : NumberedField A) (are_roots : AreRoots f.ring f.two_adicity f.generator)
    (injective : (x y : A) → f.number x ≡ f.number y → x ≡ y) where
  -- a text is that of the one answer
  pub one_text : (job : Job A) (t u : List ℕ) → CanRun (members f) f.two_adicity job → IsText f job t → IsText f job u → t ≡ u
  one_text job t u can x y =
      let same : Same (matrix f.ring.zero x.answer) (matrix f.ring.zero y.answer) =
      one_answer (members f) f.generator f.two_adicity are_roots job x.answer y.answer can x.answers y.answers in
      let one_rows : rows x.answer ≡ rows y.answer =
      sym (list_of_rows_stored f.ring.zero x.answer x.whole) ∙ list_of_rows_same _ _ same ∙ list_of_rows_stored f.ring.zero y.answer y.whole in
      x.shown ∙ ap (λ rs. text_of_rows (map (map f.number) rs)) one_rows ∙ sym y.shown

  -- words with no fault ask for a job that can be run
  pub asks_for_one : (operation : Operation) (words : List (List ℕ)) (a : Arguments) → arguments f operation words ≡ Ok a
      → CanRun (members f) f.two_adicity (asked_job f operation a)
  asks_for_one operation words a e =
      let read = read_whole (first_fault (faults f operation words)) (arguments_of operation (map number_or_zero words)) a e in
      let absent = none_there (faults f operation words) read.0 in
      let unfit : is_unfit f.two_adicity (length a.values) a.width a.added_bits ≡ false =
      subst (λ (b : Arguments). is_unfit f.two_adicity (length b.values) b.width b.added_bits ≡ false) read.1 absent.1.1.1.0 in
      let stuck : cannot_undo f operation a.shift ≡ false = subst (λ (b : Arguments). cannot_undo f operation b.shift ≡ false) read.1 absent.1.1.1.1.0 in
      let fits : FitsLde f.two_adicity (length (map f.element a.values) / a.width) a.width a.added_bits =
      rw (length-map a.values f.element) (unfit-false f.two_adicity (length a.values) a.width a.added_bits unfit) in
      can_run (members f) f.two_adicity operation (record { width = a.width; values = map f.element a.values }) a.added_bits (f.element a.shift) fits
      (λ undoes. has_inverse-from_true f (f.element a.shift) injective (undone (has_inverse f (f.element a.shift))
      (subst (λ (o : Operation). cannot_undo f o a.shift ≡ false) undoes stuck)))
    where
      undone : (b : Bool) → not b ≡ false → b ≡ true
      undone true e = refl
      undone false e = absurd (cc)

  one_over : (operation : Operation) (words : List (List ℕ)) (r : Result Arguments Fault) (o p : Outcome) → arguments f operation words ≡ r
      → FaultOr r (IsAnswered f operation) o → FaultOr r (IsAnswered f operation) p → o ≡ p
  one_over operation words (Ok a) o p e x y =
      ap₂ (λ status text. record { status = status; text = text }) (x.0 ∙ sym y.0)
      (one_text (asked_job f operation a) o.text p.text (asks_for_one operation words a e) x.1 y.1)
  one_over operation words (Err fault) o p e x y = x ∙ sym y

  some_over : (operation : Operation) (words : List (List ℕ)) (r : Result Arguments Fault)
      → arguments f operation words ≡ r → (o : Outcome) × FaultOr r (IsAnswered f operation) o
  some_over operation words (Ok a) e =
      let found = some_answer f are_roots (asked_job f operation a) (asks_for_one operation words a e) in (
        record { status = 0; text = text_of_rows (map (map f.number) (rows found.answer)) },
        (refl, record { answer = found.answer; whole = found.whole; answers = found.answers; shown = refl }),
      )
  some_over operation words (Err fault) e = (told fault, refl)

module _ (f : FieldNumbers) (operation : Operation) (words : List (List ℕ)) where
  one_of_field : (o p : Outcome) → IsOutcomeOver (residue_field f) operation words o → IsOutcomeOver (residue_field f) operation words p → o ≡ p
  one_of_field o p x y =
      one_over (residue_field f) (are_field_generators f) residue-eq operation words
      (arguments (residue_field f) operation words) o p refl x y

  some_of_field : (o : Outcome) × IsOutcomeOver (residue_field f) operation words o
  some_of_field = some_over (residue_field f) (are_field_generators f) residue-eq operation words (arguments (residue_field f) operation words) refl

one_in : (name : FieldName) (operation : Operation) (words : List (List ℕ)) (o p : Outcome)
    → IsOutcomeIn name operation words o → IsOutcomeIn name operation words p → o ≡ p
one_in BabyBear operation words o p x y = one_of_field baby_bear_numbers operation words o p x y
one_in Goldilocks operation words o p x y = one_of_field goldilocks_numbers operation words o p x y

some_in : (name : FieldName) (operation : Operation) (words : List (List ℕ)) → (o : Outcome) × IsOutcomeIn name operation words o
some_in BabyBear operation words = some_of_field baby_bear_numbers operation words
some_in Goldilocks operation words = some_of_field goldilocks_numbers operation words

abbrev IsAskedOutcome : Result Request Fault → List (List ℕ) → Outcome → Type 0
IsAskedOutcome r words o = FaultOr r (λ request. IsOutcomeIn request.field request.operation words) o

one_asked : (r : Result Request Fault) (words : List (List ℕ)) (o p : Outcome) → IsAskedOutcome r words o → IsAskedOutcome r words p → o ≡ p
one_asked (Ok request) words o p x y = one_in request.field request.operation words o p x y
one_asked (Err fault) words o p x y = x ∙ sym y

some_asked : (r : Result Request Fault) (words : List (List ℕ)) → (o : Outcome) × IsAskedOutcome r words o
some_asked (Ok request) words = some_in request.field request.operation words
some_asked (Err fault) words = (told fault, refl)

-- there is an outcome, and each other is that one
pub one_outcome : (words : List (List ℕ)) → (o : Outcome) × IsOutcome words o × ((p : Outcome) → IsOutcome words p → p ≡ o)
one_outcome words =
    let found = some_asked (asked words) (drop 3 words) in
    (found.0, found.1, λ p is. one_asked (asked words) (drop 3 words) p found.0 is found.1)

-- so where memory ran out, it is an answer
pub answer_without_memory : (words : List (List ℕ)) (s : Stopped) (r : Result (Vec ℕ Global) Stopped) → r ≡ Err s
    → s ≡ OutOfMemory → Gives r (IsOutcome words) → HaveRefusedAnswer words
answer_without_memory words s r stopped is gives =
    let told = subst (λ (given : Result (Vec ℕ Global) Stopped). Gives given (IsOutcome words)) (stopped ∙ ap Err is) gives in
    let one = one_outcome words in
    (one.0, one.1, one.2, told one.0 one.1)
