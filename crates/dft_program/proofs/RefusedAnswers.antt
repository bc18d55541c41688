-- Where memory was refused within the size of an answer, its outcome says so.
use Rattle.std.proofs.Common.{◌≡◌, ℕ, ◌+◌, ◌*◌, ◌/◌, ◌≤◌, List, length, map, Result, Ok, Err, IsErr, IsErrAnd, sym, ap, ◌∙◌, subst, arith, le_of_eq}
use Rattle.std.proofs.lemmas.List.{length-map}
use Rattle.std.specs.Global.{Global}
use Rattle.std.specs.Prelude.{Vec}
use Rattle.p3_field.specs.Ring.{AreRoots}
use Rattle.p3_field.specs.declared.fields.Valued.{Ghosts as FieldMembers}
use Rattle.p3_matrix.specs.RowMajor.{RowMajor, height}
use Rattle.p3_dft.specs.Jobs.{answer_entries}
use Rattle.dft_program.specs.declared.fault.Fault.{Fault}
use Rattle.dft_program.specs.declared.fault.Stopped.{Stopped}
use Rattle.dft_program.specs.declared.fault.Stopped.TheVariants.{ByFault, OutOfMemory}
use Rattle.dft_program.specs.declared.names.Operation.{Operation}
use Rattle.dft_program.specs.Answers.{IsText, asked_job, job_of}
use Rattle.dft_program.specs.Arguments.{Arguments, arguments}
use Rattle.dft_program.specs.NumberedFields.{NumberedField, members, numbered}
use Rattle.dft_program.specs.Outcome.{FaultOr, Gives, IsAnswered, IsOutcomeOver, IsRefusedAnswer, Outcome}
use Rattle.dft_program.specs.Refusals.{RefusedWithin}
use Rattle.dft_program.proofs.OneOutcome.{asks_for_one, one_text}
use Rattle.dft_program.proofs.Refused.{refused_more}
use Rattle.dft_program.proofs.TextRoom.{answer_size, text_of_matrix_long}
use Rattle.dft_program.proofs.ValuedJobs.{no_fewer, same_entries}

-- what `?` hands on where memory was refused
pub gives_refused : (r : Result (Vec ℕ Global) Stopped) (IsOne : Outcome → Type 0) → IsErr r × IsErrAnd r (λ e. e ≡ OutOfMemory)
    → ((o : Outcome) → IsOne o → IsRefusedAnswer o) → Gives r IsOne
gives_refused (Ok text) IsOne (err, same) refused = absurd (cc)
gives_refused (Err (ByFault fault)) IsOne (err, same) refused = absurd (cc)
gives_refused (Err OutOfMemory) IsOne (err, same) refused = refused

no_more : (n stored entries : ℕ) → stored ≡ n → stored ≤ entries → n ≤ entries + 2
no_more n stored entries size held = omega (arith, size, held)

within_text : (n entries stored bytes long : ℕ) → n ≤ entries + 2 → stored ≡ entries → stored ≤ bytes → long ≡ bytes → n ≤ long + 2
within_text n entries stored bytes long fewer size held is = omega (arith, fewer, size, held, is)

module _ {A : Type 0} (f : NumberedField A) (are_roots : AreRoots f.ring f.two_adicity f.generator)
    (injective : (x y : A) → f.number x ≡ f.number y → x ≡ y) (operation : Operation) (words : List (List ℕ))
    (a : Arguments) (read : arguments f operation words ≡ Ok a) where
  answered : (o : Outcome) → IsOutcomeOver f operation words o → IsAnswered f operation a o
  answered o is = subst (λ (r : Result Arguments Fault). FaultOr r (IsAnswered f operation) o) read is

  -- to a vector of no more elements than the answer has entries, and two
  pub refused_in_answer : (n : ℕ) → n ≤ answer_entries (asked_job f operation a) + 2 → RefusedWithin n
      → (o : Outcome) → IsOutcomeOver f operation words o → IsRefusedAnswer o
  refused_in_answer n fewer was o is =
      let text = (answered o is).1 in
      let runs = asks_for_one f are_roots injective operation words a read in
      let size = answer_size (members f) f.generator f.two_adicity (asked_job f operation a) text.answer runs text.answers in
      let long = text_of_matrix_long f.number text.answer text.whole in
      ((answered o is).0, refused_more n (length o.text + 2) (within_text n _ _ _ _ fewer size long (ap length text.shown)) was)

  -- or to the text of an answer
  pub refused_in_text : (text : List ℕ) → IsText f (asked_job f operation a) text → RefusedWithin (length text)
      → (o : Outcome) → IsOutcomeOver f operation words o → IsRefusedAnswer o
  refused_in_text text shown was o is =
      let same : text ≡ o.text =
      one_text f are_roots injective (asked_job f operation a) text o.text
      (asks_for_one f are_roots injective operation words a read) shown (answered o is).1 in
      ((answered o is).0, refused_more (length text) (length o.text + 2) (omega (arith, ap length same)) was)

-- the same of a field whose elements have the values that element names
module _ {F : Type 0} (f : FieldMembers F) (generator : ℕ → F) (two_adicity modulus : ℕ) (element : ℕ → f.Element)
    (are_roots : AreRoots f.ring two_adicity (λ n. f.value (generator n)))
    (injective : (x y : f.Element) → f.number x ≡ f.number y → x ≡ y) (operation : Operation) (words : List (List ℕ))
    (a : Arguments) (read : arguments (numbered f generator two_adicity modulus element) operation words ≡ Ok a) where
  abbrev field : NumberedField f.Element
  field = numbered f generator two_adicity modulus element

  abbrev asked : RowMajor f.Element
  asked = record { width = a.width; values = map element a.values }

  -- to the matrix of the values
  pub matrix_refused : (n : ℕ) → length a.values ≡ n → (n / a.width) * a.width ≡ n → RefusedWithin n
      → (o : Outcome) → IsOutcomeOver field operation words o → IsRefusedAnswer o
  matrix_refused n many full was =
      let long : length asked.values ≡ n = length-map a.values element ∙ many in
      let whole : height asked * asked.width ≡ n = ap (λ k. k / a.width * a.width) long ∙ full in
      refused_in_answer field are_roots injective operation words a read n
      (no_more n _ _ whole (no_fewer operation asked a.added_bits (element a.shift))) was

  -- to an engine's call for elements of these numbers
  pub engine_refused : (m : RowMajor F) (s : F) → m.width ≡ a.width → map (λ x. f.number (f.value x)) m.values ≡ a.values
      → RefusedWithin (answer_entries (job_of operation m a.added_bits s) + 2)
      → (o : Outcome) → IsOutcomeOver field operation words o → IsRefusedAnswer o
  engine_refused m s wide numbers was =
      let long : length m.values ≡ length asked.values =
      sym (length-map m.values (λ x. f.number (f.value x))) ∙ ap length numbers ∙ sym (length-map a.values element) in
      refused_in_answer field are_roots injective operation words a read
      (answer_entries (job_of operation m a.added_bits s) + 2)
      (le_of_eq (ap (λ n. n + 2) (same_entries operation m asked a.added_bits s (element a.shift) long wide))) was
