use Rattle.std.proofs.Common.{◌≡◌, rules, le_refl, refl, false, is_none}
use Rattle.std.specs.Prelude.{MatchBool, ⊤}
use Rattle.std.proofs.lemmas.Slice.Zip.{AllZip-long}
use Rattle.p3_matrix.proofs.Rooms.{first_larger}
use Rattle.liktrob.specs.Words.{HasInverse, in_words}
use Rattle.liktrob.proofs.Named.{found_where_some, named_inverse, out_of_memory_told}
use Rattle.liktrob.proofs.calls.asked.Goals as goal
use Rattle.liktrob.proofs.calls.asked.Goals.{else-undoes_shift-via-then-undoes_shift+else-is_none, else-undoes_shift-via-else-undoes_shift}

pub returns-then-is_none-clause-told : goal.returns-then-is_none-clause-told
returns-then-is_none-clause-told g c =
    let f = in_words g.F.Valued g.F.TwoAdicField.generator g.F.TwoAdicField.TWO_ADICITY g.F.CanonicalField.ORDER_U64 g.F.WordField.word_number in
    let below = c.is_below.ensures.0 c.if-not-is_below.false in (
      search rules,
      (below, c.in-Some-elements.ensures.named.0 refl),
      c.fits.ensures.0 c.if-not-fits.false,
      λ has. c.try_inverse.ensures.none (search rules)
          (named_inverse f g.met.F.Field.number_law c.args.shift c.from_word-shift.result (c.from_word-shift.ensures below) (rw c.if-undoes_shift.true at has)),
    )

pub new-requires-clause-full : goal.new-requires-clause-full
new-requires-clause-full g c =
    let read = c.in_ok-read in
    rw (AllZip-long _ c.args.words.now read.field-0.items (rw read.was at c.in-Some-elements.ensures.elements))
    (c.requires (c.fits.ensures.0 c.if-not-fits.false)).0

pub returns-in_err-read-clause-told : goal.returns-in_err-read-clause-told
returns-in_err-read-clause-told g c =
    let f = in_words g.F.Valued g.F.TwoAdicField.generator g.F.TwoAdicField.TWO_ADICITY g.F.CanonicalField.ORDER_U64 g.F.WordField.word_number in
    let below = c.is_below.ensures.0 c.if-not-is_below.false in
    let shift : MatchBool c.args.undoes_shift (HasInverse f c.args.shift) ⊤ =
    elim c.else-undoes_shift.branch [
      | else-undoes_shift-via-then-undoes_shift+else-is_none w ↦ let some : is_none w.try_inverse.result ≡ false = search rules in
          rw w.if-undoes_shift.true (
            c.from_word-shift.result,
            c.from_word-shift.ensures below,
            found_where_some w.try_inverse.result _ some w.try_inverse.ensures.found,
          )
      | else-undoes_shift-via-else-undoes_shift w ↦ rw w.if-undoes_shift.false tt
    ] in
    out_of_memory_told c.from_residual.result c.in_err-read.field-0.0 _ c.from_residual.ensures (search rules)
    (below, c.in-Some-elements.ensures.named.0 refl) (c.fits.ensures.0 c.if-not-fits.false) shift
    (first_larger _ _ _ _ (le_refl _) (c.requires (c.fits.ensures.0 c.if-not-fits.false)).1 _ _ _ (rw c.in_err-read.was at c.in-Some-elements.ensures.refused))
