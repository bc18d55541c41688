use Rattle.std.proofs.Common.{ℕ, [], ◌∷◌, ◌++◌, ap, length, take, sym, ◌∙◌, arith}
use Rattle.std.proofs.lemmas.Simd.{map-map}
use Rattle.std.specs.Fmt.{decimal}
use Rattle.std.specs.List.{flat_map, join_with_byte}
use Rattle.std.specs.Vec.{vec_items}
use Rattle.dft_program.proofs.Lines.{flat_part, joined, spaced_size, written_size}
use Rattle.dft_program.proofs.Refused.{refused_by, refused_more}
use Rattle.dft_program.proofs.Told.{on_err}
use Rattle.dft_program.proofs.matrices.push_numbers.Goals as goal

pub returns-clause-numbers : goal.returns-clause-numbers
returns-clause-numbers g c =
    let number : g.row.F.Denot → ℕ = λ x. g.F.Valued.number (g.F.Valued.value x) in
    joined 32 (λ x. decimal (number x)) (vec_items c.args.text.now) (vec_items c.push_number.new.text) (vec_items c.loop-element.text)
    c.args.row.now c.in-Some.first.now c.in-Some.others.now c.loop-element.element-index
    c.in-Some.ensures.cases.0 c.loop-element-test.false
    (c.in_ok-push_number.ensures.number ∙ ap (λ n. vec_items c.args.text.now ++ decimal n) c.as_canonical_u64.ensures)
    c.loop-element.invariant
    ∙ ap (λ pieces. vec_items c.args.text.now ++ join_with_byte 32 pieces) (sym (map-map decimal number c.args.row.now))

pub returns-in_err-push_number-clause-refused : goal.returns-in_err-push_number-clause-refused
returns-in_err-push_number-clause-refused g c =
    let number : g.row.F.Denot → ℕ = λ x. g.F.Valued.number (g.F.Valued.value x) in
    let size = spaced_size number c.args.row.now c.in-Some.first.now c.in-Some.others.now c.in-Some.ensures.cases.0 in
    on_err c.from_residual.result
    (refused_more _ _ (omega (arith, size, ap (λ n. length (decimal n)) c.as_canonical_u64.ensures)) c.in_err-push_number.ensures.refused)

pub returns-in_err-push-clause-refused : goal.returns-in_err-push-clause-refused
returns-in_err-push-clause-refused g c =
    let number : g.row.F.Denot → ℕ = λ x. g.F.Valued.number (g.F.Valued.value x) in
    let others = c.in-Some.others.now in
    let size = spaced_size number c.args.row.now c.in-Some.first.now others c.in-Some.ensures.cases.0 in
    let part = flat_part (λ x. 32 ∷ decimal (number x)) others c.loop-element.element-index c.in-Some.first.now c.loop-element-test.true in
    refused_by c.from_residual-in_err-push.result 1 _ _ (omega arith)
    (omega (
      arith,
      c.loop-element.text.ok.0,
      written_size (vec_items c.push_number.new.text) (vec_items c.loop-element.text)
          (flat_map (λ x. 32 ∷ decimal (number x)) (take c.loop-element.element-index others)) c.loop-element.invariant,
      written_size (vec_items c.args.text.now) (vec_items c.push_number.new.text) (decimal c.as_canonical_u64.result) c.in_ok-push_number.ensures.number,
      ap (λ n. length (decimal n)) c.as_canonical_u64.ensures,
      part,
      size,
    ))
    c.in_err-push.ensures.room

pub returns-in_err-push_number-2-clause-refused : goal.returns-in_err-push_number-2-clause-refused
returns-in_err-push_number-2-clause-refused g c =
    let number : g.row.F.Denot → ℕ = λ x. g.F.Valued.number (g.F.Valued.value x) in
    let others = c.in-Some.others.now in
    let size = spaced_size number c.args.row.now c.in-Some.first.now others c.in-Some.ensures.cases.0 in
    let part = flat_part (λ x. 32 ∷ decimal (number x)) others c.loop-element.element-index c.element-item.result c.loop-element-test.true in
    on_err c.from_residual-in_err-push_number-2.result
    (refused_more _ _ (omega (
      arith,
      written_size (vec_items c.push_number.new.text) (vec_items c.loop-element.text)
          (flat_map (λ x. 32 ∷ decimal (number x)) (take c.loop-element.element-index others)) c.loop-element.invariant,
      written_size (vec_items c.args.text.now) (vec_items c.push_number.new.text) (decimal c.as_canonical_u64.result) c.in_ok-push_number.ensures.number,
      ap (λ n. length (decimal n)) c.as_canonical_u64.ensures,
      part,
      size,
      written_size (vec_items c.loop-element.text) (vec_items c.push.new.items) (32 ∷ []) c.in_ok-push.ensures.items,
      ap (λ n. length (decimal n)) c.as_canonical_u64-in-loop-element.ensures,
      ap (λ x. length (decimal (number x))) c.element-item.is,
    ))
    c.in_err-push_number-2.ensures.refused)
