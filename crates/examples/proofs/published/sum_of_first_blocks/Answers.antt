use Rattle.std.proofs.Common.{◌≡◌, ℕ, ◌+◌, ◌/◌, ◌<◌, ◌≤◌, ap, get_or, refl, subst, sym, ◌∙◌, of_calls}
use Rattle.p3_dft.proofs.Calls.PublishedExtensions.{physical_height}
use Rattle.p3_dft.proofs.Laws.Blocks.{where_refused}
use Rattle.examples.proofs.BlockSums.{blocks_within, sum_at_refusal}
use Rattle.examples.proofs.published.sum_of_first_blocks.Goals as goal

pub returns-in-Refused-clause-first : goal.returns-in-Refused-clause-first
returns-in-Refused-clause-first g c = λ k e.
    let field = g.F.Valued in
    let x = where_refused _ _ _ _ c.in-Refused.is c.in-Err.ensures.refused k e in
    let (starts, many, distinct, within, total) = sum_at_refusal field.ring field.value field.zero _ _ _ _
    (λ s. field.value s.sum) (λ s. s.left) c.args.limit _ _
    (λ s start r e told. told.0 refl) (λ s start r e told. told.1 refl) (λ s made.
    let none : s.sum ≡ g.F.Field.ZERO = search of_calls in
    (ap field.value none ∙ g.met.F.Field.zero_law, (let all : s.left ≡ c.args.limit = search of_calls in all))) x.2 in
    let high = (x.1.extended k e).height in
    (x.0, x.1, starts, many, distinct, (λ i d inside. let told = within i d inside in (told.0, subst (λ (h : ℕ). get_or starts i d < h) high told.1)), total)

pub returns-in-Ok-clause-none : goal.returns-in-Ok-clause-none
returns-in-Ok-clause-none g c = λ empty k e.
    let b = g.D.TwoAdicSubgroupDft.facts.block_rows k c.args.added_bits in
    let out = c.in-Ok.out.physical in
    let x = c.in-Ok.ensures.values in
    let tall =
    physical_height g.F.Valued c.in-Ok.out.bits (k + c.args.added_bits) out _ c.height-whole.ensures.whole
    (sym c.height-whole.ensures.height ∙ c.height-whole.ensures.power) refl (x.extended k e).height in
    subst (λ (h : ℕ). h / b ≤ c.args.limit) tall
    (blocks_within _ (λ s. s.left) (λ s start r after told. (told.0 refl).0) _ c.args.limit b out c.in-Ok.taken
    (λ s made. let all : s.left ≡ c.args.limit = search of_calls in all) (c.in-Ok.ensures.published k e))

pub returns-in-OutOfMemory-clause-refused : goal.returns-in-OutOfMemory-clause-refused
returns-in-OutOfMemory-clause-refused g c = (_, _, _, _, rw c.in-OutOfMemory.is at c.in-Err.ensures.engine.refused)
