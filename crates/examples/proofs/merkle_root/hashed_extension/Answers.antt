use Rattle.std.proofs.Common.{◌≡◌, ℕ, ◌+◌, ◌*◌, ◌^◌, ap, length, refl, subst, sym, ◌∙◌, arith, of_calls}
use Rattle.std.proofs.lemmas.Nat.{pow-add}
use Rattle.p3_matrix.specs.RowMajor.{height, row}
use Rattle.p3_dft.proofs.Calls.PublishedExtensions.{physical_height}
use Rattle.examples.specs.MerkleTrees.{AreHashed}
use Rattle.examples.proofs.MerkleTrees.{all_hashed}
use Rattle.examples.proofs.Refusals.{told_by_growth}
use Rattle.examples.proofs.merkle_root.hashed_extension.Goals as goal

-- 2 ^ a times as many as 2 ^ k
counted : (count high k a rows : ℕ) → count ≡ high * 2 ^ a → high ≡ 2 ^ k → rows ≡ 2 ^ (k + a) → count ≡ rows
counted count high k a rows is log tall = is ∙ ap (λ h. h * 2 ^ a) log ∙ sym (pow-add 2 k a) ∙ sym tall

pub returns-in_err-resize-clause-refused : goal.returns-in_err-resize-clause-refused
returns-in_err-resize-clause-refused g c =
    told_by_growth c.from_residual.result _ _ _ c.from_residual.ensures c.in_err-resize.ensures.room

pub returns-clause-leaves : goal.returns-clause-leaves
returns-clause-leaves g c =
    let field = g.F.Valued in
    let hash = c.args.hash.now in
    let k = c.requires.log in
    let a = c.args.added_bits in
    let out = c.in_ok-rows.rows.physical in
    let tall = physical_height field c.in_ok-rows.rows.bits (k + a) out _ c.height-whole.ensures.whole
    (sym c.height-whole.ensures.height ∙ c.height-whole.ensures.power) refl
    (c.in_ok-rows.ensures.values.extended k c.requires.height).height in
    let count = counted _ _ k a (height out) c.extended_height-count.ensures.height (c.height.ensures.height ∙ c.requires.height) tall in
    let made_long : length c.resize.new.items.items ≡ c.extended_height-count.result = omega (arith, c.in_ok-resize.ensures.len, c.resize.new.items.ok.0) in
    all_hashed _ g.H.RowHash.worth (g.H.RowHash.of_row hash) (λ s. s.digests.items) (λ s. s.hash.now ≡ hash)
    (λ s start rows n right told. (
      told.1 ∙ right,
      subst (λ h. AreHashed g.H.RowHash.worth (λ r. g.H.RowHash.of_row h (row rows r)) start
          (height rows) s.digests.items n.digests.items) right told.2,
    ))
    field.zero out c.height-whole.ensures.whole _ _ c.in_ok-rows.leaves (λ s made. (
      search of_calls,
      ap length (let is : s.digests.items ≡ c.resize.new.items.items = search of_calls in is) ∙ made_long ∙ count,
    ))
    (c.in_ok-rows.ensures.published k c.requires.height)
