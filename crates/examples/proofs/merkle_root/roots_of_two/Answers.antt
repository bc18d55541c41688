use Rattle.std.proofs.Common.{◌≡◌, ℕ, ◌+◌, ◌^◌, List, map, ap, refl, sym, ◌∙◌}
use Rattle.p3_field.specs.Ring.{AreRoots}
use Rattle.p3_field.specs.declared.fields.Valued.{Ghosts as FieldMembers}
use Rattle.p3_matrix.specs.BitOrder.{reversed_rows}
use Rattle.p3_matrix.specs.Cosets.{values_of}
use Rattle.p3_matrix.specs.Matrix.{Same}
use Rattle.p3_matrix.specs.RowMajor.{IsRowMajor, RowMajor, height, row}
use Rattle.p3_matrix.proofs.Matrices.{same_sym, same_trans}
use Rattle.p3_matrix.proofs.TwoPowers.{log_same}
use Rattle.p3_dft.specs.Extensions.{IsExtension}
use Rattle.p3_dft.specs.Shapes.{FitsLde}
use Rattle.p3_dft.proofs.Calls.PublishedExtensions.{physical_height, physical_values}
use Rattle.p3_dft.proofs.Laws.OneAnswer.{one_extension}
use Rattle.examples.specs.MerkleTrees.{tree}
use Rattle.examples.proofs.MerkleTrees.{one_root, reversed_alike}
use Rattle.examples.proofs.merkle_root.roots_of_two.Goals as goal

-- two extensions of one matrix, whose rows lie in bit reversed order, have one root
two_roots : {F V : Type 0} (f : FieldMembers F) (generator : ℕ → F) (bits : ℕ)
    → AreRoots f.ring bits (λ n. f.value (generator n)) → (join : V → V → V) (of : List F → V)
    → ((xs ys : List F) → map f.value xs ≡ map f.value ys → of xs ≡ of ys) → (m : RowMajor F) (added : ℕ)
    (s : f.Element) (i j : ℕ) (a b : RowMajor F) → FitsLde bits (height m) m.width added
    → IsRowMajor a → height a ≡ 2 ^ i → IsRowMajor b → height b
    ≡ 2 ^ j → IsExtension f generator m added s (reversed_rows i a)
    → IsExtension f generator m added s (reversed_rows j b)
    → tree join i (λ r. of (row a r)) ≡ tree join j (λ r. of (row b r))
two_roots f generator bits are_roots join of law m added s i j a b fits whole high other tall x y =
    let n = fits.log + added in
    let long = (x.extended fits.log fits.height).height in
    let long_too = (y.extended fits.log fits.height).height in
    let log : i ≡ j =
    log_same i j (sym high ∙ physical_height f i n a (reversed_rows i a) whole high refl long
    ∙ sym (physical_height f j n b (reversed_rows j b) other tall refl long_too) ∙ tall) in
    let natural = one_extension f generator bits are_roots m (reversed_rows i a) (reversed_rows j b) added s fits x y in
    let same : Same (values_of f a) (values_of f b) =
    same_trans _ _ _ (physical_values f i n a (reversed_rows i a) whole high refl long)
    (same_trans _ _ _ (reversed_alike n (values_of f (reversed_rows i a)) (values_of f (reversed_rows j b)) long natural)
    (same_sym _ _ (physical_values f j n b (reversed_rows j b) other tall refl long_too))) in
    one_root f join of law i a b whole other high same ∙ ap (λ k. tree join k (λ r. of (row b r))) log

pub returns-clause-one : goal.returns-clause-one
returns-clause-one g c =
    let hash = c.args.hash.now in
    c.in_ok-made.ensures.root
    ∙ two_roots g.F.Valued g.F.TwoAdicField.generator _ g.met.F.TwoAdicField.roots_law (g.H.RowHash.of_pair hash)
    (g.H.RowHash.of_row hash) (g.met.H.RowHash.row_law hash) c.args.mat
    c.args.added_bits (g.F.Valued.value c.args.shift) _ _ c.in_ok-made.made.rows.physical c.in_ok-again.again.rows.physical c.requires
    c.height-whole.ensures.whole (sym c.height-whole.ensures.height ∙ c.height-whole.ensures.power)
    c.height-whole_too.ensures.whole (sym c.height-whole_too.ensures.height ∙ c.height-whole_too.ensures.power)
    c.in_ok-made.ensures.extension (rw (sym c.in_ok-copy.ensures.copy) c.in_ok-again.ensures.extension)
    ∙ sym c.in_ok-again.ensures.root

pub returns-clause-root : goal.returns-clause-root
returns-clause-root g c = (c.in_ok-made.made.rows.bits, c.in_ok-made.made.rows.physical, c.in_ok-made.ensures.extension, c.in_ok-made.ensures.root)
