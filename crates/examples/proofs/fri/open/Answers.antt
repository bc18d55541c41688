use Rattle.std.proofs.Common.{◌≡◌, ℕ, suc, ◌+◌, ◌-◌, ◌<◌, inl, inr, [], get_or, length, map, ap, subst, sym, ◌∙◌, arith}
use Rattle.std.proofs.lemmas.Bool.{cases_lt}
use Rattle.std.proofs.lemmas.List.{get_or-map, get_or_push, get_or_read}
use Rattle.std.proofs.lemmas.Nat.{pow_pos}
use Rattle.std.proofs.Math.ListN.{get_or-append}
use Rattle.p3_matrix.specs.Cosets.{values_of}
use Rattle.examples.specs.Fri.{FoldsDown}
use Rattle.examples.proofs.Codewords.{behind_map, pairs_fold, width_of_layer}
use Rattle.examples.proofs.Queries.{place_inside, some_element}
use Rattle.examples.proofs.Refusals.{told_by_growth}
use Rattle.examples.proofs.fri.open.Goals as goal

pub open_layer-requires-clause-inside : goal.open_layer-requires-clause-inside
open_layer-requires-clause-inside g c =
    place_inside c.args.log_height c.loop-l.l c.args.index (omega (arith, c.requires.layers, c.loop-l-test.true)) c.requires.inside

-- One opening more. What holds of an older opening (`inl`) still holds; the new one (`inr`) is what `open_layer` ensures.
pub loop-l-preserved : goal.loop-l-preserved
loop-l-preserved g c =
    let before = c.loop-l.invariant in
    let told = c.in_ok-opening.ensures in
    let kept =
    λ (q : ℕ) (o : _) (less : q < c.loop-l.l). ap (λ xs. get_or xs q o) c.push_reserved.ensures.items
    ∙ get_or-append c.loop-l.openings.items _ o q (omega (arith, less, before.long)) in
    let new = λ (o : _). ap (λ xs. get_or xs c.loop-l.l o) c.push_reserved.ensures.items ∙ get_or_push c.loop-l.openings.items _ o c.loop-l.l before.long in
    let read = λ (y : _). sym (get_or_read c.args.layers.now _ _ c.loop-l-test.true c.index-layers-l.is y) in
    let log : c.args.log_height - suc c.loop-l.l ≡ c.args.log_height - 1 - c.loop-l.l = omega arith in
    record {
      long = omega (arith, before.long, c.push_reserved.ensures.len, c.loop-l.openings.ok.0, c.push_reserved.new.self.ok.0);
      room = omega (arith, before.room, c.push_reserved.ensures.capacity);
      pairs = λ q y o below.
          let cases = cases_lt q c.loop-l.l in
          elim cases [
            | inl less ↦ rw (kept q o less) (before.pairs q y o less)
            | inr more ↦
                let here : q ≡ c.loop-l.l = omega (arith, below, more) in
                rw (here, new o, read y) told.pair
          ];
      entries = λ q y o r j below inside in_row.
          let cases = cases_lt q c.loop-l.l in
          elim cases [
            | inl less ↦ rw (kept q o less) (before.entries q y o r j less inside in_row)
            | inr more ↦
                let here : q ≡ c.loop-l.l = omega (arith, below, more) in
                rw (here, new o, read y) (told.entries r j inside (rw (here, read y) at in_row))
          ];
      opened = λ q y o below h s beta next d is.
          let cases = cases_lt q c.loop-l.l in
          elim cases [
            | inl less ↦ rw (kept q o less) (before.opened q y o less h s beta next d is)
            | inr more ↦
                let here : q ≡ c.loop-l.l = omega (arith, below, more) in
                rw (here, new o, read y, log) (told.opened h s beta next d (rw (here, read y, log) at is))
          ];
      folds = λ q y o below h s beta next is.
          let cases = cases_lt q c.loop-l.l in
          elim cases [
            | inl less ↦ rw (kept q o less) (before.folds q y o less h s beta next is)
            | inr more ↦
                let here : q ≡ c.loop-l.l = omega (arith, below, more) in
                rw (here, new o, log) (told.folds h s beta next (rw (here, read y, log) at is))
          ];
    }

pub returns-clause-pairs : goal.returns-clause-pairs
returns-clause-pairs g c = λ l y o below. c.loop-l.invariant.pairs l y o (omega (arith, below, c.loop-l-test.false))

pub returns-clause-opened : goal.returns-clause-opened
returns-clause-opened g c = λ h s betas last are l o d below.
    let f = g.F.Valued in
    let hash = g.H.RowHash in
    let gen = λ (n : ℕ). f.value (g.F.TwoAdicField.generator n) in
    let layers = c.args.layers.now in
    let y = some_element layers l below in
    let codeword = get_or-map (λ y. y.codeword) layers l y last below in
    let nodes = get_or-map (λ y. y.nodes.items) layers l y [] below in
    let rest : l + (length layers - l) ≡ length layers = omega (arith, below) in
    let wide = ap (λ m. m.width) (sym codeword)
    ∙ width_of_layer f gen hash.worth (hash.of_pair h) (hash.of_row h) c.args.log_height s (length layers) betas
    (λ q. get_or (map (λ y. y.codeword) layers) q last) (λ q. get_or (map (λ y. y.nodes.items) layers) q []) are
    (length layers - l) l rest
    ∙ ap (λ m. m.width) (behind_map (λ y. y.codeword) layers last) in
    let here = are l below in
    rw (sym wide, nodes) (c.loop-l.invariant.opened l y o (omega (arith, below, c.loop-l-test.false)) h _ _ _ d (rw (codeword, nodes) at here))

pub returns-clause-folds : goal.returns-clause-folds
returns-clause-folds g c = λ h s betas last are o.
    let f = g.F.Valued in
    let hash = g.H.RowHash in
    let gen = λ (n : ℕ). f.value (g.F.TwoAdicField.generator n) in
    let layers = c.args.layers.now in
    let inv = c.loop-l.invariant in
    let n = length layers in
    let codewords = λ (q : ℕ). get_or (map (λ y. y.codeword) layers) q last in
    let nodes = λ (q : ℕ). get_or (map (λ y. y.nodes.items) layers) q [] in
    let pairs = λ (q : ℕ). (get_or c.loop-l.openings.items q o).pair in
    let within = λ (l : ℕ) (below : l < n). let e : l < c.loop-l.l = omega (arith, below, c.loop-l-test.false) in e in
    let codeword = λ (l : ℕ) (below : l < n). get_or-map (λ y. y.codeword) layers l (some_element layers l below) last below in
    let tree = λ (l : ℕ) (below : l < n). get_or-map (λ y. y.nodes.items) layers l (some_element layers l below) [] below in
    subst (λ m. FoldsDown f gen c.args.log_height n s betas c.args.index (λ q. values_of f (pairs q)) (values_of f m))
    (behind_map (λ y. y.codeword) layers last)
    (pairs_fold f gen hash.worth (hash.of_pair h) (hash.of_row h) c.args.log_height s n betas codewords nodes are c.args.index pairs
    (λ l below.
    let here = are l below in
    let d = some_element (nodes l) 0 (omega (arith, here.tree.long, pow_pos (c.args.log_height - suc l))) in
    (inv.opened l (some_element layers l below) o (within l below) h _ _ _ d
    (rw (codeword l below, tree l below) at here)).width ∙ ap (λ m. m.width) (sym (codeword l below)))
    (λ l r j below inside in_row.
    rw (codeword l below) (inv.entries l (some_element layers l below) o r j (within l below) inside (rw (codeword l below) at in_row)))
    (λ l below.
    let here = are l below in
    inv.folds l (some_element layers l below) o (within l below) h _ _ _ (rw (codeword l below, tree l below) at here)))

pub returns-in_err-openings-clause-refused : goal.returns-in_err-openings-clause-refused
returns-in_err-openings-clause-refused g c = told_by_growth c.from_residual.result _ _ _ c.from_residual.ensures c.in_err-openings.ensures.room
