use Rattle.std.proofs.Common.{◌≡◌, suc, ◌+◌, ◌*◌, ◌^◌, get_or, map, rules, ap, subst, sym, ◌∙◌, arith}
use Rattle.std.proofs.Math.Nat.{two-pow-succ}
use Rattle.p3_matrix.specs.Cosets.{values_of}
use Rattle.p3_matrix.specs.RowMajor.{IsRowMajor, rows_from}
use Rattle.p3_matrix.specs.RowMajor.{height}
use Rattle.examples.specs.Fri.{FoldsTo}
use Rattle.examples.specs.MerkleTrees.{AreNodes, climbed}
use Rattle.examples.proofs.Queries.{entries_of_pair, height_of_pair, pair_folds}
use Rattle.examples.proofs.Refusals.{told_by_growth}
use Rattle.examples.proofs.fri.open_layer.Goals as goal

pub returns-clause-entries : goal.returns-clause-entries
returns-clause-entries g c = λ r j inside in_row.
    let f = g.F.Valued in
    let m = c.args.layer.now.codeword in
    let i = c.args.index in
    let pair_is : c.new-pair.result ≡ rows_from m (2 * i) 2 = search rules in
    let high : height m ≡ 2 ^ suc c.args.log_half =
    c.requires.height
    ∙ (let twice : 2 * 2 ^ c.args.log_half ≡ 2 ^ suc c.args.log_half =
    omega (arith, two-pow-succ c.args.log_half) in
    twice) in
    ap (λ p. (values_of f p).entry r j) pair_is
    ∙ entries_of_pair f m c.allocator-alloc.ensures.whole c.args.log_half i high c.requires.inside
    (subst IsRowMajor c.view_rows-rows.ensures c.values.ensures.whole) r j inside in_row

pub returns-clause-opened : goal.returns-clause-opened
returns-clause-opened g c = λ h s beta next d is.
    let hash = g.H.RowHash in
    let m = c.args.layer.now.codeword in
    let i = c.args.index in
    let pair_is : c.new-pair.result ≡ rows_from m (2 * i) 2 = search rules in
    let leaf = λ (q : _). hash.of_row h (rows_from m (2 * q) 2).values in
    let tree = subst (AreNodes hash.worth (hash.of_pair h) (2 ^ c.args.log_half) leaf) (sym c.deref.ensures.value) is.tree in
    record {
      height = ap height pair_is ∙ height_of_pair g.F.Valued m c.allocator-alloc.ensures.whole c.args.log_half i is.height c.requires.inside;
      width = ap (λ p. p.width) pair_is;
      long = omega (arith, c.in_ok-path.ensures.long, c.in_ok-path.path.ok.0);
      leads = ap (λ p. climbed (hash.of_pair h) (2 ^ c.args.log_half + i) (hash.of_row h p.values) (map hash.worth c.in_ok-path.path.items)) pair_is
          ∙ c.in_ok-path.ensures.leads h leaf d tree ∙ ap (λ xs. hash.worth (get_or xs 1 d)) c.deref.ensures.value;
    }

pub returns-clause-folds : goal.returns-clause-folds
returns-clause-folds g c = λ h s beta next is.
    let f = g.F.Valued in
    let gen = λ (n : _). f.value (g.F.TwoAdicField.generator n) in
    let m = c.args.layer.now.codeword in
    let i = c.args.index in
    let pair_is : c.new-pair.result ≡ rows_from m (2 * i) 2 = search rules in
    subst (λ p. FoldsTo f gen c.args.log_half s beta i (values_of f p) ((values_of f next).entry i)) (sym pair_is)
    (pair_folds f m c.allocator-alloc.ensures.whole c.args.log_half i is.height c.requires.inside gen beta s next
    (subst IsRowMajor c.view_rows-rows.ensures c.values.ensures.whole) is.folds)

pub returns-in_err-from_slice-clause-refused : goal.returns-in_err-from_slice-clause-refused
returns-in_err-from_slice-clause-refused g c = told_by_growth c.from_residual.result _ _ _ c.from_residual.ensures c.in_err-from_slice.ensures.room
