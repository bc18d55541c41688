use Rattle.std.proofs.Common.{◌≡◌, ℕ, suc, ◌+◌, ◌-◌, ◌^◌, inl, inr, [], ◌∷◌, ◌++◌, get_or, length, map, ap, refl, subst, sym, ◌∙◌, arith}
use Rattle.std.proofs.Math.ListN.{get_or-append}
use Rattle.std.proofs.Math.Nat.{two-pow-succ}
use Rattle.std.proofs.lemmas.Bool.{cases_lt}
use Rattle.std.proofs.lemmas.Fn.{FoldsTo-push}
use Rattle.std.proofs.lemmas.List.{get_or-map, get_or_push, get_or_read, length-map, map_push}
use Rattle.std.proofs.lemmas.Nat.{pow_pos}
use Rattle.p3_field.proofs.Powers.{power-double, power-one}
use Rattle.p3_matrix.specs.RowMajor.{height}
use Rattle.examples.specs.Fri.{IsLayer}
use Rattle.p3_dft.proofs.Laws.Points.{one_logarithm}
use Rattle.examples.proofs.Codewords.{get_or_pushed, layers_pushed, smaller}
use Rattle.examples.proofs.Refusals.{told_by_growth}
use Rattle.examples.proofs.fri.commit.Goals as goal

pub loop-fold-init : goal.loop-fold-init
loop-fold-init g c =
    let none = c.in_ok-layers.ensures.items in
    let all : c.args.log_height ≡ c.args.log_height - 0 = omega arith in
    record {
      layers_long = ap length none;
      roots_long = ap length c.in_ok-roots.ensures.items;
      challenges = c.in_ok-challenges.ensures.items ∙ sym (ap (map (λ y. y.challenge)) none);
      layers_room = omega (arith, c.in_ok-layers.ensures.capacity);
      roots_room = omega (arith, c.in_ok-roots.ensures.capacity);
      challenges_room = omega (arith, c.in_ok-challenges.ensures.capacity);
      last_height = c.requires.height ∙ ap (λ n. 2 ^ n) all;
      last_width = refl;
      size = omega arith;
      shift = sym (power-one g.F.Valued.ring (g.F.Valued.value c.args.shift));
      invertible = c.requires.invertible;
      first = ap (λ xs. get_or (map (λ y. y.codeword) xs) 0 c.args.codeword) none;
      layers = λ l below. absurd (omega (arith, below));
      roots = λ q d below. absurd (omega (arith, below));
      drawn = rw none refl;
    }

pub commit_layer-requires-clause-fits : goal.commit_layer-requires-clause-fits
commit_layer-requires-clause-fits g c =
    let before = c.loop-fold.invariant in
    let fits = c.requires.fits in
    record {
      log = c.args.log_height - c.loop-fold._fold;
      within = omega (arith, one_logarithm _ _ _ fits.height c.requires.height, fits.within);
      height = before.last_height;
      width = omega (arith, before.last_width, fits.width);
      size = smaller _ _ _ _ before.size before.last_width fits.size;
    }

pub commit_layer-requires-clause-pairs : goal.commit_layer-requires-clause-pairs
commit_layer-requires-clause-pairs g c =
    let k = c.args.log_height - suc c.loop-fold._fold in
    let log : c.args.log_height - c.loop-fold._fold ≡ suc k = omega (arith, c.loop-fold-test.true, c.requires.folds) in
    omega (arith, c.loop-fold.invariant.last_height, ap (λ n. 2 ^ n) log, two-pow-succ k, pow_pos k)

pub index-requires : goal.index-requires
index-requires g c =
    let k = c.args.log_height - suc c.loop-fold._fold in
    let log : c.args.log_height - c.loop-fold._fold ≡ suc k = omega (arith, c.loop-fold-test.true, c.requires.folds) in
    omega (
      arith,
      (c.in_ok-layer.ensures.layer k (c.loop-fold.invariant.last_height ∙ ap (λ n. 2 ^ n) log)).tree.long,
      pow_pos k,
      c.in_ok-layer.layer.nodes.ok.0,
    )

-- One layer more. Its challenge, codeword, tree and root are pushed together, so entry l of each list belongs to layer l.
-- Older layers stand; the new one is what `commit_layer` ensures, at the squared shift.
pub loop-fold-preserved : goal.loop-fold-preserved
loop-fold-preserved g c =
    let f = g.F.Valued in
    let hash = g.H.RowHash in
    let gen = λ (n : ℕ). f.value (g.F.TwoAdicField.generator n) in
    let before = c.loop-fold.invariant in
    let told = c.in_ok-layer.ensures in
    let old = c.loop-fold.layers.items in
    let layer = c.in_ok-layer.layer in
    let next = c.in_ok-layer.next in
    let fold = c.loop-fold._fold in
    let k = c.args.log_height - suc fold in
    let log : c.args.log_height - fold ≡ suc k = omega (arith, c.loop-fold-test.true, c.requires.folds) in
    let less : c.args.log_height - (fold + 1) ≡ k = omega arith in
    let high = before.last_height ∙ ap (λ n. 2 ^ n) log in
    let is = told.layer k high in
    let items = c.push_reserved-in-loop-fold-2.ensures.items in
    let challenges_are = c.push_reserved-in-loop-fold.ensures.items in
    let roots_are = c.push_reserved.ensures.items in
    let codewords_are = ap (map (λ y. y.codeword)) items ∙ map_push (λ y. y.codeword) old layer ∙ ap (λ m. map (λ y. y.codeword) old ++ m ∷ []) told.codeword in
    let nodes_are = ap (map (λ y. y.nodes.items)) items ∙ map_push (λ y. y.nodes.items) old layer in
    let codewords_long = length-map old (λ y. y.codeword) ∙ before.layers_long in
    let nodes_long = length-map old (λ y. y.nodes.items) ∙ before.layers_long in
    let challenges_long = ap length before.challenges ∙ length-map old (λ y. y.challenge) ∙ before.layers_long in
    let root = λ (d : _). get_or_read layer.nodes.items _ _ (omega (arith, is.tree.long, pow_pos k)) c.index.ensures d in
    let pushed = layers_pushed f gen hash.worth (hash.of_pair c.args.hash.now) (hash.of_row c.args.hash.now) c.args.log_height (f.value c.args.shift) fold
    c.loop-fold.challenges.items (map (λ y. y.codeword) old) (map (λ y. y.nodes.items) old) layer.challenge
    c.loop-fold.last next layer.nodes.items challenges_long codewords_long nodes_long before.layers
    (subst (λ s. IsLayer f gen hash.worth (hash.of_pair c.args.hash.now) (hash.of_row c.args.hash.now) k s
    (f.value layer.challenge) c.loop-fold.last next layer.nodes.items) before.shift is) in
    record {
      layers_long =
          omega (
            arith,
            before.layers_long,
            c.push_reserved-in-loop-fold-2.ensures.len,
            c.loop-fold.layers.ok.0,
            c.push_reserved-in-loop-fold-2.new.self.ok.0,
          );
      roots_long = omega (arith, before.roots_long, c.push_reserved.ensures.len, c.loop-fold.roots.ok.0, c.push_reserved.new.self.ok.0);
      challenges =
          challenges_are ∙ ap (λ bs. bs ++ layer.challenge ∷ []) before.challenges
          ∙ sym (ap (map (λ y. y.challenge)) items ∙ map_push (λ y. y.challenge) old layer);
      layers_room = omega (arith, before.layers_room, c.push_reserved-in-loop-fold-2.ensures.capacity);
      roots_room = omega (arith, before.roots_room, c.push_reserved.ensures.capacity);
      challenges_room = omega (arith, before.challenges_room, c.push_reserved-in-loop-fold.ensures.capacity);
      last_height = rw less (omega (arith, told.shape.0, high, two-pow-succ k));
      last_width = told.shape.1 ∙ before.last_width;
      size = omega (arith, told.shape.0, before.size);
      shift = c.invertible_square-last_shift.ensures.square ∙ power-double f.ring (f.value c.args.shift) (f.value c.loop-fold.last_shift) fold before.shift;
      invertible = c.invertible_square-last_shift.ensures.invertible;
      first = ap (λ ms. get_or ms 0 next) codewords_are ∙ get_or_pushed (map (λ y. y.codeword) old) c.loop-fold.last next 0 (omega arith) ∙ before.first;
      layers = λ l below. rw (challenges_are, codewords_are, nodes_are) (pushed l (omega (arith, below)));
      roots = λ q d below.
          let cases = cases_lt q fold in
          elim cases [
            | inl less ↦
                ap (λ xs. get_or xs q d) roots_are
                ∙ get_or-append c.loop-fold.roots.items _ d q (omega (arith, less, before.roots_long))
                ∙ before.roots q d less
                ∙ sym (ap (λ xs. get_or xs 1 d) (ap (λ ns. get_or ns q []) nodes_are
                ∙ get_or-append (map (λ y. y.nodes.items) old) _ [] q (omega (arith, less, nodes_long))))
            | inr more ↦
                let here : fold ≡ q = omega (arith, below, more) in
                ap (λ xs. get_or xs q d) roots_are ∙ get_or_push c.loop-fold.roots.items _ d q (before.roots_long ∙ here) ∙ root d
                ∙ sym (ap (λ xs. get_or xs 1 d) (ap (λ ns. get_or ns q []) nodes_are ∙ get_or_push (map (λ y. y.nodes.items) old) _ [] q (nodes_long ∙ here)))
          ];
      drawn =
          rw items (FoldsTo-push
          (λ t y u. (root : _) × (root ≡ get_or y.nodes.items 1 root) × g.T.Transcript.draws t root y.challenge u)
          c.args.transcript.now old c.loop-fold.transcript layer c.commit_layer.new.transcript before.drawn told.drawn);
    }

pub returns-clause-shapes : goal.returns-clause-shapes
returns-clause-shapes g c = λ l y below.
    let items = c.loop-fold.layers.items in
    let is = c.loop-fold.invariant.layers l (omega (arith, below, c.loop-fold.invariant.layers_long)) in (
      ap height (sym (get_or-map (λ y. y.codeword) items l y c.loop-fold.last below)) ∙ is.height ∙ omega (arith, two-pow-succ (c.args.log_height - suc l)),
      ap length (sym (get_or-map (λ y. y.nodes.items) items l y [] below)) ∙ is.tree.long,
    )

pub returns-in_err-layers-clause-refused : goal.returns-in_err-layers-clause-refused
returns-in_err-layers-clause-refused g c = told_by_growth c.from_residual.result _ _ _ c.from_residual.ensures c.in_err-layers.ensures.room

pub returns-in_err-roots-clause-refused : goal.returns-in_err-roots-clause-refused
returns-in_err-roots-clause-refused g c =
    told_by_growth c.from_residual-in_err-roots.result _ _ _ c.from_residual-in_err-roots.ensures
    c.in_err-roots.ensures.room

pub returns-in_err-challenges-clause-refused : goal.returns-in_err-challenges-clause-refused
returns-in_err-challenges-clause-refused g c =
    told_by_growth c.from_residual-in_err-challenges.result _ _ _ c.from_residual-in_err-challenges.ensures
    c.in_err-challenges.ensures.room
