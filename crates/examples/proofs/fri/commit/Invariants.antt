use Rattle.std.proofs.Common.{◌≡◌, ℕ, ◌-◌, ◌^◌, ◌<◌, ◌≤◌, [], get_or, length, map}
use Rattle.std.specs.List.{FoldsTo}
use Rattle.std.specs.Prelude.{vec_capacity}
use Rattle.p3_field.specs.Ring.{IsInvertible, power}
use Rattle.p3_matrix.specs.RowMajor.{height}
use Rattle.examples.specs.Fri.{AreLayers}
use Rattle.examples.proofs.fri.commit.Given as goal

abbrev pub invariant-loop-fold : goal.invariant-loop-fold
invariant-loop-fold g l =
    let f = g.F.Valued in
    let hash = g.H.RowHash in
    let codewords = map (λ y. y.codeword) l.layers.items in
    let nodes = map (λ y. y.nodes.items) l.layers.items in
    record {
      layers_long : length l.layers.items ≡ l._fold;
      roots_long : length l.roots.items ≡ l._fold;
      challenges : l.challenges.items ≡ map (λ y. y.challenge) l.layers.items;
      layers_room : l.folds ≤ vec_capacity l.layers;
      roots_room : l.folds ≤ vec_capacity l.roots;
      challenges_room : l.folds ≤ vec_capacity l.challenges;
      last_height : height l.last ≡ 2 ^ (l.log_height - l._fold);
      last_width : l.last.width ≡ l.fn.codeword.width;
      size : height l.last ≤ height l.fn.codeword;
      shift : f.value l.last_shift ≡ power f.ring (f.value l.shift) (2 ^ l._fold);
      invertible : IsInvertible f.ring (f.value l.last_shift);
      first : get_or codewords 0 l.last ≡ l.fn.codeword;
      layers : AreLayers f (λ n. f.value (g.F.TwoAdicField.generator n)) hash.worth (hash.of_pair l.hash)
          (hash.of_row l.hash) l.log_height l._fold (f.value l.shift)
          (λ q. f.value (get_or l.challenges.items q f.zero)) (λ q. get_or codewords q l.last) (λ q. get_or nodes q []);
      roots : (q : ℕ) (d : _) → q < l._fold → get_or l.roots.items q d ≡ get_or (get_or nodes q []) 1 d;
      drawn : FoldsTo
          (λ t y u. (root : _) × (root ≡ get_or y.nodes.items 1 root) × g.T.Transcript.draws t root y.challenge u)
          l.fn.transcript l.layers.items l.transcript;
    }
