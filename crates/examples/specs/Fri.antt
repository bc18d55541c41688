-- The commit phase and the queries of FRI: codewords with rows in bit reversed order, each folded to the next and committed to by
-- the tree over its pairs of neighbouring rows.
use Rattle.std.specs.Prelude.{◌≡◌, ℕ, suc, ◌+◌, ◌-◌, ◌*◌, ◌/◌, ◌%◌, ◌^◌, ◌<◌, ◌≤◌, List, length, map, get_or}
use Rattle.std.specs.List.{FoldsTo as Chained}
use Rattle.p3_field.specs.Ring.{power}
use Rattle.p3_field.specs.declared.fields.Valued.{Ghosts as FieldMembers}
use Rattle.p3_matrix.specs.BitOrder.{bit_reversal, rev}
use Rattle.p3_matrix.specs.Cosets.{point, values_of}
use Rattle.p3_matrix.specs.Matrix.{Matrix}
use Rattle.p3_matrix.specs.RowMajor.{RowMajor, height, rows_from}
use Rattle.examples.specs.declared.fri.Opening.{Opening}
use Rattle.examples.specs.Foldings.{AreFoldedRows, IsFoldedPair}
use Rattle.examples.specs.MerkleTrees.{AreNodes, climbed}

-- two rows of such a width and a path that leads from their digest, as leaf i of 2 ^ k, to this root
pub record IsOpened {F D V : Type 0} (worth : D → V) (join : V → V → V) (of_row : List F → V) (k i w : ℕ) (root : V)
    (pair : RowMajor F) (path : List D) : Type 0 where
  pub height : height pair ≡ 2
  pub width : pair.width ≡ w
  pub long : length path ≡ k
  pub leads : climbed join (2 ^ k + i) (of_row pair.values) (map worth path) ≡ root

-- a proof has the shape that a verifier asks for: the roots are no more than the first codeword's logarithm, the last codeword has the
-- height that is left, and there are as many queries as are drawn
pub record HasProofShape (two_adicity log drawn roots height queries : ℕ) : Type 0 where
  pub some : 1 ≤ log
  pub fits_u64 : log < 64
  pub within : log ≤ two_adicity
  pub layers : roots ≤ log
  pub last : height ≡ 2 ^ (log - roots)
  pub all_drawn : queries ≡ drawn

-- the transcript took in the roots, in their order, and after each its challenge was drawn
pub record AreDrawn {T D F : Type 0} (draws : T → D → F → T → Type 0) (before : T) (roots : List D) (challenges : List F) (after : T) : Type 0 where
  pub rounds : List (D × F)
  pub of_roots : map (λ r. r.0) rounds ≡ roots
  pub are_challenges : map (λ r. r.1) rounds ≡ challenges
  pub drawn : Chained (λ t r u. draws t r.0 r.1 u) before rounds after

module _ {F : Type 0} (f : FieldMembers F) (g : ℕ → f.Element) where
  -- pair i of the codeword on the coset of s of order 2 ^ (k + 1) is folded with beta to the row `next`, of the coset of s * s
  abbrev pub FoldsTo : (k : ℕ) (s beta : f.Element) (i : ℕ) (pair : Matrix f.Element) (next : ℕ → f.Element) → Type 0
  FoldsTo k s beta i pair next =
      (j : ℕ) → j < pair.width
      → IsFoldedPair f.ring beta (point f.ring g (suc k) s (rev k i)) (pair.entry 0 j) (pair.entry 1 j) (next j)

  -- pair i of a codeword on the coset of s of order 2 ^ log, and what is opened of the n - 1 after it, down to the last one: pair l, of
  -- number i / 2 ^ l, is on the coset of s ^ 2 ^ l, and is folded to the row of that number, which is in the next pair
  pub record FoldsDown (log n : ℕ) (s : f.Element) (betas : ℕ → f.Element) (i : ℕ) (pairs : ℕ → Matrix f.Element) (last : Matrix f.Element) : Type 0 where
    pub between : (l : ℕ) → suc l < n → FoldsTo (log - suc l) (power f.ring s (2 ^ l)) (betas l) (i / 2 ^ l) (pairs l) ((pairs (suc l)).entry ((i / 2 ^ l) % 2))
    pub to_last : (l : ℕ) → suc l ≡ n → FoldsTo (log - suc l) (power f.ring s (2 ^ l)) (betas l) (i / 2 ^ l) (pairs l) (last.entry (i / 2 ^ l))

  -- a codeword on the coset of s of order 2 ^ (k + 1) with the nodes of the tree over its pairs, which is folded with beta to the next one
  pub record IsLayer {D V : Type 0} (worth : D → V) (join : V → V → V) (of_row : List F → V) (k : ℕ)
      (s beta : f.Element) (codeword next : RowMajor F) (nodes : List D) : Type 0 where
    pub height : height codeword ≡ 2 ^ suc k
    pub tree : AreNodes worth join (2 ^ k) (λ i. of_row (rows_from codeword (2 * i) 2).values) nodes
    pub folds : AreFoldedRows f.ring g beta k s (bit_reversal (suc k) (values_of f codeword)) (bit_reversal k (values_of f next))

  -- n codewords, the first on the coset of s of order 2 ^ log, each folded with its challenge to the next one, which is on the coset of
  -- the squared shift, down to codeword n
  abbrev pub AreLayers : {D V : Type 0} (worth : D → V) (join : V → V → V) (of_row : List F → V) (log n : ℕ)
      (s : f.Element) (betas : ℕ → f.Element) (codewords : ℕ → RowMajor F) (nodes : ℕ → List D)
      → Type 0
  AreLayers worth join of_row log n s betas codewords nodes =
      (l : ℕ) → l < n
      → IsLayer worth join of_row (log - suc l) (power f.ring s (2 ^ l)) (betas l) (codewords l) (codewords (suc l))
      (nodes l)

  -- what is opened for query i is accepted: for each root a pair with a path that leads to it, and each pair is folded to the row of the
  -- next one, or of the last codeword
  abbrev pub IsAcceptedQuery : {D V : Type 0} (worth : D → V) (join : V → V → V) (of_row : List F → V) (log : ℕ) (s : f.Element)
      (betas : ℕ → f.Element) (roots : List D) (last : RowMajor F) (i : ℕ) (openings : List (Opening F D))
      → Type 0
  IsAcceptedQuery {D} worth join of_row log s betas roots last i openings =
      (length openings ≡ length roots)
      × ((l : ℕ) (o : Opening F D) (d : D) → l < length openings
      → IsOpened worth join of_row (log - suc l) (i / 2 ^ l) last.width (worth (get_or roots l d)) (get_or openings l o).pair
      (get_or openings l o).path.items)
      × ((o : Opening F D)
      → FoldsDown log (length openings) s betas i (λ l. values_of f (get_or openings l o).pair) (values_of f last))
