-- What a new limit that refused a block had taken before it.
use Rattle.std.proofs.Common.{◌≡◌, ℕ, ◌+◌, ◌≤◌, List, [], ◌∷◌, ◌++◌, length, Result, Ok, Err, sym, ap, ◌∙◌, arith, ⊎_elim}
use Rattle.std.specs.Prelude.{⊤}
use Rattle.std.proofs.lemmas.Bool.{cases_lt}
use Rattle.p3_matrix.specs.Blocks.{AreBlocksOf, IsRefused, Run}
use Rattle.p3_matrix.specs.Consumers.{IsCounted, Limited}
use Rattle.p3_matrix.specs.Matrix.{Matrix}
use Rattle.p3_matrix.specs.RowMajor.{RowMajor}
use Rattle.p3_matrix.specs.declared.blocks.BlockRefused.{BlockRefused}
use Rattle.p3_matrix.proofs.Consumers.{ok_is_no_err}

-- where the block begins that was refused
abbrev start_of : Result ⊤ BlockRefused → ℕ
start_of (Ok x) = 0
start_of (Err refusal) = refusal.start

module _ {T : Type 0} where
  -- each block that is taken is below the limit, and counted
  taken : (blocks : List (ℕ × RowMajor T)) (c e : Limited) → c.seen ≤ c.limit → Run {T = T} (λ x start rows answer y. IsCounted x start answer y) c blocks e
      → (e.seen ≡ c.seen + length blocks) × (e.limit ≡ c.limit) × (e.seen ≤ e.limit)
  taken [] c e within run = (ap (λ r. r.seen) (sym run) ∙ omega arith, ap (λ r. r.limit) (sym run), rw (sym run) within)
  taken (p ∷ ps) c e within (d, step, run) =
      ⊎_elim
      (λ below.
      let next = (step.taken below).1 in
      let seen : d.seen ≡ c.seen + 1 = ap (λ l. l.seen) next in
      let same : d.limit ≡ c.limit = ap (λ l. l.limit) next in
      let rest = taken ps d e (omega (arith, seen, same, below)) run in
      (omega (arith, rest.0, seen), rest.1 ∙ same, rest.2))
      (λ full. absurd (ok_is_no_err _ _ (sym (step.refused full).0)))
      (cases_lt c.seen c.limit)

  -- a new limit that refused a block had taken as many as it may, and names that block
  pub one_too_many : {A : Type 0} (may_make : Limited → Type 0) (values : RowMajor T → Matrix A) (b : ℕ)
      (out : Matrix A) (last : Limited) (refusal : BlockRefused) (limit : ℕ)
      → ((c : Limited) → may_make c → (c.limit ≡ limit) × (c.seen ≡ 0))
      → IsRefused {T = T} (λ c start rows answer e. IsCounted c start answer e) may_make values b out last refusal
      → (accepted : List (ℕ × RowMajor T)) × (refused : ℕ × RowMajor T)
      × AreBlocksOf values b out (accepted ++ refused ∷ []) × (length accepted ≡ limit)
      × (refusal.start ≡ refused.0)
  one_too_many may_make values b out last refusal limit new x =
      let first = new x.first x.made in
      let middle = x.run.middle in
      let told = taken x.accepted x.first middle (omega (arith, first.0, first.1)) x.run.run in
      ⊎_elim
      (λ below. absurd (ok_is_no_err _ _ (x.run.stop.taken below).0))
      (λ full. (
        x.accepted,
        x.refused,
        x.blocks,
        omega (arith, full, told.0, told.1, told.2, first.0, first.1),
        ap (λ a. start_of a) (x.run.stop.refused full).0,
      ))
      (cases_lt middle.seen middle.limit)
