-- What an extension with blocks says of the way in which it stopped, and what a consumer holds that copied all blocks.
use Rattle.p3_dft.proofs.Names.{◌≡◌, ℕ, ◌*◌, ◌^◌, List, length, Result, Ok, sym, ◌∙◌, ⊤, reversed_rows, IsPublished, IsCopied, IsRowMajor, RowMajor, height}
use Rattle.p3_dft.proofs.Names.{all_copied, IsExtension, FitsLde}
use Rattle.p3_dft.proofs.Calls.PublishedExtensions.{physical_entries}
use Rattle.p3_dft.specs.Blocks.{OnRefused, OnOutOfMemory}
use Rattle.p3_field.specs.declared.fields.Valued.{Ghosts as FieldMembers}
use Rattle.p3_dft.specs.declared.blocks.BlocksStopped.{BlocksStopped}
use Rattle.p3_dft.specs.declared.blocks.BlocksStopped.TheVariants.{Refused, OutOfMemory}
use Rattle.p3_dft.specs.declared.blocks.Unpublished.{Unpublished}

-- where a consumer refused, what is said of it and its refusal
pub where_refused : {M C R : Type 0} (P : C → R → Type 0) (stopped : BlocksStopped M C R) (consumer : C) (refusal : R)
    → stopped ≡ Refused consumer refusal → OnRefused stopped P → P consumer refusal
where_refused P stopped consumer refusal is given = rw is at given

-- where memory was refused, what is said of the maker of consumers
pub where_out_of_memory : {M C R : Type 0} (P : M → Type 0) (stopped : BlocksStopped M C R) (unpublished : Unpublished M)
    → stopped ≡ OutOfMemory unpublished → OnOutOfMemory stopped P → P unpublished.make_consumer
where_out_of_memory P stopped unpublished is given = rw is at given

-- what follows from what is said of a refusal
pub on_refused_weaker : {M C R : Type 0} (stopped : BlocksStopped M C R) (P Q : C → R → Type 0)
    → ((consumer : C) (refusal : R) → P consumer refusal → Q consumer refusal) → OnRefused stopped P
    → OnRefused stopped Q
on_refused_weaker (Refused consumer refusal) P Q more given = more consumer refusal given
on_refused_weaker (OutOfMemory unpublished) P Q more given = tt

-- a consumer that copies each block to its place, and was made with as many entries as the extension of m has, holds those of the physical matrix
pub copied_extension : {F C R : Type 0} (f : FieldMembers F) {generator : ℕ → F} {two_adicity : ℕ} {m : RowMajor F} {a : ℕ} {s : f.Element} {out : RowMajor F}
    {step : C → ℕ → RowMajor F → Result ⊤ R → C → Type 0} {may_make : C → Type 0} {b : ℕ} {last : C} (bits : ℕ) (entries : C → List F)
    → ((c : C) (start : ℕ) (rows : RowMajor F) (e : C) → step c start rows (Ok tt) e → IsCopied (entries c) start rows (entries e))
    → ((c : C) → may_make c → length (entries c) ≡ (height m * 2 ^ a) * m.width)
    → FitsLde two_adicity (height m) m.width a → IsRowMajor out → height out ≡ 2 ^ bits → IsExtension f generator m a s (reversed_rows bits out)
    → IsPublished step may_make b out last → entries last ≡ out.values
copied_extension f {out} bits entries copies new fits whole tall extension published =
    all_copied out whole entries copies (λ c made. new c made ∙ sym (physical_entries f fits bits whole tall extension)) published
