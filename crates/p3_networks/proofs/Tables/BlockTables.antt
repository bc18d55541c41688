-- The twiddles of the second half of a network, by layer and block.
use Rattle.p3_networks.proofs.Names.{◌≡◌, ℕ, ◌+◌, ◌*◌, ◌-◌, ◌<◌, ◌≤◌, ◌^◌, ap₂, ◌∙◌, arith, pow-add, mul-le-mul_right, AreRoots, rev, point, AreHighTwiddles}
use Rattle.p3_networks.proofs.Networks.Chunks.{chunk_twiddle}
use Rattle.p3_networks.proofs.Networks.Stages.{twiddle}
use Rattle.p3_field.specs.declared.fields.Valued.{Ghosts as FieldMembers}

-- the blocks of chunk b are among those of the layer
pub blocks_within : (b mid done : ℕ) → b < 2 ^ mid → b * 2 ^ done + 2 ^ done ≤ 2 ^ (mid + done)
blocks_within b mid done below =
    let next : (b + 1) * 2 ^ done ≡ b * 2 ^ done + 2 ^ done = omega arith in
    omega (arith, pow-add 2 mid done, mul-le-mul_right (2 ^ done) below, next)

-- in chunk b, with `done` of its layers done, block u has the twiddle of a network of its own
pub chunk_entry : {F : Type 0} (f : FieldMembers F) (root : ℕ → f.Element) (s : f.Element) (mid left b done u l n : ℕ) (at : ℕ → ℕ → F)
    → AreRoots f.ring (mid + left) root → AreHighTwiddles f root s mid (mid + left) at → l ≡ mid + done → n
    ≡ b * 2 ^ done + u → b < 2 ^ mid → done < left → u < 2 ^ done
    → f.value (at l n) ≡ twiddle f.ring root (point f.ring root (mid + left) s (rev mid b)) done (left - 1 - done) (rev done u)
chunk_entry f root s mid left b done u l n at roots table layer number below some inside =
    ap₂ (λ l n. f.value (at l n)) layer number
    ∙ table (mid + done) (b * 2 ^ done + u) (omega arith) (omega arith) (omega (arith, blocks_within b mid done below))
    ∙ chunk_twiddle f.ring roots s mid left done b u (omega arith) some inside
