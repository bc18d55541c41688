-- Powers of the generators, or of their inverses, as the halves of a network on the subgroup take them.
use Rattle.p3_networks.proofs.Names.{◌≡◌, ℕ, ◌-◌, ◌<◌, ◌≤◌, ◌^◌, Bool, true, false, sym, ap, ◌∙◌, subst, arith, Ring, AreRoots, power, power_of_one}
use Rattle.p3_networks.proofs.Names.{inverse_roots, AreLowTwiddles, root_of, root_powers}
use Rattle.p3_field.specs.declared.fields.Valued.{Ghosts as FieldMembers}
use Rattle.p3_field.proofs.Rings

-- fewer roots are roots
pub fewer_roots : {A : Type 0} (R : Ring A) (k bits : ℕ) {root : ℕ → A} → k ≤ bits → AreRoots R bits root → AreRoots R k root
fewer_roots R k bits less roots = record { first = roots.first; second = roots.second; square = λ i p. roots.square i (omega arith) }

module _ {F : Type 0} (f : FieldMembers F) (generator : ℕ → F) where
  pub are_roots : {bits : ℕ} (inverse : Bool) → AreRoots f.ring bits (λ n. f.value (generator n)) → AreRoots f.ring bits (root_of f generator inverse)
  are_roots true roots = inverse_roots f.ring roots
  are_roots false roots = roots

  -- on the subgroup the twiddles are the powers alone
  pub low_table : (inverse : Bool) (mid n : ℕ) (at : ℕ → ℕ → F) → ((l t : ℕ) → l < mid → t < 2 ^ l → f.value (at l t) ≡ root_powers f generator inverse l t)
      → AreLowTwiddles f (root_of f generator inverse) (power f.ring f.ring.one n) mid at
  low_table inverse mid n at are l t below inside =
      let power_is = root_powers f generator inverse l t in
      are l t below inside
      ∙ sym (ap (λ x. f.ring.mul x power_is) (ap (λ x. power f.ring x (2 ^ (mid - 1 - l))) (power_of_one f.ring n)
      ∙ power_of_one f.ring (2 ^ (mid - 1 - l)))
      ∙ Rings.one-mul f.ring power_is)

  -- and so for the generators themselves
  pub subgroup_table : (log : ℕ) (at : ℕ → ℕ → F)
      → ((l t : ℕ) → l < log → t < 2 ^ l → f.value (at l t) ≡ root_powers f generator false l t)
      → AreLowTwiddles f (λ n. f.value (generator n)) f.ring.one log at
  subgroup_table log at are =
      subst (λ (s : f.Element). AreLowTwiddles f (λ n. f.value (generator n)) s log at) (power_of_one f.ring 0) (low_table false log 0 at are)
