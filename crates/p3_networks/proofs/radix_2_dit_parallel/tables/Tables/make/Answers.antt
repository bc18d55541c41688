use Rattle.p3_networks.proofs.Lemmas.{◌≡◌, ℕ, ◌⊎◌, inl, inr, ◌+◌, ◌-◌, ◌/◌, ◌^◌, lit≤, ◌<◌, ◌≤◌, length, true, false, sym, subst, arith, ◌∙◌, pow-le-pow_right}
use Rattle.p3_networks.proofs.Lemmas.{room_of, mid_of, AreTwiddlesOfLayers, root_powers}
use Rattle.p3_networks.proofs.radix_2_dit_parallel.tables.Tables.make.Goals as goal

-- tables that were not there are now
only_made : (log before now known : ℕ) → known < log → known ≡ before → log ≤ now → (now ≡ before) ⊎ (now ≡ log) → now ≡ log
only_made log before now known missing there made (inl same) = omega (arith, missing, there, made, same)
only_made log before now known missing there made (inr is) = is

pub invariant_of-self : goal.invariant_of-self
invariant_of-self g c = rw c.in_err-make.ensures.refused c.self.invariant

pub invariant_of-self-2 : goal.invariant_of-self-2
invariant_of-self-2 g c =
    let field = g.F.Valued in
    let gen = g.F.TwoAdicField.generator in
    subst (λ (n : ℕ). (length c.in_ok-forward.forward.items ≡ 2 ^ mid_of n - 1) × (length c.in_ok-backward.backward.items ≡ 2 ^ mid_of n - 1)
    × AreTwiddlesOfLayers field (mid_of n) (root_powers field gen false) c.in_ok-forward.forward.items ×
    AreTwiddlesOfLayers field (mid_of n) (root_powers field gen true) c.in_ok-backward.backward.items
    × (n ≤ g.F.TwoAdicField.TWO_ADICITY))
    (sym (only_made c.args.log_h _ _ _ c.if-log_h.false (c.log_h.ensures ∙ sym c.self.view_is) c.in_ok-make.ensures.made c.in_ok-make.ensures.only))
    (c.in_ok-forward.ensures.size, c.in_ok-backward.ensures.size, c.in_ok-forward.ensures.table, c.in_ok-backward.ensures.table, c.requires.within)

pub returns-clause-only : goal.returns-clause-only
returns-clause-only g c = subst (λ (n : ℕ). (c.make.new.self ≡ n) ⊎ (c.make.new.self ≡ c.args.log_h)) c.self.view_is c.make.ensures.only

pub returns-in_err-make-clause-keeps : goal.returns-in_err-make-clause-keeps
returns-in_err-make-clause-keeps g c = subst (λ n. n ≤ c.make.new.self) c.self.view_is c.make.ensures.keeps

pub returns-in_err-make-clause-only : goal.returns-in_err-make-clause-only
returns-in_err-make-clause-only g c = subst (λ (n : ℕ). (c.make.new.self ≡ n) ⊎ (c.make.new.self ≡ c.args.log_h)) c.self.view_is c.make.ensures.only

pub returns-clause-keeps : goal.returns-clause-keeps
returns-clause-keeps g c = subst (λ n. n ≤ c.make.new.self) c.self.view_is c.make.ensures.keeps

pub returns-clause-made : goal.returns-clause-made
returns-clause-made g c = c.in_ok-make.ensures.made

-- the first half has no more layers than all
few_layers : (log : ℕ) → 2 ^ ((log + 1) / 2) ≤ 2 ^ log
few_layers log = pow-le-pow_right {n = 2} (lit≤ tt) (omega arith)

pub returns-in_err-forward-clause-room : goal.returns-in_err-forward-clause-room
returns-in_err-forward-clause-room g c =
    room_of _ c.from_residual.result _ _ _ c.from_residual.ensures (omega (arith, few_layers c.args.log_h))
    c.in_err-forward.ensures.room

pub returns-in_err-backward-clause-room : goal.returns-in_err-backward-clause-room
returns-in_err-backward-clause-room g c =
    room_of _ c.from_residual-in_err-backward.result _ _ _ c.from_residual-in_err-backward.ensures
    (omega (arith, few_layers c.args.log_h)) c.in_err-backward.ensures.room
