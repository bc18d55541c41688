use Rattle.p3_networks.proofs.Lemmas.{◌≡◌, ℕ, ◌+◌, ◌*◌, ◌-◌, ◌^◌, ◌<◌, ◌≤◌, [], ◌∷◌, ◌++◌, suc, length, get_or, refl, sym, ap, ap₂, ◌∙◌, arith, add-one, lit≤}
use Rattle.p3_networks.proofs.Lemmas.{length-append, subst, pow-le-pow_right, two-pow-succ, get_or_push, get_or_read_under, one_shl, pow_pos, power, power-zero}
use Rattle.p3_networks.proofs.Lemmas.{inverse_root, rev, rev_of_zero, room_of, backward_root, block_powers, AreTwiddles, inverse_entry, in_first, one_shifted}
use borrow.Author.Count.{below_more}
use Rattle.p3_networks.proofs.root_tables.inverse_powers.Goals as goal

-- chunk l lies within half the powers
record IsChunk (n l chunk : ℕ) : Type 0 where
  is : chunk ≡ 2 ^ l
  room : 2 * chunk ≤ 2 ^ n
  half : chunk < 2 ^ 62

chunk_of : (n l : ℕ) → n < 63 → l < n → IsChunk n l (one_shifted l)
chunk_of n l small within =
    let is : one_shifted l ≡ 2 ^ l = one_shl l 64 (omega (arith, small, within)) in
    let rise : 2 ^ suc l ≤ 2 ^ n = pow-le-pow_right {n = 2} (lit≤ tt) within in
    let few : n ≤ 62 = omega (arith, small) in
    let most : 2 ^ n ≤ 2 ^ 62 = pow-le-pow_right {n = 2} (lit≤ tt) few in
    record { is = is; room = omega (arith, rise, two-pow-succ l, is); half = omega (arith, rise, most, two-pow-succ l, is, pow_pos l) }

pub loop-l-init : goal.loop-l-init
loop-l-init g c =
    let field = g.F.Valued in
    let n = c.args.log_h - 1 in
    let root = inverse_root field.ring (λ k. field.value (g.F.TwoAdicField.generator k)) (n + 1) in
    let now : c.push.new.items.items ≡ c.ONE.result ∷ [] = c.in_ok-push.ensures.items ∙ ap (λ xs. xs ++ c.ONE.result ∷ []) c.in_ok-inverse.ensures.items in
    record {
      size = ap length now;
      entries = λ b below.
          let none : b ≡ 0 = omega arith in
          ap₂ (λ xs k. field.value (get_or xs k field.zero)) now none ∙ ap field.value c.ONE.ensures ∙ g.met.F.Field.one_law
          ∙ sym (ap (power field.ring root) (ap (rev n) none ∙ rev_of_zero n) ∙ power-zero field.ring root);
    }

pub loop-b-init : goal.loop-b-init
loop-b-init g c =
    let field = g.F.Valued in
    let n = c.args.log_h - 1 in
    let chunk = chunk_of n c.loop-l.l (omega (arith, c.requires.nonzero, c.requires.fits_u64)) (omega (arith, c.loop-l-test.true)) in
    subst (λ (m : ℕ). AreTwiddles field m (block_powers field (backward_root field g.F.TwoAdicField.generator) n)
    c.loop-l.inverse.items) (sym chunk.is) c.loop-l.invariant

pub overflow_mul-chunk : goal.overflow_mul-chunk
overflow_mul-chunk g c =
    let chunk = chunk_of (c.args.log_h - 1) c.loop-l.l (omega (arith, c.requires.nonzero, c.requires.fits_u64)) (omega (arith, c.loop-l-test.true)) in
    omega (arith, chunk.half)

pub offset_bounds-powers-chunk : goal.offset_bounds-powers-chunk
offset_bounds-powers-chunk g c =
    let chunk = chunk_of (c.args.log_h - 1) c.loop-l.l (omega (arith, c.requires.nonzero, c.requires.fits_u64)) (omega (arith, c.loop-l-test.true)) in
    omega (arith, chunk.room, c.requires.powers.size, c.loop-b.auto.b)

pub bounds-powers-chunk : goal.bounds-powers-chunk
bounds-powers-chunk g c =
    let chunk = chunk_of (c.args.log_h - 1) c.loop-l.l (omega (arith, c.requires.nonzero, c.requires.fits_u64)) (omega (arith, c.loop-l-test.true)) in
    omega (arith, chunk.room, chunk.is, c.requires.powers.size, c.loop-b.auto.b, pow_pos c.loop-l.l)

-- One inverse power more is pushed: within its chunk of 2 ^ l it is minus the power in the opposite place.
pub loop-b-preserved : goal.loop-b-preserved
loop-b-preserved g c =
    let field = g.F.Valued in
    let n = c.args.log_h - 1 in
    let l = c.loop-l.l in
    let b = c.loop-b.b in
    let before = c.loop-b.inverse.items in
    let chunk = chunk_of n l (omega (arith, c.requires.nonzero, c.requires.fits_u64)) (omega (arith, c.loop-l-test.true)) in
    let now : c.push-in-loop-b.new.items.items ≡ before ++ c.neg.result ∷ [] = c.in_ok-push-2.ensures.items in
    let from : 2 ^ l ≤ b = omega (arith, chunk.is, c.loop-b.auto.b) in
    let until : b < 2 * 2 ^ l = omega (arith, chunk.is, c.loop-b-test.true) in
    let place : 3 * (one_shifted l) - 1 - b ≡ 3 * 2 ^ l - 1 - b = ap (λ x. 3 * x - 1 - b) chunk.is in
    let entry : field.value c.neg.result ≡ block_powers field (backward_root field g.F.TwoAdicField.generator) n b =
    g.met.F.Field.neg_law _ _ c.neg.ensures
    ∙ ap (λ x. field.ring.neg (field.value x)) (get_or_read_under c.args.powers.now (3 * (one_shifted l) - 1 - b) _ _ field.zero c.index-powers-chunk.is
    (omega (arith, chunk.room, chunk.is, c.requires.powers.size, from, pow_pos l)) refl)
    ∙ ap (λ x. field.ring.neg (field.value (get_or c.args.powers.now x field.zero))) place
    ∙ ap field.ring.neg (c.requires.powers.entries (3 * 2 ^ l - 1 - b) (omega (arith, chunk.room, chunk.is, from, pow_pos l)))
    ∙ inverse_entry field.ring g.met.F.TwoAdicField.roots_law n l b
    (omega (arith, c.requires.nonzero, c.requires.within)) (omega (arith, c.loop-l-test.true)) from until in
    record {
      size = ap length now ∙ length-append before (c.neg.result ∷ []) ∙ ap (λ k. k + 1) c.loop-b.invariant.size;
      entries =
          below_more (λ e. field.value (get_or c.push-in-loop-b.new.items.items e field.zero)
          ≡ block_powers field (backward_root field g.F.TwoAdicField.generator) n e) b
          (λ e below. ap (λ xs. field.value (get_or xs e field.zero)) now
          ∙ ap field.value
          (in_first before (c.neg.result ∷ []) e field.zero (omega (arith, below, c.loop-b.invariant.size)))
          ∙ c.loop-b.invariant.entries e below)
          (ap (λ xs. field.value (get_or xs b field.zero)) now ∙ ap field.value (get_or_push before c.neg.result field.zero b c.loop-b.invariant.size) ∙ entry);
    }

pub loop-l-preserved : goal.loop-l-preserved
loop-l-preserved g c =
    let field = g.F.Valued in
    let n = c.args.log_h - 1 in
    let l = c.loop-l.l in
    let chunk = chunk_of n l (omega (arith, c.requires.nonzero, c.requires.fits_u64)) (omega (arith, c.loop-l-test.true)) in
    let end : c.loop-b.b ≡ 2 ^ (l + 1) = omega (arith, c.loop-b-test.false, c.loop-b.auto.b-end, chunk.is, ap (λ (m : ℕ). 2 ^ m) (add-one l), two-pow-succ l) in
    subst (λ (m : ℕ). AreTwiddles field m (block_powers field (backward_root field g.F.TwoAdicField.generator) n) c.loop-b.inverse.items) end c.loop-b.invariant

pub returns-clause-powers : goal.returns-clause-powers
returns-clause-powers g c =
    let field = g.F.Valued in
    let n = c.args.log_h - 1 in
    let end : c.loop-l.l ≡ n = omega (arith, c.loop-l-test.false, c.loop-l.auto.l-end) in
    subst (λ (m : ℕ). AreTwiddles field (2 ^ m) (block_powers field (backward_root field g.F.TwoAdicField.generator) n)
    c.loop-l.inverse.items) end c.loop-l.invariant

pub returns-in_err-push-2-clause-room : goal.returns-in_err-push-2-clause-room
returns-in_err-push-2-clause-room g c =
    let chunk = chunk_of (c.args.log_h - 1) c.loop-l.l (omega (arith, c.requires.nonzero, c.requires.fits_u64)) (omega (arith, c.loop-l-test.true)) in
    room_of _ c.from_residual-in_err-push-2.result _ _ _ c.from_residual-in_err-push-2.ensures
    (omega (arith, chunk.room, c.requires.powers.size, c.loop-b.invariant.size, c.loop-b-test.true, c.loop-b.inverse.ok.0)) c.in_err-push-2.ensures.room
