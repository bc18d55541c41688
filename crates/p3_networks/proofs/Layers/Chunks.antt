-- A layer on a chunk of rows: the chunk with this number of those of 2 ^ top rows.
use Rattle.p3_networks.proofs.Names.{◌≡◌, ℕ, suc, ◌+◌, ◌*◌, ◌-◌, ◌<◌, ◌≤◌, ◌^◌, List, length, get_or, sym, ap, ap₂, ◌∙◌, subst, arith, lit≤, ⊎_elim}
use Rattle.p3_networks.proofs.Names.{pow-le-pow_right, mul-le-mul_right, mul-le-mul_left, two-pow-succ, cases_lt, one_shl, pow_pos, log_lt, RisesAtMost}
use Rattle.p3_networks.proofs.Names.{AreLayers, HoldsCells, IsLayer}
use Rattle.p3_networks.proofs.Layers.Blocks.{each_row, halves_whole}
use Rattle.p3_networks.proofs.Layers.Shifts.{one_shifted}

-- a chunk of 2 ^ top rows within 2 ^ k is no longer than they are
pub chunk_within : (k top number : ℕ) → (number + 1) * 2 ^ top ≤ 2 ^ k → top ≤ k
chunk_within k top number room =
    ⊎_elim
    (λ more.
    let less : 2 ^ suc k ≤ 2 ^ top = pow-le-pow_right {n = 2} (lit≤ tt) more in
    let spread : (number + 1) * 2 ^ top ≡ number * 2 ^ top + 2 ^ top = omega arith in
    absurd (omega (arith, room, less, spread, two-pow-succ k, pow_pos k)))
    (λ within. within)
    (cases_lt k top)

-- what lies within, in units of c
cancelled : (a b c : ℕ) → 0 < c → a * c ≤ b * c → a ≤ b
cancelled a b c some le =
    ⊎_elim (λ more. let l : suc b * c ≤ a * c = mul-le-mul_right c more in absurd (omega (arith, l, le, some)))
    (λ not_more. not_more) (cases_lt b a)

-- the blocks of a chunk are blocks of the whole
pub blocks_within : (k top e number : ℕ) → e < top → (number + 1) * 2 ^ top ≤ 2 ^ k → number * 2 ^ (top - 1 - e) + 2 ^ (top - 1 - e) ≤ 2 ^ (k - 1 - e)
blocks_within k top e number below room =
    let within = chunk_within k top number room in
    let less : e < k = omega (arith, below, within) in
    let part = halves_whole top e below in
    let all = halves_whole k e less in
    let spread : (number * 2 ^ (top - 1 - e) + 2 ^ (top - 1 - e)) * (2 * 2 ^ e) ≡ (number + 1) * (2 ^ (top - 1 - e) * (2 * 2 ^ e)) = omega arith in
    cancelled (number * 2 ^ (top - 1 - e) + 2 ^ (top - 1 - e)) (2 ^ (k - 1 - e)) (2 * 2 ^ e) (let some = pow_pos e in omega (arith, some))
    (rw (spread, part, all) room)

module _ {A T : Type 0} (value : T → A) (d : T) (near far : ℕ → A → A → A) where
  -- as a program does it
  pub chunk_taken : (k w e top number blocks half : ℕ) (before after : ℕ → ℕ → A) (x y : List T) → e < top → blocks ≡ 2 ^ (top - 1 - e) → half ≡ 2 ^ e
      → length x ≡ blocks * (2 * (half * w)) → length y ≡ length x → (number + 1) * 2 ^ top ≤ 2 ^ k
      → AreLayers k w near far before after
      → IsLayer blocks (half * w) (λ b i. near (number * blocks + b)) (λ b i. far (number * blocks + b)) (λ u. value (get_or x u d)) (λ u. value (get_or y u d))
      → HoldsCells value d (number * length x) (before e) x → HoldsCells value d (number * length x) (after e) y
  chunk_taken k w e top number blocks half before after x y below blocks_is half_is size same room layers layer holds n inside =
      each_row (λ i. value (get_or y i d) ≡ after e (number * length x + i)) (half * w) blocks
      (λ b i p q. (
        (layer b p).near_cell i q ∙ ap₂ (near (number * blocks + b)) (held b i p (omega (arith, q))) (held b (half * w + i) p (omega (arith, q)))
            ∙ sym (subst (λ (h : ℕ). after e ((number * blocks + b) * (2 * (h * w)) + i) ≡ near (number * blocks + b)
            (before e ((number * blocks + b) * (2 * (h * w)) + i))
            (before e ((number * blocks + b) * (2 * (h * w)) + (h * w + i)))) (sym half_is)
            (layers.near_cell e (number * blocks + b) i (omega (arith, below, within)) (inside_all b p) (subst (λ (h : ℕ). i < h * w) half_is q)))
            ∙ ap (after e) (place b i),
        (layer b p).far_cell i q ∙ ap₂ (far (number * blocks + b)) (held b i p (omega (arith, q))) (held b (half * w + i) p (omega (arith, q)))
            ∙ sym (subst (λ (h : ℕ). after e ((number * blocks + b) * (2 * (h * w)) + (h * w + i)) ≡ far
            (number * blocks + b) (before e ((number * blocks + b) * (2 * (h * w)) + i))
            (before e ((number * blocks + b) * (2 * (h * w)) + (h * w + i)))) (sym half_is)
            (layers.far_cell e (number * blocks + b) i (omega (arith, below, within)) (inside_all b p) (subst (λ (h : ℕ). i < h * w) half_is q)))
            ∙ ap (after e) (place b (half * w + i)),
      ))
      n (omega (arith, inside, same, size))
    where
      within : top ≤ k
      within = chunk_within k top number room

      place : (b u : ℕ) → (number * blocks + b) * (2 * (half * w)) + u ≡ number * length x + (b * (2 * (half * w)) + u)
      place b u =
          let spread : (number * blocks + b) * (2 * (half * w)) + u
          ≡ number * (blocks * (2 * (half * w))) + (b * (2 * (half * w)) + u) =
          omega arith in
          spread ∙ ap (λ m. number * m + (b * (2 * (half * w)) + u)) (sym size)

      held : (b u : ℕ) → b < blocks → u < 2 * (half * w)
          → value (get_or x (b * (2 * (half * w)) + u) d) ≡ before e ((number * blocks + b) * (2 * (half * w)) + u)
      held b u p q =
          let more : suc b * (2 * (half * w)) ≤ blocks * (2 * (half * w)) = mul-le-mul_right (2 * (half * w)) p in
          let next : suc b * (2 * (half * w)) ≡ b * (2 * (half * w)) + 2 * (half * w) = omega arith in
          holds (b * (2 * (half * w)) + u) (omega (arith, more, next, q, size)) ∙ ap (before e) (sym (place b u))

      inside_all : (b : ℕ) → b < blocks → number * blocks + b < 2 ^ (k - 1 - e)
      inside_all b p =
          let all = blocks_within k top e number below room in
          let is : number * blocks + blocks ≡ number * 2 ^ (top - 1 - e) + 2 ^ (top - 1 - e) =
          ap (λ m. number * m + m) blocks_is in
          omega (arith, all, is, p)

-- the sizes of a layer of a chunk, as a program has them by shifts, and the digits of its rows
pub record ChunkSizes (top e number half blocks : ℕ) : Type 0 where
  pub digits : top < 64
  pub half_is : half ≡ 2 ^ e
  pub blocks_is : blocks ≡ 2 ^ (top - 1 - e)
  pub nonzero : 1 ≤ half
  pub some_blocks : 1 ≤ blocks
  pub numbers : number * blocks + blocks ≡ (number + 1) * 2 ^ (top - 1 - e)
  pub room : number * blocks + blocks < 2 ^ 64

pub chunk_digits : (top number : ℕ) → (number + 1) * 2 ^ top < 2 ^ 64 → top < 64
chunk_digits top number small =
    let some : 2 ^ top ≤ (number + 1) * 2 ^ top = let spread : (number + 1) * 2 ^ top ≡ number * 2 ^ top + 2 ^ top = omega arith in omega (arith, spread) in
    log_lt top 64 (omega (arith, small, some))

pub chunk_sizes : (top e number : ℕ) → e < top → (number + 1) * 2 ^ top < 2 ^ 64
    → ChunkSizes top e number (one_shifted e) (one_shifted (top - 1 - e))
chunk_sizes top e number below small =
    let digits = chunk_digits top number small in
    let half : one_shifted e ≡ 2 ^ e = one_shl e 64 (omega (arith, digits, below)) in
    let blocks : one_shifted (top - 1 - e) ≡ 2 ^ (top - 1 - e) = one_shl (top - 1 - e) 64 (omega (arith, digits)) in
    let less : 2 ^ (top - 1 - e) ≤ 2 ^ top = pow-le-pow_right {n = 2} (lit≤ tt) (let l : top - 1 - e ≤ top = omega arith in l) in
    let fewer : (number + 1) * 2 ^ (top - 1 - e) ≤ (number + 1) * 2 ^ top = mul-le-mul_left (number + 1) less in
    let spread : number * 2 ^ (top - 1 - e) + 2 ^ (top - 1 - e) ≡ (number + 1) * 2 ^ (top - 1 - e) = omega arith in
    record {
      digits = digits;
      half_is = half;
      blocks_is = blocks;
      nonzero = omega (arith, half, pow_pos e);
      some_blocks = omega (arith, blocks, pow_pos (top - 1 - e));
      numbers = ap (λ n. number * n + n) blocks ∙ spread;
      room = let is = ap (λ n. number * n + n) blocks ∙ spread in omega (arith, is, fewer, small);
    }

-- one layer more: each makes at most so many products for each two of the cells
pub costly_layer_more : (cost done size before now after : ℕ)
    → RisesAtMost (cost * (done * size)) (2 * before) (2 * now) → RisesAtMost (cost * size) (2 * now) (2 * after)
    → RisesAtMost (cost * ((done + 1) * size)) (2 * before) (2 * after)
costly_layer_more cost done size before now after so_far layer =
    let next : cost * ((done + 1) * size) ≡ cost * (done * size) + cost * size = omega arith in
    record { grows = omega (arith, so_far.grows, layer.grows); cost = omega (arith, so_far.cost, layer.cost, next) }

-- what a chunk holds, told by another name of its length
pub held_as_long : {A T : Type 0} (value : T → A) (d : T) (cells : ℕ → A) (number : ℕ) {a b : ℕ} (xs : List T) → a ≡ b
    → HoldsCells value d (number * a) cells xs → HoldsCells value d (number * b) cells xs
held_as_long value d cells number xs same holds = subst (λ (n : ℕ). HoldsCells value d (number * n) cells xs) same holds
