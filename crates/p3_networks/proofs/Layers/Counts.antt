-- What loops count at most, where each turn makes at most so many products.
use Rattle.p3_networks.proofs.Names.{◌≡◌, ℕ, zero, suc, ◌+◌, ◌*◌, ◌-◌, ◌/◌, ◌^◌, ◌<◌, ◌≤◌, refl, sym, ap, ap₂, ◌∙◌, subst, arith, add-one, pow-add, RisesAtMost}
use Rattle.p3_networks.proofs.Names.{suc-mul, mul-div_cancel, mul-le-mul_left, mul-le-mul_right}

-- one turn more, of size pairs
pub count_more : (cost n size before now after : ℕ) → now ≤ before + cost * (n * size) → after ≤ now + cost * size → after ≤ before + cost * ((n + 1) * size)
count_more cost n size before now after so_far turn =
    let next : (n + 1) * size ≡ n * size + size = rw add-one (suc-mul n size) in
    let spread : cost * (n * size + size) ≡ cost * (n * size) + cost * size = omega arith in
    let all : cost * ((n + 1) * size) ≡ cost * (n * size) + cost * size = ap (λ m. cost * m) next ∙ spread in
    omega (arith, all, so_far, turn)

-- the same where each turn makes one product for each cell, and where no more turns than that are done
pub one_more : (n size before now after : ℕ) → now ≤ before + 1 * (n * size) → after ≤ now + size → after ≤ before + 1 * ((n + 1) * size)
one_more n size before now after so_far turn = count_more 1 n size before now after so_far (omega (arith, turn))

-- no turn, and so many turns when no more than that are done
pub count_none : (cost size before : ℕ) → before ≤ before + cost * (0 * size)
count_none cost size before = omega arith

pub count_all : (cost n turns size before after : ℕ) → n ≤ turns → after ≤ before + cost * (n * size) → after ≤ before + cost * (turns * size)
count_all cost n turns size before after done so_far =
    let more : cost * (n * size) ≤ cost * (turns * size) = mul-le-mul_left cost (mul-le-mul_right size done) in
    omega (arith, so_far, more)

-- the same where each turn makes just so many
pub turn_counted : (n size made before now after : ℕ) → made ≡ size → now ≡ before + n * size → after ≡ now + made → after ≡ before + (n + 1) * size
turn_counted n size made before now after full so_far turn =
    let next : (n + 1) * size ≡ n * size + size = omega arith in omega (arith, next, full, so_far, turn)

-- what so many turns make, by twice what each makes
pub turns_halved : (turns n size before after : ℕ) → turns ≡ n → RisesAtMost (turns * (2 * size)) (2 * before) (2 * after) → RisesAtMost (n * size) before after
turns_halved turns n size before after is made =
    let spread : turns * (2 * size) ≡ 2 * (turns * size) = omega arith in
    record { grows = omega (arith, made.grows); cost = omega (arith, made.cost, spread, ap (λ t. t * size) is) }

pub rises_halved : (n before after : ℕ) → RisesAtMost (2 * n) (2 * before) (2 * after) → RisesAtMost n before after
rises_halved n before after twice = record { grows = omega (arith, twice.grows); cost = omega (arith, twice.cost) }

-- at most as many, by another name of their number
pub rises_as : (n m before after : ℕ) → n ≡ m → RisesAtMost n before after → RisesAtMost m before after
rises_as n m before after same made = record { grows = made.grows; cost = omega (arith, made.cost, same) }

-- what holds of so many turns, when a loop is over
pub at_end : (P : ℕ → Type 0) (n turns : ℕ) → n ≤ turns → turns ≤ n → P n → P turns
at_end P n turns most least so_far = let all : n ≡ turns = omega arith in subst P all so_far

-- one turn more that makes at most so many, and no more turns than so many
pub rises_joined : (n each made before now after : ℕ) → made ≡ each → RisesAtMost (n * each) before now → RisesAtMost made now after
    → RisesAtMost ((n + 1) * each) before after
rises_joined n each made before now after is so_far turn =
    let next : (n + 1) * each ≡ n * each + each = omega arith in
    record { grows = omega (arith, so_far.grows, turn.grows); cost = omega (arith, next, is, so_far.cost, turn.cost) }

pub rises_within : (n turns each before after : ℕ) → n ≤ turns → RisesAtMost (n * each) before after → RisesAtMost (turns * each) before after
rises_within n turns each before after few made = record { grows = made.grows; cost = omega (arith, made.cost, mul-le-mul_right each few) }

-- a positive power of two is twice the one before
pub two_halves : (k : ℕ) → (k ≡ 0 → ⊥) → 2 ^ k ≡ 2 * 2 ^ (k - 1)
two_halves zero some = absurd (some refl)
two_halves (suc k) some = let e : suc k - 1 ≡ k = omega arith in let d : 2 ^ suc k ≡ 2 * 2 ^ k = omega arith in d ∙ ap (λ n. 2 * 2 ^ n) (sym e)

pub half_power : (k : ℕ) → (k ≡ 0 → ⊥) → 2 ^ k / 2 ≡ 2 ^ (k - 1)
half_power k some = omega (arith, two_halves k some)

-- a product for each two rows and each layer
half_count : (k : ℕ) → k * 2 ^ k / 2 ≡ k * 2 ^ (k - 1)
half_count zero = refl
half_count (suc k) =
    let d : 2 ^ suc k ≡ 2 * 2 ^ (suc k - 1) = two_halves (suc k) (λ e. absurd (omega arith)) in
    let f : suc k * 2 ^ suc k ≡ suc k * 2 ^ (suc k - 1) * 2 = ap (λ n. suc k * n) d ∙ omega arith in
    ap (λ n. n / 2) f ∙ mul-div_cancel (suc k * 2 ^ (suc k - 1)) (omega arith)

-- one layer more of k, on 2 ^ k rows of w cells: a pair of rows costs `cost` for each of its cells
pub layer_counted : (cost k l w blocks half before now after : ℕ) → l < k → blocks * (2 * half) ≡ 2 ^ k
    → now ≤ before + cost * (l * (2 ^ (k - 1) * w)) → after ≤ now + cost * (blocks * (half * w)) → after ≤ before + cost * ((l + 1) * (2 ^ (k - 1) * w))
layer_counted cost k l w blocks half before now after below whole so_far layer =
    let pairs : blocks * half ≡ 2 ^ (k - 1) =
    let d = two_halves k (λ e. absurd (omega (arith, e, below))) in
    let e : blocks * (2 * half) ≡ 2 * (blocks * half) = omega arith in omega (arith, whole, d, e) in
    let cells : blocks * (half * w) ≡ 2 ^ (k - 1) * w = let assoc : blocks * (half * w) ≡ blocks * half * w = omega arith in assoc ∙ ap (λ n. n * w) pairs in
    count_more cost l (2 ^ (k - 1) * w) before now after so_far (subst (λ (n : ℕ). after ≤ now + cost * n) cells layer)

-- all layers
pub layers_counted : (k w : ℕ) → 1 * (k * (2 ^ (k - 1) * w)) ≡ w * (k * 2 ^ k / 2)
layers_counted k w = let e : 1 * (k * (2 ^ (k - 1) * w)) ≡ w * (k * 2 ^ (k - 1)) = omega arith in e ∙ ap (λ n. w * n) (sym (half_count k))

-- the same of 2 ^ m chunks of 2 ^ n rows
half_of_chunks : (n m : ℕ) → 2 ^ m * (n * 2 ^ n / 2) ≡ n * 2 ^ (n + m - 1)
half_of_chunks zero m = let none : 0 * 2 ^ 0 / 2 ≡ 0 = refl in ap (λ x. 2 ^ m * x) none ∙ omega arith
half_of_chunks (suc n) m =
    let e : suc n - 1 ≡ n = omega arith in
    let d : suc n + m - 1 ≡ n + m = omega arith in
    ap (λ x. 2 ^ m * x) (half_count (suc n) ∙ ap (λ x. suc n * 2 ^ x) e)
    ∙ swap_inner (2 ^ m) (suc n) (2 ^ n) ∙ ap (λ x. suc n * x) (sym (pow-add 2 n m)) ∙ ap (λ x. suc n * 2 ^ x) (sym d)
  where
    swap_inner : (a b c : ℕ) → a * (b * c) ≡ b * (c * a)
    swap_inner a b c = omega arith

-- two halves of the layers, each chunk by chunk, and a scale
pub halves_counted : (mid left k w scale : ℕ) → mid + left ≡ k
    → 2 ^ left * (w * (mid * 2 ^ mid / 2)) + 2 ^ mid * (w * (left * 2 ^ left / 2) + scale * (2 ^ left * w)) ≡ w * (k * 2 ^ k / 2) + scale * (2 ^ k * w)
halves_counted mid left k w scale is =
    let order : left + mid - 1 ≡ mid + left - 1 = omega arith in
    let p = 2 ^ (mid + left - 1) in
    let low = half_of_chunks mid left in
    let high = half_of_chunks left mid ∙ ap (λ n. left * 2 ^ n) order in
    spread (2 ^ left) (2 ^ mid) w (mid * 2 ^ mid / 2) (left * 2 ^ left / 2) scale
    ∙ ap₂ (λ a b. w * (a + b) + scale * ((2 ^ mid * 2 ^ left) * w)) low high
    ∙ ap (λ n. w * n + scale * ((2 ^ mid * 2 ^ left) * w)) (together mid left p)
    ∙ ap (λ n. w * ((mid + left) * p) + scale * (n * w)) (sym (pow-add 2 mid left))
    ∙ ap (λ n. w * n + scale * (2 ^ (mid + left) * w)) (sym (half_count (mid + left)))
    ∙ ap (λ n. w * (n * 2 ^ n / 2) + scale * (2 ^ n * w)) is
  where
    spread : (x y w a b s : ℕ) → x * (w * a) + y * (w * b + s * (x * w)) ≡ w * (x * a + y * b) + s * ((y * x) * w)
    spread x y w a b s = omega arith

    together : (a b p : ℕ) → a * p + b * p ≡ (a + b) * p
    together a b p = omega arith

-- two halves of 2 ^ k rows, and the layer that joins them
pub joined_count : (k w before first second after : ℕ) → 0 < k → first ≤ before + w * ((k - 1) * 2 ^ (k - 1) / 2)
    → second ≤ first + w * ((k - 1) * 2 ^ (k - 1) / 2)
    → after ≤ second + 1 * (2 ^ (k - 1 - (k - 1)) * (2 ^ (k - 1) * w)) → after ≤ before + w * (k * 2 ^ k / 2)
joined_count k w before first second after some low high layer =
    let none : k - 1 - (k - 1) ≡ 0 = omega arith in
    let one_block : 2 ^ (k - 1 - (k - 1)) ≡ 1 = ap (λ n. 2 ^ n) none in
    let one_layer : after ≤ second + 1 * (1 * (2 ^ (k - 1) * w)) = subst (λ (n : ℕ). after ≤ second + 1 * (n * (2 ^ (k - 1) * w))) one_block layer in
    let below : k - 1 + 1 - 1 ≡ k - 1 = omega arith in
    let next : k - 1 + 1 ≡ k = omega (arith, some) in
    let halves : 2 ^ 1 * ((k - 1) * 2 ^ (k - 1) / 2) ≡ (k - 1) * 2 ^ (k - 1) = half_of_chunks (k - 1) 1 ∙ ap (λ n. (k - 1) * 2 ^ n) below in
    let all : k * 2 ^ k / 2 ≡ (k - 1) * 2 ^ (k - 1) + 2 ^ (k - 1) =
    half_count k ∙ ap (λ n. n * 2 ^ (k - 1)) (sym next)
    ∙ (let spread : (k - 1 + 1) * 2 ^ (k - 1) ≡ (k - 1) * 2 ^ (k - 1) + 2 ^ (k - 1) = omega arith in spread) in
    let both : w * (2 ^ 1 * ((k - 1) * 2 ^ (k - 1) / 2)) ≡ w * ((k - 1) * 2 ^ (k - 1)) = ap (λ n. w * n) halves in
    let whole : w * (k * 2 ^ k / 2) ≡ w * ((k - 1) * 2 ^ (k - 1) + 2 ^ (k - 1)) = ap (λ n. w * n) all in
    omega (arith, low, high, one_layer, both, whole)

-- where one chunk is all
pub one_chunk_counted : (k n before after : ℕ) → after ≤ before + 2 ^ (k - k) * n → after ≤ before + n
one_chunk_counted k n before after counted =
    let none : k - k ≡ 0 = omega arith in
    let one : 2 ^ (k - k) * n ≡ n = ap (λ m. 2 ^ m * n) none ∙ omega arith in
    subst (λ (m : ℕ). after ≤ before + m) one counted

-- what was counted twice: a product for each two cells and each layer
pub counted_twice : (k w len before after : ℕ) → len ≡ 2 ^ k * w → 2 * after ≤ 2 * before + k * len → after ≤ before + w * (k * 2 ^ k / 2)
counted_twice zero w len before after full twice = let none : w * (0 * 2 ^ 0 / 2) ≡ 0 = omega arith in omega (arith, twice, none)
counted_twice (suc k) w len before after full twice =
    let d : 2 ^ suc k ≡ 2 * 2 ^ (suc k - 1) = two_halves (suc k) (λ e. absurd (omega arith)) in
    let all : suc k * len ≡ 2 * (w * (suc k * 2 ^ (suc k - 1))) =
    ap (λ n. suc k * n) (full ∙ ap (λ n. n * w) d)
    ∙ (let swap : suc k * (2 * 2 ^ (suc k - 1) * w) ≡ 2 * (w * (suc k * 2 ^ (suc k - 1))) = omega arith in swap) in
    let half = ap (λ n. w * n) (half_count (suc k)) in
    omega (arith, twice, all, half)

-- in two parts
pub layers_joined : (r k len before middle after : ℕ) → r ≤ k → 2 * middle ≤ 2 * before + (k - r) * len
    → 2 * after ≤ 2 * middle + r * len → 2 * after ≤ 2 * before + k * len
layers_joined r k len before middle after below first second =
    let all : (k - r) * len + r * len ≡ k * len =
    let e : k - r + r ≡ k = omega (arith, below) in
    let d : (k - r) * len + r * len ≡ (k - r + r) * len = omega arith in d ∙ ap (λ n. n * len) e in
    omega (arith, first, second, all)

-- an extension by a bits whose first a layers are one product for each of its cells, and no more than a transform of its height
pub extension_counted : (k a w len before after : ℕ) → 1 ≤ k + a → len ≡ 2 ^ (k + a) * w
    → 2 * after ≤ 2 * before + (k + a - a + 2) * len → after ≤ before + w * (2 ^ a * (k * 2 ^ k / 2) + 2 ^ (k + a))
extension_counted k a w len before after some full twice =
    let p = 2 ^ (k + a - 1) in
    let d : 2 ^ (k + a) ≡ 2 * p = two_halves (k + a) (λ e. absurd (omega (arith, e, some))) in
    let layers : k + a - a + 2 ≡ k + 2 = omega arith in
    let each : k * len ≡ 2 * (w * (k * p)) =
    ap (λ n. k * n) (full ∙ ap (λ n. n * w) d)
    ∙ (let swap : k * (2 * p * w) ≡ 2 * (w * (k * p)) = omega arith in swap) in
    let all : (k + a - a + 2) * len ≡ k * len + 2 * len = ap (λ n. n * len) layers ∙ (let spread : (k + 2) * len ≡ k * len + 2 * len = omega arith in spread) in
    let half : w * (2 ^ a * (k * 2 ^ k / 2) + 2 ^ (k + a)) ≡ w * (k * p) + len =
    ap (λ n. w * (n + 2 ^ (k + a))) (half_of_chunks k a)
    ∙ (let spread : w * (k * p + 2 ^ (k + a)) ≡ w * (k * p) + 2 ^ (k + a) * w = omega arith in spread)
    ∙ ap (λ n. w * (k * p) + n) (sym full) in
    omega (arith, twice, all, each, half)

-- layers of 2 ^ k rows, 2 ^ a times, are no more than those of all rows
pub layers_of_slots : (k a w : ℕ) → w * (2 ^ a * (k * 2 ^ k / 2)) ≤ w * ((k + a) * 2 ^ (k + a) / 2)
layers_of_slots k a w =
    let rise : k * 2 ^ (k + a - 1) ≤ (k + a) * 2 ^ (k + a - 1) = mul-le-mul_right (2 ^ (k + a - 1)) (let l : k ≤ k + a = omega arith in l) in
    mul-le-mul_left w (omega (arith, rise, half_of_chunks k a, half_count (k + a)))

pub fewer_than_parts : (k a w : ℕ)
    → w * (k * 2 ^ k / 2 * (1 + 2 ^ a) + 2 ^ (k + a))
    ≤ w * (k * 2 ^ k / 2) + 2 ^ k * w + (w * ((k + a) * 2 ^ (k + a) / 2) + 2 ^ (k + a) * w)
fewer_than_parts k a w =
    let x = k * 2 ^ k / 2 in
    let spread : w * (x * (1 + 2 ^ a) + 2 ^ (k + a)) ≡ w * x + w * (2 ^ a * x) + 2 ^ (k + a) * w = omega arith in
    omega (arith, spread, layers_of_slots k a w)

pub extension_made : (x y p w before middle after : ℕ) → middle ≤ before + w * x → after ≤ middle + w * (p * x + y) → after ≤ before + w * (x * (1 + p) + y)
extension_made x y p w before middle after first second =
    let spread : w * x + w * (p * x + y) ≡ w * (x * (1 + p) + y) = omega arith in
    omega (arith, first, second, spread)
