-- Slots: chunks of 2 ^ k rows, one after another, 2 ^ a of them, which get the values on a coset each.
use Rattle.p3_networks.proofs.Names.{◌≡◌, ℕ, Fits, w64, List, ◌++◌, ◌+◌, ◌*◌, ◌-◌, ◌/◌, ◌%◌, ◌<◌, ◌≤◌, ◌^◌, length, get_or, sym, ap, ap₂, ◌∙◌, arith, ⊎_elim}
use Rattle.p3_networks.proofs.Names.{le_refl, pow-lt, cases_lt, pow-add, pow_pos, div-add-mod', mod_below, AreRoots, Ring, power, power-zero, rev, rev_of_zero}
use Rattle.p3_networks.proofs.Names.{point, AreValuesOfRows, poly, forward_root, poly_same, poly-scaled, point-mul, IsSlot, chunk_of}
use Rattle.p3_networks.proofs.Layers.Blocks.{row_below}
use Rattle.p3_networks.proofs.Layers.Halves.{in_first, in_second, shifted_size}
use Rattle.p3_networks.proofs.Layers.Sizes.{second_shift}
use Rattle.p3_networks.proofs.Layers.Shifts.{one_shifted}
use Rattle.p3_networks.proofs.Networks.Chunks.{slot_point}
use Rattle.p3_networks.proofs.Rows.EachChunk.{row_at}
use Rattle.p3_field.specs.declared.fields.Valued.{Ghosts as FieldMembers}

pub slots_whole : (k a w : ℕ) → 2 ^ (k + a) * w ≡ 2 ^ a * (2 ^ k * w)
slots_whole k a w = ap (λ n. n * w) (pow-add 2 k a) ∙ omega arith

-- a slot, as the program has its size
pub slot_size : (len k a w : ℕ) → k + a < 64 → len ≡ 2 ^ (k + a) * w → len / one_shifted a ≡ 2 ^ k * w
slot_size len k a w small height = shifted_size len a (2 ^ k * w) (omega arith) (height ∙ slots_whole k a w)

-- all slots but the first, as the program has their number and their size
pub others_whole : (len k a w back : ℕ) → k + a < 64 → len ≡ 2 ^ (k + a) * w → back + len / one_shifted a ≡ len
    → back ≡ (one_shifted a - 1) * (len / one_shifted a)
others_whole len k a w back small full split =
    let count = one_shifted a in
    let size = 2 ^ k * w in
    let is : len / count ≡ size = slot_size len k a w small full in
    let shift : count ≡ 2 ^ a = second_shift k a small in
    let next : count ≡ count - 1 + 1 = omega (arith, shift, pow_pos a) in
    let all : 2 ^ a * size ≡ (count - 1) * size + size = ap (λ n. n * size) (sym shift ∙ next) ∙ omega arith in
    rw is (omega (arith, split, is, full, slots_whole k a w, all))

pub others_long : (now len k a w back : ℕ) → now ≡ back → k + a < 64 → len ≡ 2 ^ (k + a) * w → back + len / one_shifted a ≡ len
    → now ≡ (2 ^ a - 1) * (2 ^ k * w)
others_long now len k a w back same small full split =
    same ∙ others_whole len k a w back small full split
    ∙ ap₂ (λ x y. (x - 1) * y) (second_shift k a small) (slot_size len k a w small full)

-- a slot but the first, as the program has the number of the others and their size
pub is_slot : (most k a w len front n : ℕ) → 1 ≤ w → k + a ≤ most → k + a < 64 → len ≡ 2 ^ (k + a) * w → front ≡ len / one_shifted a
    → n < one_shifted a - 1 → IsSlot most k a w front (n + 1) (len / one_shifted a)
is_slot most k a w len front n wide within small full is below = record {
  rows = record { width = wide; fits_u64 = omega (arith, small); size = slot_size len k a w small full };
  slot = omega (arith, below, second_shift k a small);
  source = is;
  within = within;
  fits_u64 = small;
}

pub slot_number : {most k a w coefficients m n : ℕ} → IsSlot most k a w coefficients m n → Fits w64 m
slot_number {most} {k} {a} is =
    let few : 2 ^ a < 2 ^ 64 = pow-lt (let small : a < 64 = omega (arith, is.fits_u64) in small) in
    record { fits = omega (arith, few, is.slot) }

-- all rows are those of the first slot and of the others
pub others_rows : (k a : ℕ) → 2 ^ (k + a) ≡ (2 ^ a - 1) * 2 ^ k + 2 ^ k
others_rows k a =
    let next : 2 ^ a ≡ 2 ^ a - 1 + 1 = omega (arith, pow_pos a) in
    let swap : 2 ^ k * 2 ^ a ≡ 2 ^ a * 2 ^ k = omega arith in
    pow-add 2 k a ∙ swap ∙ ap (λ n. n * 2 ^ k) next ∙ omega arith

-- rows of the others, of which the first n are told chunk by chunk
pub other_rows : {T A : Type 0} (value : T → A) (d : T) (k w size n : ℕ) (others : List T) (entry : ℕ → ℕ → A) → size ≡ 2 ^ k * w
    → ((p t j : ℕ) → p * 2 ^ k + t < n → t < 2 ^ k → j < w → value (get_or (chunk_of size p others) (t * w + j) d) ≡ entry ((p + 1) * 2 ^ k + t) j)
    → (r j : ℕ) → r < n → j < w → value (get_or others (r * w + j) d) ≡ entry (2 ^ k + r) j
other_rows value d k w size n others entry is told r j below inside =
    let h = 2 ^ k in
    let p = r / h in
    let t = r % h in
    let whole : p * h + t ≡ r = div-add-mod' r h in
    let small : t < h = mod_below r h (pow_pos k) in
    let number : (p + 1) * h + t ≡ h + r = omega (arith, whole) in
    ap (λ u. value (get_or others (u * w + j) d)) (sym whole) ∙ ap value (sym (row_at d size h w p t j others is small inside))
    ∙ told p t j (omega (arith, whole, below)) small inside ∙ ap (λ u. entry u j) number

-- the rows of the first slot and of the others are those of all
pub rows_of_slots : {T A : Type 0} (value : T → A) (d : T) (k a w : ℕ) (front others : List T) (entry : ℕ → ℕ → A) → length front ≡ 2 ^ k * w
    → ((t j : ℕ) → t < 2 ^ k → j < w → value (get_or front (t * w + j) d) ≡ entry (0 * 2 ^ k + t) j)
    → ((r j : ℕ) → r < (2 ^ a - 1) * 2 ^ k → j < w → value (get_or others (r * w + j) d) ≡ entry (2 ^ k + r) j)
    → (r j : ℕ) → r < 2 ^ (k + a) → j < w → value (get_or (front ++ others) (r * w + j) d) ≡ entry r j
rows_of_slots value d k a w front others entry size first other r j below inside =
    let h = 2 ^ k in
    ⊎_elim
    (λ less.
    let none : 0 * h + r ≡ r = omega arith in
    ap value (in_first front others (r * w + j) d (omega (arith, size, row_below r j w h less inside)))
    ∙ first r j less inside ∙ ap (λ u. entry u j) none)
    (λ more.
    let back : h + (r - h) ≡ r = omega (arith, more) in
    let flat : (h + (r - h)) * w + j ≡ h * w + ((r - h) * w + j) = omega arith in
    ap (λ u. value (get_or (front ++ others) u d)) (ap (λ u. u * w + j) (sym back) ∙ flat)
    ∙ ap value (in_second front others (h * w) ((r - h) * w + j) d size)
    ∙ other (r - h) j (omega (arith, below, others_rows k a, more)) inside ∙ ap (λ u. entry u j) back)
    (cases_lt r h)

-- a polynomial whose coefficients lie in the front of a list
pub of_front : {F : Type 0} (f : FieldMembers F) (k w j : ℕ) (place : ℕ → ℕ) (x : f.Element) (front others all : List F)
    → all ≡ front ++ others → length front ≡ 2 ^ k * w → ((u : ℕ) → u < 2 ^ k → place u < 2 ^ k) → j < w
    → poly f.ring (2 ^ k) (λ u. f.value (get_or front (place u * w + j) f.zero)) x
    ≡ poly f.ring (2 ^ k) (λ u. f.value (get_or all (place u * w + j) f.zero)) x
of_front f k w j place x front others all split size within inside =
    poly_same f.ring (2 ^ k) _ _ x (λ u below.
    let room = row_below (place u) j w (2 ^ k) (within u below) inside in
    sym (ap (λ xs. f.value (get_or xs (place u * w + j) f.zero)) split
    ∙ ap f.value (in_first front others (place u * w + j) f.zero (omega (arith, size, room)))))

-- slot 0 is the coset of the shift itself
pub first_coset : {A : Type 0} (R : Ring A) (g : ℕ → A) (n a : ℕ) (s : A) → s ≡ point R g n s (rev a 0)
first_coset R g n a s =
    sym (point-mul R g n s (rev a 0) ∙ ap (λ m. R.mul s (power R (g n) m)) (rev_of_zero a) ∙ ap (R.mul s) (power-zero R (g n)) ∙ R.mul_one s)

-- row t of slot m has its values at the point of row m * 2 ^ k + t of all
pub slot_row : {A : Type 0} (R : Ring A) (g : ℕ → A) (k a m t : ℕ) (s shift : A) (c : ℕ → A) → AreRoots R (k + a) g
    → shift ≡ point R g (k + a) s (rev a m) → t < 2 ^ k
    → poly R (2 ^ k) c (point R g k shift (rev k t)) ≡ poly R (2 ^ k) c (point R g (k + a) s (rev (k + a) (m * 2 ^ k + t)))
slot_row R g k a m t s shift c roots is below =
    ap (poly R (2 ^ k) c) (ap (λ y. point R g k y (rev k t)) is ∙ slot_point R roots s k a m t (le_refl (k + a)) below)

-- Values on the subgroup of rows times the powers of the shift of slot m are those of the rows on the coset of that shift. Row t of the slot is
-- row m * 2 ^ k + t of all.
pub slot_of_shifted : {F : Type 0} (f : FieldMembers F) (generator : ℕ → F) (k a w m : ℕ) (s shift : f.Element) (height : ℕ)
    (rows shifted out : List F) → AreRoots f.ring (k + a) (forward_root f generator)
    → shift ≡ point f.ring (forward_root f generator) (k + a) s (rev a m) → height ≡ 2 ^ k
    → ((i j : ℕ) → i < height → j < w
    → f.value (get_or shifted (i * w + j) f.zero) ≡ f.ring.mul (f.value (get_or rows (i * w + j) f.zero)) (power f.ring shift i))
    → AreValuesOfRows f w (2 ^ k) (λ q. q) (λ r. power f.ring (forward_root f generator k) (rev k r)) shifted out
    → (t j : ℕ) → t < 2 ^ k → j < w → f.value (get_or out (t * w + j) f.zero)
    ≡ poly f.ring (2 ^ k) (λ q. f.value (get_or rows (q * w + j) f.zero)) (point f.ring (forward_root f generator) (k + a) s (rev (k + a) (m * 2 ^ k + t)))
slot_of_shifted f generator k a w m s shift height rows shifted out roots is high times values t j below inside =
    let gen = forward_root f generator in
    let x = power f.ring (gen k) (rev k t) in
    let c = λ (q : ℕ). f.value (get_or rows (q * w + j) f.zero) in
    values t j below inside
    ∙ poly_same f.ring (2 ^ k) _ (λ q. f.ring.mul (c q) (power f.ring shift q)) x (λ q l. times q j (omega (arith, l, high)) inside)
    ∙ poly-scaled f.ring (2 ^ k) c shift x
    ∙ ap (poly f.ring (2 ^ k) c) (sym (point-mul f.ring gen k shift (rev k t)))
    ∙ slot_row f.ring gen k a m t s shift c roots is below

-- what the slots behind the first count by twice their products, and the first by itself
pub slots_counted : (a count turn before now after : ℕ) → count ≡ 2 ^ a → 2 * now ≤ 2 * before + (count - 1) * (2 * turn)
    → after ≤ now + turn → after ≤ before + 2 ^ a * turn
slots_counted a count turn before now after is others first =
    let next : count ≡ count - 1 + 1 = omega (arith, is, pow_pos a) in
    let all : 2 ^ a * turn ≡ (count - 1) * turn + turn = ap (λ n. n * turn) (sym is ∙ next) ∙ omega arith in
    let twice : (count - 1) * (2 * turn) ≡ 2 * ((count - 1) * turn) = omega arith in
    omega (arith, all, twice, others, first)
