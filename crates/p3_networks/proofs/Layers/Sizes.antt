-- The sizes of a layer, as a program has them by shifts: l of k layers are done.
use Rattle.p3_networks.proofs.Names.{◌≡◌, ℕ, ◌+◌, ◌*◌, ◌-◌, ◌%◌, ◌^◌, ◌<◌, ◌≤◌, sym, ap, ◌∙◌, arith, one_shl, pow_pos}
use Rattle.p3_networks.proofs.Layers.Blocks.{halves_whole, blocks_whole}
use Rattle.p3_networks.proofs.Layers.Shifts.{one_shifted}

-- a shift by the number of layers that are done, or that are left but one
pub done_shift : (k l : ℕ) → l < k → k < 64 → 1 * 2 ^ l % 2 ^ 64 ≡ 2 ^ l
done_shift k l below small = one_shl l 64 (omega arith)

pub left_shift : (k l : ℕ) → l < k → k < 64 → 1 * 2 ^ (k - 1 - l) % 2 ^ 64 ≡ 2 ^ (k - 1 - l)
left_shift k l below small = one_shl (k - 1 - l) 64 (omega arith)

-- a shift by one of two numbers
pub first_shift : (n m : ℕ) → n + m < 64 → one_shifted n ≡ 2 ^ n
first_shift n m small = one_shl n 64 (omega arith)

pub second_shift : (n m : ℕ) → n + m < 64 → one_shifted m ≡ 2 ^ m
second_shift n m small = one_shl m 64 (omega arith)

-- a half has a row
pub some_rows : (half n : ℕ) → half ≡ 2 ^ n → 1 ≤ half
some_rows half n is = omega (arith, is, pow_pos n)

-- all cells, where a half block has 2 ^ l rows, and where there are 2 ^ l blocks
pub cells_by_halves : (k l w : ℕ) → l < k → 2 ^ k * w ≡ 2 ^ (k - 1 - l) * (2 * (2 ^ l * w))
cells_by_halves k l w below = ap (λ n. n * w) (sym (halves_whole k l below)) ∙ omega arith

pub cells_by_blocks : (k l w : ℕ) → l < k → 2 ^ k * w ≡ 2 ^ l * (2 * (2 ^ (k - 1 - l) * w))
cells_by_blocks k l w below = ap (λ n. n * w) (sym (blocks_whole k l below)) ∙ omega arith
