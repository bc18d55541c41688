-- The five butterflies: what each makes of a pair x and y, with a twiddle t and a scale s, in any ring.
use Rattle.p3_field.specs.Ring.{Ring, minus}

module _ {A : Type 0} (r : Ring A) where
  -- decimation in time: x + y t and x - y t
  abbrev pub dit_near : A → A → A → A
  dit_near t x y = r.add x (r.mul y t)

  abbrev pub dit_far : A → A → A → A
  dit_far t x y = minus r x (r.mul y t)

  -- decimation in frequency: x + y and (x - y) t
  abbrev pub dif_near : A → A → A → A
  dif_near t x y = r.add x y

  abbrev pub dif_far : A → A → A → A
  dif_far t x y = r.mul (minus r x y) t

  -- decimation in frequency where y is zero: x and x t
  abbrev pub dif_zeros_near : A → A → A → A
  dif_zeros_near t x y = x

  abbrev pub dif_zeros_far : A → A → A → A
  dif_zeros_far t x y = r.mul x t

  -- decimation in time, and both times s: (x + y t) s and (x - y t) s
  abbrev pub scaled_dit_near : A → A → A → A → A
  scaled_dit_near t s x y = r.mul (dit_near t x y) s

  abbrev pub scaled_dit_far : A → A → A → A → A
  scaled_dit_far t s x y = r.mul (dit_far t x y) s

  -- x + y and x - y
  abbrev pub twiddle_free_near : A → A → A
  twiddle_free_near x y = r.add x y

  abbrev pub twiddle_free_far : A → A → A
  twiddle_free_far x y = minus r x y
