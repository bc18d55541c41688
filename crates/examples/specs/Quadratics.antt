-- The quadratic step over any ring: a pair (a, b) is a + b x, and x * x is w.
use Rattle.std.proofs.Common.{ap₂}
use Rattle.p3_field.specs.Ring.{Ring, minus}
use Rattle.examples.specs.QuadraticLaws.{constant-add, constant-assoc, constant-comm, constant-one, linear-add, linear-assoc, linear-comm, linear-one}

module _ {A : Type 0} (r : Ring A) (w : A) where
  -- (a + b x) * (c + d x) = (a c + w b d) + (a d + b c) x
  abbrev pub quadratic : Ring (A × A)
  quadratic = record {
    zero = (r.zero, r.zero);
    one = (r.one, r.zero);
    half = (r.half, r.zero);
    add = λ x y. (r.add x.0 y.0, r.add x.1 y.1);
    neg = λ x. (r.neg x.0, r.neg x.1);
    mul = λ x y. (r.add (r.mul x.0 y.0) (r.mul w (r.mul x.1 y.1)), r.add (r.mul x.0 y.1) (r.mul x.1 y.0));
    add_assoc = λ x y z. ap₂ (λ a b. (a, b)) (r.add_assoc x.0 y.0 z.0) (r.add_assoc x.1 y.1 z.1);
    add_comm = λ x y. ap₂ (λ a b. (a, b)) (r.add_comm x.0 y.0) (r.add_comm x.1 y.1);
    add_zero = λ x. ap₂ (λ a b. (a, b)) (r.add_zero x.0) (r.add_zero x.1);
    add_neg = λ x. ap₂ (λ a b. (a, b)) (r.add_neg x.0) (r.add_neg x.1);
    mul_assoc = λ x y z. ap₂ (λ a b. (a, b)) (constant-assoc r w x.0 x.1 y.0 y.1 z.0 z.1) (linear-assoc r w x.0 x.1 y.0 y.1 z.0 z.1);
    mul_comm = λ x y. ap₂ (λ a b. (a, b)) (constant-comm r w x.0 x.1 y.0 y.1) (linear-comm r w x.0 x.1 y.0 y.1);
    mul_one = λ x. ap₂ (λ a b. (a, b)) (constant-one r w x.0 x.1) (linear-one r w x.0 x.1);
    mul_add = λ x y z. ap₂ (λ a b. (a, b)) (constant-add r w x.0 x.1 y.0 y.1 z.0 z.1) (linear-add r w x.0 x.1 y.0 y.1 z.0 z.1);
    half_twice = ap₂ (λ a b. (a, b)) r.half_twice (r.add_zero r.zero);
  }

  -- the element a of the ring below
  abbrev pub embedded : A → A × A
  embedded a = (a, r.zero)

  -- a * a - w * b * b, the product of a + b x and a - b x
  abbrev pub norm : A × A → A
  norm x = minus r (r.mul x.0 x.0) (r.mul w (r.mul x.1 x.1))
