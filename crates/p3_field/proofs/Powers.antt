-- Powers and whole numbers in a ring.
use Rattle.p3_field.proofs.Names.{◌≡◌, ℕ, zero, suc, ◌+◌, ◌*◌, ◌/◌, ◌%◌, ◌^◌, refl, sym, ap, ◌∙◌, arith, zero-add, suc-add, add-one, two-pow-succ, Ring, two}
use Rattle.p3_field.proofs.Names.{count, power}
use Rattle.p3_field.proofs.Rings

module _ {A : Type 0} (r : Ring A) where
  pub power-zero : (x : A) → power r x 0 ≡ r.one
  unfolding power
  power-zero x = refl

  pub power-suc : (x : A) (n : ℕ) → power r x (suc n) ≡ r.mul x (power r x n)
  unfolding power
  power-suc x n = refl

  pub power-one : (x : A) → power r x 1 ≡ x
  power-one x = power-suc x 0 ∙ ap (r.mul x) (power-zero x) ∙ r.mul_one x

  -- one more factor, as a running product takes it
  pub power-more : (x : A) (n : ℕ) → power r x (n + 1) ≡ r.mul (power r x n) x
  power-more x n = ap (power r x) (add-one n) ∙ power-suc x n ∙ r.mul_comm x (power r x n)

  pub power-add : (x : A) (m n : ℕ) → power r x (m + n) ≡ r.mul (power r x m) (power r x n)
  unfolding power
  power-add x zero n = ap (power r x) (zero-add n) ∙ sym (Rings.one-mul r (power r x n))
  power-add x (suc m) n = ap (power r x) (suc-add m n) ∙ ap (r.mul x) (power-add x m n) ∙ sym (r.mul_assoc x (power r x m) (power r x n))

  mul_swap : (a b c d : A) → r.mul (r.mul a b) (r.mul c d) ≡ r.mul (r.mul a c) (r.mul b d)
  mul_swap a b c d =
      r.mul_assoc a b (r.mul c d) ∙ ap (r.mul a) (sym (r.mul_assoc b c d) ∙ ap (λ w. r.mul w d) (r.mul_comm b c) ∙ r.mul_assoc c b d)
      ∙ sym (r.mul_assoc a c (r.mul b d))

  pub power_of_one : (n : ℕ) → power r r.one n ≡ r.one
  unfolding power
  power_of_one zero = refl
  power_of_one (suc n) = Rings.one-mul r (power r r.one n) ∙ power_of_one n

  pub power_of_product : (x y : A) (n : ℕ) → power r (r.mul x y) n ≡ r.mul (power r x n) (power r y n)
  unfolding power
  power_of_product x y zero = sym (r.mul_one r.one)
  power_of_product x y (suc n) = ap (r.mul (r.mul x y)) (power_of_product x y n) ∙ mul_swap x y (power r x n) (power r y n)

  pub power-square : (x : A) (n : ℕ) → power r (r.mul x x) n ≡ r.mul (power r x n) (power r x n)
  power-square x n = power_of_product x x n

  pub power-mul : (x : A) (m n : ℕ) → power r x (m * n) ≡ power r (power r x m) n
  power-mul x m zero = let e : m * 0 ≡ 0 = omega arith in ap (power r x) e ∙ power-zero x ∙ sym (power-zero (power r x m))
  power-mul x m (suc n) =
      let e : m * suc n ≡ m + m * n = omega arith in
      ap (power r x) e ∙ power-add x m (m * n) ∙ ap (r.mul (power r x m)) (power-mul x m n) ∙ sym (power-suc (power r x m) n)

  pub power-twice : (x : A) (n : ℕ) → power r x (2 * n) ≡ power r (r.mul x x) n
  power-twice x n = power-mul x 2 n ∙ ap (λ z. power r z n) (power-suc x 1 ∙ ap (r.mul x) (power-one x))

  -- the powers of an inverse are the inverses of the powers
  pub power-inverse : (x y : A) (n : ℕ) → r.mul x y ≡ r.one → r.mul (power r x n) (power r y n) ≡ r.one
  power-inverse x y n e = sym (power_of_product x y n) ∙ ap (λ z. power r z n) e ∙ power_of_one n

  -- by the last binary digit of the exponent
  pub power-even : (x : A) (n : ℕ) → n % 2 ≡ 0 → power r x n ≡ power r (r.mul x x) (n / 2)
  power-even x n even =
      let halves : n ≡ n / 2 + n / 2 = omega (arith, even) in
      ap (power r x) halves ∙ power-add x (n / 2) (n / 2) ∙ sym (power-square x (n / 2))

  pub power-odd : (x : A) (n : ℕ) → n % 2 ≡ 1 → power r x n ≡ r.mul x (power r (r.mul x x) (n / 2))
  power-odd x n odd =
      let halves : n ≡ suc (n / 2 + n / 2) = omega (arith, odd) in
      ap (power r x) halves ∙ power-suc x (n / 2 + n / 2) ∙ ap (r.mul x) (power-add x (n / 2) (n / 2) ∙ sym (power-square x (n / 2)))

  -- a step of square and multiply: x' is the square of x, and p' takes in x where the last digit of n is one
  pub step-odd : (p p' x x' t : A) (n : ℕ) → n % 2 ≡ 1 → x' ≡ r.mul x x → p' ≡ r.mul p x → r.mul p (power r x n) ≡ t → r.mul p' (power r x' (n / 2)) ≡ t
  step-odd p p' x x' t n odd square product so_far =
      let rest = power r (r.mul x x) (n / 2) in
      cc (ap (r.mul p) (power-odd x n odd), r.mul_assoc p x rest, ap (λ y. power r y (n / 2)) square, ap (λ y. r.mul y rest) product)

  pub step-even : (p x x' t : A) (n : ℕ) → ¬ (n % 2 ≡ 1) → x' ≡ r.mul x x → r.mul p (power r x n) ≡ t → r.mul p (power r x' (n / 2)) ≡ t
  step-even p x x' t n not_odd square so_far =
      let even : n % 2 ≡ 0 = omega (arith, not_odd) in
      cc (ap (r.mul p) (power-even x n even), ap (λ y. power r y (n / 2)) square)

  -- the power of 2 ^ (n + 1) is the square of that of 2 ^ n
  pub power-double : (x y : A) (n : ℕ) → y ≡ power r x (2 ^ n) → r.mul y y ≡ power r x (2 ^ (n + 1))
  power-double x y n e =
      let twice : 2 ^ (n + 1) ≡ 2 ^ n + 2 ^ n = rw (add-one, two-pow-succ) in
      cc (ap (power r x) twice, power-add x (2 ^ n) (2 ^ n), e)

  -- n halvings undo n doublings
  pub halved : (x h : A) (n : ℕ) → r.add h h ≡ r.one → r.mul (power r (two r) n) (r.mul x (power r h n)) ≡ x
  halved x h n is =
      Rings.mul_left_comm r (power r (two r) n) x (power r h n) ∙ ap (r.mul x) (power-inverse (two r) h n (Rings.two-mul r h ∙ is))
      ∙ r.mul_one x

  pub count-zero : count r 0 ≡ r.zero
  unfolding count
  count-zero = refl

  pub count-suc : (n : ℕ) → count r (suc n) ≡ r.add r.one (count r n)
  unfolding count
  count-suc n = refl

  pub count-one : count r 1 ≡ r.one
  count-one = count-suc 0 ∙ ap (r.add r.one) count-zero ∙ r.add_zero r.one

  pub count-add : (m n : ℕ) → count r (m + n) ≡ r.add (count r m) (count r n)
  count-add zero n = ap (count r) (zero-add n) ∙ sym (ap (λ z. r.add z (count r n)) count-zero ∙ Rings.zero-add r (count r n))
  count-add (suc m) n =
      ap (count r) (suc-add m n) ∙ count-suc (m + n) ∙ ap (r.add r.one) (count-add m n)
      ∙ sym (ap (λ z. r.add z (count r n)) (count-suc m) ∙ r.add_assoc r.one (count r m) (count r n))

  pub count-power_of_two : (n : ℕ) → count r (2 ^ n) ≡ power r (two r) n
  count-power_of_two zero = count-one ∙ sym (power-zero (two r))
  count-power_of_two (suc n) =
      let twice : 2 ^ suc n ≡ 2 ^ n + 2 ^ n = two-pow-succ n in
      ap (count r) twice ∙ count-add (2 ^ n) (2 ^ n) ∙ sym (Rings.two-mul r (count r (2 ^ n)))
      ∙ ap (r.mul (two r)) (count-power_of_two n) ∙ sym (power-suc (two r) n)
