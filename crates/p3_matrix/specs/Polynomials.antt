-- Polynomials by their coefficients, the constant one first.
use Rattle.std.specs.Prelude.{ℕ, zero, suc, ◌+◌, ◌-◌, List, [], ◌∷◌, get_or}
use Rattle.p3_field.specs.Ring.{Ring}

-- the value at x, by Horner's rule
unfoldable pub value : {A : Type 0} → Ring A → List A → A → A
value r [] x = r.zero
value r (c ∷ cs) x = r.add c (r.mul x (value r cs x))

-- the same of the n coefficients c 0, c 1, ..
unfoldable pub poly : {A : Type 0} → Ring A → ℕ → (ℕ → A) → A → A
poly r zero c x = r.zero
poly r (suc n) c x = r.add (c 0) (r.mul x (poly r n (λ j. c (suc j)) x))

-- the sum of the n terms t 0, t 1, ..
unfoldable pub sum : {A : Type 0} → Ring A → ℕ → (ℕ → A) → A
sum r zero t = r.zero
sum r (suc n) t = r.add (t 0) (sum r n (λ j. t (suc j)))

-- coefficient n of the product of two polynomials: the sum of a_i * b_j over i + j = n, where zeros stand past the ends
abbrev pub convolution : {A : Type 0} → Ring A → List A → List A → ℕ → A
convolution r a b n = sum r (n + 1) (λ i. r.mul (get_or a i r.zero) (get_or b (n - i) r.zero))
