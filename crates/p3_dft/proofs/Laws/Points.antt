-- Laws of points that a user cites: what has an inverse, how the points of a coset of two-power order lie to each other, and that
-- their squares are the points of the coset of the squared shift with half as many. A law that says of what a call answered that
-- it has an inverse takes the equation that the call's clause gives.
use Rattle.p3_dft.proofs.Names.{◌≡◌, ◌≢◌, ℕ, suc, ◌+◌, ◌*◌, ◌^◌, ◌<◌, ◌≤◌, [], ◌∷◌, refl, sym, ap, ap₂, ◌∙◌, arith, Ring, two, power, AreRoots, IsInverse}
use Rattle.p3_dft.proofs.Names.{IsInvertible, power-inverse, power-one, inverse_root, inverse_undoes, root_across, root_squared, root_strided, point, point-mul}
use Rattle.p3_dft.proofs.Names.{points_apart, log_same}
use Rattle.p3_field.proofs.RingSolver.{solve, va, vb, vc, vd, ◌⊠◌, ⊝}
use Rattle.p3_field.proofs.Rings

-- the logarithm of a height is one number
pub one_logarithm : (k l height : ℕ) → height ≡ 2 ^ k → height ≡ 2 ^ l → k ≡ l
one_logarithm k l height first second = log_same k l (sym first ∙ second)

module _ {A : Type 0} (R : Ring A) where
  -- ---- what has an inverse
  pub one_invertible : (x : A) → x ≡ R.one → IsInvertible R x
  one_invertible x is = (R.one, R.mul_one x ∙ is)

  pub two_invertible : (x : A) → x ≡ two R → IsInvertible R x
  two_invertible x is = (R.half, ap (λ y. R.mul y R.half) is ∙ Rings.two-mul R R.half ∙ R.half_twice)

  pub product_invertible : (x y z : A) → z ≡ R.mul x y → IsInvertible R x → IsInvertible R y → IsInvertible R z
  product_invertible x y z is (u, undo) (v, undo_too) = (
    R.mul u v,
    ap (λ t. R.mul t (R.mul u v)) is
        ∙ solve R (x ∷ y ∷ u ∷ v ∷ []) ((va ⊠ vb) ⊠ (vc ⊠ vd)) ((va ⊠ vc) ⊠ (vb ⊠ vd)) refl
        ∙ ap₂ R.mul undo undo_too ∙ R.mul_one R.one,
  )

  pub square_invertible : (x z : A) → z ≡ R.mul x x → IsInvertible R x → IsInvertible R z
  square_invertible x z is inverse = product_invertible x x z is inverse inverse

  pub power_invertible : (x z : A) (n : ℕ) → z ≡ power R x n → IsInvertible R x → IsInvertible R z
  power_invertible x z n is (u, undo) = (power R u n, ap (λ t. R.mul t (power R u n)) is ∙ power-inverse R x u n undo)

  pub negative_invertible : (x z : A) → z ≡ R.neg x → IsInvertible R x → IsInvertible R z
  negative_invertible x z is (u, undo) = (R.neg u, ap (λ t. R.mul t (R.neg u)) is ∙ solve R (x ∷ u ∷ []) (⊝ va ⊠ ⊝ vb) (va ⊠ vb) refl ∙ undo)

  -- so has an inverse itself
  pub inverse_invertible : (x y : A) → IsInverse R x y → IsInvertible R y
  inverse_invertible x y undo = (x, R.mul_comm y x ∙ undo)

  -- each factor of what has one
  pub factor_invertible : (x y z : A) → z ≡ R.mul x y → IsInvertible R z → IsInvertible R x
  factor_invertible x y z is (u, undo) = (R.mul y u, sym (R.mul_assoc x y u) ∙ ap (λ t. R.mul t u) (sym is) ∙ undo)

  -- it can go on both sides
  pub invertible_cancel : (x a b : A) → IsInvertible R x → R.mul x a ≡ R.mul x b → a ≡ b
  invertible_cancel x a b (u, undo) same = sym (back a) ∙ ap (R.mul u) same ∙ back b
    where
      back : (c : A) → R.mul u (R.mul x c) ≡ c
      back c = sym (R.mul_assoc u x c) ∙ ap (λ t. R.mul t c) (R.mul_comm u x ∙ undo) ∙ Rings.one-mul R c

module _ {A : Type 0} (R : Ring A) {g : ℕ → A} {bits : ℕ} (G : AreRoots R bits g) where
  -- ---- roots
  -- a root has an inverse
  pub root_invertible : (n : ℕ) (x : A) → x ≡ g n → n ≤ bits → IsInvertible R x
  root_invertible n x is within = (inverse_root R g n, ap (λ t. R.mul t (inverse_root R g n)) is ∙ (inverse_undoes R G).undo n within)

  -- and is a power of each of a larger order
  pub root_of_larger : (n m : ℕ) → n + m ≤ bits → g n ≡ power R (g (n + m)) (2 ^ m)
  root_of_larger n m within =
      let one : 1 * 2 ^ m ≡ 2 ^ m = omega arith in
      sym (power-one R (g n)) ∙ sym (root_strided R G n m 1 within) ∙ ap (power R (g (n + m))) one

  -- ---- points
  -- the points of a coset of what has an inverse have one
  pub point_invertible : (n : ℕ) (s : A) (i : ℕ) (x : A) → x ≡ point R g n s i → n ≤ bits → IsInvertible R s → IsInvertible R x
  point_invertible n s i x is within inverse =
      product_invertible R s (power R (g n) i) x (is ∙ point-mul R g n s i) inverse
      (power_invertible R (g n) (power R (g n) i) i refl (root_invertible n (g n) refl within))

  -- so have their differences
  pub difference_invertible : (n : ℕ) (s : A) (i j : ℕ) → n ≤ bits → IsInvertible R s → i < 2 ^ n → j < 2 ^ n → i ≢ j
      → IsInvertible R (R.add (point R g n s j) (R.neg (point R g n s i)))
  difference_invertible n s i j within inverse first second different = points_apart R G n s i j within inverse first second different

  -- half of them further on stands minus the point
  pub point_opposite : (n : ℕ) (s : A) (i : ℕ) → n < bits → point R g (suc n) s (2 ^ n + i) ≡ R.neg (point R g (suc n) s i)
  point_opposite n s i within =
      point-mul R g (suc n) s (2 ^ n + i) ∙ ap (R.mul s) (root_across R G n i within) ∙ Rings.mul-neg R s (power R (g (suc n)) i)
      ∙ ap R.neg (sym (point-mul R g (suc n) s i))

  -- the square of a point is that of the coset of the squared shift with half as many
  pub point_squared : (n : ℕ) (s : A) (i : ℕ) → n < bits → R.mul (point R g (suc n) s i) (point R g (suc n) s i) ≡ point R g n (R.mul s s) i
  point_squared n s i within =
      let p = power R (g (suc n)) i in
      ap₂ R.mul (point-mul R g (suc n) s i) (point-mul R g (suc n) s i)
      ∙ solve R (s ∷ p ∷ []) ((va ⊠ vb) ⊠ (va ⊠ vb)) ((va ⊠ va) ⊠ (vb ⊠ vb)) refl
      ∙ ap (R.mul (R.mul s s)) (root_squared R G n i within) ∙ sym (point-mul R g n (R.mul s s) i)

  -- of a larger coset of s, each 2 ^ m-th point is one of the smaller
  pub point_of_larger : (n m : ℕ) (s : A) (i : ℕ) → n + m ≤ bits → point R g (n + m) s (i * 2 ^ m) ≡ point R g n s i
  point_of_larger n m s i within =
      point-mul R g (n + m) s (i * 2 ^ m) ∙ ap (R.mul s) (root_strided R G n m i within) ∙ sym (point-mul R g n s i)
