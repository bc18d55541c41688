-- Products of polynomials by transforms: zeros behind a vector change no value, and what has the values of a product is the convolution.
use Rattle.p3_dft.proofs.Names.{◌≡◌, ℕ, zero, suc, ◌+◌, ◌*◌, ◌/◌, ◌^◌, ◌<◌, ◌≤◌, List, [], ◌∷◌, ◌++◌, length, get_or, map, replicate, refl, sym, ap, ap₂, ◌∙◌}
use Rattle.p3_dft.proofs.Names.{arith, ◌⊎◌, inl, inr, cases_lt, get_or_past, length-append, length-map, length-replicate, Ring, Matrix, Same, point, IsValues}
use Rattle.p3_dft.proofs.Names.{values_of, one_column, convolution, value, IsInterpolation, IsTransform, is_values}
use Rattle.p3_dft.proofs.Laws.TwoCalls.{transform_of_vector}
use Rattle.p3_matrix.proofs.Polynomials.Convolutions.{convolution_past, product_by_index}
use Rattle.p3_field.specs.declared.fields.Valued.{Ghosts as FieldMembers}
use Rattle.p3_field.proofs.Rings

-- zeros behind the coefficients change no value
value_with_zeros : {T A : Type 0} (R : Ring A) (v : T → A) (z : T) → v z ≡ R.zero → (xs : List T) (m : ℕ) (x : A)
    → value R (map v (xs ++ replicate m z)) x ≡ value R (map v xs) x
unfolding value
value_with_zeros R v z none [] zero x = refl
value_with_zeros R v z none [] (suc m) x =
    ap₂ (λ y u. R.add y (R.mul x u)) none (value_with_zeros R v z none [] m x) ∙ Rings.zero-add R _ ∙ Rings.mul-zero R x
value_with_zeros R v z none (y ∷ xs) m x = ap (λ u. R.add (v y) (R.mul x u)) (value_with_zeros R v z none xs m x)

module _ {F : Type 0} (f : FieldMembers F) (generator : ℕ → F) (zero_law : f.value f.zero ≡ f.ring.zero) where
  abbrev roots : ℕ → f.Element
  roots n = f.value (generator n)

  -- the transform of a vector with zeros behind it has the values of the polynomial itself
  pub transform_with_zeros : (xs ys zs : List F) (m size : ℕ) (s : f.Element) (k : ℕ) → zs ≡ xs ++ replicate m f.zero → length xs + m ≡ size → size ≡ 2 ^ k
      → IsTransform f generator (one_column zs) s (one_column ys) → (i : ℕ) → i < size → f.value (get_or ys i f.zero)
      ≡ value f.ring (map f.value xs) (point f.ring roots k s i)
  transform_with_zeros xs ys zs m size s k padded sum power transform i below =
      let long : length zs ≡ size = omega (arith, ap length padded, length-append xs (replicate m f.zero), length-replicate m f.zero, sum) in
      (transform_of_vector f generator zs ys s k (long ∙ power) transform).1 i (omega (arith, long, below))
      ∙ ap (λ cs. value f.ring (map f.value cs) (point f.ring roots k s i)) padded
      ∙ value_with_zeros f.ring f.value f.zero zero_law xs m (point f.ring roots k s i)

  -- coefficients whose values are the products of two polynomials' values are those of the product, where there is room for them
  pub inverse_of_products : (vs ws ys zs ps out : List F) (size : ℕ) (s : f.Element) (k : ℕ) → size ≡ 2 ^ k
      → length ps ≡ size → length vs + length ws ≤ size + 1
      → ((i : ℕ) → i < size → f.value (get_or ys i f.zero) ≡ value f.ring (map f.value vs) (point f.ring roots k s i))
      → ((i : ℕ) → i < size → f.value (get_or zs i f.zero) ≡ value f.ring (map f.value ws) (point f.ring roots k s i))
      → ((i : ℕ) → i < size → f.value (get_or ps i f.zero) ≡ f.ring.mul (f.value (get_or ys i f.zero)) (f.value (get_or zs i f.zero)))
      → IsInterpolation f generator (one_column ps) s (one_column out) → (n : ℕ) → f.value (get_or out n f.zero)
      ≡ convolution f.ring (map f.value vs) (map f.value ws) n
  inverse_of_products vs ws ys zs ps out size s k power long room first second products inverse n = entry (cases_lt n size)
    where
      a : List f.Element
      a = map f.value vs

      b : List f.Element
      b = map f.value ws

      fits : length a + length b ≤ size + 1
      fits = omega (arith, room, length-map vs f.value, length-map ws f.value)

      product : Matrix f.Element
      product = record { height = size; width = 1; entry = λ i _. convolution f.ring a b i }

      tall : length ps / 1 ≡ size
      tall = omega (arith, long)

      values : IsValues f.ring roots product k s (values_of f (one_column ps))
      values =
          is_values f.ring roots product k s (values_of f (one_column ps)) (tall ∙ power) refl
          (λ i j below inside.
          let here : i < size = omega (arith, below, power) in
          let place : i * 1 + j ≡ i = omega (arith, inside) in
          ap (λ u. f.value (get_or ps u f.zero)) place ∙ products i here ∙ ap₂ f.ring.mul (first i here) (second i here)
          ∙ sym (product_by_index f.ring size a b (point f.ring roots k s i) fits))

      same : Same product (values_of f (one_column out))
      same = inverse.only k (tall ∙ power) product (record { height = sym tall; width = refl; values = values })

      entry : (n < size) ⊎ (size ≤ n) → f.value (get_or out n f.zero) ≡ convolution f.ring a b n
      entry (inl below) =
          let place : n ≡ n * 1 + 0 = omega arith in
          ap (λ u. f.value (get_or out u f.zero)) place ∙ sym (same.alike n 0 below (omega arith))
      entry (inr past) =
          ap f.value (get_or_past out n f.zero (omega (arith, same.height, past))) ∙ zero_law
          ∙ sym (convolution_past f.ring a b n (omega (arith, fits, past)))
