-- Rows of zeros below a stored matrix.
use Rattle.p3_matrix.proofs.Names.{ℕ, ◌≡◌, ◌+◌, ◌*◌, ◌-◌, ◌^◌, ◌<◌, ◌≤◌, zero, suc, List, length, get_or, replicate, refl, sym, ap, ◌∙◌, arith}
use Rattle.p3_matrix.proofs.Names.{le-mul_of_pos_right, get_or-append, get_or-append_right, length-append, length-replicate, pow-add, pow_pos, mul-add-lt}
use Rattle.p3_matrix.proofs.Names.{mul_assoc, mul_comm, mul-le-mul_right, RowMajor, IsRowMajor, height, HasShapeOf, with_zeros, IsValues, values_of}
use Rattle.p3_matrix.proofs.RowMajor.{whole_rows}
use Rattle.p3_matrix.proofs.Polynomials.Cosets.{padded_values}
use Rattle.p3_field.specs.declared.fields.Valued.{Ghosts as FieldMembers}

-- past its end a list of copies is read as one more
pub copy_at : {X : Type 0} (k n : ℕ) (z : X) → get_or (replicate k z) n z ≡ z
copy_at zero n z = refl
copy_at (suc k) zero z = refl
copy_at (suc k) (suc n) z = copy_at k n z

module _ {T : Type 0} (z : T) (m : RowMajor T) (whole : IsRowMajor m) (a : ℕ) where
  pub padded_length : length (with_zeros z m a).values ≡ length m.values * 2 ^ a
  padded_length =
      let more : length m.values ≤ length m.values * 2 ^ a = le-mul_of_pos_right (length m.values) (pow_pos a) in
      length-append m.values (replicate (length m.values * 2 ^ a - length m.values) z)
      ∙ ap (λ n. length m.values + n) (length-replicate (length m.values * 2 ^ a - length m.values) z) ∙ omega (arith, more)

  by_rows : length (with_zeros z m a).values ≡ height m * 2 ^ a * m.width
  by_rows = padded_length ∙ ap (λ n. n * 2 ^ a) (sym whole.full) ∙ mul_assoc (height m) m.width (2 ^ a) ∙ ap (λ n. height m * n) (mul_comm m.width (2 ^ a))
      ∙ sym (mul_assoc (height m) (2 ^ a) m.width)

  pub padded_high : height (with_zeros z m a) ≡ height m * 2 ^ a
  padded_high = (whole_rows (length (with_zeros z m a).values) (height m * 2 ^ a) m.width whole.width by_rows).0

  pub padded_whole : IsRowMajor (with_zeros z m a)
  padded_whole = record {
    width = whole.width;
    full = (whole_rows (length (with_zeros z m a).values) (height m * 2 ^ a) m.width whole.width by_rows).1;
  }

  pub padded_above : (i j : ℕ) → i < height m → j < m.width → get_or (with_zeros z m a).values (i * m.width + j) z ≡ get_or m.values (i * m.width + j) z
  padded_above i j below inside = get_or-append m.values _ z (i * m.width + j) (omega (arith, mul-add-lt i m.width j (height m) below inside, whole.full))

  pub padded_below : (i j : ℕ) → height m ≤ i → get_or (with_zeros z m a).values (i * m.width + j) z ≡ z
  padded_below i j after =
      get_or-append_right m.values _ (i * m.width + j) z (omega (arith, mul-le-mul_right m.width after, whole.full))
      ∙ copy_at _ (i * m.width + j - length m.values) z

-- what a matrix of the shape of m has with rows of zeros below it
pub padded_shape : {T : Type 0} (z : T) (m back p : RowMajor T) (a k : ℕ) → IsRowMajor back → HasShapeOf back m
    → height m ≡ 2 ^ k → p ≡ with_zeros z back a → (height p ≡ 2 ^ (k + a)) × (p.width ≡ m.width)
padded_shape {T} z m back p a k whole shape high is = (
  ap (λ (n : RowMajor T). height n) is ∙ padded_high z back whole a ∙ ap (λ h. h * 2 ^ a) (shape.0 ∙ high) ∙ sym (pow-add 2 k a),
  ap (λ (n : RowMajor T). n.width) is ∙ shape.1,
)

-- rows of zeros below the coefficients change no value
pub values_of_padded : {F : Type 0} (f : FieldMembers F) → f.value f.zero ≡ f.ring.zero
    → (generator : ℕ → F) (m : RowMajor F) → IsRowMajor m → (a n : ℕ) (s : f.Element) (out : RowMajor F)
    → IsValues f.ring (λ i. f.value (generator i)) (values_of f (with_zeros f.zero m a)) n s (values_of f out)
    → IsValues f.ring (λ i. f.value (generator i)) (values_of f m) n s (values_of f out)
values_of_padded f zero_is generator m whole a n s out values =
    let more : height m ≤ height (with_zeros f.zero m a) = omega (arith, padded_high f.zero m whole a, le-mul_of_pos_right (height m) (pow_pos a)) in
    padded_values f.ring (λ i. f.value (generator i)) (values_of f m) (values_of f (with_zeros f.zero m a)) n s (values_of f out) more refl
    (λ i j below inside. ap f.value (padded_above f.zero m whole a i j below inside))
    (λ i j after below inside. ap f.value (padded_below f.zero m whole a i j after) ∙ zero_is) values

-- an entry above rows of zeros, where a program has the entries and the width in variables of its own
pub cell_above : {F : Type 0} (f : FieldMembers F) (upper m : RowMajor F) (start : List F) (a w i j : ℕ)
    → IsRowMajor upper → m ≡ with_zeros f.zero upper a → start ≡ m.values
    → upper.width ≡ w → i < height upper → j < upper.width → f.value (get_or start (i * w + j) f.zero) ≡ (values_of f upper).entry i j
cell_above {F} f upper m start a w i j whole over_zeros start_is wide below inside =
    ap (λ xs. f.value (get_or xs (i * w + j) f.zero)) (start_is ∙ ap (λ (x : RowMajor F). x.values) over_zeros)
    ∙ ap (λ v. f.value (get_or (with_zeros f.zero upper a).values (i * v + j) f.zero)) (sym wide)
    ∙ ap f.value (padded_above f.zero upper whole a i j below inside)
