-- `==` of matrices: it is told where the values are equal, and only there.
use Rattle.p3_dft.proofs.Names.{◌≡◌, ◌↔◌, ℕ, zero, suc, ◌+◌, ◌*◌, ◌/◌, ◌%◌, ◌<◌, ◌==◌, ◌&&◌, Bool, IsTrue, true, false, List, [], ◌∷◌, length, get_or, refl}
use Rattle.p3_dft.proofs.Names.{sym, ap, ap₂, ◌∙◌, arith, eq-eqb, eqb-true, mod-lt, true≢false, div-add-mod, div-lt_iff_lt-mul, mul_comm, pointwise, Same}
use Rattle.p3_dft.proofs.Names.{RowMajor, IsRowMajor, height, values_of}
use Rattle.std.specs.Ordering.{eq_of_both, on}
use Rattle.p3_field.specs.declared.fields.Valued.{Ghosts as FieldMembers}

both : (s t : Bool) → (s && t) ≡ true → (s ≡ true) × (t ≡ true)
both true t h = (refl, h)
both false t h = absurd (true≢false (sym h))

-- what `==` tells of two matrices, from what it tells of two elements
abbrev pub equal : {F : Type 0} → (F → F → Bool) → RowMajor F → RowMajor F → Bool
equal {F} E = eq_of_both (on (λ (m : RowMajor F). m.width) ◌==◌) (on (λ (m : RowMajor F). m.values) (pointwise E))

module _ {F : Type 0} (f : FieldMembers F) (E : F → F → Bool) (decides : (a b : F) → IsTrue (E a b) ↔ (f.value a ≡ f.value b)) where
  lists_equal : (xs ys : List F) → length xs ≡ length ys
      → ((i : ℕ) → i < length xs → f.value (get_or xs i f.zero) ≡ f.value (get_or ys i f.zero))
      → pointwise E xs ys ≡ true
  lists_equal [] [] size same = refl
  lists_equal [] (y ∷ ys) size same = absurd (omega (arith, size))
  lists_equal (x ∷ xs) [] size same = absurd (omega (arith, size))
  lists_equal (x ∷ xs) (y ∷ ys) size same =
      ap₂ ◌&&◌ ((decides x y).1 (same 0 (omega arith)))
      (lists_equal xs ys (omega (arith, size)) (λ i below. same (suc i) (omega arith)))

  equal_lists : (xs ys : List F) → pointwise E xs ys ≡ true → (length xs ≡ length ys) × ((i : ℕ) → f.value (get_or xs i f.zero) ≡ f.value (get_or ys i f.zero))
  equal_lists [] [] told = (refl, λ i. refl)
  equal_lists [] (y ∷ ys) told = absurd (true≢false (sym told))
  equal_lists (x ∷ xs) [] told = absurd (true≢false (sym told))
  equal_lists (x ∷ xs) (y ∷ ys) told =
      let parts = both (E x y) (pointwise E xs ys) told in
      let rest = equal_lists xs ys parts.1 in
      (ap suc rest.0, at ((decides x y).0 parts.0) rest.1)
    where
      at : f.value x ≡ f.value y → ((i : ℕ) → f.value (get_or xs i f.zero) ≡ f.value (get_or ys i f.zero)) → (i : ℕ)
          → f.value (get_or (x ∷ xs) i f.zero) ≡ f.value (get_or (y ∷ ys) i f.zero)
      at first later zero = first
      at first later (suc i) = later i

  -- equal values give `==` true
  pub equal_of_same : (m n : RowMajor F) → IsRowMajor m → IsRowMajor n → Same (values_of f m) (values_of f n) → IsTrue (equal E m n)
  equal_of_same m n whole other same =
      ap₂ ◌&&◌ (eq-eqb m.width n.width same.width) (lists_equal m.values n.values size entry)
    where
      size : length m.values ≡ length n.values
      size = sym whole.full ∙ ap₂ (λ (h w : ℕ). h * w) same.height same.width ∙ other.full

      entry : (i : ℕ) → i < length m.values → f.value (get_or m.values i f.zero) ≡ f.value (get_or n.values i f.zero)
      entry i below =
          let w = m.width in
          let place : i / w * w + i % w ≡ i = omega (arith, div-add-mod i w, mul_comm w (i / w)) in
          let some : 0 < w = omega (arith, whole.width) in
          let row : i / w < height m = (div-lt_iff_lt-mul some).1 (omega (arith, below, whole.full)) in
          let inside : i % w < w = mod-lt i (omega (arith, whole.width)) in
          ap (λ p. f.value (get_or m.values p f.zero)) (sym place) ∙ same.alike (i / w) (i % w) row inside
          ∙ ap (λ p. f.value (get_or n.values p f.zero)) (ap (λ v. i / w * v + i % w) (sym same.width) ∙ place)

  -- and the reverse
  pub same_of_equal : (m n : RowMajor F) → IsTrue (equal E m n) → Same (values_of f m) (values_of f n)
  same_of_equal m n told =
      let parts = both (m.width == n.width) (pointwise E m.values n.values) told in
      let wide : m.width ≡ n.width = eqb-true m.width n.width parts.0 in
      let entries = equal_lists m.values n.values parts.1 in
      record {
        height = ap₂ (λ (s w : ℕ). s / w) entries.0 wide;
        width = wide;
        alike = λ i j p q. entries.1 (i * m.width + j) ∙ ap (λ w. f.value (get_or n.values (i * w + j) f.zero)) wide;
      }
