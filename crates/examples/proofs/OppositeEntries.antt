-- Rows of two entries, and the same entries in opposite order.
use Rattle.std.proofs.Common.{◌≡◌, ℕ, ◌+◌, ◌-◌, ◌*◌, ◌/◌, ◌<◌, length, get_or, reverse, sym, ap, ap₂, ◌∙◌, arith}
use Rattle.std.proofs.Math.ListN.{length-reverse}
use Rattle.std.proofs.lemmas.List.{get_or-reverse}
use Rattle.p3_field.specs.declared.fields.Valued.{Ghosts as FieldMembers}
use Rattle.p3_matrix.specs.Matrix.{Matrix, Same}
use Rattle.p3_matrix.specs.RowMajor.{HasShapeOf, IsRowMajor, RowMajor, height}
use Rattle.p3_matrix.specs.Cosets.{values_of}

-- they have the shape that they had
pub same_shape : {T : Type 0} (m n : RowMajor T) → n.width ≡ m.width → n.values ≡ reverse m.values → HasShapeOf n m
same_shape m n wide is = (ap₂ (λ (len w : ℕ). len / w) (ap length is ∙ length-reverse m.values) wide, wide)

-- in rows of two, counted from the end
from_end : (h i j len : ℕ) → i < h → j < 2 → len ≡ h * 2 → len - 1 - (i * 2 + j) ≡ (h - 1 - i) * 2 + (1 - j)
from_end h i j len below inside is = omega (arith, below, inside, is)

-- and entry (i, j) is the one as far from the last one
pub opposite : {F : Type 0} (f : FieldMembers F) (m n : RowMajor F) → IsRowMajor m → m.width ≡ 2 → n.width ≡ 2
    → n.values ≡ reverse m.values → (c : Matrix f.Element) → Same (values_of f m) c
    → Same (record { height = c.height; width = 2; entry = λ i j. c.entry (c.height - 1 - i) (1 - j) }) (values_of f n)
opposite f m n whole two two_too is c same =
    let shape = same_shape m n (two_too ∙ sym two) is in
    let size : length m.values ≡ height m * 2 = sym whole.full ∙ ap (λ w. height m * w) two in
    record {
      height = sym same.height ∙ sym shape.0;
      width = sym two_too;
      alike = λ i j below inside.
          let low : i < height m = omega (arith, below, same.height) in
          let place : i * 2 + j < length m.values = omega (arith, low, inside, size) in
          let at : get_or (reverse m.values) (i * 2 + j) f.zero ≡ get_or m.values ((height m - 1 - i) * 2 + (1 - j)) f.zero =
          get_or-reverse m.values (i * 2 + j) f.zero place ∙ ap (λ p. get_or m.values p f.zero) (from_end (height m) i j (length m.values) low inside size) in
          let here : f.value (get_or n.values (i * n.width + j) f.zero) ≡ f.value (get_or m.values ((height m - 1 - i) * m.width + (1 - j)) f.zero) =
          ap (λ w. f.value (get_or n.values (i * w + j) f.zero)) two_too ∙ ap (λ xs. f.value (get_or xs (i * 2 + j) f.zero)) is ∙ ap f.value at
          ∙ ap (λ w. f.value (get_or m.values ((height m - 1 - i) * w + (1 - j)) f.zero)) (sym two) in
          sym (here ∙ same.alike (height m - 1 - i) (1 - j) (omega (arith, low)) (omega (arith, two)) ∙ ap (λ h. c.entry (h - 1 - i) (1 - j)) same.height);
    }
