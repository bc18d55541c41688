-- A field whose elements are the polynomials at a root, with coefficients in the field below.
use Rattle.std.specs.Prelude.{◌≡◌, ℕ, ◌<◌, get_or, map}
use Rattle.p3_field.specs.Ring.{Ring, power}
use Rattle.p3_field.specs.declared.algebra.BasedVectorSpace.{Ghosts as SpaceMembers}
use Rattle.p3_field.specs.declared.fields.Valued.{Ghosts as FieldMembers}
use Rattle.p3_matrix.specs.Polynomials.{poly}
use Rattle.p3_matrix.specs.RowMajor.{RowMajor}

-- h goes from one ring into another with sums, products and one, and keeps different elements apart
pub record IsEmbedding {A B : Type 0} (r : Ring A) (q : Ring B) (h : A → B) : Type 0 where
  pub zero : h r.zero ≡ q.zero
  pub one : h r.one ≡ q.one
  pub add : (a b : A) → h (r.add a b) ≡ q.add (h a) (h b)
  pub mul : (a b : A) → h (r.mul a b) ≡ q.mul (h a) (h b)
  pub apart : (a b : A) → h a ≡ h b → a ≡ b

-- the field f is embedded in e with its generators g, and the coordinates of an element are its one polynomial at x, whose power of so many is w
pub record IsExtensionField {F E : Type 0} (f : FieldMembers F) (e : FieldMembers E) (v : SpaceMembers E F) (g : ℕ → F)
    (h : ℕ → E) (embedded : F → E) (x : E) (w : F) : Type 0 where
  pub embed : f.Element → e.Element
  pub embeds : IsEmbedding f.ring e.ring embed
  pub base : (a : F) → e.value (embedded a) ≡ embed (f.value a)
  pub generators : (n : ℕ) → e.value (h n) ≡ embed (f.value (g n))
  pub polynomial : (y : E) → e.value y ≡ poly e.ring v.DIMENSION (λ t. embed (f.value (get_or (v.coordinates y) t f.zero))) (e.value x)
  pub independent : (y z : E) → e.value y ≡ e.value z → (t : ℕ) → t < v.DIMENSION
      → f.value (get_or (v.coordinates y) t f.zero) ≡ f.value (get_or (v.coordinates z) t f.zero)
  pub top : power e.ring (e.value x) v.DIMENSION ≡ embed (f.value w)

-- the stored matrix of the embedded entries
abbrev pub embedded_matrix : {F E : Type 0} → (F → E) → RowMajor F → RowMajor E
embedded_matrix embedded m = record { width = m.width; values = map embedded m.values }
