-- Values of polynomials in an extension field: those of embedded ones, and those of polynomials by their coordinates.
use Rattle.std.proofs.Common.{◌≡◌, ℕ, zero, suc, ◌+◌, ◌*◌, ◌/◌, ◌^◌, ◌<◌, List, [], ◌∷◌, get_or, length, map, refl, subst, sym, ap, ◌∙◌, arith}
use Rattle.std.proofs.Math.Nat.{lt_of_mul-lt-mul_left}
use Rattle.std.proofs.lemmas.List.{length-map}
use Rattle.p3_field.specs.Ring.{Ring, AreRoots, IsInvertible, power}
use Rattle.p3_field.specs.declared.algebra.BasedVectorSpace.{Ghosts as SpaceMembers}
use Rattle.p3_field.specs.declared.fields.Valued.{Ghosts as FieldMembers}
use Rattle.p3_matrix.specs.Cosets.{AreCoefficients, IsValues, point, values_of}
use Rattle.p3_matrix.specs.Matrix.{Matrix, Same, image}
use Rattle.p3_matrix.specs.Polynomials.{poly}
use Rattle.p3_matrix.specs.RowMajor.{RowMajor, height}
use Rattle.p3_matrix.proofs.Polynomials.ByIndex.{poly-add, poly-times, poly_same, poly_zeros}
use Rattle.p3_matrix.proofs.Polynomials.Cosets.{entry-poly, is_values, values_same}
use Rattle.p3_matrix.proofs.Polynomials.Interpolation.{there_is_no_other}
use Rattle.p3_dft.specs.Codes.{HasDegreeBelow}
use Rattle.p3_dft.specs.Coordinates.{coordinate, flat}
use Rattle.p3_dft.specs.Extensions.{arrangement}
use Rattle.p3_dft.specs.Shapes.{FitsDft}
use Rattle.p3_dft.specs.Transforms.{IsInterpolation}
use Rattle.p3_dft.specs.declared.traits.Layout.{Layout}
use Rattle.p3_dft.specs.declared.traits.Layout.TheVariants.{Natural, BitReversed}
use Rattle.p3_dft.proofs.Calls.Shapes.{fits_dft_as}
use Rattle.p3_dft.proofs.Laws.Coordinates.{inverse_of_coordinate}
use Rattle.p3_dft.proofs.Laws.TwoCalls.{exponent_within}
use Rattle.examples.specs.ExtensionFields.{IsEmbedding, IsExtensionField, embedded_matrix}

pub height-embedded : {F E : Type 0} (embedded : F → E) (m : RowMajor F) → height (embedded_matrix embedded m) ≡ height m
height-embedded embedded m = ap (λ n. n / m.width) (length-map m.values embedded)

-- an embedded matrix fits where the matrix does
pub embedded_fits : {F E : Type 0} (embedded : F → E) (m : RowMajor F) (lifted : RowMajor E) (bits over : ℕ) → bits ≡ over → lifted ≡ embedded_matrix embedded m
    → FitsDft bits (height m) m.width → FitsDft over (height lifted) lifted.width
embedded_fits embedded m lifted bits over same is fits =
    subst (λ (n : ℕ). FitsDft n (height lifted) lifted.width) same
    (fits_dft_as _ _ _ _ _ fits (ap height is ∙ height-embedded embedded m) (ap (λ (a : RowMajor _). a.width) is))

-- a polynomial of polynomials, by either variable first
poly_swapped : {A : Type 0} (r : Ring A) (m n : ℕ) (c : ℕ → ℕ → A) (x y : A)
    → poly r m (λ t. poly r n (λ q. c q t) y) x ≡ poly r n (λ q. poly r m (λ t. c q t) x) y
unfolding poly
poly_swapped r m zero c x y = poly_zeros r m (λ t. r.zero) x (λ t below. refl)
poly_swapped r m (suc n) c x y =
    poly-add r m (λ t. c 0 t) (λ t. r.mul y (poly r n (λ q. c (suc q) t) y)) x
    ∙ ap (r.add (poly r m (λ t. c 0 t) x)) (poly-times r m y (λ t. poly r n (λ q. c (suc q) t) y) x
    ∙ ap (r.mul y) (poly_swapped r m n (λ q t. c (suc q) t) x y))

module _ {A B : Type 0} (r : Ring A) (q : Ring B) (embed : A → B) (is : IsEmbedding r q embed) where
  embedded-poly : (n : ℕ) (c : ℕ → A) (x : A) → embed (poly r n c x) ≡ poly q n (λ j. embed (c j)) (embed x)
  unfolding poly
  embedded-poly zero c x = is.zero
  embedded-poly (suc n) c x = is.add _ _ ∙ ap (q.add (embed (c 0))) (is.mul _ _ ∙ ap (q.mul (embed x)) (embedded-poly n (λ j. c (suc j)) x))

  embedded-power : (x : A) (n : ℕ) → embed (power r x n) ≡ power q (embed x) n
  unfolding power
  embedded-power x zero = is.one
  embedded-power x (suc n) = is.mul _ _ ∙ ap (q.mul (embed x)) (embedded-power x n)

  pub embedded_invertible : (x : A) → IsInvertible r x → IsInvertible q (embed x)
  embedded_invertible x (y, one) = (embed y, sym (is.mul x y) ∙ ap embed one ∙ is.one)

  module _ (g : ℕ → A) (h : ℕ → B) (same : (n : ℕ) → h n ≡ embed (g n)) where
    embedded-point : (n : ℕ) (s : A) (i : ℕ) → embed (point r g n s i) ≡ point q h n (embed s) i
    unfolding point
    embedded-point n s i = is.mul s (power r (g n) i) ∙ ap (q.mul (embed s)) (embedded-power (g n) i ∙ ap (λ y. power q y i) (sym (same n)))

    -- embedded coefficients have the embedded values at the embedded points
    embedded_values : (c m : Matrix A) (n : ℕ) (s : A) → IsValues r g c n s m → IsValues q h (image embed c) n (embed s) (image embed m)
    embedded_values c m n s v =
        is_values q h (image embed c) n (embed s) (image embed m) v.height v.width
        (λ i j below inside. ap embed (entry-poly r g c n s m v i j below inside) ∙ embedded-poly c.height (λ u. c.entry u j) (point r g n s i)
        ∙ ap (poly q c.height (λ u. embed (c.entry u j))) (embedded-point n s i))

module _ {F E : Type 0} (f : FieldMembers F) (e : FieldMembers E) (v : SpaceMembers E F) (g : ℕ → F) (h : ℕ → E) (embedded : F → E) (x : E) (w : F)
    (is : IsExtensionField f e v g h embedded x w) (none : f.value f.zero ≡ f.ring.zero) (nothing : e.value e.zero ≡ e.ring.zero) where
  -- ---- embedded matrices
  stored : (xs : List F) (n : ℕ) → e.value (get_or (map embedded xs) n e.zero) ≡ is.embed (f.value (get_or xs n f.zero))
  stored [] n = nothing ∙ sym (ap is.embed none ∙ is.embeds.zero)
  stored (a ∷ xs) zero = is.base a
  stored (a ∷ xs) (suc n) = stored xs n

  arranged : (layout : Layout) (k : ℕ) (m : RowMajor F)
      → Same (image is.embed (arrangement layout k (values_of f m)))
      (arrangement layout k (values_of e (embedded_matrix embedded m)))
  arranged Natural k m = record { height = sym (height-embedded embedded m); width = refl; alike = λ i j _ _. sym (stored m.values _) }
  arranged BitReversed k m = record { height = sym (height-embedded embedded m); width = refl; alike = λ i j _ _. sym (stored m.values _) }

  -- what is invertible below is so in the extension
  pub embedded_unit : (s : F) → IsInvertible f.ring (f.value s) → IsInvertible e.ring (e.value (embedded s))
  embedded_unit s invertible = subst (IsInvertible e.ring) (sym (is.base s)) (embedded_invertible f.ring e.ring is.embed is.embeds (f.value s) invertible)

  -- values of low degree have low degree in the extension
  pub embedded_degree : (layout : Layout) (d k : ℕ) (s : F) (m : RowMajor F) → HasDegreeBelow f g d k (f.value s) (arrangement layout k (values_of f m))
      → HasDegreeBelow e h d k (e.value (embedded s)) (arrangement layout k (values_of e (embedded_matrix embedded m)))
  embedded_degree layout d k s m has = record {
    coefficients = image is.embed has.coefficients;
    height = has.height;
    values =
        subst (λ p. IsValues e.ring (λ n. e.value (h n)) (image is.embed has.coefficients) k p
        (arrangement layout k (values_of e (embedded_matrix embedded m)))) (sym (is.base s))
        (values_same e.ring (λ n. e.value (h n)) (image is.embed has.coefficients) k (is.embed (f.value s))
        (image is.embed (arrangement layout k (values_of f m))) _
        (embedded_values f.ring e.ring is.embed is.embeds (λ n. f.value (g n)) (λ n. e.value (h n)) is.generators
        has.coefficients _ k (f.value s) has.values) (arranged layout k m));
  }

  -- ---- coordinates
  -- coordinate t of each entry, and the entry by its coordinates
  abbrev part : ℕ → RowMajor E → Matrix f.Element
  part t m = values_of f (coordinate v f.zero t m)

  by_coordinates : (ys : List E) (n : ℕ)
      → e.value (get_or ys n e.zero)
      ≡ poly e.ring v.DIMENSION
      (λ t. is.embed (f.value (get_or (map (λ y. get_or (v.coordinates y) t f.zero) ys) n f.zero))) (e.value x)
  by_coordinates [] n = nothing ∙ sym (poly_zeros e.ring v.DIMENSION _ (e.value x) (λ t below. ap is.embed none ∙ is.embeds.zero))
  by_coordinates (y ∷ ys) zero = is.polynomial y
  by_coordinates (y ∷ ys) (suc n) = by_coordinates ys n

  -- polynomials whose coordinates have the coordinates as values have the values
  values_by_parts : (c m : RowMajor E) (k : ℕ) (s : f.Element) → height m ≡ 2 ^ k → m.width ≡ c.width
      → ((t : ℕ) → t < v.DIMENSION → IsValues f.ring (λ n. f.value (g n)) (part t c) k s (part t m))
      → IsValues e.ring (λ n. e.value (h n)) (values_of e c) k (is.embed s) (values_of e m)
  values_by_parts c m k s tall wide parts =
      is_values e.ring (λ n. e.value (h n)) (values_of e c) k (is.embed s) (values_of e m) tall wide
      (λ i j below inside.
      let p = point f.ring (λ n. f.value (g n)) k s i in
      by_coordinates m.values (i * m.width + j)
      ∙ poly_same e.ring v.DIMENSION _ _ (e.value x) (λ t within.
      ap is.embed (entry-poly f.ring (λ n. f.value (g n)) (part t c) k s (part t m) (parts t within) i j below inside
      ∙ ap (λ n. poly f.ring (n / c.width) (λ u. (part t c).entry u j) p) (length-map c.values (λ y. get_or (v.coordinates y) t f.zero)))
      ∙ embedded-poly f.ring e.ring is.embed is.embeds (height c) (λ u. (part t c).entry u j) p)
      ∙ poly_swapped e.ring v.DIMENSION (height c) (λ u t. is.embed ((part t c).entry u j)) (e.value x) (is.embed p)
      ∙ poly_same e.ring (height c) _ _ (is.embed p) (λ u _. sym (by_coordinates c.values (u * c.width + j)))
      ∙ ap (poly e.ring (height c) (λ u. (values_of e c).entry u j))
      (embedded-point f.ring e.ring is.embed is.embeds (λ n. f.value (g n)) (λ n. e.value (h n)) is.generators k s i))

  -- what interpolates all coordinates interpolates the elements
  pub interpolated_by_parts : (counted : (y : E) → length (v.coordinates y) ≡ v.DIMENSION) (bits over : ℕ)
      → AreRoots f.ring bits (λ n. f.value (g n)) → AreRoots e.ring over (λ n. e.value (h n)) → bits ≡ over
      → (m out : RowMajor E) (s : F) → FitsDft bits (height m) (m.width * v.DIMENSION) → IsInvertible f.ring (f.value s)
      → IsInterpolation f g (flat v m) (f.value s) (flat v out) → IsInterpolation e h m (e.value (embedded s)) out
  interpolated_by_parts counted bits over roots above same m out s fits invertible given = subst (λ p. IsInterpolation e h m p out) (sym (is.base s)) (record {
    holds = holds;
    only = λ k tall d other.
        there_is_no_other e.ring above (values_of e m) k (is.embed (f.value s)) (omega (arith, exponent_within k fits tall, same))
        (embedded_invertible f.ring e.ring is.embed is.embeds (f.value s) invertible) d (values_of e out) other (holds k tall);
  })
    where
      holds : (k : ℕ) → height m ≡ 2 ^ k → AreCoefficients e.ring (λ n. e.value (h n)) (values_of e m) k (is.embed (f.value s)) (values_of e out)
      holds k tall =
          let counts = λ (t : ℕ) (y : RowMajor E). ap (λ n. n / y.width) (length-map y.values (λ z. get_or (v.coordinates z) t f.zero)) in
          let each = λ (t : ℕ) (within : t < v.DIMENSION).
          (inverse_of_coordinate v counted t within f g bits roots m out (f.value s) fits invertible given).holds k (counts t m ∙ tall) in
          let first = each 0 (lt_of_mul-lt-mul_left m.width (let some : m.width * 0 < m.width * v.DIMENSION = omega (arith, fits.width) in some)) in
          record {
            height = sym (counts 0 out) ∙ first.height ∙ counts 0 m;
            width = first.width;
            values = values_by_parts out m k (f.value s) tall (sym first.width) (λ t within. (each t within).values);
          }
