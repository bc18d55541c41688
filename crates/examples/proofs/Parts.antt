-- A transform by parts: the sizes of the parts, and a matrix that is written row by row from the rows of others, in turn.
use Rattle.std.proofs.Common.{◌≡◌, ℕ, suc, ◌+◌, ◌-◌, ◌*◌, ◌/◌, ◌%◌, ◌^◌, ◌<◌, ◌≤◌, ◌⊎◌, inl, inr, List, [], ◌∷◌, ◌++◌, length}
use Rattle.std.proofs.Common.{get_or, rules, refl, sym, ap, ap₂, ◌∙◌, subst, arith, pow-add, pow_pos}
use Rattle.std.proofs.Math.ListN.{get_or-append}
use Rattle.std.proofs.Math.Nat.{div-mul-le_self, mul-div_cancel, mul-le-mul_left, mul-le-mul_right, two-pow-succ}
use Rattle.std.proofs.lemmas.Bool.{cases_lt}
use Rattle.std.proofs.lemmas.List.{get_or-append-add, get_or_push, places}
use Rattle.std.proofs.lemmas.Nat.{div-mul-add, mod-mul-add, mul-add-lt}
use Rattle.p3_field.specs.declared.fields.Valued.{Ghosts as FieldMembers}
use Rattle.p3_matrix.specs.Cosets.{values_of}
use Rattle.p3_matrix.specs.RowMajor.{RowMajor, height, row}
use Rattle.p3_matrix.proofs.TwoPowers.{log_lt}
use Rattle.p3_dft.specs.Parts.{IsInterleaved, row_as_matrix, wide_rows}
use Rattle.p3_dft.specs.Shapes.{FitsDft}
use Rattle.p3_dft.specs.Transforms.{IsTransform}
use Rattle.p3_dft.proofs.Calls.Shapes.{fits_dft_as, log_fits_dft}
use Rattle.p3_dft.proofs.Laws.Parts.{wide_height}

-- a transform, of what it is told with other words
pub transform_as : {F : Type 0} (f : FieldMembers F) (generator : ℕ → F) (m n out natural : RowMajor F) (s x : f.Element) → m ≡ n → x ≡ s → out ≡ natural
    → IsTransform f generator m x natural → IsTransform f generator n s out
transform_as f generator m n out natural s x is shift same transform =
    subst (λ p. IsTransform f generator p s out) is
    (subst (λ y. IsTransform f generator m y out) shift (subst (λ p. IsTransform f generator m x p) (sym same) transform))

-- so many rows of a part are all, in 2 ^ a parts
pub rows_of_parts : {bits h w : ℕ} (a k : ℕ) → FitsDft bits h w → h ≡ 2 ^ k → 2 ^ a ≤ h → (a ≤ k) × (h ≡ 2 ^ (a + (k - a)))
rows_of_parts a k fits high parts =
    let fewer : a ≤ k = omega (arith, log_lt a (suc k) (omega (arith, parts, high, two-pow-succ k, pow_pos k))) in
    (fewer, high ∙ ap (λ n. 2 ^ n) (omega (arith, fewer)))

-- 2 ^ (a + b) rows of w entries, that can be transformed: so can 2 ^ b of them
module _ {bits w : ℕ} (a b : ℕ) (fits : FitsDft bits (2 ^ (a + b)) w) where
  pub logs_of_parts : (a + b ≤ bits) × (a + b < 64)
  logs_of_parts = log_fits_dft (2 ^ (a + b)) (a + b) fits refl refl

  pub part_within : 2 ^ b * w ≤ 2 ^ (a + b) * w
  part_within =
      let rise : 1 * 2 ^ b ≤ 2 ^ a * 2 ^ b = mul-le-mul_right (2 ^ b) (pow_pos a) in
      mul-le-mul_right w (omega (arith, rise, pow-add 2 a b))

  pub part_some : 1 ≤ 2 ^ b * w
  part_some = let rise : 2 ^ b * 1 ≤ 2 ^ b * w = mul-le-mul_left (2 ^ b) fits.width in omega (arith, rise, pow_pos b)

  pub part_fits : FitsDft bits (2 ^ b) w
  part_fits = record {
    log = b;
    within = omega (arith, logs_of_parts.0);
    height = refl;
    width = fits.width;
    size = omega (arith, part_within, fits.size);
  }

module _ {F : Type 0} (f : FieldMembers F) {bits : ℕ} (m : RowMajor F) (a b : ℕ) (fits : FitsDft bits (height m) m.width) (high : height m ≡ 2 ^ (a + b)) where
  pub fits_as_parts : FitsDft bits (2 ^ (a + b)) m.width
  fits_as_parts = fits_dft_as _ _ _ _ _ fits (sym high) refl

  -- the wide rows: 2 ^ a of them, which can be transformed
  wide_count : height (wide_rows (2 ^ b) m) ≡ 2 ^ a
  wide_count = wide_height f m (2 ^ a) (2 ^ b) (pow_pos b) (high ∙ pow-add 2 a b)

  pub wide_fits : FitsDft bits (height (wide_rows (2 ^ b) m)) (2 ^ b * m.width)
  wide_fits =
      let logs = logs_of_parts a b fits_as_parts in
      let entries : height (wide_rows (2 ^ b) m) * (2 ^ b * m.width) ≡ height m * m.width =
      ap (λ h. h * (2 ^ b * m.width)) wide_count ∙ omega arith ∙ ap (λ h. h * m.width) (sym (high ∙ pow-add 2 a b)) in
      record {
        log = a;
        within = omega (arith, logs.0);
        height = wide_count;
        width = part_some a b fits_as_parts;
        size = omega (arith, entries, fits.size);
      }

  -- and what their transform has
  pub wide_shape : (generator : ℕ → F) (middle : RowMajor F) (x : f.Element) → IsTransform f generator (wide_rows (2 ^ b) m) x middle
      → (height middle ≡ 2 ^ a) × (middle.width ≡ 2 ^ b * m.width)
  wide_shape generator middle x transform =
      let done = transform a wide_count in
      (done.height, done.width)

-- one more is pushed, of which is told what is told of the others
pub each_more : {T : Type 0} (P : ℕ → T → Type 0) (n : ℕ) (old new : List T) (x : T) → length old ≡ n → new ≡ old ++ x ∷ []
    → ((i : ℕ) (d : T) → i < n → P i (get_or old i d)) → P n x → (i : ℕ) (d : T) → i < n + 1 → P i (get_or new i d)
each_more P n old new x long is before here i d below = cases (cases_lt i n)
  where
    cases : (i < n) ⊎ (n ≤ i) → P i (get_or new i d)
    cases (inl less) =
        subst (P i) (sym (ap (λ xs. get_or xs i d) is ∙ get_or-append old (x ∷ []) d i (omega (arith, less, long)))) (before i d less)
    cases (inr more) =
        let same : n ≡ i = omega (arith, below, more) in
        subst (λ (k : ℕ). P k (get_or new k d)) same (subst (P n) (sym (ap (λ xs. get_or xs n d) is ∙ get_or_push old x d n long)) here)

module _ {T : Type 0} where
  -- a row lies within the entries
  row_inside : (m : RowMajor T) (i : ℕ) → i < height m → i * m.width + m.width ≤ length m.values
  row_inside m i below =
      let rise : (i + 1) * m.width ≤ height m * m.width = mul-le-mul_right m.width (omega arith) in
      omega (arith, rise, div-mul-le_self (length m.values) m.width)

  pub row_long : (m : RowMajor T) (i : ℕ) → i < height m → length (row m i) ≡ m.width
  row_long m i below = let room = row_inside m i below in search (rules, places)

  row_at : (m : RowMajor T) (i j : ℕ) (d : T) → i < height m → j < m.width → get_or (row m i) j d ≡ get_or m.values (i * m.width + j) d
  row_at m i j d below inside = let room = row_inside m i below in search (rules, places)

  -- one more row is written: row t / n of matrix t % n
  pub one_more_part : (parts : List (RowMajor T)) (m : RowMajor T) (n w t : ℕ) (old new : List T) (z : T) → length old ≡ t * w → new ≡ old ++ row m (t / n)
      → t / n < height m → m.width ≡ w → ((d : RowMajor T) → get_or parts (t % n) d ≡ m)
      → ((q j : ℕ) (d : RowMajor T) → q < t → j < w → get_or old (q * w + j) z ≡ get_or (get_or parts (q % n) d).values (q / n * w + j) z)
      → (q j : ℕ) (d : RowMajor T) → q < t + 1 → j < w → get_or new (q * w + j) z ≡ get_or (get_or parts (q % n) d).values (q / n * w + j) z
  one_more_part parts m n w t old new z long is below wide here before q j d less inside = cases (cases_lt q t)
    where
      cases : (q < t) ⊎ (t ≤ q) → get_or new (q * w + j) z ≡ get_or (get_or parts (q % n) d).values (q / n * w + j) z
      cases (inl first) =
          ap (λ xs. get_or xs (q * w + j) z) is ∙ get_or-append old (row m (t / n)) z (q * w + j) (omega (arith, long, mul-add-lt q w j t first inside))
          ∙ before q j d first inside
      cases (inr more) =
          let same : t ≡ q = omega (arith, less, more) in
          let place : q * w + j ≡ length old + j = omega (arith, long, ap (λ k. k * w) same) in
          ap (λ xs. get_or xs (q * w + j) z) is ∙ ap (λ k. get_or (old ++ row m (t / n)) k z) place ∙ get_or-append-add old (row m (t / n)) j z
          ∙ row_at m (t / n) j z below (omega (arith, wide, inside)) ∙ ap (λ v. get_or m.values (t / n * v + j) z) wide
          ∙ ap (λ p. get_or p.values (t / n * w + j) z) (sym (here d)) ∙ ap (λ k. get_or (get_or parts (k % n) d).values (k / n * w + j) z) same

-- a row of n * w entries is n rows of w, and so many has its transform
pub row_height : {F : Type 0} (middle : RowMajor F) (n w i : ℕ) → 1 ≤ w → middle.width ≡ n * w → i < height middle → height (row_as_matrix w middle i) ≡ n
row_height middle n w i some wide below = ap (λ k. k / w) (row_long middle i below ∙ wide) ∙ mul-div_cancel n some

pub shapes_of_parts : {F : Type 0} (f : FieldMembers F) (generator : ℕ → F) (middle : RowMajor F) (parts : List (RowMajor F)) (a b w : ℕ)
    (shift : ℕ → f.Element) → 1 ≤ w → height middle ≡ 2 ^ a → middle.width ≡ 2 ^ b * w
    → ((i : ℕ) (d : RowMajor F) → i < 2 ^ a → IsTransform f generator (row_as_matrix w middle i) (shift i) (get_or parts i d))
    → (i : ℕ) (d : RowMajor F) → i < 2 ^ a → (height (get_or parts i d) ≡ 2 ^ b) × ((get_or parts i d).width ≡ w)
shapes_of_parts f generator middle parts a b w shift some tall wide transforms i d below =
    let done = transforms i d below b (row_height middle (2 ^ b) w i some wide (omega (arith, below, tall))) in
    (done.height, done.width)

-- when all are written, the rows of the parts stand in turn
pub interleaved : {F : Type 0} (f : FieldMembers F) (parts : List (RowMajor F)) (rows w : ℕ) (values : List F) (d : RowMajor F) → 1 ≤ w
    → ((i : ℕ) → i < length parts → (height (get_or parts i d) ≡ rows) × ((get_or parts i d).width ≡ w)) → length values ≡ length parts * rows * w
    → ((t j : ℕ) → t < length parts * rows → j < w
    → get_or values (t * w + j) f.zero ≡ get_or (get_or parts (t % length parts) d).values (t / length parts * w + j) f.zero)
    → IsInterleaved (length parts) rows (λ i. values_of f (get_or parts i d)) (values_of f (record { width = w; values = values }))
interleaved f parts rows w values d wide shapes long written = record {
  height = ap (λ k. k / w) long ∙ mul-div_cancel (length parts * rows) wide;
  heights = λ i below. (shapes i below).0;
  widths = λ i below. (shapes i below).1;
  rows = λ i j c below less inside.
      let n = length parts in
      let number : i + n * j ≡ j * n + i = omega arith in
      let rise : n * (j + 1) ≤ n * rows = mul-le-mul_left n (omega arith) in
      let all : i + n * j < n * rows = omega (arith, rise, below) in
      let which : (i + n * j) % n ≡ i = ap (λ k. k % n) number ∙ mod-mul-add j n i below in
      let in_part : (i + n * j) / n ≡ j = ap (λ k. k / n) number ∙ div-mul-add j n i below in
      ap f.value (written (i + n * j) c all inside
      ∙ ap₂ (λ p r. get_or (get_or parts p d).values (r * w + c) f.zero) which in_part
      ∙ ap (λ v. get_or (get_or parts i d).values (j * v + c) f.zero) (sym ((shapes i below).1)));
}
