-- Laws of Reed-Solomon codes that a user cites: which values have low degree, which matrices are codewords, and how far two codewords lie apart.
use Rattle.p3_dft.proofs.Names.{◌≡◌, ◌≢◌, ◌↔◌, ℕ, zero, suc, ◌+◌, ◌-◌, ◌^◌, ◌<◌, ◌≤◌, ◌⊎◌, inl, inr, ⊎_elim, Bool, true, false, IsTrue, cond, le-ltb, refl, sym}
use Rattle.p3_dft.proofs.Names.{ap, ◌∙◌, subst, arith, below_more, pow-le-pow_right, cases_lt, true≢false, AreRoots, Matrix, Same, RowMajor, height, IsValues}
use Rattle.p3_dft.proofs.Names.{values_of, lengthened, same_sym, lengthened_values, padded_values, IsExtension, IsInterpolation, one_word}
use Rattle.p3_matrix.proofs.Polynomials.Interpolation.{interpolated, there_is_one}
use Rattle.p3_dft.specs.Codes.{Code, HasDegreeBelow, IsCode, IsCodeword}
use Rattle.p3_matrix.specs.RowNumbers.{AgreeInRows, DifferInRows}
use Rattle.p3_matrix.proofs.Rows.Numbers.{fewer, split, Split}
use Rattle.p3_field.specs.declared.fields.Valued.{Ghosts as FieldMembers}

-- a message has at most as many rows as a word
message_within : (k a : ℕ) → 2 ^ k ≤ 2 ^ (k + a)
message_within k a = pow-le-pow_right (omega arith) (omega arith)

-- c are the coefficients of m, as an inverse gives them
module _ {F : Type 0} (f : FieldMembers F) (generator : ℕ → F) (m c : RowMajor F) (s : f.Element) (k : ℕ)
    (high : height m ≡ 2 ^ k) (inverse : IsInterpolation f generator m s c) (h : ℕ) where
  abbrev roots : ℕ → f.Element
  roots n = f.value (generator n)

  abbrev AreZeros : Type 0
  AreZeros = (i j : ℕ) → h ≤ i → i < height c → j < c.width → (values_of f c).entry i j ≡ f.ring.zero

  zeros_of_degree : HasDegreeBelow f generator h k s (values_of f m) → AreZeros
  zeros_of_degree given i j behind below inside =
      let are = inverse.holds k high in
      let longer = lengthened f.ring.zero (height m) given.coefficients in
      let same : Same longer (values_of f c) =
      inverse.only k high longer
      (record {
        height = refl;
        width = sym given.values.width;
        values =
            lengthened_values f.ring roots given.coefficients (values_of f m) (height m) k s
            (omega (arith, given.height, behind, below, are.height)) given.values;
      }) in
      (same_sym longer (values_of f c) same).alike i j below inside
      ∙ ap (λ t. cond t (given.coefficients.entry i j) f.ring.zero) (le-ltb i given.coefficients.height (omega (arith, given.height, behind)))

  degree_of_zeros : AreZeros → HasDegreeBelow f generator h k s (values_of f m)
  degree_of_zeros zeros =
      let are = inverse.holds k high in
      ⊎_elim
      (λ less.
      let first : Matrix f.Element = record { height = h; width = c.width; entry = (values_of f c).entry } in
      record {
        coefficients = first;
        height = refl;
        values = padded_values f.ring roots first (values_of f c) k s (values_of f m) (omega (arith, less)) refl (λ i j below inside. refl) zeros are.values;
      })
      (λ more. record {
        coefficients = lengthened f.ring.zero h (values_of f c);
        height = refl;
        values = lengthened_values f.ring roots (values_of f c) (values_of f m) h k s more are.values;
      })
      (cases_lt h (height c))

  -- m has values of degree below h where `has_degree_below` says so of the coefficients, and only there
  pub degree_told : (told : Bool) → (IsTrue told ↔ AreZeros) → IsTrue told ↔ HasDegreeBelow f generator h k s (values_of f m)
  degree_told told exact = (λ t. degree_of_zeros (exact.0 t), λ given. exact.1 (zeros_of_degree given))

-- an extension of a message is a codeword
pub word_of_extension : {F : Type 0} (f : FieldMembers F) (generator : ℕ → F) (code : Code F) (m out : RowMajor F) → height m ≡ 2 ^ code.log_message
    → IsExtension f generator m code.added_bits (f.value code.shift) out → IsCodeword f generator code (values_of f out)
word_of_extension f generator code m out high extension =
    record {
      coefficients = extension.coefficients;
      height = (extension.are_coefficients code.log_message high).height ∙ high;
      values = extension.extended code.log_message high;
    }

-- the first w entries of row i are equal
abbrev RowsAgree : {E : Type 0} → Matrix E → Matrix E → ℕ → ℕ → Type 0
RowsAgree x y w i = (j : ℕ) → j < w → x.entry i j ≡ y.entry i j

-- one of them is another
abbrev RowsDiffer : {E : Type 0} → Matrix E → Matrix E → ℕ → ℕ → Type 0
RowsDiffer x y w i = (j : ℕ) × (j < w) × (x.entry i j ≢ y.entry i j)

row_decided : {E : Type 0} (x y : Matrix E) (i w : ℕ)
    → ((j : ℕ) → j < w → (x.entry i j ≡ y.entry i j) ⊎ (x.entry i j ≢ y.entry i j))
    → RowsAgree x y w i ⊎ RowsDiffer x y w i
row_decided x y i zero decide = inl (λ j below. absurd (omega (arith, below)))
row_decided x y i (suc w) decide = next (row_decided x y i w (λ j below. decide j (omega (arith, below)))) (decide w (omega arith))
  where
    next : RowsAgree x y w i ⊎ RowsDiffer x y w i → (x.entry i w ≡ y.entry i w) ⊎ (x.entry i w ≢ y.entry i w)
        → RowsAgree x y (suc w) i ⊎ RowsDiffer x y (suc w) i
    next (inr found) here = inr (found.0, omega (arith, found.1), found.2)
    next (inl same) (inr other) = inr (w, omega arith, other)
    next (inl same) (inl here) = inl (λ j below. below_more (λ k. x.entry i k ≡ y.entry i k) w same here j (omega (arith, below)))

module _ {F : Type 0} (f : FieldMembers F) (generator : ℕ → F) {bits : ℕ}
    (are_roots : AreRoots f.ring bits (λ n. f.value (generator n))) (code : Code F) (is : IsCode f bits code) where
  -- with no added bits every matrix of so many rows is a codeword
  pub every_word : code.added_bits ≡ 0 → (word : Matrix f.Element) → word.height ≡ 2 ^ code.log_message → IsCodeword f generator code word
  every_word none word high =
      let n = code.log_message in
      let c = interpolated f.ring are_roots n is.invertible.0 word in
      let are = there_is_one f.ring are_roots word n (f.value code.shift) is.invertible.0 (omega (arith, is.within)) high is.invertible.1 in
      let all : n ≡ n + code.added_bits = omega (arith, none) in
      record {
        coefficients = c;
        height = are.height ∙ high;
        values = subst (λ (k : ℕ). IsValues f.ring (λ i. f.value (generator i)) c k (f.value code.shift) word) all are.values;
      }

  -- two codewords of one width that agree in as many rows as a message has are equal
  pub one_codeword : (x y : Matrix f.Element) → IsCodeword f generator code x → IsCodeword f generator code y → x.width ≡ y.width
      → AgreeInRows (2 ^ code.log_message) x y → Same x y
  one_codeword x y first second wide agree =
      one_word f.ring are_roots first.coefficients second.coefficients (code.log_message + code.added_bits)
      (f.value code.shift) x y is.within is.invertible (first.height ∙ sym second.height)
      first.values second.values wide (subst (λ (n : ℕ). AgreeInRows n x y) (sym first.height) agree)

  -- of n points and messages of k rows, two codewords that are not equal differ in at least n - k + 1 rows, where it
  -- can be told of each entry whether it is equal in both
  pub words_apart : (x y : Matrix f.Element)
      → ((i j : ℕ) → i < x.height → j < x.width → (x.entry i j ≡ y.entry i j) ⊎ (x.entry i j ≢ y.entry i j))
      → IsCodeword f generator code x
      → IsCodeword f generator code y → x.width ≡ y.width → ¬ Same x y → DifferInRows (2 ^ (code.log_message + code.added_bits) - 2 ^ code.log_message + 1) x y
  words_apart x y decide first second wide different =
      by (split x.height (RowsAgree x y x.width) (RowsDiffer x y x.width) (λ i below. row_decided x y i x.width (λ j inside. decide i j below inside)))
    where
      by : Split x.height (RowsAgree x y x.width) (RowsDiffer x y x.width)
          → DifferInRows (2 ^ (code.log_message + code.added_bits) - 2 ^ code.log_message + 1) x y
      by s = cases (cases_lt s.p (2 ^ code.log_message))
        where
          cases : (s.p < 2 ^ code.log_message) ⊎ (2 ^ code.log_message ≤ s.p)
              → DifferInRows (2 ^ (code.log_message + code.added_bits) - 2 ^ code.log_message + 1) x y
          cases (inl few) =
              fewer (2 ^ (code.log_message + code.added_bits) - 2 ^ code.log_message + 1) s.q x.height (RowsDiffer x y x.width)
              (omega (arith, few, s.all, first.values.height, message_within code.log_message code.added_bits)) s.second
          cases (inr many) =
              absurd (different (one_codeword x y first second wide
              (fewer (2 ^ code.log_message) s.p x.height (RowsAgree x y x.width) many s.first)))

  -- so do two stored ones, where `==` tells which elements are equal
  pub codewords_apart : (E : F → F → Bool) → ((a b : F) → IsTrue (E a b) ↔ (f.value a ≡ f.value b)) → (m n : RowMajor F)
      → IsCodeword f generator code (values_of f m)
      → IsCodeword f generator code (values_of f n) → m.width ≡ n.width → ¬ Same (values_of f m) (values_of f n)
      → DifferInRows (2 ^ (code.log_message + code.added_bits) - 2 ^ code.log_message + 1) (values_of f m) (values_of f n)
  codewords_apart E decides m n first second wide different =
      words_apart (values_of f m) (values_of f n) (λ i j below inside. told _ _) first second wide different
    where
      told : (a b : F) → (f.value a ≡ f.value b) ⊎ (f.value a ≢ f.value b)
      told a b = by (E a b) (decides a b)
        where
          by : (t : Bool) → (IsTrue t ↔ (f.value a ≡ f.value b)) → (f.value a ≡ f.value b) ⊎ (f.value a ≢ f.value b)
          by true exact = inl (exact.0 refl)
          by false exact = inr (λ e. true≢false (sym (exact.1 e)))
