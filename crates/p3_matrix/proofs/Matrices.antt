-- Matrices that are one, and that a matrix by index and the list of its rows say the same.
use Rattle.p3_matrix.proofs.Names.{◌≡◌, ℕ, zero, suc, ◌<◌, refl, sym, ap, ap₂, ◌∙◌, [], ◌∷◌, ◌++◌, map, arith, add-one, range_with_len, map-range_with_len_more}
use Rattle.p3_matrix.proofs.Names.{Matrix, Same, image, row_of, list_of_rows}

-- two lists by index are equal where their entries are
pub list_same : {X : Type 0} (f g : ℕ → X) (n : ℕ) → ((i : ℕ) → i < n → f i ≡ g i) → map f (range_with_len 0 n) ≡ map g (range_with_len 0 n)
list_same f g zero e = refl
list_same f g (suc n) e =
    ap (λ k. map f (range_with_len 0 k)) (sym (add-one n)) ∙ map-range_with_len_more f 0 n n (omega arith)
    ∙ ap₂ (λ xs x. xs ++ x ∷ []) (list_same f g n (λ i l. e i (omega arith))) (e n (omega arith))
    ∙ sym (ap (λ k. map g (range_with_len 0 k)) (sym (add-one n)) ∙ map-range_with_len_more g 0 n n (omega arith))

-- f of the entries of one matrix
pub mapped_same : {T E : Type 0} (f : T → E) (a b : Matrix T) → Same a b → Same (image f a) (image f b)
mapped_same f a b e = record { height = e.height; width = e.width; alike = λ i j p q. ap f (e.alike i j p q) }

module _ {E : Type 0} where
  pub same_sym : (a b : Matrix E) → Same a b → Same b a
  same_sym a b s = record {
    height = sym s.height;
    width = sym s.width;
    alike = λ i j p q. sym (s.alike i j (omega (arith, s.height)) (omega (arith, s.width)));
  }

  pub same_trans : (a b c : Matrix E) → Same a b → Same b c → Same a c
  same_trans a b c s t = record {
    height = s.height ∙ t.height;
    width = s.width ∙ t.width;
    alike = λ i j p q. s.alike i j p q ∙ t.alike i j (omega (arith, s.height)) (omega (arith, s.width));
  }

  -- matrices that are one have one list of rows
  pub list_of_rows_same : (a b : Matrix E) → Same a b → list_of_rows a ≡ list_of_rows b
  list_of_rows_same a b s =
      list_same (row_of a) (row_of b) a.height (λ i p. list_same (a.entry i) (b.entry i) a.width (λ j q. s.alike i j p q)
      ∙ ap (λ w. map (b.entry i) (range_with_len 0 w)) s.width)
      ∙ ap (λ h. map (row_of b) (range_with_len 0 h)) s.height
