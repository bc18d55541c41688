-- Rows of a stored matrix put into opposite order by exchanges.
use Rattle.p3_matrix.proofs.Names.{◌≡◌, ◌≢◌, ℕ, ◌+◌, ◌*◌, ◌-◌, ◌%◌, ◌<◌, ◌≤◌, length, refl, sym, ap, ◌∙◌, subst, arith, ⊎_elim, mul-le-mul_right, cases_lt}
use Rattle.p3_matrix.proofs.Names.{eq-eqb, ne_eqb, get_or_past, RowMajor, HasShapeOf, height, matrix, row_exchange, Same, opposite_rows}
use Rattle.p3_matrix.proofs.Rows.OppositePlaces.{OppositeUntil, opposite_more, opposite_all}

module _ {T : Type 0} (d : T) where
  -- one more pair of rows, row and n - row
  pub opposed_more : (before now next : RowMajor T) (n row p : ℕ) → row ≡ p + 1 → height now ≡ n → length now.values ≡ n * now.width → 2 * row < n
      → HasShapeOf next now → length next.values
      ≡ length now.values → Same (matrix d next) (row_exchange row (n - row) (matrix d now)) → (j : ℕ) → j
      < now.width
      → OppositeUntil n p (λ i. (matrix d before).entry i j) (λ i. (matrix d now).entry i j)
      → OppositeUntil n row (λ i. (matrix d before).entry i j) (λ i. (matrix d next).entry i j)
  opposed_more before now next n row p is tall size low shape kept same j inside done =
      subst (λ (q : ℕ). OppositeUntil n q (λ i. (matrix d before).entry i j) (λ i. (matrix d next).entry i j)) (sym is)
      (opposite_more n p (λ i. (matrix d before).entry i j) (λ i. (matrix d now).entry i j) (λ i. (matrix d next).entry i j) (omega arith) done
      (subst (λ (q : ℕ). (matrix d next).entry q j ≡ (matrix d now).entry (n - q) j) is near)
      (subst (λ (q : ℕ). (matrix d next).entry (n - q) j ≡ (matrix d now).entry q j) is far)
      (λ r a b. others r (λ e. a (e ∙ is)) (λ e. b (e ∙ ap (λ q. n - q) is))))
    where
      at : (r : ℕ) → r < n → (matrix d next).entry r j ≡ (row_exchange row (n - row) (matrix d now)).entry r j
      at r below = same.alike r j (omega (arith, same.height, tall)) (omega (arith, same.width, inside))

      near : (matrix d next).entry row j ≡ (matrix d now).entry (n - row) j
      near = at row (omega arith) ∙ rw (eq-eqb row row refl) refl

      far : (matrix d next).entry (n - row) j ≡ (matrix d now).entry row j
      far = at (n - row) (omega arith) ∙ rw (ne_eqb (n - row) row (λ e. omega arith), eq-eqb (n - row) (n - row) refl) refl

      past : (m : RowMajor T) (r : ℕ) → n ≤ r → m.width ≡ now.width → length m.values ≡ n * now.width → (matrix d m).entry r j ≡ d
      past m r above wide full =
          get_or_past m.values (r * m.width + j) d (let l : n * m.width ≤ r * m.width =
          mul-le-mul_right m.width above in
          omega (arith, l, full, ap (λ w. n * w) wide))

      others : (r : ℕ) → r ≢ row → r ≢ n - row → (matrix d next).entry r j ≡ (matrix d now).entry r j
      others r a b =
          ⊎_elim
          (λ below. at r below ∙ rw (ne_eqb r row a, ne_eqb r (n - row) b) refl)
          (λ above. past next r above shape.1 (kept ∙ size) ∙ sym (past now r above refl size))
          (cases_lt r n)

  -- all pairs
  pub opposed_all : (before after : RowMajor T) (n m : ℕ) → height before ≡ n → HasShapeOf after before → 2 * m < n → n ≤ 2 * m + 2
      → ((j : ℕ) → j < before.width → OppositeUntil n m (λ i. (matrix d before).entry i j) (λ i. (matrix d after).entry i j))
      → Same (matrix d after) (opposite_rows (matrix d before))
  opposed_all before after n m tall shape low high done = record {
    height = shape.0;
    width = shape.1;
    alike = λ i j below inside.
        opposite_all n m _ _ low high (done j (omega (arith, shape.1))) i (omega (arith, shape.0, tall))
        ∙ ap (λ k. (matrix d before).entry ((k - i) % k) j) (sym tall);
  }
