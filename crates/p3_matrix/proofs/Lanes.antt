-- Operations by lanes: on rows in two parts, with a function before or after, and where they read one side alone.
use Rattle.p3_matrix.proofs.Names.{◌≡◌, ℕ, zero, suc, List, [], ◌∷◌, ◌++◌, length, map, take, drop, refl, sym, ap, ap₂, ◌∙◌, arith, length-map, by_lanes}

module _ {A : Type 0} where
  pub by_lanes-append : (op : A → A → A) (us bs xs ys : List A) → length us ≡ length bs
      → by_lanes op (us ++ xs) (bs ++ ys) ≡ by_lanes op us bs ++ by_lanes op xs ys
  by_lanes-append op [] [] xs ys e = refl
  by_lanes-append op [] (b ∷ bs) xs ys e = absurd (omega arith)
  by_lanes-append op (a ∷ us) [] xs ys e = absurd (omega arith)
  by_lanes-append op (a ∷ us) (b ∷ bs) xs ys e = ap (λ zs. op a b ∷ zs) (by_lanes-append op us bs xs ys (omega arith))

  pub length-by_lanes : (op : A → A → A) (xs ys : List A) → length xs ≡ length ys → length (by_lanes op xs ys) ≡ length xs
  length-by_lanes op [] ys e = refl
  length-by_lanes op (x ∷ xs) [] e = absurd (omega arith)
  length-by_lanes op (x ∷ xs) (y ∷ ys) e = ap suc (length-by_lanes op xs ys (omega arith))

  pub take-by_lanes : (op : A → A → A) (k : ℕ) (xs ys : List A) → take k (by_lanes op xs ys) ≡ by_lanes op (take k xs) (take k ys)
  take-by_lanes op zero xs ys = refl
  take-by_lanes op (suc k) [] ys = refl
  take-by_lanes op (suc k) (x ∷ xs) [] = refl
  take-by_lanes op (suc k) (x ∷ xs) (y ∷ ys) = ap (λ zs. op x y ∷ zs) (take-by_lanes op k xs ys)

  pub drop-by_lanes : (op : A → A → A) (k : ℕ) (xs ys : List A) → length xs ≡ length ys → drop k (by_lanes op xs ys) ≡ by_lanes op (drop k xs) (drop k ys)
  drop-by_lanes op zero xs ys e = refl
  drop-by_lanes op (suc k) [] ys e = refl
  drop-by_lanes op (suc k) (x ∷ xs) [] e = absurd (omega arith)
  drop-by_lanes op (suc k) (x ∷ xs) (y ∷ ys) e = drop-by_lanes op k xs ys (omega arith)

  pub by_lanes-map_right : (op : A → A → A) (f : A → A) (xs ys : List A) → by_lanes op xs (map f ys) ≡ by_lanes (λ x y. op x (f y)) xs ys
  by_lanes-map_right op f [] ys = refl
  by_lanes-map_right op f (x ∷ xs) [] = refl
  by_lanes-map_right op f (x ∷ xs) (y ∷ ys) = ap (λ zs. op x (f y) ∷ zs) (by_lanes-map_right op f xs ys)

  pub by_lanes-mapped : (op op' : A → A → A) (f h : A → A) → ((x y : A) → op (f x) (h y) ≡ op' x y) → (xs ys : List A)
      → by_lanes op (map f xs) (map h ys) ≡ by_lanes op' xs ys
  by_lanes-mapped op op' f h e [] ys = refl
  by_lanes-mapped op op' f h e (x ∷ xs) [] = refl
  by_lanes-mapped op op' f h e (x ∷ xs) (y ∷ ys) = ap₂ (λ z zs. z ∷ zs) (e x y) (by_lanes-mapped op op' f h e xs ys)

  pub map-by_lanes : (op : A → A → A) (f : A → A) (xs ys : List A) → map f (by_lanes op xs ys) ≡ by_lanes (λ x y. f (op x y)) xs ys
  map-by_lanes op f [] ys = refl
  map-by_lanes op f (x ∷ xs) [] = refl
  map-by_lanes op f (x ∷ xs) (y ∷ ys) = ap (λ zs. f (op x y) ∷ zs) (map-by_lanes op f xs ys)

  -- an operation that reads the left side alone
  pub by_lanes_of_left : (f : A → A) (xs ys : List A) → length xs ≡ length ys → by_lanes (λ x y. f x) xs ys ≡ map f xs
  by_lanes_of_left f [] ys e = refl
  by_lanes_of_left f (x ∷ xs) [] e = absurd (omega arith)
  by_lanes_of_left f (x ∷ xs) (y ∷ ys) e = ap (λ zs. f x ∷ zs) (by_lanes_of_left f xs ys (omega arith))

  -- and gives it back
  pub by_lanes_is_left : (xs ys : List A) → length xs ≡ length ys → by_lanes (λ x y. x) xs ys ≡ xs
  by_lanes_is_left [] ys e = refl
  by_lanes_is_left (x ∷ xs) [] e = absurd (omega arith)
  by_lanes_is_left (x ∷ xs) (y ∷ ys) e = ap (λ zs. x ∷ zs) (by_lanes_is_left xs ys (omega arith))

-- f of the lanes of two packed values of one width
pub equal_lanes : {X Y : Type 0} (f : X → Y) (xs ys : List X) (width : ℕ) → length xs ≡ width → length ys ≡ width → length (map f xs) ≡ length (map f ys)
equal_lanes f xs ys width one other = length-map xs f ∙ one ∙ sym other ∙ sym (length-map ys f)
