-- Lists that are changed in place, read as functions.
use Rattle.machine_model.proofs.Prelude.{◌≡◌, ◌≢◌, ◌<◌, ℕ, suc, List, [], ◌∷◌, map, length, set, get_or, inl, inr, refl, sym, ap, ◌∙◌, eqb_tells, leb_tells, get_or-set_same, get_or-set_other, get_or_past, at_put, at_put_two}
use Rattle.machine_model.proofs.Places.{by_place, put_map}

module _ {A : Type 0} where
  pub put_list : (xs : List A) (i : ℕ) (x d : A) (j : ℕ) → i < length xs
      → get_or (set xs i x) j d ≡ at_put (λ k. get_or xs k d) i x j
  put_list xs i x d j within = by_place (λ (y : A). get_or (set xs i x) j d ≡ y) (λ k. get_or xs k d) i x j
      (λ e. cc (get_or-set_same xs i x d within)) (λ n. get_or-set_other xs i j x d n)

  pub within_by : (xs : List A) (i : ℕ) (d : A) → get_or xs i d ≢ d → i < length xs
  within_by xs i d n = elim (leb_tells (length xs) i) [ inl e ↦ absurd (n (get_or_past xs i d e.1)) | inr m ↦ m.1 ]

module _ {A B : Type 0} where
  pub map_list : (f : A → B) (xs : List A) (i : ℕ) (d : A) → get_or (map f xs) i (f d) ≡ f (get_or xs i d)
  map_list f (x ∷ xs) (suc i) d = map_list f xs i d
  map_list f _ _ d = refl

  pub map_length : (f : A → B) (xs : List A) → length (map f xs) ≡ length xs
  map_length f [] = refl
  map_length f (x ∷ xs) = cc (map_length f xs)

  -- a mapped list of which one element is changed
  pub put_mapped : (f : A → B) (xs : List A) (i : ℕ) (x d : A) (j : ℕ) → i < length xs
      → get_or (map f (set xs i x)) j (f d) ≡ at_put (λ k. get_or (map f xs) k (f d)) i (f x) j
  put_mapped f xs i x d j within = map_list f (set xs i x) j d ∙ (ap f (put_list xs i x d j within)
      ∙ (put_map f (λ k. get_or xs k d) i x j ∙ (λ t. at_put (λ k. sym (map_list f xs k d) t) i (f x) j)))

module _ {A : Type 0} where
  -- a list of lists of which one element is changed
  pub put_lists : (xss : List (List A)) (k n : ℕ) (x d : A) (i j : ℕ) → k < length xss → n < length (get_or xss k [])
      → get_or (get_or (set xss k (set (get_or xss k []) n x)) i []) j d
      ≡ at_put_two (λ a b. get_or (get_or xss a []) b d) k n x i j
  put_lists xss k n x d i j outer inner = ap (λ (ys : List A). get_or ys j d)
      (put_list xss k (set (get_or xss k []) n x) [] i outer) ∙ elim (eqb_tells i k) [
        | inl e ↦ rw e.0 (cc (put_list (get_or xss k []) n x d j inner))
        | inr m ↦ rw m.0 refl
      ]
