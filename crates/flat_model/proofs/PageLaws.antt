-- Laws of the stored pages: which are there once one is stored, or once some of a segment are stored no more.
use Rattle.flat_model.proofs.Prelude.{common_steps, inl, inr, cases_Bool, and_parts, ◌≡◌, ℕ, Bool, true, false, not, cond, eqb, ◌&&◌, ◌||◌, List, [], ◌∷◌, refl, sym, ap, ◌∙◌, arith, nat_le, nat_tests, is_page, is_stored, is_stored_from, with_stored, without_stored, IsOnce, and_false, or_true, second_false, and_both, eqb_self}

pub is_stored-with : (xs : List (ℕ × ℕ)) (u p v q : ℕ) → is_stored (with_stored xs u p) v q
    ≡ (is_page v q (u, p) || is_stored xs v q)
unfolding with_stored
is_stored-with xs u p v q = grind (arith, nat_tests, common_steps, and_both)

pub once_with : (xs : List (ℕ × ℕ)) (u p : ℕ) → IsOnce xs → IsOnce (with_stored xs u p)
unfolding with_stored
once_with xs u p once = grind (arith, nat_tests, common_steps)

pub with_old : (xs : List (ℕ × ℕ)) (u p : ℕ) → is_stored xs u p ≡ true → with_stored xs u p ≡ xs
unfolding with_stored
with_old xs u p h = rw h refl

-- the first page stays, or goes
pub without_first : (x : ℕ × ℕ) (xs : List (ℕ × ℕ)) (u : ℕ) (t : ℕ → Bool) (z : Bool) → (eqb x.0 u && t x.1) ≡ z
    → without_stored (x ∷ xs) u t ≡ cond z (without_stored xs u t) (x ∷ without_stored xs u t)
unfolding without_stored
without_first x xs u t true e = rw e refl
without_first x xs u t false e = rw e refl

pub without_none : (u : ℕ) (t : ℕ → Bool) → without_stored [] u t ≡ []
unfolding without_stored
without_none u t = refl

-- a page is there still where it is of another segment, or doesn't pass the test
pub is_stored-without : (xs : List (ℕ × ℕ)) (u : ℕ) (t : ℕ → Bool) (v q : ℕ)
    → is_stored (without_stored xs u t) v q ≡ (not (eqb v u && t q) && is_stored xs v q)
is_stored-without [] u t v q = ap (λ (ys : List (ℕ × ℕ)). is_stored ys v q) (without_none u t)
    ∙ sym (and_false (not (eqb v u && t q)))
is_stored-without (x ∷ xs) u t v q =
    let ih = is_stored-without xs u t v q in
    elim (cases_Bool (eqb x.0 u && t x.1)) [
      | inl goes ↦ rw (without_first x xs u t true goes, ih) (elim (cases_Bool (is_page v q x)) [
        | inl is ↦ rw (same is goes) refl
        | inr off ↦ rw off refl
      ])
      | inr stays ↦ rw (without_first x xs u t false stays, ih) (elim (cases_Bool (is_page v q x)) [
        | inl is ↦ rw (is, same is stays) refl
        | inr off ↦ rw off refl
      ])
    ]
  where
    same : {z : Bool} → is_page v q x ≡ true → (eqb x.0 u && t x.1) ≡ z → (eqb v u && t q) ≡ z
    same is e = let its = and_both x.0 x.1 v q is in rw (its.0, its.1) at e

pub once_without : (xs : List (ℕ × ℕ)) (u : ℕ) (t : ℕ → Bool) → IsOnce xs → IsOnce (without_stored xs u t)
once_without [] u t once = rw (without_none u t) tt
once_without (x ∷ xs) u t once = elim (cases_Bool (eqb x.0 u && t x.1)) [
  | inl goes ↦ rw (without_first x xs u t true goes) (once_without xs u t once.1)
  | inr stays ↦ rw (without_first x xs u t false stays) (
    rw (is_stored-without xs u t x.0 x.1, once.0) (and_false (not (eqb x.0 u && t x.1))),
    once_without xs u t once.1,
  )
]

-- nothing is taken out where nothing is there
pub without_absent : (xs : List (ℕ × ℕ)) (u p : ℕ) → is_stored xs u p ≡ false → without_stored xs u (λ q. eqb q p) ≡ xs
without_absent [] u p h = without_none u (λ q. eqb q p)
without_absent (x ∷ xs) u p h =
    let here : is_page u p x ≡ false = grind (arith, nat_tests) in
    let rest : is_stored xs u p ≡ false = grind (arith, nat_tests) in
    without_first x xs u (λ q. eqb q p) false here ∙ ap (λ (ys : List (ℕ × ℕ)). x ∷ ys) (without_absent xs u p rest)

-- a stored page at or past one
pub stored_from : (xs : List (ℕ × ℕ)) (u from q : ℕ) → is_stored xs u q ≡ true → nat_le from q ≡ true
    → is_stored_from xs u from ≡ true
stored_from [] u from q h le = absurd cc
stored_from (x ∷ xs) u from q h le = elim (cases_Bool (is_page u q x)) [
  | inl is ↦ (let same = and_both x.0 x.1 u q is in rw (same.0, same.1, eqb_self u, le) refl)
  | inr isnt ↦ rw (stored_from xs u from q (rw isnt at h) le) (or_true (eqb x.0 u && nat_le from x.1))
]

-- nothing is stored at or past one where each isn't
pub none_from : (xs : List (ℕ × ℕ)) (u from : ℕ) → ((q : ℕ) → nat_le from q ≡ true → is_stored xs u q ≡ false)
    → is_stored_from xs u from ≡ false
none_from [] u from each = refl
none_from (x ∷ xs) u from each =
    let rest = none_from xs u from (λ q le. second_false (is_page u q x) (is_stored xs u q) (each q le)) in
    elim (cases_Bool (eqb x.0 u && nat_le from x.1)) [
      | inl both ↦
          (let parts = and_parts (eqb x.0 u) (nat_le from x.1) both in
          let clash : true ≡ false = rw (parts.0, eqb_self x.1) at (each x.1 parts.1) in
          cc)
      | inr off ↦ rw off rest
    ]
