-- The leaf below a place as a function: the least inferior, and steps down.
use Rattle.active_segs.proofs.Prelude.{Bool, Entry, HasNoInferior, IsLeastInferior, List, None, Option, Some, ap, both_ways, cases_order, eq-eqb, false, get_or, inl, inr, is_inferior_in, is_inferior_of, leaf_below, least_inferior, least_inferior_of, length, ne_eqb, none-some, position, position-Some, position_none, position_nowhere, refl, same_Some, suc, superior_at, true, uid_at, zero, ℕ, ◌<◌, ◌∙◌, ◌≡◌, ◌≢◌}
pub use Rattle.active_segs.proofs.EntryLemmas.{superior_within, used_since_superior, used_within}

pub inferior_yes : (u : ℕ) (o : Option ℕ) → o ≡ Some u → is_inferior_in u o ≡ true
inferior_yes u None e = absurd (none-some u e)
inferior_yes u (Some s) e = eq-eqb s u (same_Some s u e)

pub inferior_no : (u : ℕ) (o : Option ℕ) → o ≢ Some u → is_inferior_in u o ≡ false
inferior_no u None ne = refl
inferior_no u (Some s) ne = ne_eqb s u (λ same. ne (ap (λ (k : ℕ). Some k) same))

-- ---- the first place that passes

position_is : {X : Type 0} (p : X → Bool) (xs : List X) (q : ℕ) (d : X) → q < length xs → p (get_or xs q d) ≡ true
    → ((k : ℕ) → k < q → p (get_or xs k d) ≡ false) → position p xs ≡ Some q
position_is {X} p xs q d within passes before = at (position p xs) refl
  where
    at : (o : Option ℕ) → position p xs ≡ o → o ≡ Some q
    at None is = absurd (both_ways _ (position_none p xs is q d within) passes)
    at (Some r) is =
        let h = position-Some p xs r d is in
        elim (cases_order r q) [
          | inl same ↦ ap (λ (k : ℕ). Some k) same
          | inr differ ↦ elim differ [
            | inl lower ↦ absurd (both_ways _ (before r lower) h.1)
            | inr higher ↦ absurd (both_ways _ (h.2 q higher) passes)
          ]
        ]

-- ---- the least inferior

least_inferior_is : (xs : List (Option Entry)) (place q : ℕ) → IsLeastInferior xs place q → least_inferior xs place
    ≡ Some q
least_inferior_is xs place q least = ap (least_inferior_of xs) least.is ∙ position_is (is_inferior_of least.uid)
    xs q None (superior_within xs q least.uid least.inferior) (inferior_yes least.uid (superior_at xs q) least.inferior)
    (λ k lt. inferior_no least.uid (superior_at xs k) (least.least k lt))

no_inferior_is : (xs : List (Option Entry)) (place : ℕ) → HasNoInferior xs place → least_inferior xs place ≡ None
no_inferior_is xs place none = at (uid_at xs place) refl
  where
    at : (o : Option ℕ) → uid_at xs place ≡ o → least_inferior_of xs o ≡ None
    at None is = refl
    at (Some uid) is = position_nowhere (is_inferior_of uid) xs None
        (λ k. inferior_no uid (superior_at xs k) (none k uid is))

-- ---- steps down

pub one_step_more : (xs : List (Option Entry)) (steps place q : ℕ) → IsLeastInferior xs place q
    → leaf_below xs (suc steps) place ≡ leaf_below xs steps q
unfolding leaf_below
one_step_more xs steps place q least = rw (least_inferior_is xs place q least)

-- from a leaf no step leads away
pub stays_at_leaf : (xs : List (Option Entry)) (steps place : ℕ) → HasNoInferior xs place → leaf_below xs steps place
    ≡ place
unfolding leaf_below
stays_at_leaf xs zero place none = refl
stays_at_leaf xs (suc steps) place none = rw (no_inferior_is xs place none) (stays_at_leaf xs steps place none)
