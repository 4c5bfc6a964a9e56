-- Keys of two numbers in the order of a map: which lie in a range, and what the first one from a key on tells.
use Rattle.std.proofs.lemmas.Grind.{common_steps}
use Rattle.flat_store.proofs.Prelude.{◌≡◌, ◌≤◌, ℕ, Bool, true, false, not, cond, eqb, leb, ltb, ◌&&◌, ◌||◌, List, [], ◌∷◌, Option, Some, None, is_some, refl, sym, ap, subst, ◌∙◌, arith, inl, inr, IsSome, Decides, BTreeMap, get, IsLeBy, IsRangeOf, range_contains, AllByRecursion, slice_get, IsStrictlySortedBy, keys_of, lookup, IfSome, is_le, nat_cmp, ordering_then, Less, Included, Excluded, Unbounded, Decides-eqb, nat_tests, sorted_head, sorted_tail, flip_page, key_is, by_both, compare, first_le, same_le, second_le, is_page, is_stored, IsOnce, Paged, is_key, page_at}

-- ---- a range of pages of one segment

le_is : (a b : ℕ) → is_le (nat_cmp a b) ≡ leb a b
le_is a b = elim (compare a b) [
  | inl l ↦ (let less = l.1 in let e : leb a b ≡ true = grind (arith, nat_tests) in ap is_le l.0 ∙ sym e)
  | inr m ↦ elim m [
    | inl s ↦ (let same = s.1 in let e : leb a b ≡ true = grind (arith, nat_tests) in ap is_le s.0 ∙ sym e)
    | inr g ↦ (let more = g.1 in let e : leb a b ≡ false = grind (arith, nat_tests) in ap is_le g.0 ∙ sym e)
  ]
]

-- a key in the range from one page of a segment on, below another
pub in_range : (u from end : ℕ) (k : ℕ × ℕ) → range_contains by_both (Included (u, from)) (Excluded (u, end)) k
    ≡ (eqb k.0 u && (leb from k.1 && ltb k.1 end))
in_range u from end k = elim (compare u k.0) [
  | inl l ↦
      (let less = l.1 in let e : eqb k.0 u ≡ false = grind (arith, nat_tests) in
      ap (λ o. is_le (ordering_then o (nat_cmp from k.1)) && not (is_le (ordering_then o (nat_cmp end k.1)))) l.0
      ∙ sym (ap (λ z. z && (leb from k.1 && ltb k.1 end)) e))
  | inr m ↦ elim m [
    | inl s ↦
        (let same = s.1 in let e : eqb k.0 u ≡ true = grind (arith, nat_tests) in
        let below : not (leb end k.1) ≡ ltb k.1 end = grind (arith, nat_tests) in
        ap (λ o. is_le (ordering_then o (nat_cmp from k.1)) && not (is_le (ordering_then o (nat_cmp end k.1)))) s.0
        ∙ ap (λ z. z && not (is_le (nat_cmp end k.1))) (le_is from k.1)
        ∙ ap (λ z. leb from k.1 && not z) (le_is end k.1) ∙ ap (λ z. leb from k.1 && z) below
        ∙ sym (ap (λ z. z && (leb from k.1 && ltb k.1 end)) e))
    | inr g ↦
        (let more = g.1 in let e : eqb k.0 u ≡ false = grind (arith, nat_tests) in
        ap (λ o. is_le (ordering_then o (nat_cmp from k.1)) && not (is_le (ordering_then o (nat_cmp end k.1)))) g.0
        ∙ sym (ap (λ z. z && (leb from k.1 && ltb k.1 end)) e))
  ]
]

-- ---- the keys as a list of pages

apart : (k : ℕ × ℕ) (ks : List (ℕ × ℕ)) → AllByRecursion (λ y. by_both k y ≡ Less) ks → is_stored ks k.0 k.1 ≡ false
apart k [] h = refl
apart k (y ∷ ys) h =
    grind (arith, nat_tests, common_steps, flip_page y.0 y.1 k.0 k.1, key_is k.0 k.1 y.0 y.1, apart k ys h.1)

pub keys_once : (ks : List (ℕ × ℕ)) → IsStrictlySortedBy by_both ks → IsOnce ks
keys_once [] h = tt
keys_once (k ∷ ks) h = (apart k ks (sorted_head by_both k ks h), keys_once ks (sorted_tail by_both k ks h))

pub keys_stored : {X : Type 0} (es : List ((ℕ × ℕ) × X)) (u q : ℕ)
    → is_stored (keys_of es) u q ≡ is_some (lookup (is_key u q) es)
keys_stored [] u q = refl
keys_stored (e ∷ es) u q =
    here (is_page u q e.0) (is_key u q e.0) (flip_page e.0.0 e.0.1 u q ∙ sym (key_is u q e.0.0 e.0.1))
    (keys_stored es u q)
  where
    here : (a b : Bool) → a ≡ b → is_stored (keys_of es) u q ≡ is_some (lookup (is_key u q) es)
        → (a || is_stored (keys_of es) u q) ≡ is_some (cond b (Some e.1) (lookup (is_key u q) es))
    here true true h ih = refl
    here false false h ih = ih
    here true false h ih = cc
    here false true h ih = cc

-- ---- the first page from one on

some_is : {X : Type 0} (o : Option X) (x : X) → o ≡ Some x → IsSome o
some_is None x e = absurd (let z : None ≡ Some x = e in cc)
some_is (Some y) x e = refl

-- a page of a segment is stored from one on
abbrev pub IsReached : Paged → ℕ → ℕ → Type 0
IsReached pages u from = (q : ℕ) × (from ≤ q) × IsSome (page_at pages u q)

module _ (m : BTreeMap (ℕ × ℕ) (List ℕ)) (r : Paged) (u from : ℕ)
    (of : IsRangeOf by_both (Included (u, from)) Unbounded m r) where
  pub first_tells : (e : (ℕ × ℕ) × List ℕ) (t : Paged) → r ≡ e ∷ t → Decides (eqb e.0.0 u) (IsReached m.entries u from)
  first_tells e t is = (λ h. reached ((Decides-eqb e.0.0 u).0 h), λ h. (Decides-eqb e.0.0 u).1 (same h))
    where
      head : slice_get r 0 ≡ Some e
      head = ap (λ (xs : Paged). slice_get xs 0) is

      inside : (IsLeBy by_both (u, from) e.0 × (Unit {0})) × (get by_both m e.0 ≡ Some e.1)
      inside = subst (λ (o : Option ((ℕ × ℕ) × List ℕ)). IfSome o (λ x. (IsLeBy by_both (u, from) x.0 × (Unit {0}))
          × (get by_both m x.0 ≡ Some x.1))) head of.1

      reached : e.0.0 ≡ u → IsReached m.entries u from
      reached same = (
        e.0.1,
        second_le (u, from) e.0 (sym same) inside.0.0,
        subst (λ (x : ℕ). IsSome (page_at m.entries x e.0.1)) same
            (some_is (page_at m.entries e.0.0 e.0.1) e.1 inside.1),
      )

      same : IsReached m.entries u from → e.0.0 ≡ u
      same (q, le, some) =
          let least : IsLeBy by_both e.0 (u, q) = subst (λ (o : Option ((ℕ × ℕ) × List ℕ)). IfSome o (λ x.
          IsLeBy by_both x.0 (u, q))) head (of.2 (u, q) (same_le u from q le, tt) some) in
          let below = first_le e.0 (u, q) least in
          let above = first_le (u, from) e.0 inside.0.0 in
          omega (arith, below, above)

  pub none_tells : r ≡ [] → Decides false (IsReached m.entries u from)
  none_tells is = (λ h. absurd (let z : false ≡ true = h in cc), λ h. absurd (nothing h))
    where
      nothing : IsReached m.entries u from → ⊥
      nothing (q, le, some) =
          let none : page_at m.entries u q ≡ None = of.5 is (u, q) (same_le u from q le, tt) in
          let clash : false ≡ true = sym (ap (λ (o : Option (List ℕ)). is_some o) none) ∙ some in cc
