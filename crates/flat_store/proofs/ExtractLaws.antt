-- Entries of a map that lie in a range leave it, one after the other.
use Rattle.std.proofs.lemmas.Grind.{common_steps}
use Rattle.flat_store.proofs.Prelude.{nat_tests, inl, inr, cases_Bool, ◌≡◌, ℕ, suc, ◌+◌, Bool, true, false, not, List, [], ◌∷◌, ◌++◌, length, take, drop, filter, Option, Some, None, Bor, MutBor, All, refl, sym, ap, subst, ◌∙◌, arith, MatchBool, Ordering, Bound, BTreeMap, keys_of, CalledAtPair, RemovesKey, MatchOption, option_to_list, Yields, ExtractsNext, ExtractsIf, extract_if_rest, ExtractIf, take-append-drop, drop-drop, length-append, filter-append, filter_passes, All-head, All-tail}
use denote.Param.Members.{Mut}

-- ---- what a closure that picks each entry is asked of

abbrev IsNext : {K X : Type 0} → List (K × X) → Option (K × X) → List (K × X) → List (K × X) → Type 0
IsNext [] r kept rest = (r ≡ None) × (kept ≡ []) × (rest ≡ [])
IsNext {K} {X} (x ∷ xs) r kept rest = ((y : K × X) × (r ≡ Some y) × (y.0 ≡ x.0)) × (kept ≡ []) × (rest ≡ xs)

module _ {P K X : Type 0} (C : P → K × X → Bool → P → K × X → Type 0)
    (always : (f : P) (x : K × X) (b : Bool) (g : P) (y : K × X) → C f x b g y → (b ≡ true) × (y.0 ≡ x.0)) where
  next : (f g : P) (xs : List (K × X)) (r : Option (K × X)) (kept rest : List (K × X))
      → ExtractsNext C f xs r g kept rest → IsNext xs r kept rest
  next f g [] r kept rest h = (h.0, h.2, h.3)
  next f g (x ∷ xs) r kept rest h = here h.0 (always f x h.0 h.1 h.2 h.3).0 h.4
    where
      here : (b : Bool) → b ≡ true → MatchBool b ((r ≡ Some h.2) × (g ≡ h.1) × (kept ≡ []) × (rest ≡ xs))
          ((ks : List (K × X)) × ExtractsNext C h.1 xs r g ks rest × (kept ≡ h.2 ∷ ks)) → IsNext (x ∷ xs) r kept rest
      here true e m = ((h.2, m.0, (always f x h.0 h.1 h.2 h.3).1), m.2, m.3)
      here false e m = let clash : false ≡ true = e in absurd cc

-- ---- one entry leaves a list

pub length_passing : {K X : Type 0} (p : K → Bool) (es : List (K × X))
    → length (filter (λ e. p e.0) es) ≡ length (filter p (keys_of es))
length_passing p [] = refl
length_passing p (e ∷ es) = grind (arith, nat_tests, common_steps, length_passing p es)

-- one entry that passes a test leaves: the others that pass are one less, and those that don't pass are as they were
pub record Leaves {K X : Type 0} (p : K → Bool) (old new : List (K × X)) : Type 0 where
  pub others : filter (λ e. not (p e.0)) new ≡ filter (λ e. not (p e.0)) old
  pub fewer : length (filter (λ e. p e.0) new) + 1 ≡ length (filter (λ e. p e.0) old)

module _ {K X : Type 0} (p : K → Bool) where
  -- a key that passes is gone
  one_less : (old new : List (K × X)) (k : K) → RemovesKey (keys_of old) k (keys_of new) → p k ≡ true
      → length (filter (λ e. p e.0) new) + 1 ≡ length (filter (λ e. p e.0) old)
  one_less old new k gone passes = grind (arith, nat_tests, common_steps, length_passing, filter-append, length-append)

  -- an entry between others that is left out has it
  between : (before after : List (K × X)) (y : K × X)
      → length (filter (λ e. p e.0) (before ++ after)) + 1 ≡ length (filter (λ e. p e.0) (before ++ y ∷ after))
      → filter (λ e. not (p e.0)) (before ++ after) ≡ filter (λ e. not (p e.0)) (before ++ y ∷ after)
  between before after y fewer = grind (arith, nat_tests, common_steps, filter-append, fewer)

  -- so the entry at the place that is left out has it
  left_out : (old new : List (K × X)) (i : ℕ) → new ≡ take i old ++ drop (i + 1) old
      → length (filter (λ e. p e.0) new) + 1 ≡ length (filter (λ e. p e.0) old) → Leaves p old new
  left_out old new i is fewer = record { others = here (drop i old) refl; fewer = fewer }
    where
      whole : {es : List (K × X)} → drop i old ≡ es → old ≡ take i old ++ es
      whole e = sym (take-append-drop i old) ∙ ap (λ es. take i old ++ es) e

      rest : {es : List (K × X)} → drop i old ≡ es → new ≡ take i old ++ drop 1 es
      rest e = is ∙ ap (λ es. take i old ++ es) (sym (drop-drop 1 i old) ∙ ap (drop 1) e)

      here : (es : List (K × X)) → drop i old ≡ es → filter (λ e. not (p e.0)) new ≡ filter (λ e. not (p e.0)) old
      here [] e = ap (λ es. filter (λ x. not (p x.0)) es) (rest e ∙ sym (whole e))
      here (y ∷ ys) e = ap (λ es. filter (λ x. not (p x.0)) es) (rest e) ∙ between (take i old) ys y
          (sym (ap (λ es. length (filter (λ x. p x.0) es) + 1) (rest e)) ∙ fewer
          ∙ ap (λ es. length (filter (λ x. p x.0) es)) (whole e))
          ∙ sym (ap (λ es. filter (λ x. not (p x.0)) es) (whole e))

-- ---- the steps

-- the first of the entries that are to leave leaves, or none is left
abbrev IsStep : {K X : Type 0} → List (K × X) → List (K × X) → Option (K × X) → List (K × X) → List (K × X) → Type 0
IsStep rest old None left new = (rest ≡ []) × (left ≡ []) × (new ≡ old)
IsStep {K} {X} rest old (Some x) left new =
    ((y : K × X) × (rest ≡ y ∷ left) × (x.0 ≡ y.0)) × (i : ℕ) × (new ≡ take i old ++ drop (i + 1) old)

by_option : {C A : Type 0} {B : C → Type 0} (P : Option C → Type 0) (o : Option C) → MatchOption o A B → (A → P None)
    → ((c : C) → B c → P (Some c)) → P o
by_option P None h none some = none h
by_option P (Some c) h none some = some c h

none_step : {K X : Type 0} (r : Option (K × X)) (old left new : List (K × X)) → r ≡ None → new ≡ old → left ≡ []
    → IsStep [] old r left new
none_step None old left new e same nothing = (refl, nothing, same)
none_step (Some x) old left new e same nothing = cc

some_step : {K X : Type 0} (rest old left new kept : List (K × X)) (r : Option (K × X)) (i : ℕ)
    → IsNext rest r kept left → (n : ℕ) → n ≡ length (option_to_list r)
    → new ≡ take i old ++ (kept ++ drop (i + length kept + n) old) → IsStep rest old r left new
some_step [] old left new kept None i h n is e = (
  refl,
  h.2,
  e ∙ ap (λ ks. take i old ++ (ks ++ drop (i + length ks + n) old)) h.1
      ∙ ap (λ j. take i old ++ drop (i + 0 + j) old) is ∙ ap (λ j. take i old ++ drop j old) (omega arith)
      ∙ take-append-drop i old,
)
some_step [] old left new kept (Some x) i h n is e = absurd (let z = h.0 in cc)
some_step (x ∷ xs) old left new kept None i h n is e = absurd (let z = h.0.1 in cc)
some_step (x ∷ xs) old left new kept (Some z) i h n is e =
    let same : h.0.0 ≡ z = cc (h.0.1) in (
      (x, ap (λ zs. x ∷ zs) (sym h.2), sym (ap (λ y. y.0) same) ∙ h.0.2),
      i,
      e ∙ ap (λ ks. take i old ++ (ks ++ drop (i + length ks + n) old)) h.1
          ∙ ap (λ j. take i old ++ drop (i + 0 + j) old) is ∙ ap (λ j. take i old ++ drop j old) (omega arith),
    )

-- a step once more, with the key that leaves
abbrev TakesKey : {K X : Type 0} → List (K × X) → List (K × X) → Option (K × X) → List (K × X) → List (K × X) → Type 0
TakesKey rest old None left new = (rest ≡ []) × (new ≡ old)
TakesKey {K} {X} rest old (Some x) left new =
    ((y : K × X) × (rest ≡ y ∷ left) × (x.0 ≡ y.0)) × RemovesKey (keys_of old) x.0 (keys_of new)
    × (i : ℕ) × (new ≡ take i old ++ drop (i + 1) old)

with_key : {K X : Type 0} (A : Type 0) (B : K × X → Type 0) (rest old left new : List (K × X)) (r : Option (K × X))
    → MatchOption r A (λ x. RemovesKey (keys_of old) x.0 (keys_of new) × B x) → IsStep rest old r left new
    → TakesKey rest old r left new
with_key A B rest old left new None m h = (h.0, h.2)
with_key A B rest old left new (Some x) m h = (h.0, m.0, h.1, h.2)

-- where none passes, all are those that don't
none_passes : {X : Type 0} (p : X → Bool) (es : List X) → length (filter p es) ≡ 0 → es ≡ filter (λ e. not (p e)) es
none_passes p [] h = refl
none_passes p (e ∷ es) h = elim (cases_Bool (p e)) [
  | inl on ↦ (let none : suc (length (filter p es)) ≡ 0 = rw on at h in absurd (omega arith))
  | inr off ↦ rw off (ap (λ xs. e ∷ xs) (none_passes p es (rw off at h)))
]

module _ {K X F R Z : Type 0} (g : Mut F (Bor K × (MutBor X × Unit {0})) (Bool × (MutBor X × Unit {0})))
    (cmp : K → K → Ordering) (known : R → Type 0) (told : (r : R) → known r) (end : R → Bound K)
    (always : (f : F) (k : K) (v : X) (b : Bool) (w : X) (f' : F) → CalledAtPair g f k v b w f' → b ≡ true) where
  step : (s t : ExtractIf K X R F Z) (r : Option (K × X)) → ExtractsIf g cmp known end s r t
      → TakesKey (extract_if_rest cmp end s) s.map.now.entries r (extract_if_rest cmp end t) t.map.now.entries
  step s t r h =
      with_key _ _ (extract_if_rest cmp end s) s.map.now.entries (extract_if_rest cmp end t) t.map.now.entries r h.1
      (by_option (λ o. IsStep (extract_if_rest cmp end (record s { cursor = o })) s.map.now.entries r
      (extract_if_rest cmp end t) t.map.now.entries) s.cursor h.2
      (λ a. none_step r s.map.now.entries (extract_if_rest cmp end t) t.map.now.entries a.0 a.1
      (ap (λ o. extract_if_rest cmp end (record t { cursor = o })) a.2)) (λ c b.
      let m = (b (told c.within.range)).1 in
      some_step _ s.map.now.entries (extract_if_rest cmp end t) t.map.now.entries m.0 r _
      (next _ (λ f x z f' y q. (always f x.0 x.1 z y.1 f' q.1, q.0)) _ _ _ r m.0 (extract_if_rest cmp end t) m.1) _
      refl m.2))

  module _ (p : K → Bool) where
    -- after some steps the others are as they were, and what still passes is one less for each step
    so_far : (xs : List (K × X)) (s t : ExtractIf K X R F Z) → All (λ e. p e.0 ≡ true) (extract_if_rest cmp end s)
        → Yields (ExtractsIf g cmp known end) s xs t
        → (filter (λ e. not (p e.0)) t.map.now.entries ≡ filter (λ e. not (p e.0)) s.map.now.entries)
        × (length (filter (λ e. p e.0) t.map.now.entries) + length (extract_if_rest cmp end s)
        ≡ length (filter (λ e. p e.0) s.map.now.entries) + length (extract_if_rest cmp end t))
    so_far [] s t all y = grind (arith, nat_tests, common_steps)
    so_far (x ∷ xs) s t all y =
        let u = y.0 in
        let one = step s u (Some x) y.1 in
        let those = subst (All (λ e. p e.0 ≡ true)) one.0.1 all in
        let passes : p x.0 ≡ true =
        ap p one.0.2 ∙ All-head (λ e. p e.0 ≡ true) one.0.0 (extract_if_rest cmp end u) those in
        let less = one_less p s.map.now.entries u.map.now.entries x.0 one.1 passes in
        let gone = left_out p s.map.now.entries u.map.now.entries one.2 one.3 less in
        let ih = so_far xs u t (All-tail (λ e. p e.0 ≡ true) one.0.0 (extract_if_rest cmp end u) those) y.2 in
        let a = ih.1 in
        let size : length (extract_if_rest cmp end s) ≡ suc (length (extract_if_rest cmp end u)) = ap length one.0.1 in
        (ih.0 ∙ gone.others, omega (arith, a, size, less))

    -- the end: what doesn't pass is left, and what passed is gone
    all_gone : (xs : List (K × X)) (s t u : ExtractIf K X R F Z)
        → extract_if_rest cmp end s ≡ filter (λ e. p e.0) s.map.now.entries
        → Yields (ExtractsIf g cmp known end) s xs t → ExtractsIf g cmp known end t None u
        → u.map.now.entries ≡ filter (λ e. not (p e.0)) s.map.now.entries
    all_gone xs s t u is y last =
        let all = subst (All (λ e. p e.0 ≡ true)) (sym is) (filter_passes (λ e. p e.0) s.map.now.entries) in
        let so = so_far xs s t all y in
        let end_ = step t u None last in
        let a = so.1 in
        let b : length (extract_if_rest cmp end s) ≡ length (filter (λ e. p e.0) s.map.now.entries) = ap length is in
        let c : length (extract_if_rest cmp end t) ≡ 0 = ap length end_.0 in
        let none : length (filter (λ e. p e.0) t.map.now.entries) ≡ 0 = omega (arith, a, b, c) in
        end_.1 ∙ none_passes (λ e. p e.0) t.map.now.entries none ∙ so.0

    same_name : (xs : List (K × X)) (s t : ExtractIf K X R F Z) → Yields (ExtractsIf g cmp known end) s xs t
        → t.map.ghost_name ≡ s.map.ghost_name
    same_name [] s t y = ap (λ u. u.map.ghost_name) (sym y)
    same_name (x ∷ xs) s t y = same_name xs y.0 t y.2 ∙ y.1.0

    -- so of the map once it is lent no more
    pub extracted : (old new : BTreeMap K X) (name : ℕ) (xs : List (K × X)) (s t u : ExtractIf K X R F Z)
        → s.map.now ≡ old → s.map.ghost_name ≡ name → (name ≡ u.map.ghost_name → new ≡ u.map.now)
        → extract_if_rest cmp end s ≡ filter (λ e. p e.0) old.entries
        → Yields (ExtractsIf g cmp known end) s xs t → ExtractsIf g cmp known end t None u
        → new.entries ≡ filter (λ e. not (p e.0)) old.entries
    extracted old new name xs s t u was named lent is y last =
        ap (λ m. m.entries) (lent (sym named ∙ sym (same_name xs s t y) ∙ sym last.0))
        ∙ all_gone xs s t u (is ∙ ap (λ m. filter (λ e. p e.0) m.entries) (sym was)) y last
        ∙ ap (λ m. filter (λ e. not (p e.0)) m.entries) was
