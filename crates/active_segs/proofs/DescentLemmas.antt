-- The way down from a place to the leaf that takes its stead: it ends, it is the only one, and it stays off a chain.
use Rattle.active_segs.proofs.Prelude.{ActiveSegs, AllByRecursion, Bool, Contains, Descends, Entry, HasItsSuperiors, HasNoInferior, IsActiveAt, IsDistinct, IsGrounded, IsLeastInferior, IsOffChain, IsSome, IsVictim, List, None, Option, Some, StandsFor, [], ap, arith, both_ways, cases_Bool, cases_lt, cases_order, cond, entry_at, eq-eqb, eqb, eqb-true, false, false≢true, find, find_passes, inl, inr, is_some, leaf_below, length, length-le_from_distinct_below, list_any, none-some, not, not-true, off_chain, or_cases, or_left, or_parts, or_right, places_from, range_with_len, refl, round_pool, same_Some, subst, suc, superior_at, sym, true, uid_at, uid_in, zero, ℕ, ◌++◌, ◌+◌, ◌-◌, ◌<◌, ◌∙◌, ◌∷◌, ◌≡◌, ◌≢◌, ◌≤◌}
use Rattle.active_segs.proofs.LeafLemmas.{one_step_more, stays_at_leaf, used_since_superior, used_within}

-- ---- the leaf

pub stays : (xs : List (Option Entry)) (place : ℕ) → HasNoInferior xs place → StandsFor xs place place
unfolding Descends
stays xs place none = (0, (none, refl))

pub goes_down : (xs : List (Option Entry)) (place q leaf : ℕ) → IsLeastInferior xs place q → StandsFor xs q leaf
    → StandsFor xs place leaf
unfolding Descends
goes_down xs place q leaf least (n, descends) = (suc n, (q, least, descends))

least_once : (xs : List (Option Entry)) (place q r : ℕ) → IsLeastInferior xs place q → IsLeastInferior xs place r → q
    ≡ r
least_once xs place q r a b =
    let same : a.uid ≡ b.uid = same_Some _ _ (sym a.is ∙ b.is) in
    elim (cases_order q r) [
      | inl same_place ↦ same_place
      | inr differ ↦ elim differ [
        | inl before ↦ absurd (b.least q before (a.inferior ∙ ap (λ (k : ℕ). Some k) same))
        | inr after ↦ absurd (a.least r after (b.inferior ∙ ap (λ (k : ℕ). Some k) (sym same)))
      ]
    ]

descends_once : (xs : List (Option Entry)) (n m place a b : ℕ) → Descends xs n place a → Descends xs m place b → a ≡ b
unfolding Descends
descends_once xs zero zero place a b d e = d.1 ∙ sym e.1
descends_once xs zero (suc m) place a b d (q, least, e) = absurd (d.0 q least.uid least.is least.inferior)
descends_once xs (suc n) zero place a b (q, least, d) e = absurd (e.0 q least.uid least.is least.inferior)
descends_once xs (suc n) (suc m) place a b (q, least, d) (r, least', e) =
    descends_once xs n m q a b d (rw (least_once xs place q r least least') e)

-- one victim alone
pub victim_once : {s : ActiveSegs} {pool : ℕ} {chain : List ℕ} {a b : ℕ} → IsVictim s pool chain a
    → IsVictim s pool chain b → a ≡ b
victim_once {s} {a} {b} v w =
    descends_once s.entries v.leaf.0 w.leaf.0 v.found a b v.leaf.1 (rw (same_Some _ _ (sym v.first ∙ w.first)) w.leaf.1)

leaf_has_none : (xs : List (Option Entry)) (n place leaf : ℕ) → Descends xs n place leaf → HasNoInferior xs leaf
unfolding Descends
leaf_has_none xs zero place leaf (none, is) = subst (HasNoInferior xs) (sym is) none
leaf_has_none xs (suc n) place leaf (q, least, d) = leaf_has_none xs n q leaf d

pub victim_is_leaf : (s : ActiveSegs) (pool : ℕ) (chain : List ℕ) (a : ℕ) → IsVictim s pool chain a
    → HasNoInferior s.entries a
victim_is_leaf s pool chain a v = leaf_has_none s.entries v.leaf.0 v.found a v.leaf.1

-- ---- off the chain

in_chain : (chain : List ℕ) (uid : ℕ) → list_any (λ u. eqb u uid) chain ≡ true → Contains chain uid
in_chain [] uid h = absurd (false≢true h)
in_chain (u ∷ chain) uid h = elim (or_cases (eqb u uid) (list_any (λ u. eqb u uid) chain) h) [
  | inl same ↦ (0, omega arith, eqb-true u uid same)
  | inr rest ↦ (let there : Contains chain uid = in_chain chain uid rest in
      (suc there.0, (let lt : there.0 < length chain = there.1 in omega arith), there.2))
]

chain_has : (chain : List ℕ) (uid : ℕ) → Contains chain uid → list_any (λ u. eqb u uid) chain ≡ true
chain_has [] uid (k, lt, e) = absurd (omega arith)
chain_has (u ∷ chain) uid (zero, lt, e) = or_left _ _ (eq-eqb u uid e)
chain_has (u ∷ chain) uid (suc k, lt, e) = or_right _ _ (chain_has chain uid (k, omega arith, e))

off_not_there : (chain : List ℕ) (o : Option Entry) (u : ℕ) → off_chain chain o ≡ true → uid_in o ≡ Some u
    → list_any (λ v. eqb v u) chain ≡ false
off_not_there chain None u off is = absurd (false≢true off)
off_not_there chain (Some e) u off is = rw (same_Some _ _ is) at (not-true _ off)

not_there_off : (chain : List ℕ) (o : Option Entry) (u : ℕ) → list_any (λ v. eqb v u) chain ≡ false → uid_in o ≡ Some u
    → off_chain chain o ≡ true
not_there_off chain None u absent is = absurd (none-some u is)
not_there_off chain (Some e) u absent is = ap not (rw (sym (same_Some _ _ is)) at absent)

pub off_is_used : (chain : List ℕ) (o : Option Entry) → off_chain chain o ≡ true → (u : ℕ) × (uid_in o ≡ Some u)
off_is_used chain None off = absurd (false≢true off)
off_is_used chain (Some e) off = (e.uid, refl)

off_within : (xs : List (Option Entry)) (chain : List ℕ) (place : ℕ) → IsOffChain xs chain place → place < length xs
off_within xs chain place off =
    let used = off_is_used chain (entry_at xs place) off in used_within xs place used.0 used.1

off_below : (xs : List (Option Entry)) (chain : List ℕ) (place q : ℕ) → HasItsSuperiors xs chain
    → IsOffChain xs chain place → IsLeastInferior xs place q → IsOffChain xs chain q
off_below xs chain place q closed off least =
    let used = used_since_superior (entry_at xs q) least.uid least.inferior in
    elim (cases_Bool (list_any (λ v. eqb v used.0) chain)) [
      | inl there ↦
          (let above = closed q used.0 least.uid used.1 (in_chain chain used.0 there) least.inferior in
          absurd (both_ways _ (off_not_there chain (entry_at xs place) least.uid off least.is)
          (chain_has chain least.uid above)))
      | inr absent ↦ not_there_off chain (entry_at xs q) used.0 absent used.1
    ]

off_leaf : (xs : List (Option Entry)) (chain : List ℕ) (n place leaf : ℕ) → HasItsSuperiors xs chain
    → IsOffChain xs chain place → Descends xs n place leaf → IsOffChain xs chain leaf
unfolding Descends
off_leaf xs chain zero place leaf closed off (none, is) = subst (IsOffChain xs chain) (sym is) off
off_leaf xs chain (suc n) place leaf closed off (q, least, d) =
    off_leaf xs chain n q leaf closed (off_below xs chain place q closed off least) d

-- ---- the first place off the chain

pub victim_off : {s : ActiveSegs} {pool : ℕ} {chain : List ℕ} {a : ℕ} → HasItsSuperiors s.entries chain
    → IsVictim s pool chain a → IsOffChain s.entries chain a
victim_off {s} {pool} {chain} {a} closed v = off_leaf s.entries chain v.leaf.0 v.found a closed
    (find_passes (λ place. off_chain chain (entry_at s.entries place)) (round_pool s pool) v.found v.first) v.leaf.1

pub victim_within : (s : ActiveSegs) (pool : ℕ) (chain : List ℕ) (a : ℕ) → HasItsSuperiors s.entries chain
    → IsVictim s pool chain a → a < length s.entries
victim_within s pool chain a closed v = off_within s.entries chain a (victim_off closed v)

pub places_more : (i to : ℕ) → i < to → places_from i to ≡ i ∷ places_from (i + 1) to
places_more i to lt = let n : to - i ≡ suc (to - (i + 1)) = omega arith in ap (range_with_len i) n

pub finds_later : (p : ℕ → Bool) (i to : ℕ) → i < to → p i ≡ false → find p (places_from (i + 1) to)
    ≡ find p (places_from i to)
finds_later p i to lt off = sym (ap (find p) (places_more i to lt)
    ∙ ap (λ (b : Bool). cond b (Some i) (find p (places_from (i + 1) to))) off)

pub find_first : (p : ℕ → Bool) (xs ys : List ℕ) (x : ℕ) → find p xs ≡ Some x → find p (xs ++ ys) ≡ Some x
find_first p [] ys x e = absurd (none-some x e)
find_first p (y ∷ xs) ys x e = at (find_first p xs ys x) (p y) refl e
  where
    at : (find p xs ≡ Some x → find p (xs ++ ys) ≡ Some x) → (b : Bool) → p y ≡ b → cond b (Some y) (find p xs) ≡ Some x
        → cond (p y) (Some y) (find p (xs ++ ys)) ≡ Some x
    at ih true is e' = rw is e'
    at ih false is e' = rw is (ih e')

pub find_second : (p : ℕ → Bool) (xs ys : List ℕ) → find p xs ≡ None → find p (xs ++ ys) ≡ find p ys
find_second p [] ys e = refl
find_second p (y ∷ xs) ys e = at (find_second p xs ys) (p y) refl e
  where
    at : (find p xs ≡ None → find p (xs ++ ys) ≡ find p ys) → (b : Bool) → p y ≡ b → cond b (Some y) (find p xs) ≡ None
        → cond (p y) (Some y) (find p (xs ++ ys)) ≡ find p ys
    at ih true is e' = absurd (none-some y (sym e'))
    at ih false is e' = rw is (ih e')

-- what a search of a range finds is in the range
pub found_within : (p : ℕ → Bool) (n a x : ℕ) → find p (range_with_len a n) ≡ Some x → (a ≤ x) × (x < a + n)
    × (p x ≡ true)
found_within p zero a x e = absurd (none-some x e)
found_within p (suc n) a x e = at (found_within p n (a + 1) x) (p a) refl e
  where
    at : (find p (range_with_len (a + 1) n) ≡ Some x → (a + 1 ≤ x) × (x < a + 1 + n) × (p x ≡ true)) → (b : Bool) → p a
        ≡ b → cond b (Some a) (find p (range_with_len (a + 1) n)) ≡ Some x → (a ≤ x) × (x < a + suc n) × (p x ≡ true)
    at ih true is e' = let same : a ≡ x = same_Some a x e' in (omega arith, omega arith, ap p (sym same) ∙ is)
    at ih false is e' =
        let h : (a + 1 ≤ x) × (x < a + 1 + n) × (p x ≡ true) = ih e' in
        (let l : a + 1 ≤ x = h.0 in omega arith, let u : x < a + 1 + n = h.1 in omega arith, h.2)

-- a place of the range that passes is found, or one before it
pub reaches : (p : ℕ → Bool) (n a x : ℕ) → a ≤ x → x < a + n → p x ≡ true → IsSome (find p (range_with_len a n))
reaches p zero a x le lt on = absurd (omega arith)
reaches p (suc n) a x le lt on = at (λ le' lt'. reaches p n (a + 1) x le' lt' on) (p a) refl
  where
    at : (a + 1 ≤ x → x < a + 1 + n → IsSome (find p (range_with_len (a + 1) n))) → (b : Bool) → p a ≡ b
        → is_some (cond (p a) (Some a) (find p (range_with_len (a + 1) n))) ≡ true
    at ih true is = ap (λ (b : Bool). is_some (cond b (Some a) (find p (range_with_len (a + 1) n)))) is
    at ih false is =
        let off : a ≢ x = λ same. both_ways _ is (ap p same ∙ on) in
        ap (λ (b : Bool). is_some (cond b (Some a) (find p (range_with_len (a + 1) n)))) is
        ∙ ih (omega arith) (omega arith)

-- ---- the way down ends

-- n steps down from a start, over as many places, each of a lower rank than the one that was come to
pub record IsOnTheWay (xs : List (Option Entry)) (start place steps : ℕ) : Type 0 where
  pub rank : ℕ → ℕ
  pub law : (p u s : ℕ) → uid_at xs p ≡ Some u → superior_at xs p ≡ Some s → rank s < rank u
  pub back : (leaf : ℕ) → StandsFor xs place leaf → StandsFor xs start leaf
  pub same : (more : ℕ) → leaf_below xs (more + steps) start ≡ leaf_below xs more place
  pub uid : ℕ
  pub is : uid_at xs place ≡ Some uid
  pub passed : List ℕ
  pub count : length passed ≡ steps
  pub distinct : IsDistinct eqb passed
  pub before : (q : ℕ) → list_any (eqb q) passed ≡ true → (u : ℕ) × (uid_at xs q ≡ Some u) × (rank u < rank uid)

none_distinct : IsDistinct eqb []
unfolding IsDistinct
none_distinct = tt

all_differ : (x : ℕ) (xs : List ℕ) → list_any (eqb x) xs ≡ false → AllByRecursion (λ y. eqb x y ≡ false) xs
all_differ x [] h = tt
all_differ x (y ∷ xs) h = let parts = or_parts _ _ h in (parts.0, all_differ x xs parts.1)

one_more_distinct : (x : ℕ) (xs : List ℕ) → list_any (eqb x) xs ≡ false → IsDistinct eqb xs → IsDistinct eqb (x ∷ xs)
unfolding IsDistinct
one_more_distinct x xs new distinct = (all_differ x xs new, distinct)

pub way_begins : (xs : List (Option Entry)) (start : ℕ) → IsGrounded xs → IsActiveAt xs start
    → IsOnTheWay xs start start 0
way_begins xs start grounded (u, is) = record {
  rank = grounded.0;
  law = grounded.1;
  back = λ leaf d. d;
  same = λ more. (let n : more + 0 ≡ more = omega arith in ap (λ (k : ℕ). leaf_below xs k start) n);
  uid = u;
  is = is;
  passed = [];
  count = refl;
  distinct = none_distinct;
  before = λ q h. absurd (false≢true h);
}

-- the place that was come to was not passed before
not_passed : {xs : List (Option Entry)} {start place steps : ℕ} (way : IsOnTheWay xs start place steps)
    → list_any (eqb place) way.passed ≡ false
not_passed {xs} {place} way = elim (cases_Bool (list_any (eqb place) way.passed)) [
  | inl there ↦
      (let was : (u : ℕ) × (uid_at xs place ≡ Some u) × (way.rank u < way.rank way.uid) = way.before place there in
      let same : was.0 ≡ way.uid = same_Some _ _ (sym was.1 ∙ way.is) in
      let less : way.rank way.uid < way.rank way.uid = rw same at was.2 in absurd (omega arith))
  | inr absent ↦ absent
]

pub way_goes_on : (xs : List (Option Entry)) (start place q steps : ℕ) → IsOnTheWay xs start place steps
    → IsLeastInferior xs place q → IsOnTheWay xs start q (steps + 1)
way_goes_on xs start place q steps way least =
    let used = used_since_superior (entry_at xs q) least.uid least.inferior in
    let same = same_Some _ _ (sym least.is ∙ way.is) in
    let higher : way.rank way.uid < way.rank used.0 = subst (λ (k : ℕ). way.rank k < way.rank used.0) same
    (way.law q used.0 least.uid used.1 least.inferior) in
    record {
      rank = way.rank;
      law = way.law;
      back = λ leaf d. way.back leaf (goes_down xs place q leaf least d);
      same = λ more. ap (λ (k : ℕ). leaf_below xs k start) (omega arith)
          ∙ way.same (suc more) ∙ one_step_more xs more place q least;
      uid = used.0;
      is = used.1;
      passed = place ∷ way.passed;
      count = omega (arith, way.count);
      distinct = one_more_distinct place way.passed (not_passed way) way.distinct;
      before = λ r h. elim (or_cases (eqb r place) (list_any (eqb r) way.passed) h) [
        | inl this ↦ (
          way.uid,
          subst (λ (k : ℕ). uid_at xs k ≡ Some way.uid) (sym (eqb-true r place this)) way.is,
          higher,
        )
        | inr earlier ↦ (let was = way.before r earlier in
            (was.0, was.1, (omega (arith, was.2))))
      ];
    }

-- there are not as many steps as places
pub way_ends : (xs : List (Option Entry)) (start place steps : ℕ) → IsOnTheWay xs start place steps → steps < length xs
way_ends xs start place steps way =
    let all = place ∷ way.passed in
    let below : (q : ℕ) → list_any (eqb q) all ≡ true → q < length xs =
    λ q h. elim (or_cases (eqb q place) (list_any (eqb q) way.passed) h) [
      | inl this ↦ used_within xs q way.uid (rw (eqb-true q place this) way.is)
      | inr earlier ↦ (let was = way.before q earlier in used_within xs q was.0 was.1)
    ] in
    let most = length-le_from_distinct_below all
    (length xs) (one_more_distinct place way.passed (not_passed way) way.distinct) below in
    omega (arith, way.count)

-- as many steps down as there are places come to the leaf
pub way_comes_to : (xs : List (Option Entry)) (start leaf steps : ℕ) → IsOnTheWay xs start leaf steps
    → HasNoInferior xs leaf → leaf ≡ leaf_below xs (length xs) start
way_comes_to xs start leaf steps way none =
    sym (stays_at_leaf xs (length xs - steps) leaf none) ∙ sym (way.same (length xs - steps))
    ∙ ap (λ (k : ℕ). leaf_below xs k start) (omega (arith, way_ends xs start leaf steps way))

-- ---- once round a pool

-- a place of the pool that passes is found, or one before it
pub round_reaches : (p : ℕ → Bool) (first hand end x : ℕ) → first ≤ hand → hand ≤ end → first ≤ x → x < end → p x ≡ true
    → IsSome (find p (places_from hand end ++ places_from first hand))
round_reaches p first hand end x low high from to on = go (find p (places_from hand end)) refl
  where
    go : (o : Option ℕ) → find p (places_from hand end) ≡ o
        → IsSome (find p (places_from hand end ++ places_from first hand))
    go (Some y) is = ap is_some (find_first p (places_from hand end) (places_from first hand) y is)
    go None is =
        let before : x < hand =
        elim (cases_lt x hand) [
          | inl lt ↦ lt
          | inr le ↦ absurd (both_ways _ (ap is_some is) (reaches p (end - hand) hand x le (omega arith) on))
        ] in
        ap is_some (find_second p (places_from hand end) (places_from first hand) is)
        ∙ reaches p (hand - first) first x from (omega arith) on

-- what is found is a place of the pool
pub round_found : (p : ℕ → Bool) (first hand end x : ℕ) → first ≤ hand → hand ≤ end
    → find p (places_from hand end ++ places_from first hand) ≡ Some x → (first ≤ x) × (x < end) × (p x ≡ true)
round_found p first hand end x low high found = go (find p (places_from hand end)) refl
  where
    go : (o : Option ℕ) → find p (places_from hand end) ≡ o → (first ≤ x) × (x < end) × (p x ≡ true)
    go (Some y) is =
        let same = same_Some y x (sym (find_first p (places_from hand end) (places_from first hand) y is) ∙ found) in
        let h = found_within p (end - hand) hand y is in (omega (arith, h.0), omega (arith, h.1), ap p (sym same) ∙ h.2)
    go None is =
        let e : find p (places_from first hand) ≡ Some x =
        sym (find_second p (places_from hand end) (places_from first hand) is) ∙ found in
        let h : (first ≤ x) × (x < first + (hand - first)) × (p x ≡ true) = found_within p (hand - first) first x e in
        (h.0, let b : x < first + (hand - first) = h.1 in omega arith, h.2)
