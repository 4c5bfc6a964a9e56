-- The records that file maps name: those that are taken, and those that are given back.
pub use Rattle.seg_mover.proofs.Prelude.{AddsRecords, All, All-head, All-tail, AreKept, Bool, IsLeastFree, List, None, Option, Some, [], ap, arith, below_or_past, by_not, cases_eq, cond, count_by, count_with, count_without, fails_before_first, false, flags_given, flags_taken, get_or, get_or-set_other, get_or-set_same, get_or_past, given_twice, in_use, inl, inr, is_some, least_free, length, length-set, lt-ltb, map_taken, none_put, not, not_none, not_true, off_and_on, position-Some, position_or_len, records_at, refl, rules, set, set-get_or, set-set, set_past, some_same, suc, sum_by-cons, sym, true, vtoc_at, with_taken, zero, ℕ, ◌+◌, ◌<◌, ◌∙◌, ◌∷◌, ◌≡◌, ◌≢◌, ◌≤◌, ◌⊎◌}

-- each passes the test that is counted
pub all_counted : {X : Type 0} (p : X → Bool) (xs : List X) → All (λ x. p x ≡ true) xs → count_by p xs ≡ length xs
all_counted p [] all = refl
all_counted p (x ∷ xs) all =
    let passes = All-head (λ y. p y ≡ true) x xs all in
    let one : cond {A = ℕ} (p x) 1 0 ≡ 1 = rw passes refl in
    omega (arith, all_counted p xs (All-tail (λ y. p y ≡ true) x xs all), sum_by-cons (λ y. cond (p y) 1 0) x xs)

pub not_full : {X : Type 0} (those xs : List (Option X)) → those ≡ xs → count_by is_some xs < length xs
    → All (λ x. is_some x ≡ true) those → ⊥
not_full those
    xs same few all = omega (arith, sym (ap (count_by is_some) same) ∙ all_counted is_some those all ∙ ap length same)

pub not_all : (flags : List Bool) → count_by (λ flag. flag) flags < length flags → All (λ flag. flag ≡ true) flags → ⊥
not_all flags few all = omega (arith, all_counted (λ flag. flag) flags all)

-- ---- the least free record

pub least_there : (flags : List Bool) → count_by (λ flag. flag) flags < length flags
    → (r : ℕ) × (least_free flags ≡ Some r)
least_there flags few = elim (below_or_past (position_or_len not flags) (length flags)) [
  | inl lt ↦ (position_or_len not flags, rw (lt-ltb (position_or_len not flags) (length flags) lt) refl)
  | inr past ↦ absurd (let full = all_counted (λ flag. flag)
      flags (λ k d lt. by_not (get_or flags k d) (fails_before_first not flags k d (omega arith))) in
      omega arith)
]

pub least_is : (flags : List Bool) (r : ℕ) → least_free flags ≡ Some r → IsLeastFree flags r
least_is flags r is =
    let at = position-Some not flags r false is in
    record {
      within = at.0;
      free = not_true (in_use flags r) at.1;
      before = λ k lt. by_not (in_use flags k) (at.2 k lt);
    }

-- ---- one record

-- a record after one was taken, or given back
pub taken_same : (flags : List Bool) (r : ℕ) → r < length flags → in_use (set flags r true) r ≡ true
taken_same flags r lt = get_or-set_same flags r true false lt

pub given_same : (flags : List Bool) (r : ℕ) → in_use (set flags r false) r ≡ false
given_same flags r = elim (below_or_past r (length flags)) [
  | inl lt ↦ get_or-set_same flags r false false lt
  | inr past ↦ rw (set_past flags r false past) (get_or_past flags r false past)
]

pub other_same : (flags : List Bool) (r s : ℕ) (flag : Bool) → s ≢ r → in_use (set flags r flag) s ≡ in_use flags s
other_same flags r s flag n = get_or-set_other flags r s flag false n

still_taken : (flags : List Bool) (r s : ℕ) → r < length flags → in_use flags s ≡ true
    → in_use (set flags r true) s ≡ true
still_taken flags r s lt on = elim (cases_eq s r) [
  | inl same ↦ ap (in_use (set flags r true)) same ∙ taken_same flags r lt
  | inr n ↦ other_same flags r s true n ∙ on
]

-- what is taken and given back is as it was
pub off_again : (flags : List Bool) (r : ℕ) → in_use flags r ≡ false → set (set flags r true) r false ≡ flags
off_again flags r off = cc (set-set flags r true false, set-get_or flags r false)

-- ---- the records that are taken

adds_none : {less more : List Bool} {places : List (Option ℕ)} → AddsRecords less more places
    → AddsRecords less more (None ∷ places)
adds_none {less} {more} {places} adds = record {
  size = adds.size;
  fresh = fresh;
  kept = record { used = used; once = once };
  still = adds.still;
  others = λ r on. elim (adds.others r on) [ inl h ↦ inl h | inr named ↦ inr (suc named.0, named.1) ];
}
  where
    fresh : (p r : ℕ) → get_or (None ∷ places) p None ≡ Some r → in_use less r ≡ false
    fresh zero r is = cc
    fresh (suc p) r is = adds.fresh p r is

    used : (p r : ℕ) → get_or (None ∷ places) p None ≡ Some r → in_use more r ≡ true
    used zero r is = cc
    used (suc p) r is = adds.kept.used p r is

    once : (p q r : ℕ) → get_or (None ∷ places) p None ≡ Some r → get_or (None ∷ places) q None ≡ Some r → p ≡ q
    once zero q r is it = cc
    once (suc p) zero r is it = cc
    once (suc p) (suc q) r is it = ap suc (adds.kept.once p q r is it)

adds_some : (less : List Bool) {more : List Bool} {places : List (Option ℕ)} (r : ℕ) → r < length less
    → in_use less r ≡ false → AddsRecords (set less r true) more places → AddsRecords less more (Some r ∷ places)
adds_some less {more} {places} r lt off adds = record {
  size = adds.size ∙ length-set less r true;
  fresh = fresh;
  kept = record { used = used; once = once };
  still = λ s on. adds.still s (still_taken less r s lt on);
  others = λ s on. elim (adds.others s on) [
    | inl h ↦ elim (cases_eq s r) [
      | inl same ↦ inr (0, ap Some (sym same))
      | inr n ↦ inl (sym (other_same less r s true n) ∙ h)
    ]
    | inr named ↦ inr (suc named.0, named.1)
  ];
}
  where
    here : in_use more r ≡ true
    here = adds.still r (taken_same less r lt)

    apart : (p : ℕ) → get_or places p None ≡ Some r → ⊥
    apart p is = off_and_on (in_use (set less r true) r) (adds.fresh p r is) (taken_same less r lt)

    fresh : (p s : ℕ) → get_or (Some r ∷ places) p None ≡ Some s → in_use less s ≡ false
    fresh zero s is = cc (some_same r s is)
    fresh (suc p) s is = elim (cases_eq s r) [
      | inl same ↦ absurd (apart p (is ∙ ap Some same))
      | inr n ↦ sym (other_same less r s true n) ∙ adds.fresh p s is
    ]

    used : (p s : ℕ) → get_or (Some r ∷ places) p None ≡ Some s → in_use more s ≡ true
    used zero s is = cc (some_same r s is, here)
    used (suc p) s is = adds.kept.used p s is

    once : (p q s : ℕ) → get_or (Some r ∷ places) p None ≡ Some s → get_or (Some r ∷ places) q None ≡ Some s → p ≡ q
    once zero zero s is it = refl
    once zero (suc q) s is it = absurd (apart q (it ∙ sym is))
    once (suc p) zero s is it = absurd (apart p (is ∙ sym it))
    once (suc p) (suc q) s is it = ap suc (adds.kept.once p q s is it)

-- ---- the records that are given back

-- what was free already is given back in any order
given_set : (flags : List Bool) (places : List (Option ℕ)) (r : ℕ) → flags_given (set flags r false) places
    ≡ set (flags_given flags places) r false
given_set flags [] r = refl
given_set flags (None ∷ places) r = given_set flags places r
given_set flags (Some s ∷ places) r = rw (given_twice flags r s) (given_set (set flags s false) places r)

given_some : (flags : List Bool) (places : List (Option ℕ)) (place : Option ℕ) (r : ℕ) → place ≡ Some r
    → flags_given flags (place ∷ places) ≡ flags_given (set flags r false) places
given_some flags places place r is = rw is refl

pub given_less : (flags : List Bool) (places : List (Option ℕ)) (n r : ℕ) → get_or places n None ≡ Some r
    → flags_given (set flags r false) (set places n None) ≡ flags_given flags places
given_less flags [] n r is = cc
given_less flags (place ∷ places) zero r is = sym (given_some flags places place r is)
given_less flags (None ∷ places) (suc n) r is = given_less flags places n r is
given_less flags (Some s ∷ places) (suc n) r is =
    cc (given_twice flags r s, given_less (set flags s false) places n r is)

pub given_none : (flags : List Bool) (places : List (Option ℕ)) → ((p : ℕ) → get_or places p None ≡ None)
    → flags_given flags places ≡ flags
given_none flags [] none = refl
given_none flags (None ∷ places) none = given_none flags places (λ p. none (suc p))
given_none flags (Some r ∷ places) none = absurd (not_none (Some r) r (none 0) refl)

-- a place that still names a record is another
put_names : (places : List (Option ℕ)) (n p r : ℕ) → get_or (set places n None) p None ≡ Some r
    → (p ≢ n) × (get_or places p None ≡ Some r)
put_names places n p r is = elim (cases_eq p n) [
  | inl same ↦ absurd (not_none (get_or (set places n None) p None) r (cc (none_put places n)) is)
  | inr other ↦ (other, sym (get_or-set_other places n p None None other) ∙ is)
]

pub kept_less : {flags : List Bool} {places : List (Option ℕ)} (n r : ℕ) → get_or places n None ≡ Some r
    → AreKept flags places → AreKept (set flags r false) (set places n None)
kept_less {flags} {places} n r there kept = record {
  used = λ p s is. (let named = put_names places n p s is in
      other_same flags r s false (λ same. named.0 (kept.once p n r (cc) there)) ∙ kept.used p s named.1);
  once = λ p q s is it. kept.once p q s (put_names places n p s is).1 (put_names places n q s it).1;
}

-- a record is named by the file map and free now, or isn't named and as before
IsGiven : List Bool → List Bool → List (Option ℕ) → ℕ → Type 0
IsGiven flags now places r = ((p : ℕ) × (get_or places p None ≡ Some r) × (in_use now r ≡ false))
    ⊎ (((p : ℕ) → get_or places p None ≢ Some r) × (in_use now r ≡ in_use flags r))

given_at : (flags : List Bool) (places : List (Option ℕ)) (r : ℕ) → IsGiven flags (flags_given flags places) places r
unfolding IsGiven
given_at flags [] r = inr (λ p is. not_none None r refl is, refl)
given_at flags (None ∷ places) r = elim (given_at flags places r) [
  | inl named ↦ inl (suc named.0, named.1, named.2)
  | inr other ↦ inr (none other.0, other.1)
]
  where
    none : ((p : ℕ) → get_or places p None ≢ Some r) → (p : ℕ) → get_or (None ∷ places) p None ≢ Some r
    none other zero is = cc
    none other (suc p) is = other p is
given_at flags (Some s ∷ places) r = elim (given_at (set flags s false) places r) [
  | inl named ↦ inl (suc named.0, named.1, named.2)
  | inr other ↦ elim (cases_eq r s) [
    | inl same ↦ inl (0, ap Some (sym same), cc (given_same flags s))
    | inr n ↦ inr (none other.0 n, other.1 ∙ other_same flags s r false n)
  ]
]
  where
    none : ((p : ℕ) → get_or places p None ≢ Some r) → r ≢ s → (p : ℕ) → get_or (Some s ∷ places) p None ≢ Some r
    none other n zero is = n (sym (some_same s r is))
    none other n (suc p) is = other p is

pub length_given : (flags : List Bool) (places : List (Option ℕ)) → length (flags_given flags places) ≡ length flags
length_given flags [] = refl
length_given flags (None ∷ places) = length_given flags places
length_given flags (Some r ∷ places) = length_given (set flags r false) places ∙ length-set flags r false

pub gives : (flags : List Bool) (places : List (Option ℕ)) → AreKept flags places
    → AddsRecords (flags_given flags places) flags places
unfolding IsGiven
gives flags places kept = record {
  size = sym (length_given flags places);
  fresh = λ p r is. elim (given_at flags places r) [
    | inl named ↦ named.2
    | inr other ↦ absurd (other.0 p is)
  ];
  kept = kept;
  still = λ r on. elim (given_at flags places r) [
    | inl named ↦ absurd (off_and_on (in_use (flags_given flags places) r) named.2 on)
    | inr other ↦ sym other.1 ∙ on
  ];
  others = λ r on. elim (given_at flags places r) [
    | inl named ↦ inr (named.0, named.1)
    | inr other ↦ inl (cc)
  ];
}

-- ---- what is taken, and given back again

pub record HasTaken (flags : List Bool) (places : List (Option ℕ)) : Type 0 where
  pub adds : AddsRecords flags (flags_taken flags places) (map_taken flags places)
  pub same : (p : ℕ) → is_some (get_or (map_taken flags places) p None) ≡ is_some (get_or places p None)
  pub long : length (map_taken flags places) ≡ length places
  pub count : count_by (λ flag. flag) (flags_taken flags places)
      ≡ count_by (λ flag. flag) flags + count_by is_some places
  pub back : flags_given (flags_taken flags places) (map_taken flags places) ≡ flags

taken_none : (flags : List Bool) → HasTaken flags []
taken_none flags = record {
  adds = record {
    size = refl;
    fresh = λ p r is. absurd (not_none None r refl is);
    kept = record {
      used = λ p r is. absurd (not_none None r refl is);
      once = λ p q r is it. absurd (not_none None r refl is);
    };
    still = λ r on. on;
    others = λ r on. inl on;
  };
  same = λ p. refl;
  long = refl;
  count = omega arith;
  back = refl;
}

taken_more_none : (flags : List Bool) (places : List (Option ℕ)) → HasTaken flags places
    → HasTaken flags (None ∷ places)
taken_more_none flags places h = record {
  adds = adds_none h.adds;
  same = same;
  long = ap suc h.long;
  count = omega (arith, sum_by-cons (λ (place : Option ℕ). cond {A = ℕ} (is_some place) 1 0) None places);
  back = h.back;
}
  where
    same : (p : ℕ) → is_some (get_or (map_taken flags (None ∷ places)) p None) ≡ is_some (get_or (None ∷ places) p None)
    same zero = refl
    same (suc p) = h.same p

-- the same where the next record is known
with_some : (flags : List Bool) (places : List (Option ℕ)) (q : ℕ) (r : ℕ) → least_free flags ≡ Some r
    → HasTaken (set flags r true) places → HasTaken flags (Some q ∷ places)
with_some flags places q r is h =
    let least : IsLeastFree flags r = least_is flags r is in
    let now : List Bool = set flags r true in
    let flags_is : flags_taken flags (Some q ∷ places) ≡ flags_taken now places =
    ap (λ (place : Option ℕ). flags_taken (with_taken flags place) places) is in
    let map_is : map_taken flags (Some q ∷ places) ≡ Some r ∷ map_taken now places =
    ap (λ (place : Option ℕ). place ∷ map_taken (with_taken flags place) places) is in
    record {
      adds = rw (flags_is, map_is) (adds_some flags r least.within least.free h.adds);
      same = λ p. cc (same p);
      long = cc;
      count = ap (count_by (λ (flag : Bool). flag)) flags_is ∙ omega (
        arith,
        count_with flags r least.within least.free,
        sum_by-cons (λ (place : Option ℕ). cond {A = ℕ} (is_some place) 1 0) (Some q) places,
      );
      back = rw (flags_is, map_is)
          (cc (given_set (flags_taken now places) (map_taken now places) r, off_again flags r least.free));
    }
  where
    same : (p : ℕ) → is_some (get_or (Some r ∷ map_taken (set flags r true) places) p None)
        ≡ is_some (get_or (Some q ∷ places) p None)
    same zero = refl
    same (suc p) = h.same p

pub has_taken : (flags : List Bool) (places : List (Option ℕ))
    → count_by (λ flag. flag) flags + count_by is_some places ≤ length flags → HasTaken flags places
has_taken flags [] room = taken_none flags
has_taken flags (None ∷ places) room =
    let step = sum_by-cons (λ (place : Option ℕ). cond {A = ℕ} (is_some place) 1 0) None places in
    taken_more_none flags places (has_taken flags places (omega arith))
has_taken flags (Some q ∷ places) room =
    let step = sum_by-cons (λ (place : Option ℕ). cond {A = ℕ} (is_some place) 1 0) (Some q) places in
    let found = least_there flags (omega arith) in
    let least = least_is flags found.0 found.1 in
    with_some flags places q found.0 found.1 (has_taken (set flags found.0 true)
    places (omega (arith, length-set flags found.0 true, count_with flags found.0 least.within least.free)))

-- ---- how many are given back

kept_tail : {flags : List Bool} (place : Option ℕ) (places : List (Option ℕ)) → AreKept flags (place ∷ places)
    → AreKept flags places
kept_tail place places kept = record {
  used = λ p r is. kept.used (suc p) r is;
  once = λ p q r is it. suc_same p q (kept.once (suc p) (suc q) r is it);
}
  where
    suc_same : (p q : ℕ) → suc p ≡ suc q → p ≡ q
    suc_same p q same = omega arith

pub count_given : (flags : List Bool) (places : List (Option ℕ)) → AreKept flags places
    → count_by (λ flag. flag) (flags_given flags places) + count_by is_some places ≡ count_by (λ flag. flag) flags
count_given flags [] kept = omega arith
count_given flags (None ∷ places) kept =
    let step = sum_by-cons (λ (place : Option ℕ). cond {A = ℕ} (is_some place) 1 0) None places in
    omega (arith, count_given flags places (kept_tail None places kept))
count_given flags (Some r ∷ places) kept =
    omega (
      arith,
      count_without flags r (kept.used 0 r refl),
      count_given (set flags r false) places (kept_tail None places (kept_less 0 r refl kept)),
      sum_by-cons (λ (place : Option ℕ). cond {A = ℕ} (is_some place) 1 0) (Some r) places,
    )
