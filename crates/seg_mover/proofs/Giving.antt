-- A home that is given up, page by page.
pub use Rattle.seg_mover.proofs.Places.{Bool, Entry, HasFullMaps, IsPartGiven, IsSome, List, NamesNoRecord, None, Option, Some, Vols, [], ap, arith, below_or_past, cases_eq, entry_of, entry_placed, false, flag_within, flags_given, flags_used, get_or, get_or-set_other, get_or_past, given_back, inl, inr, length, map_at, map_placed, none_put, page_given, place_at, put_put, records_at, records_within, refl, rules, set, set-get_or, set-set, still_used, subst, sym, vols_same, vtoc_at, vtoc_within, with_place, with_record, with_record_used, with_vtoc, ℕ, ◌+◌, ◌<◌, ◌∙◌, ◌≡◌, ◌≢◌}
use Rattle.seg_mover.proofs.Records.{given_less, given_none, kept_less}

-- one page more
given_one : {D : Type 0} (now : Vols D) (home : ℕ × ℕ) (n r : ℕ) → place_at now home n ≡ Some r
    → IsSome (entry_of now home) → home.0 < length now.records
    → given_back (with_place (with_record_used now home.0 r false) home n None) home ≡ given_back now home
given_one now home n r is used rl =
    let mid : Vols _ = with_record_used now home.0 r false in
    let new : Vols _ = with_place mid home n None in
    let flags : List Bool = records_at now home.0 in
    let places : List (Option ℕ) = map_at now home in
    let given : flags_given (records_at new home.0) (map_at new home) ≡ flags_given flags places =
    rw (flags_used now home.0 r false rl) (cc (map_placed mid home n None used, given_less flags places n r is)) in
    vols_same (given_back new home) (given_back now home) refl
    (cc (set-set now.records home.0 (set flags r false) (flags_given flags places)))
    (put_put now.vtocs home.0 home.1 (with_record (entry_of now home) n None) None (vtoc_within now home used))

more_gone : (old new : List (Option ℕ)) (n : ℕ) → ((p : ℕ) → p < n → get_or old p None ≡ None) → ((p : ℕ) → p ≢ n
    → get_or new p None ≡ get_or old p None) → get_or new n None ≡ None → (p : ℕ) → p < n + 1 → get_or new p None ≡ None
more_gone old new n gone same here p lt = elim (cases_eq p n) [
  | inl at ↦ ap (λ (q : ℕ). get_or new q None) at ∙ here
  | inr other ↦ same p other ∙ gone p (omega arith)
]

given_some_more : {D : Type 0} (old now new : Vols D) (home : ℕ × ℕ) (n r : ℕ) → IsPartGiven old now home n
    → place_at now home n ≡ Some r → new ≡ with_place (with_record_used now home.0 r false) home n None
    → IsPartGiven old new home (n + 1)
given_some_more old now new home n r part is now_is =
    let mid : Vols _ = with_record_used now home.0 r false in
    let flags : List Bool = records_at now home.0 in
    let places : List (Option ℕ) = map_at now home in
    let rl : home.0 < length now.records = records_within now home.0 r (flag_within flags r (part.kept.used n r is)) in
    let map_is : map_at (with_place mid home n None) home ≡ set places n None = map_placed mid home n None part.used in
    rw now_is (record {
      used = rw (entry_placed mid home n None part.used) (still_used (entry_of now home) n None part.used);
      kept = rw (flags_used now home.0 r false rl, map_is) (kept_less n r is part.kept);
      rest = given_one now home n r is part.used rl ∙ part.rest;
      gone = more_gone places (map_at (with_place mid home n None) home) n part.gone
          (λ p other. cc (get_or-set_other places n p None None other)) (cc (none_put places n));
    })

by_place : {D : Type 0} (old now new : Vols D) (home : ℕ × ℕ) (n : ℕ) (place : Option ℕ) → IsPartGiven old now home n
    → place_at now home n ≡ place → new ≡ page_given now home n place → IsPartGiven old new home (n + 1)
by_place old now new home n None part is now_is = rw now_is (assumption (more_gone (map_at now home) (map_at now home) n
    part.gone (λ p other. refl) is))
by_place old now new home n (Some r) part is now_is = given_some_more old now new home n r part is now_is

pub given_more : {D : Type 0} {old now : Vols D} {home : ℕ × ℕ} {n : ℕ} (new : Vols D) → IsPartGiven old now home n
    → new ≡ page_given now home n (place_at now home n) → IsPartGiven old new home (n + 1)
given_more {old = old} {now = now} {home = home} {n = n} new part is =
    by_place old now new home n (place_at now home n) part refl is

-- all pages
pub names_none : {D : Type 0} {old now : Vols D} {home : ℕ × ℕ} → IsPartGiven old now home 256
    → HasFullMaps (vtoc_at now home.0) → NamesNoRecord (vtoc_at now home.0) home.1
names_none {now = now} {home = home} part full = record {
  none = λ p. elim (below_or_past p 256) [
    | inl lt ↦ part.gone p lt
    | inr past ↦ get_or_past (map_at now home) p None (omega (arith, full.places home.1))
  ];
}

pub given_end : {D : Type 0} {old now : Vols D} {home : ℕ × ℕ} (new : Vols D) → IsPartGiven old now home 256
    → HasFullMaps (vtoc_at now home.0)
    → new ≡ with_vtoc now home.0 (set (vtoc_at now home.0) home.1 None) → new ≡ given_back old home
given_end {old = old} {now = now} {home = home} new part full is =
    cc (vols_same (with_vtoc now home.0 (set (vtoc_at now home.0) home.1 None)) (given_back now home) refl
    (sym (ap (set now.records home.0) (given_none (records_at now home.0) (map_at now home) (names_none part full).none)
    ∙ set-get_or now.records home.0 [])) refl)

pub all_given : {D : Type 0} {old now : Vols D} {home : ℕ × ℕ} {n : ℕ} → IsPartGiven old now home n → n ≡ 256
    → IsPartGiven old now home 256
all_given {old = old} {now = now} {home = home} part last = rw (← last) part

pub full_same : {table those : List (Option Entry)} → HasFullMaps table → table ≡ those → HasFullMaps those
full_same full same = subst HasFullMaps same full
