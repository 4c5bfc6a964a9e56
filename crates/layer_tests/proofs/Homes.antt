-- A record that the tests of moves take at a home.
pub use Rattle.layer_tests.proofs.Prelude.{AreKept, Bool, Entry, IsHome, IsLeastFree, IsSome, List, None, Option, Some, Vols, [], ap, arith, below_or_past, cases_eq, entry_of, false, get_or, get_or-set_other, get_or-set_same, get_or_past, in_use, inl, inr, length, length-set, list_within, map_at, not_none, off_and_on, put_here, records_at, records_in, refl, rules, set, some_same, some_within, sym, true, vtoc_at, with_record, with_record_used, with_vtoc, within_from, ℕ, ◌<◌, ◌∙◌, ◌≡◌, ◌≤◌, ◌⊎◌}

-- ---- a record that is filed

-- the place of another page, or the record that was put
put_names : (places : List (Option ℕ)) (n p r s : ℕ) → get_or (set places n (Some r)) p None ≡ Some s
    → ((p ≡ n) × (s ≡ r)) ⊎ (get_or places p None ≡ Some s)
put_names places n p r s is = elim (cases_eq p n) [
  | inl same ↦ elim (below_or_past n (length places)) [
    | inl lt ↦ inl (
      same,
      some_same s r (sym is ∙ ap (λ (q : ℕ). get_or (set places n (Some r)) q None) same
          ∙ get_or-set_same places n (Some r) None lt),
    )
    | inr past ↦ absurd (not_none (get_or (set places n (Some r)) p None) s (none_past same past) is)
  ]
  | inr other ↦ inr (sym (get_or-set_other places n p (Some r) None other) ∙ is)
]
  where
    none_past : p ≡ n → length places ≤ n → get_or (set places n (Some r)) p None ≡ None
    none_past same past = get_or_past (set places n (Some r)) p None
        (let long = length-set places n (Some r) in omega (arith, long, same, past))

kept_more : (flags : List Bool) (places : List (Option ℕ)) (n r : ℕ) → IsLeastFree flags r → AreKept flags places
    → AreKept (set flags r true) (set places n (Some r))
kept_more flags places n r least kept = record { used = used; once = once }
  where
    apart : (p : ℕ) → get_or places p None ≡ Some r → ⊥
    apart p at = off_and_on (in_use flags r) least.free (kept.used p r at)

    here : in_use (set flags r true) r ≡ true
    here = get_or-set_same flags r true false least.within

    used : (p s : ℕ) → get_or (set places n (Some r)) p None ≡ Some s → in_use (set flags r true) s ≡ true
    used p s is = elim (put_names places n p r s is) [
      | inl put ↦ ap (in_use (set flags r true)) put.1 ∙ here
      | inr at ↦ elim (cases_eq s r) [
        | inl same ↦ ap (in_use (set flags r true)) same ∙ here
        | inr other ↦ get_or-set_other flags r s true false other ∙ kept.used p s at
      ]
    ]

    once : (p q s : ℕ) → get_or (set places n (Some r)) p None ≡ Some s → get_or (set places n (Some r)) q None ≡ Some s
        → p ≡ q
    once p q s is it = elim (put_names places n p r s is) [
      | inl put ↦ elim (put_names places n q r s it) [
        | inl too ↦ put.0 ∙ sym too.0
        | inr at ↦ absurd (apart q (at ∙ ap Some put.1))
      ]
      | inr at ↦ elim (put_names places n q r s it) [
        | inl too ↦ absurd (apart p (at ∙ ap Some too.1))
        | inr then ↦ kept.once p q s at then
      ]
    ]

map_with : (entry : Option Entry) (p : ℕ) (place : Option ℕ) → IsSome entry
    → IsSome (with_record entry p place) × (records_in (with_record entry p place) ≡ set (records_in entry) p place)
map_with None p place used = cc
map_with (Some entry) p place used = (refl, refl)

pub filed_home : {D : Type 0} (old now : Vols D) (home : ℕ × ℕ) (n r : ℕ) → IsHome old home
    → IsLeastFree (records_at old home.0) r → now ≡ with_vtoc (with_record_used old home.0 r true) home.0
    (set (vtoc_at old home.0) home.1 (with_record (entry_of old home) n (Some r))) → IsHome now home
filed_home old now home n r h least is =
    let new : Vols _ = with_vtoc (with_record_used old home.0 r true) home.0
    (set (vtoc_at old home.0) home.1 (with_record (entry_of old home) n (Some r))) in
    let entry : entry_of new home ≡ with_record (entry_of old home) n (Some r) =
    (let within = some_within (vtoc_at old home.0) home.1 h.used in
    put_here old.vtocs home.0 home.1 (with_record (entry_of old home) n (Some r)) None
    (list_within old.vtocs home.0 home.1 within) within) in
    let with = map_with (entry_of old home) n (Some r) h.used in
    let flags : records_at new home.0 ≡ set (records_at old home.0) r true =
    get_or-set_same old.records home.0 (set (records_at old home.0) r true) []
    (list_within old.records home.0 r least.within) in
    let map_is : map_at new home ≡ set (map_at old home) n (Some r) = ap records_in entry ∙ with.1 in
    rw is (record {
      volume = h.volume;
      used = rw entry with.0;
      kept = rw (flags, map_is) (kept_more (records_at old home.0) (map_at old home) n r least h.kept);
    })
