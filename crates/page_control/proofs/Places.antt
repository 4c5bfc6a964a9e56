-- A change of one place of a list of lists, and of one entry of the VTOCs.
pub use Rattle.page_control.proofs.Ties.{Entry, Home, List, None, Option, Some, [], ap, binding_is, bindings_lost, bindings_with, bound_from_page, bound_idle, bound_to, cases_eq, entry_at, filed_in_use, frame_same, get_or, get_or-set_other, get_or-set_same, get_or_past, inl, inr, leaving_within, leb_tells, length, map_at, map_place, map_read, map_word, not_none, number_of, page_dropped, plain_volume, put, put_here, put_other, record_is, records_in, refl, seen_same, set, set_past, starts_with, table_created, table_left, table_lost, table_read, table_word, stored_away, tied_filed, tied_volume, uid_at, uid_of, vtoc_in, with_record, within_from, ℕ, ◌<◌, ◌∙◌, ◌≡◌, ◌≢◌, ◌⊎◌}

pub some_put : (xs : List (Option ℕ)) (p r s : ℕ) → get_or (set xs p (Some r)) p None ≡ Some s → s ≡ r
some_put xs p r s is = elim (leb_tells (length xs) p) [
  | inl past ↦ absurd (not_none (get_or (set xs p (Some r)) p None) s
      (rw (set_past xs p (Some r) past.1) (get_or_past xs p None past.1)) is)
  | inr lt ↦ frame_same (get_or (set xs p (Some r)) p None) s r is (get_or-set_same xs p (Some r) None lt.1)
]

-- each home is that of entry e, or another
pub at_or_other : (v e : ℕ) (other : Home) → ((other.volume ≡ v) × (other.entry ≡ e))
    ⊎ (other.volume ≡ v → other.entry ≡ e → ⊥)
at_or_other v e other = elim (cases_eq other.volume v) [
  | inl i ↦ elim (cases_eq other.entry e) [ inl j ↦ inl (i, j) | inr n ↦ inr (λ _ k. n k) ]
  | inr n ↦ inr (λ k _. n k)
]

pub one_home : {home other : Home} → (other.volume ≡ home.volume) × (other.entry ≡ home.entry) → other ≡ home
one_home (v, e) = λ i. record { volume = v i; entry = e i }

pub same_or_other : (home other : Home) → (other ≡ home) ⊎ (other ≢ home)
same_or_other home other = elim (at_or_other home.volume home.entry other) [
  | inl at ↦ inl (one_home at)
  | inr n ↦ inr (λ same. n (cc) (cc))
]

pub other_home : {home other : Home} → other ≢ home → other.volume ≡ home.volume → other.entry ≡ home.entry → ⊥
other_home {home = home} {other = other} n v e = n (one_home (v, e))

-- a home that is used is there
pub home_within : (vtocs : List (List (Option Entry))) (uid : ℕ) (home : Home) → uid_at vtocs home ≡ Some uid
    → home.entry < length (vtoc_in vtocs home.volume)
home_within vtocs uid home used = within_from (vtoc_in vtocs home.volume) home.entry None
    (λ none. not_none (uid_at vtocs home) uid (ap uid_of none) used)

pub volume_within : (vtocs : List (List (Option Entry))) (uid : ℕ) (home : Home) → uid_at vtocs home ≡ Some uid
    → home.volume < length vtocs
volume_within vtocs uid home used = within_from vtocs home.volume [] (λ none. not_none (uid_at vtocs home) uid
    (cc) used)

-- two segments of one home are one
pub one_uid : (vtocs : List (List (Option Entry))) {u uid : ℕ} {h home : Home} → uid_at vtocs h ≡ Some u
    → uid_at vtocs home ≡ Some uid → h ≡ home → u ≡ uid
one_uid vtocs {u = u} {uid = uid} {h = h} its used same = frame_same (uid_at vtocs h) u uid its (cc)

-- what an entry says after its file map names another record for page p
pub same_uid : (entry : Option Entry) (p : ℕ) (place : Option ℕ) → uid_of (with_record entry p place) ≡ uid_of entry
same_uid None p place = refl
same_uid (Some entry) p place = refl

pub same_record : (entry : Option Entry) {p : ℕ} (place : Option ℕ) {q : ℕ} → q ≢ p
    → get_or (records_in (with_record entry p place)) q None ≡ get_or (records_in entry) q None
same_record None place n = refl
same_record (Some entry) {p = p} place {q = q} n = get_or-set_other entry.records p q place None n

pub used_map : (entry : Option Entry) {uid : ℕ} (p : ℕ) (place : Option ℕ) → uid_of entry ≡ Some uid
    → records_in (with_record entry p place) ≡ set (records_in entry) p place
used_map None p place used = cc
used_map (Some entry) p place used = refl

-- the file map at a home names another record for page p, or none
abbrev pub refile : List (List (Option Entry)) → Home → ℕ → Option ℕ → List (List (Option Entry))
refile vtocs home p place = put vtocs home.volume home.entry
    (with_record (entry_at (vtoc_in vtocs home.volume) home.entry) p place)

pub map_refiled : (vtocs : List (List (Option Entry))) (uid p : ℕ) (place : Option ℕ) (home : Home) → uid_at vtocs home
    ≡ Some uid → map_at (refile vtocs home p place) home ≡ set (map_at vtocs home) p place
map_refiled vtocs uid p place home used = cc (
  put_here vtocs home.volume home.entry (with_record (entry_at (vtoc_in vtocs home.volume) home.entry) p place)
      None (volume_within vtocs uid home used) (home_within vtocs uid home used),
  used_map (entry_at (vtoc_in vtocs home.volume) home.entry) p place used,
)

pub maps_refiled : (vtocs : List (List (Option Entry))) {uid : ℕ} (p : ℕ) (place : Option ℕ) {home other : Home}
    → uid_at vtocs home ≡ Some uid → other ≢ home → map_at (refile vtocs home p place) other ≡ map_at vtocs other
maps_refiled vtocs {uid = uid} p place {home = home} {other = other} used n = ap records_in
    (put_other vtocs home.volume home.entry
    (with_record (entry_at (vtoc_in vtocs home.volume) home.entry) p place) None
    other.volume other.entry (volume_within vtocs uid home used) (other_home n))

pub uids_refiled : (vtocs : List (List (Option Entry))) (uid p : ℕ) (place : Option ℕ) (home other : Home)
    → uid_at vtocs home ≡ Some uid → uid_at (refile vtocs home p place) other ≡ uid_at vtocs other
uids_refiled vtocs uid p place home other used =
    let entry : Option Entry = entry_at (vtoc_in vtocs home.volume) home.entry in
    elim (at_or_other home.volume home.entry other) [
      | inl at ↦ rw (at.0, at.1) (ap uid_of (put_here vtocs home.volume home.entry (with_record entry p place) None
          (volume_within vtocs uid home used) (home_within vtocs uid home used)) ∙ same_uid entry p place)
      | inr n ↦ ap uid_of (put_other vtocs home.volume home.entry (with_record entry p place) None other.volume
          other.entry (volume_within vtocs uid home used) n)
    ]
