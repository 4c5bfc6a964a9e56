-- Volumes that agree but for one home, which the one has free, and which the other uses.
use Rattle.seg_control.proofs.Prelude.{AddsRecords, AreFiled, AreKept, Bool, Home, IsMoving, IsNamed, IsTied, KeepsHome, List, Mover, None, Option, Plain, Ptw, Some, Vols, VtocEntry, [], ap, cases_eq, cases_lt, entry_of, entry_within, flags_given, flags_in, get_or, get_or-set_other, get_or-set_same, get_or_past, given_back, gives, home_at, in_use, inl, inr, length, map_at, map_some, mover_map, mover_uid, no_record, not_none, off_and_on, out_by, put_here, put_other, record_at, records_at, records_in, refl, set, set_past, sym, tie_of_home, true, uid_homed, undone, vtoc_entry as entry_at, vtoc_in, vtoc_within, words_at, words_of_home, ℕ, ◌∙◌, ◌∷◌, ◌≡◌, ◌≢◌, ◌⊎◌}
use Rattle.vtoc.specs.Vtoc.{uid_of}

-- ---- records and VTOCs

-- `more` has what `less` has, and one home besides with the records that its file map names
pub record AddsHome (less_records more_records : List (List Bool)) (less more : List (List (Option VtocEntry)))
    (home : Home) : Type 0 where
  pub free : entry_at (vtoc_in less home.volume) home.entry ≡ None
  pub entries : (v e : ℕ) → (v ≡ home.volume → e ≢ home.entry) → entry_at (vtoc_in more v) e
      ≡ entry_at (vtoc_in less v) e
  pub flags : (v : ℕ) → v ≢ home.volume → flags_in more_records v ≡ flags_in less_records v
  pub adds : AddsRecords (flags_in less_records home.volume) (flags_in more_records home.volume) (map_at more home)

-- an entry is that of a home, or another
here_or_not : (v e : ℕ) (home : Home) → ((v ≡ home.volume) × (e ≡ home.entry)) ⊎ (v ≡ home.volume → e ≢ home.entry)
here_or_not v e home = elim (cases_eq v home.volume) [
  | inr other ↦ inr (λ same. absurd (other same))
  | inl same ↦ elim (cases_eq e home.entry) [ inl also ↦ inl (same, also) | inr apart ↦ inr (λ _. apart) ]
]

module _ {less_records more_records : List (List Bool)} {less more : List (List (Option VtocEntry))} {home : Home}
    (h : AddsHome less_records more_records less more home) where
  -- the home that is free names no record
  names_none : (v e p r : ℕ) → (v ≡ home.volume) × (e ≡ home.entry) → record_at (vtoc_in less v) e p ≡ Some r → ⊥
  names_none v e p r at named = not_none (get_or (records_in None) p None) r (no_record p)
      (rw (at.0, at.1, h.free) at named)

  -- every other names the same
  same_name : (v e p : ℕ) → (v ≡ home.volume → e ≢ home.entry) → record_at (vtoc_in more v) e p
      ≡ record_at (vtoc_in less v) e p
  same_name v e p other = rw (h.entries v e other)

  -- and the home itself, by its file map
  its_name : (v e p r : ℕ) → (v ≡ home.volume) × (e ≡ home.entry) → record_at (vtoc_in more v) e p ≡ Some r
      → get_or (map_at more home) p None ≡ Some r
  its_name v e p r at named = rw (at.0, at.1) at named

  -- what is in use there, is in use
  still_on : (v r : ℕ) → in_use (flags_in less_records v) r ≡ true → in_use (flags_in more_records v) r ≡ true
  still_on v r on = elim (cases_eq v home.volume) [
    | inl same ↦ rw same (h.adds.still r (rw same at on))
    | inr other ↦ rw (h.flags v other) on
  ]

  -- what is in use, is in use there, or the home names it
  was_on : (v r : ℕ) → in_use (flags_in more_records v) r ≡ true → (in_use (flags_in less_records v) r ≡ true)
      ⊎ ((v ≡ home.volume) × ((p : ℕ) × (get_or (map_at more home) p None ≡ Some r)))
  was_on v r on = elim (cases_eq v home.volume) [
    | inl same ↦ elim (h.adds.others r (rw same at on)) [
      | inl was ↦ inl (rw same was)
      | inr named ↦ inr (same, named)
    ]
    | inr other ↦ inl (rw (h.flags v other) at on)
  ]

  -- no other entry there names a record that the home names
  apart : AreFiled less_records less → (v e p q r : ℕ) → v ≡ home.volume → record_at (vtoc_in less v) e p ≡ Some r
      → get_or (map_at more home) q None ≡ Some r → ⊥
  apart filed v e p q r same named its = off_and_on (in_use (flags_in less_records home.volume) r)
      (h.adds.fresh q r its) (rw same at (filed.used v e p r named))

  pub filed_more : AreFiled less_records less → AreFiled more_records more
  filed_more filed = record {
    used = λ v e p r named. elim (here_or_not v e home) [
      | inl at ↦ rw at.0 (h.adds.kept.used p r (its_name v e p r at named))
      | inr other ↦ still_on v r (filed.used v e p r (sym (same_name v e p other) ∙ named))
    ];
    once = λ v e p g q r one two. elim (here_or_not v e home) [
      | inl at ↦ elim (here_or_not v g home) [
        | inl also ↦ (cc, h.adds.kept.once p q r (its_name v e p r at one) (its_name v g q r also two))
        | inr other ↦ absurd (apart filed v g q p r at.0 (sym (same_name v g q other) ∙ two) (its_name v e p r at one))
      ]
      | inr other ↦ elim (here_or_not v g home) [
        | inl also ↦ absurd (apart filed v e p q r also.0 (sym (same_name v e p other) ∙ one)
            (its_name v g q r also two))
        | inr neither ↦ filed.once v e p g q r (sym (same_name v e p other) ∙ one) (sym (same_name v g q neither) ∙ two)
      ]
    ];
    named = λ v r on. elim (was_on v r on) [
      | inl was ↦ (let at : IsNamed (vtoc_in less v) r = filed.named v r was in elim (here_or_not v at.0 home) [
        | inl here ↦ absurd (names_none v at.0 at.1 r here at.2)
        | inr other ↦ (at.0, at.1, same_name v at.0 at.1 other ∙ at.2)
      ])
      | inr its ↦ (home.entry, its.1.0, rw its.0 its.1.1)
    ];
  }

  pub filed_less : AreFiled more_records more → AreFiled less_records less
  filed_less filed = record {
    used = λ v e p r named. elim (here_or_not v e home) [
      | inl at ↦ absurd (names_none v e p r at named)
      | inr other ↦ elim (was_on v r (filed.used v e p r (same_name v e p other ∙ named))) [
        | inl was ↦ was
        | inr its ↦ absurd (other its.0 (filed.once v e p home.entry its.1.0 r (same_name v e p other ∙ named)
            (rw its.0 its.1.1)).0)
      ]
    ];
    once = λ v e p g q r one two. elim (here_or_not v e home) [
      | inl at ↦ absurd (names_none v e p r at one)
      | inr other ↦ elim (here_or_not v g home) [
        | inl also ↦ absurd (names_none v g q r also two)
        | inr neither ↦ filed.once v e p g q r (same_name v e p other ∙ one) (same_name v g q neither ∙ two)
      ]
    ];
    named = λ v r on. (let at : IsNamed (vtoc_in more v) r = filed.named v r (still_on v r on) in
        elim (here_or_not v at.0 home) [
          | inl here ↦ absurd (off_and_on (in_use (flags_in less_records home.volume) r)
              (h.adds.fresh at.1 r (its_name v at.0 at.1 r here at.2)) (rw here.0 at on))
          | inr other ↦ (at.0, at.1, sym (same_name v at.0 at.1 other) ∙ at.2)
        ]);
  }

-- the same, where the records in use are those that file maps name
pub record AreAside (less_records more_records : List (List Bool)) (less more : List (List (Option VtocEntry)))
    (home : Home) : Type 0 where
  pub adds : AddsHome less_records more_records less more home
  pub less_filed : AreFiled less_records less
  pub more_filed : AreFiled more_records more

-- ---- homes that are given up

-- giving records back leaves none in use where none is, and there the flags are those that are given
given_none : (places : List (Option ℕ)) → flags_given [] places ≡ []
given_none [] = refl
given_none (None ∷ places) = given_none places
given_none (Some r ∷ places) = given_none places

pub given_here : (all : List (List Bool)) (v : ℕ) (places : List (Option ℕ))
    → get_or (set all v (flags_given (get_or all v []) places)) v [] ≡ flags_given (get_or all v []) places
given_here all v places = elim (cases_lt v (length all)) [
  | inl lt ↦ get_or-set_same all v (flags_given (get_or all v []) places) [] lt
  | inr past
      ↦ rw (set_past all v (flags_given (get_or all v []) places) past, get_or_past all v [] past, given_none places)
]

-- a home that is given up is aside
pub home_adds : {D : Type 0} (vols : Vols D) (home : ℕ × ℕ) (uid : ℕ) → mover_uid vols home ≡ Some uid
    → AreKept (records_at vols home.0) (mover_map vols home)
    → AddsHome (given_back vols home).records vols.records (given_back vols home).vtocs vols.vtocs (home_at home)
home_adds vols home uid is kept =
    let used = map_some (λ (e : VtocEntry). e.uid) (entry_of vols home) uid is in
    record {
      free = put_here vols.vtocs home.0 home.1 None None (vtoc_within vols home used) (entry_within vols home used);
      entries = λ v e other. sym (put_other vols.vtocs home.0 home.1 None None v e (vtoc_within vols home used) other);
      flags = λ v other. sym (get_or-set_other vols.records home.0 v
          (flags_given (records_at vols home.0) (mover_map vols home)) [] other);
      adds = rw (given_here vols.records home.0 (mover_map vols home))
          (gives (records_at vols home.0) (mover_map vols home) kept);
    }

-- so is the one that a move has taken, at rest
pub move_adds : {D : Type 0} {vols : Vols D} {m : Mover} → IsMoving vols m
    → AddsHome (undone vols m).records vols.records (undone vols m).vtocs vols.vtocs (home_at m.to)
move_adds {vols} {m} moving = home_adds vols m.to m.uid moving.new_used moving.new_kept

pub move_aside : {D : Type 0} {vols : Vols D} {m : Mover} → IsMoving vols m → AreFiled (undone vols m).records (undone
    vols m).vtocs → AreAside (undone vols m).records vols.records (undone vols m).vtocs vols.vtocs (home_at m.to)
move_aside moving filed = assumption (move_adds moving, filed_more (move_adds moving) filed)

-- ---- page control

-- two states that agree but for one home
pub record IsAside (less more : Plain) (home : Home) : Type 0 where
  pub core : more.core ≡ less.core
  pub frames : more.frames ≡ less.frames
  pub disks : more.disks ≡ less.disks
  pub tables : AreAside less.records more.records less.vtocs more.vtocs home

-- homes are apart where their entries are
entry_apart : (other home : Home) → other ≢ home → other.volume ≡ home.volume → other.entry ≢ home.entry
entry_apart other home ne volume entry = ne (λ i. record { volume = volume i; entry = entry i })

module _ {less more : Plain} {home : Home} (a : IsAside less more home) where
  pub entry_same : (other : Home) → other ≢ home
      → entry_at (vtoc_in more.vtocs other.volume) other.entry ≡ entry_at (vtoc_in less.vtocs other.volume) other.entry
  entry_same other ne = a.tables.adds.entries other.volume other.entry (entry_apart other home ne)

  pub uid_same : (other : Home) → other ≢ home → uid_homed more.vtocs other ≡ uid_homed less.vtocs other
  uid_same other ne = ap uid_of (entry_same other ne)

  pub map_same : (other : Home) → other ≢ home → map_at more.vtocs other ≡ map_at less.vtocs other
  map_same other ne = ap records_in (entry_same other ne)

  -- the home is free in the one, so that no segment is tied to it there
  pub not_free : (other : Home) (uid : ℕ) → uid_homed less.vtocs other ≡ Some uid → other ≢ home
  not_free other uid used same = not_none (uid_homed less.vtocs home) uid (ap uid_of a.tables.adds.free) (cc)

  pub keeps_more : (other : Home) → other ≢ home → KeepsHome less more other
  keeps_more other ne = record {
    uid = uid_same other ne;
    map = map_same other ne;
    words = λ p. out_by less more other p a.disks (map_same other ne);
    volumes = ap length a.disks;
    records = a.tables.more_filed;
  }

  pub keeps_less : (other : Home) → other ≢ home → KeepsHome more less other
  keeps_less other ne = record {
    uid = sym (uid_same other ne);
    map = sym (map_same other ne);
    words = λ p. sym (out_by less more other p a.disks (map_same other ne));
    volumes = ap length (sym a.disks);
    records = a.tables.less_filed;
  }

  -- a segment is tied to another home in the one as in the other, with the same words
  pub tie_more : {other : Home} {uid : ℕ} {t : List Ptw} → IsTied less uid other t → IsTied more uid other t
  tie_more {other} {uid} {t} tie =
      tie_of_home less more uid other t a.core a.frames (keeps_more other (not_free other uid tie.used)) tie

  pub tie_less : {other : Home} {uid : ℕ} {t : List Ptw} → other ≢ home → IsTied more uid other t
      → IsTied less uid other t
  tie_less {other} {uid} {t} ne tie =
      tie_of_home more less uid other t (sym a.core) (sym a.frames) (keeps_less other ne) tie

  pub words_same : (uid : ℕ) (other : Home) (p : ℕ)
      → other ≢ home → words_at more uid other p ≡ words_at less uid other p
  words_same uid other p ne = words_of_home less more uid other p a.core a.frames (keeps_more other ne)
