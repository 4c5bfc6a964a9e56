-- What becomes of the counts of each volume.
use Rattle.page_control.proofs.Prelude.{Bool, Core, Entry, Free, Home, KeepsCounts, Kept, Leaving, Left, List, None, Option, Plain, Ptw, Released, Some, [], ap, arith, brought_in, cond, count_by, count_with, count_without, created, dropped, entry_at, eqb, eqb_tells, erased, evicted, false, file_map_of, flag_within, flags_in, flags_of, framed, freed, fresh_entry, get_or, get_or-set_other, get_or-set_same, in_use, inl, inr, is_some, leb_tells, length, length-set, list_within, map, map-set_same, map_at, named_on, one_less, one_more, put, refl, set, set_past, suc, sum_by-set, taken, true, uid_at, uid_of, used, vtoc_in, with_record, ℕ, ◌+◌, ◌-◌, ◌<◌, ◌∙◌, ◌∷◌, ◌≡◌, ◌≢◌}
pub use Rattle.page_control.proofs.Places.{at_or_other, binding_is, bindings_lost, bindings_with, bound_from_page, bound_idle, bound_to, filed_in_use, frame_same, home_within, leaving_within, map_place, map_read, map_refiled, map_word, number_of, other_home, page_dropped, plain_volume, record_is, refile, seen_same, starts_with, table_created, table_left, table_lost, table_read, table_word, stored_away, tied_filed, tied_volume, uids_refiled, volume_within}

-- one entry names another record
some_with : (entry : Option Entry) (p : ℕ) (place : Option ℕ) → is_some (with_record entry p place) ≡ is_some entry
some_with None p place = refl
some_with (Some entry) p place = refl

count_set : (table : List (Option Entry)) (e : ℕ) (x : Option Entry) → is_some x ≡ is_some (entry_at table e)
    → count_by is_some (set table e x) ≡ count_by is_some table
count_set table e x same = elim (leb_tells (length table) e) [
  | inl past ↦ ap (count_by is_some) (set_past table e x past.1)
  | inr lt ↦ (let all = rw same at (sum_by-set (λ (y : Option Entry). cond {A = ℕ} (is_some y) 1 0) table e x None
      lt.1) in omega arith)
]

pub used_refiled : (vtocs : List (List (Option Entry))) (home : Home) (p : ℕ) (place : Option ℕ)
    → map (count_by is_some) (refile vtocs home p place) ≡ map (count_by is_some) vtocs
used_refiled vtocs home p place = map-set_same (count_by is_some) vtocs home.volume _ [] (count_set (vtoc_in vtocs
    home.volume) home.entry _ (some_with (entry_at (vtoc_in vtocs home.volume) home.entry) p place))

pub places_refiled : (vtocs : List (List (Option Entry))) (home : Home) (p : ℕ) (place : Option ℕ)
    → map (length {A = Option Entry}) (refile vtocs home p place) ≡ map length vtocs
places_refiled vtocs home p place = map-set_same (length {A = Option Entry}) vtocs home.volume _ [] (length-set (vtoc_in
    vtocs home.volume) home.entry (with_record (entry_at (vtoc_in vtocs home.volume) home.entry) p place))

pub flags_put : (records : List (List Bool)) (v r : ℕ) (flag : Bool) → map (length {A = Bool}) (put records v r flag)
    ≡ map length records
flags_put records v r flag = map-set_same (length {A = Bool}) records v _ [] (length-set (flags_in records v) r flag)

disks_saved : (disks : List (List (List ℕ))) (b : Bool) (v : ℕ) (pages : List (List ℕ))
    → length (cond b (set disks v pages) disks) ≡ length disks
disks_saved disks true v pages = length-set disks v pages
disks_saved disks false v pages = refl

-- frames change, and they are as many as before
counts_framed : {s : Plain} {core : Core} (frames : List (List ℕ)) → length core.frames ≡ length s.core.frames
    → KeepsCounts s (record s { core = core; frames = frames })
counts_framed frames many = assumption

-- a page is given a record, or gives it back
counts_refiled : (s : Plain) (core : Core) (frames : List (List ℕ)) (home : Home) (p r : ℕ) (place : Option ℕ)
    (flag : Bool) → length core.frames ≡ length s.core.frames → KeepsCounts s (record s {
      core = core;
      frames = frames;
      records = put s.records home.volume r flag;
      vtocs = refile s.vtocs home p place;
    })
counts_refiled s core frames home p r place flag many = assumption (
  used_refiled s.vtocs home p place,
  places_refiled s.vtocs home p place,
  flags_put s.records home.volume r flag,
)

-- a page that left its frame, one that was read and one that was created
pub counts_evicted : {s now : Plain} (home : Home) (p f : ℕ) (left : Left) → now ≡ evicted s home p f left
    → KeepsCounts s now
counts_evicted {s = s} home p f Released is =
    rw is (counts_refiled s _ _ home p _ None false (length-set s.core.frames f _))
counts_evicted {s = s} home p f Kept is = rw is (record {
  used = refl;
  places = refl;
  flags = refl;
  volumes = disks_saved s.disks _ home.volume _;
  frames = length-set s.core.frames f _;
})

pub counts_read : {s now : Plain} (uid p v r f : ℕ) → now ≡ brought_in s uid p v r f → KeepsCounts s now
counts_read {s = s} uid p v r f is = rw is (counts_framed _ (length-set s.core.frames f _))

pub counts_created : {s now : Plain} (uid p : ℕ) (home : Home) (r f at w : ℕ) → now ≡ created s uid p home r f at w
    → KeepsCounts s now
counts_created {s = s} uid p home r f at w is =
    rw is (counts_refiled s _ _ home p r (Some r) true (length-set s.core.frames f _))

-- a count that changes for one volume alone
pub more_by : {old new : ℕ → ℕ} {v : ℕ} → new v ≡ old v + 1 → ((w : ℕ) → w ≢ v → new w ≡ old w) → new ≡ one_more old v
unfolding one_more
more_by {old = old} {new = new} {v = v} here others = λ i. λ w. at w i
  where
    at : (w : ℕ) → new w ≡ cond (eqb w v) (old w + 1) (old w)
    at w = elim (eqb_tells w v) [
      | inl same ↦ rw (same.0, same.1) here
      | inr n ↦ rw n.0 (others w n.1)
    ]

pub less_by : {old new : ℕ → ℕ} {v : ℕ} → new v + 1 ≡ old v → ((w : ℕ) → w ≢ v → new w ≡ old w) → new ≡ one_less old v
unfolding one_less
less_by {old = old} {new = new} {v = v} here others = λ i. λ w. at w i
  where
    at : (w : ℕ) → new w ≡ cond (eqb w v) (old w - 1) (old w)
    at w = elim (eqb_tells w v) [
      | inl same ↦ rw (same.0, same.1) (omega arith)
      | inr n ↦ rw n.0 (others w n.1)
    ]

-- a record is taken into use, and one is given back
pub taken_more : (records : List (List Bool)) (v : ℕ) {r : ℕ} → r < length (flags_in records v)
    → in_use (flags_in records v) r ≡ false → taken (put records v r true) ≡ one_more (taken records) v
taken_more records v {r = r} rl free =
    let vl : v < length records = list_within records v r rl in
    more_by (cc
    (get_or-set_same records v (set (flags_in records v) r true) [] vl, count_with (flags_in records v) r rl free))
    (λ w n. cc (get_or-set_other records v w (set (flags_in records v) r true) [] n))

pub fewer_at : (records : List (List Bool)) (v r : ℕ) → in_use (flags_in records v) r ≡ true
    → taken (put records v r false) v + 1 ≡ taken records v
fewer_at records v r is =
    rw (get_or-set_same records v (set (flags_in records v) r false)
    [] (list_within records v r (flag_within (flags_in records v) r is))) (count_without (flags_in records v) r is)

pub taken_less : (records : List (List Bool)) (v r : ℕ) → in_use (flags_in records v) r ≡ true
    → taken (put records v r false) ≡ one_less (taken records) v
taken_less records v r is = less_by (fewer_at records v r is)
    (λ w n. cc (get_or-set_other records v w (set (flags_in records v) r false) [] n))

-- a page that couldn't be read, and one that is dropped
pub counts_lost : {s now : Plain} (f : ℕ) → now ≡ framed s f Free → KeepsCounts s now
counts_lost {s = s} f is = rw is (counts_framed _ (length-set s.core.frames f _))

pub counts_same : {s now : Plain} → now ≡ s → KeepsCounts s now
counts_same {s = s} is = rw is (counts_framed _ refl)

pub counts_dropped : {s now : Plain} (home : Home) (p : ℕ) (word : Ptw) → now ≡ dropped s home p word
    → KeepsCounts s now
counts_dropped {s = s} home p (Leaving f) is =
    rw is (counts_refiled s _ _ home p _ None false (length-set s.core.frames f _))
counts_dropped {s = s} home p _ is = rw is (counts_refiled s _ _ home p _ None false refl)

-- the counts of used entries
pub count_more : (table : List (Option Entry)) (e uid : ℕ) → e < length table → entry_at table e ≡ None
    → count_by is_some (set table e (fresh_entry uid)) ≡ count_by is_some table + 1
count_more table e uid el free =
    let all = sum_by-set (λ (y : Option Entry). cond {A = ℕ} (is_some y) 1 0) table e (fresh_entry uid) None el in
    let none = rw free at all in
    omega arith

pub used_more : (vtocs : List (List (Option Entry))) (v : ℕ) {e : ℕ} (uid : ℕ) → e < length (vtoc_in vtocs v)
    → entry_at (vtoc_in vtocs v) e ≡ None → used (put vtocs v e (fresh_entry uid)) ≡ one_more (used vtocs) v
used_more vtocs v {e = e} uid el free =
    let vl : v < length vtocs = list_within vtocs v e el in
    more_by (cc (
      get_or-set_same vtocs v (set (vtoc_in vtocs v) e (fresh_entry uid)) [] vl,
      count_more (vtoc_in vtocs v) e uid el free,
    )) (λ w n. cc (get_or-set_other vtocs v w (set (vtoc_in vtocs v) e (fresh_entry uid)) [] n))

count_fewer : (table : List (Option Entry)) {e uid : ℕ} → e < length table → uid_of (entry_at table e) ≡ Some uid
    → count_by is_some (set table e None) + 1 ≡ count_by is_some table
count_fewer table {e = e} {uid = uid} el used =
    let all = sum_by-set (λ (y : Option Entry). cond {A = ℕ} (is_some y) 1 0) table e None None el in
    let one = rw (there (entry_at table e) used) at all in
    omega arith
  where
    there : (entry : Option Entry) → uid_of entry ≡ Some uid → is_some entry ≡ true
    there None is = cc
    there (Some entry) is = refl

-- a page that gives its record back is named no more
pub named_less : (places : List (Option ℕ)) {n : ℕ} → n < length places → is_some (get_or places n None) ≡ true
    → count_by is_some (set places n None) + 1 ≡ count_by is_some places
named_less places {n = n} lt there =
    let all = sum_by-set (λ (y : Option ℕ). cond {A = ℕ} (is_some y) 1 0) places n None None lt in
    let one = rw there at all in
    omega arith

pub none_named : (places : List (Option ℕ)) → ((q : ℕ) → get_or places q None ≡ None) → count_by is_some places ≡ 0
none_named [] none = refl
none_named (place ∷ places) none = rw (none 0) (none_named places (λ q. none (suc q)))

-- the records of a home are given back: on its volume, and on any
pub named_here : (vtocs : List (List (Option Entry))) (home : Home) → named_on vtocs home home.volume
    ≡ count_by is_some (map_at vtocs home)
unfolding named_on
named_here vtocs home = elim (eqb_tells home.volume home.volume) [
  | inl same ↦ rw same.0 refl
  | inr other ↦ absurd (other.1 refl)
]

pub taken_erased : (s now : Plain) (home : Home) → now ≡ erased s home
    → taken now.records home.volume + named_on s.vtocs home home.volume ≡ taken s.records home.volume
    → (v : ℕ) → taken now.records v + named_on s.vtocs home v ≡ taken s.records v
unfolding named_on
taken_erased s now home is here v = elim (eqb_tells v home.volume) [
  | inl same ↦ rw same.1 here
  | inr other ↦ (
      let before : taken now.records v ≡ taken s.records v = rw is
      (cc (get_or-set_other s.records home.volume v (freed (flags_of s home.volume) (file_map_of s home)) [] other.1))
      in
      rw (other.0, before) (omega arith)
      )
]

-- a home that is given back
pub used_erased : (vtocs now : List (List (Option Entry))) (uid : ℕ) (home : Home) → now ≡ put vtocs home.volume
    home.entry None → uid_at vtocs home ≡ Some uid → used now ≡ one_less (used vtocs) home.volume
used_erased vtocs now uid home is h =
    let el : home.entry < length (vtoc_in vtocs home.volume) = home_within vtocs uid home h in
    let vl : home.volume < length vtocs = list_within vtocs home.volume home.entry el in
    ap used is ∙ less_by (rw (get_or-set_same vtocs home.volume (set (vtoc_in vtocs home.volume) home.entry None) [] vl)
    (count_fewer (vtoc_in vtocs home.volume) el h))
    (λ w n. cc (get_or-set_other vtocs home.volume w (set (vtoc_in vtocs home.volume) home.entry None) [] n))
