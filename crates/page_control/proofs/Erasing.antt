-- A segment that is erased.
pub use Rattle.page_control.proofs.Prelude.{AreFiled, Bool, Entry, HasFullMaps, HasNoFrame, Home, IsPartErased, IsTied, List, NamesNoRecord, None, Option, Plain, Ptw, Some, [], ap, arith, at_drop_all, at_drop_more, bindings, cases_eq, common_steps, count_by, drop, drop-set-lt, entry_at, erased, false, file_map_of, filed, flags_in, flags_of, freed, get_or, get_or-drop, get_or-set_other, get_or-set_same, get_or_past, in_use, inl, inr, is_filed_at, is_some, is_stored, leb_tells, length, map_at, named_on, no_record, none_put, not_none, off_and_on, plain, put, put_here, put_other, put_put, record_of, records_in, refl, replicate, rules, set, set-get_or, set-set, some_unwrapped, subst, suc, sym, taken, true, uid_at, uid_of, uid_of_home, unstored, vtoc_in, with_record, within_from, words_at, ℕ, ◌+◌, ◌<◌, ◌∙◌, ◌∷◌, ◌≡◌, ◌≢◌}
pub use Rattle.page_control.proofs.Counting.{fewer_at, home_within, map_refiled, named_here, named_less, none_named, other_home, refile, taken_erased, uids_refiled, used_erased, volume_within}
use Rattle.page_control.proofs.Marks.{shown_out, tie_mapped, words_by}
use Rattle.page_control.proofs.Naming.{filed_freed, filed_unstored, maps_freed}

freed_some : (flags : List Bool) (places : List (Option ℕ)) {place : Option ℕ} {r : ℕ} → place ≡ Some r
    → freed flags (place ∷ places) ≡ freed (set flags r false) places
freed_some flags places is = rw is refl

-- and where it has one
takes : (flags : List Bool) (places : List (Option ℕ)) (n : ℕ) {r : ℕ} → get_or places n None ≡ Some r
    → freed (set flags r false) (drop (n + 1) places) ≡ freed flags (drop n places)
takes flags places n {r = r} is =
    let lt : n < length places = within_from places n None (λ none. not_none (get_or places n None) r none is) in
    sym (at_drop_more (freed flags) places n None lt ∙ freed_some flags (drop (n + 1) places) is)

-- the file map after page n has given its record back
rest_flags : (s : Plain) {uid : ℕ} (home : Home) (n : ℕ) {r : ℕ} → uid_at s.vtocs home ≡ Some uid → filed s home n ≡
    Some r → home.volume < length s.records → set (put s.records home.volume r false) home.volume (freed (get_or (put
    s.records home.volume r false) home.volume []) (drop (n + 1) (map_at (refile s.vtocs home n None) home))) ≡ set
    s.records home.volume (freed (flags_of s home.volume) (drop n (file_map_of s home)))
rest_flags s {uid = uid} home n {r = r} h is vl =
    let flags : List Bool = flags_of s home.volume in
    let places : List (Option ℕ) = file_map_of s home in
    rw (
      get_or-set_same s.records home.volume (set flags r false) [] vl,
      map_refiled s.vtocs uid n None home h,
      drop-set-lt (n + 1) places n None (omega arith),
      takes flags places n is,
      set-set s.records home.volume (set flags r false) (freed flags (drop n places)),
    )

gone_refiled : (s : Plain) {uid : ℕ} (home : Home) {n q : ℕ} → uid_at s.vtocs home ≡ Some uid
    → (q ≢ n → filed s home q ≡ None) → get_or (map_at (refile s.vtocs home n None) home) q None ≡ None
gone_refiled s {uid = uid} home {n = n} {q = q} h before = rw
    (map_refiled s.vtocs uid n None home h) (elim (cases_eq q n) [
      | inl same ↦ rw same (none_put (file_map_of s home) n)
      | inr other ↦ get_or-set_other (file_map_of s home) n q None None other ∙ before other
    ])

-- a record less is in use, and one less is named
count_some : (old s : Plain) {uid : ℕ} (home : Home) (n : ℕ) {r : ℕ} → uid_at s.vtocs home ≡ Some uid → filed s home n ≡
    Some r → in_use (flags_in s.records home.volume) r ≡ true → taken old.records home.volume + count_by is_some (map_at
    s.vtocs home) ≡ taken s.records home.volume + count_by is_some (map_at old.vtocs home) → taken old.records
    home.volume + count_by is_some (map_at (refile s.vtocs home n None) home) ≡ taken (put s.records home.volume r
    false) home.volume + count_by is_some (map_at old.vtocs home)
count_some old s {uid = uid} home n {r = r} h there on before =
    let places = file_map_of s home in
    let lt = within_from places n None (λ none. not_none (get_or places n None) r none there) in
    let fewer : count_by is_some (map_at (refile s.vtocs home n None) home) + 1
    ≡ count_by is_some (map_at s.vtocs home) =
    ap (λ (map : List (Option ℕ)). count_by is_some map + 1) (map_refiled s.vtocs uid n None home h)
    ∙ named_less places lt (ap is_some there) in
    omega (arith, fewer_at s.records home.volume r on)

pub part_some : {old s : Plain} {now : Plain} {uid : ℕ} {home : Home} {n : ℕ} → now ≡ unstored s home n
    → filed s home n ≡ Some (record_of s home n) → IsPartErased old s uid home n → IsPartErased old now uid home (n + 1)
part_some {old} {s} {uid} {home} {n} is there part =
    let r : ℕ = record_of s home n in
    let h : uid_at s.vtocs home ≡ Some uid = part.at in
    let on : in_use (flags_in s.records home.volume) r ≡ true = part.records.used home.volume home.entry n r there in
    let vl : home.volume < length s.records = within_from s.records home.volume [] (λ e. off_and_on _ (cc) on) in
    rw is (record {
      rest = cc (
        rest_flags s home n h there vl,
        put_put s.vtocs home.volume home.entry (with_record (entry_at (vtoc_in s.vtocs home.volume) home.entry) n None)
            None (volume_within s.vtocs uid home h),
      );
      gone = λ q lt. gone_refiled s home h (λ other. part.gone q (omega arith));
      at = uids_refiled s.vtocs uid n None home home h ∙ h;
      records = filed_unstored n home part.records h there;
      count = count_some old s home n h there on part.count;
    })

-- a file map that names no record has none to give back
freed_none : (flags : List Bool) (places : List (Option ℕ)) → ((p : ℕ) → get_or places p None ≡ None)
    → freed flags places ≡ flags
freed_none flags [] none = refl
freed_none flags (None ∷ places) none = freed_none flags places (λ p. none (suc p))
freed_none flags (Some r ∷ places) none = absurd (not_none (Some r) r (none 0) refl)

pub part_empty : {s : Plain} {uid : ℕ} {home : Home} {table : List (Option Entry)} → uid_at s.vtocs home ≡ Some uid
    → AreFiled s.records s.vtocs → table ≡ vtoc_in s.vtocs home.volume → NamesNoRecord table home.entry
    → IsPartErased s s uid home 256
part_empty {s = s} {home = home} h filed is empty =
    let places : List (Option ℕ) = file_map_of s home in
    let none : (p : ℕ) → get_or places p None ≡ None = (rw is at empty).none in
    let flags : List Bool = flags_of s home.volume in
    record {
      rest = cc (
        freed_none flags (drop 256 places) (λ p. get_or-drop 256 places p None ∙ none (256 + p)),
        freed_none flags places none,
      );
      gone = λ p lt. none p;
      at = h;
      records = filed;
      count = refl;
    }

-- all pages have given their records back
pub record Ended (old s : Plain) (uid : ℕ) (home : Home) : Type 0 where
  pub part : IsPartErased old s uid home 256
  pub full : HasFullMaps (vtoc_in s.vtocs home.volume)

pub ended : {old s : Plain} {uid n : ℕ} {home : Home} {table : List (Option Entry)} → IsPartErased old s uid home n
    → HasFullMaps table → n ≡ 256 → table ≡ vtoc_in s.vtocs home.volume → Ended old s uid home
ended {old = old} {s = s} {uid = uid} {home = home} part full last is = record {
  part = rw (← last) part;
  full = subst HasFullMaps is full;
}

module _ {old s : Plain} {uid : ℕ} {home : Home} (end : Ended old s uid home) where
  -- and the entry is freed
  pub all_erased : {now : Plain} → now ≡ record s { vtocs = put s.vtocs home.volume home.entry None }
      → now ≡ erased old home
  all_erased is =
      let long : length (file_map_of s home) ≡ 256 = end.full.places home.entry in
      cc (
        at_drop_all (freed (flags_of s home.volume)) (file_map_of s home) 256 (omega (arith, long)),
        set-get_or s.records home.volume [],
      )

  pub names_none : NamesNoRecord (vtoc_in s.vtocs home.volume) home.entry
  names_none = record {
    none = λ q. elim (leb_tells 256 q) [
      | inl past ↦ get_or_past (file_map_of s home) q None (omega (arith, end.full.places home.entry))
      | inr lt ↦ end.part.gone q lt.1
    ];
  }

  pub count_end : {records : List (List Bool)} → records ≡ s.records
      → taken records home.volume + named_on old.vtocs home home.volume ≡ taken old.records home.volume
  count_end same =
      rw (same, named_here old.vtocs home)
      (omega (arith, none_named (map_at s.vtocs home) names_none.none, end.part.count))

-- what is left where a home is given up
pub record HasErased (s now : Plain) (home : Home) : Type 0 where
  pub home_free : uid_at now.vtocs home ≡ None
  pub uids : (other : Home) → other ≢ home → uid_at now.vtocs other ≡ uid_at s.vtocs other
  pub maps : (other : Home) → other ≢ home → map_at now.vtocs other ≡ map_at s.vtocs other
  pub ties : (u : ℕ) (other : Home) (words : List Ptw) → other ≢ home → IsTied s u other words
      → IsTied now u other words
  pub stored : (p : ℕ) → is_stored now home p ≡ false
  pub zeros : (u p : ℕ) → HasNoFrame (bindings s.core) u → words_at now u home p ≡ replicate 1024 0
  pub words : (u : ℕ) (other : Home) (p : ℕ) → other ≢ home → words_at now u other p ≡ words_at s u other p

erased_so : {s : Plain} {uid : ℕ} {home : Home} → uid_at s.vtocs home ≡ Some uid
    → AreFiled (erased s home).records (erased s home).vtocs → HasErased s (erased s home) home
unfolding is_filed_at
erased_so {s = s} {uid = uid} {home = home} h old =
    let now : Plain = erased s home in
    let within = volume_within s.vtocs uid home h in
    let here = put_here s.vtocs home.volume home.entry None None within (home_within s.vtocs uid home h) in
    let none : (p : ℕ) → filed now home p ≡ None =
    λ p. ap (λ (entry : Option Entry). get_or (records_in entry) p None) here ∙ no_record p in
    let uids : (other : Home) → other ≢ home → uid_at now.vtocs other ≡ uid_at s.vtocs other =
    λ other n. ap uid_of (put_other s.vtocs home.volume home.entry None None other.volume other.entry within
    (other_home n)) in
    let maps : (other : Home) → other ≢ home → map_at now.vtocs other ≡ map_at s.vtocs other =
    λ other n. maps_freed s.vtocs h (other_home n) in
    record {
      home_free = ap uid_of here;
      uids = uids;
      maps = maps;
      ties = λ u other words n tie. tie_mapped refl refl refl (uids other n ∙ tie.used) (maps other n) old tie;
      stored = λ p. ap is_some (none p);
      zeros = λ u p off. cc (shown_out now u p home (λ g at. off.none g p at), none p);
      words = λ u other p n. words_by s now u other p refl refl refl (maps other n);
    }

pub has_erased : (s : Plain) {now : Plain} {uid : ℕ} (home : Home) → now ≡ erased s home
    → uid_at s.vtocs home ≡ Some uid → AreFiled now.records now.vtocs → HasErased s now home
has_erased s {uid} home is h filed = rw is (erased_so h (rw is at filed))

-- the records that the other file maps name
pub filed_erased : {old s : Plain} {records : List (List Bool)} {vtocs : List (List (Option Entry))} {uid : ℕ}
    {home : Home} → Ended old s uid home → records ≡ s.records → vtocs ≡ put s.vtocs home.volume home.entry None
    → AreFiled records vtocs
filed_erased {s = s} {uid = uid} {home = home} end r is =
    rw (r, is) (filed_freed home end.part.at (names_none end).none no_record end.part.records)

pub names_same : {table those : List (Option Entry)} {e : ℕ} → table ≡ those → NamesNoRecord those e
    → NamesNoRecord table e
names_same same none = rw same none
