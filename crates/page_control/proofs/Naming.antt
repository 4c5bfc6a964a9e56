-- The records in use stay those that file maps name, whatever a call does to them.
use Rattle.page_control.proofs.Filing.{AreFiled, AreUsed, Bool, Entry, Home, IsLeastFree, IsNamed, List, None, Option, Some, ap, at_or_other, cases_eq, false, flag_within, flags_in, frame_same, get_or, home_within, in_use, inl, inr, length, list_within, map_at, map_refiled, not_none, off_and_on, put, put_here, put_other, record_at, records_in, refile, refiled_cases, set, sym, true, uid_at, used_fewer, used_of, used_stored, used_unstored, volume_within, vtoc_in, ℕ, ◌<◌, ◌∙◌, ◌≡◌, ◌⊎◌}

-- each record in use is named by some file map
abbrev AreNamed : List (List Bool) → List (List (Option Entry)) → Type 0
AreNamed records vtocs = (v r : ℕ) → in_use (flags_in records v) r ≡ true → IsNamed (vtoc_in vtocs v) r

filed_of : {records : List (List Bool)} {vtocs : List (List (Option Entry))} → AreUsed records vtocs
    → AreNamed records vtocs → AreFiled records vtocs
filed_of used named = assumption

same_place : (v w r k : ℕ) → ((w ≡ v) × (k ≡ r)) ⊎ (w ≡ v → k ≡ r → ⊥)
same_place v w r k = elim (cases_eq w v) [
  | inl i ↦ elim (cases_eq k r) [ inl j ↦ inl (i, j) | inr n ↦ inr (λ _ j. n j) ]
  | inr n ↦ inr (λ i _. n i)
]

-- page p at a home is stored no more, and its record r is given back
named_unstored : {records : List (List Bool)} {vtocs : List (List (Option Entry))} {uid : ℕ} (p : ℕ) {r : ℕ} (home :
    Home) → AreFiled records vtocs → uid_at vtocs home ≡ Some uid → record_at (vtoc_in vtocs home.volume) home.entry p ≡
    Some r → AreNamed (put records home.volume r false) (refile vtocs home p None)
named_unstored {records = records} {vtocs = vtocs} {uid = uid} p {r = r} home filed h there =
    let rl = flag_within _ r (filed.used home.volume home.entry p r there) in
    let vl = list_within records home.volume r rl in
    λ w k on. elim (same_place home.volume w r k) [
      | inl at ↦ absurd (off_and_on (in_use (flags_in (put records home.volume r false) w) k)
          (rw (at.0, at.1) (put_here records home.volume r false false vl rl)) on)
      | inr n ↦ still w k (filed.named w k (sym (put_other records home.volume r false false w k vl n) ∙ on)) n
    ]
  where
    still : (w k : ℕ) → IsNamed (vtoc_in vtocs w) k → (w ≡ home.volume → k ≡ r → ⊥)
        → IsNamed (vtoc_in (refile vtocs home p None) w) k
    still w k (e, q, at) n = elim (refiled_cases vtocs uid p None home h w e q) [
      | inl here ↦ absurd (n here.0 (frame_same (record_at (vtoc_in vtocs w) e q) k r at
          (rw (here.0, here.1, here.2) there)))
      | inr same ↦ (e, q, same ∙ at)
    ]

pub filed_unstored : {records : List (List Bool)} {vtocs : List (List (Option Entry))} {uid : ℕ} (p : ℕ) {r : ℕ} (home :
    Home) → AreFiled records vtocs → uid_at vtocs home ≡ Some uid → record_at (vtoc_in vtocs home.volume) home.entry p ≡
    Some r → AreFiled (put records home.volume r false) (refile vtocs home p None)
filed_unstored {records} {vtocs} {uid = uid} p {r = r} home filed h there =
    filed_of (used_unstored records vtocs uid p r home (used_of filed) h there) (named_unstored p home filed h there)

-- page p at a home, which had no record, gets record r
named_stored : {records : List (List Bool)} {vtocs : List (List (Option Entry))} {uid : ℕ} (p : ℕ) {r : ℕ} (home : Home)
    → AreFiled records vtocs → uid_at vtocs home ≡ Some uid → record_at (vtoc_in vtocs home.volume) home.entry p ≡ None
    → get_or (set (map_at vtocs home) p (Some r)) p None ≡ Some r → r < length (flags_in records home.volume) → AreNamed
    (put records home.volume r true) (refile vtocs home p (Some r))
named_stored {records = records} {vtocs = vtocs} {uid = uid} p {r = r} home filed h none full rl =
    let vl : home.volume < length records = list_within records home.volume r rl in
    λ w k on. elim (same_place home.volume w r k) [
      | inl at ↦ (home.entry, p, rw (at.0, at.1, map_refiled vtocs uid p (Some r) home h) full)
      | inr n ↦ still w k (filed.named w k (sym (put_other records home.volume r true false w k vl n) ∙ on))
    ]
  where
    still : (w k : ℕ) → IsNamed (vtoc_in vtocs w) k → IsNamed (vtoc_in (refile vtocs home p (Some r)) w) k
    still w k (e, q, at) = elim (refiled_cases vtocs uid p (Some r) home h w e q) [
      | inl here ↦ absurd (not_none (record_at (vtoc_in vtocs w) e q) k (rw (here.0, here.1, here.2) none) at)
      | inr same ↦ (e, q, same ∙ at)
    ]

pub filed_stored : {records : List (List Bool)} {vtocs : List (List (Option Entry))} {uid : ℕ} (p : ℕ) {r : ℕ}
    (home : Home) → AreFiled records vtocs → uid_at vtocs home ≡ Some uid → record_at (vtoc_in vtocs home.volume)
    home.entry p ≡ None → get_or (set (map_at vtocs home) p (Some r)) p None ≡ Some r → IsLeastFree
    (flags_in records home.volume) r → AreFiled (put records home.volume r true) (refile vtocs home p (Some r))
filed_stored {records} {vtocs} {uid = uid} p {r} home filed h none full least =
    let rl : r < length (flags_in records home.volume) = least.within in
    filed_of (used_stored records vtocs uid p r home (used_of filed) h least.free
    (list_within records home.volume r rl) rl) (named_stored p home filed h none full rl)

-- each file map names what it named
pub filed_mapped : {records : List (List Bool)} {vtocs now : List (List (Option Entry))}
    → ((home : Home) → map_at now home ≡ map_at vtocs home) → AreFiled records vtocs → AreFiled records now
filed_mapped {vtocs = vtocs} {now = now} maps filed =
    filed_of (used_fewer (used_of filed) (λ w g q s at. rw (maps (record { volume = w; entry = g })) at at))
    (λ w k on. still w k (filed.named w k on))
  where
    still : (w k : ℕ) → IsNamed (vtoc_in vtocs w) k → IsNamed (vtoc_in now w) k
    still w k (e, q, at) = (e, q, rw (maps (record { volume = w; entry = e })) at)

-- an entry that names no record is freed
pub maps_freed : (vtocs : List (List (Option Entry))) {uid : ℕ} {home other : Home} → uid_at vtocs home ≡ Some uid
    → (other.volume ≡ home.volume → other.entry ≡ home.entry → ⊥)
    → map_at (put vtocs home.volume home.entry None) other ≡ map_at vtocs other
maps_freed vtocs {uid = uid} {home = home} {other = other} h n = ap records_in
    (put_other vtocs home.volume home.entry None None other.volume other.entry (volume_within vtocs uid home h) n)

pub filed_freed : {records : List (List Bool)} {vtocs : List (List (Option Entry))} {uid : ℕ} (home : Home) → uid_at
    vtocs home ≡ Some uid → ((q : ℕ) → get_or (map_at vtocs home) q None ≡ None) → ((q : ℕ) → get_or (records_in None) q
    None ≡ None) → AreFiled records vtocs → AreFiled records (put vtocs home.volume home.entry None)
filed_freed {vtocs = vtocs} {uid = uid} home h gone none filed =
    filed_of (used_fewer (used_of filed) was) (λ w k on. still w k (filed.named w k on))
  where
    was : (v e q : ℕ) {s : ℕ} → record_at (vtoc_in (put vtocs home.volume home.entry None) v) e q ≡ Some s
        → record_at (vtoc_in vtocs v) e q ≡ Some s
    was v e q {s = s} at = elim (at_or_other home.volume home.entry (record { volume = v; entry = e })) [
      | inl here ↦ absurd (not_none (record_at (vtoc_in (put vtocs home.volume home.entry None) v) e q) s (rw (
        here.0,
        here.1,
        put_here vtocs home.volume home.entry None None (volume_within vtocs uid home h) (home_within vtocs uid home h),
      ) (none q)) at)
      | inr n ↦ rw (maps_freed vtocs h n) at at
    ]

    still : (w k : ℕ) → IsNamed (vtoc_in vtocs w) k → IsNamed (vtoc_in (put vtocs home.volume home.entry None) w) k
    still w k (e, q, at) = elim (at_or_other home.volume home.entry (record { volume = w; entry = e })) [
      | inl here ↦ absurd (not_none (record_at (vtoc_in vtocs w) e q) k (rw (here.0, here.1) (gone q)) at)
      | inr n ↦ (e, q, rw (maps_freed vtocs h n) at)
    ]
