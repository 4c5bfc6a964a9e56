-- A move that begins, page by page.
pub use Rattle.seg_mover.proofs.Places.{Bool, CanBegin, Entry, HasFullMaps, IsLeastFreeEntry, IsPartBegun, IsSome, List, None, Option, Some, Vols, [], ap, append-nil, append_assoc, arith, at_drop_more, begun, cond, count_by, count_with, drop, drop_all, entry_for, entry_of, entry_taken, flags_taken, flags_used, fresh_entry, get_or, get_or-set_other, is_some, least_free, length, length-set, length_no_records, list_within, map_at, map_placed, map_taken, no_record, no_records, page_stored, place_at, put_here, put_put, records_at, records_in, records_within, refl, rules, set, set-get_or, set-set, some_number, subst, sum_by-cons, sym, take, take_all, take_more, take_more_set, true, used_at, used_some, vols_same, vtoc_at, with_place, with_record, with_record_used, with_taken, ℕ, ◌++◌, ◌+◌, ◌<◌, ◌∙◌, ◌∷◌, ◌≡◌, ◌≢◌}
use Rattle.seg_mover.proofs.Records.{least_is, least_there}

-- the home that was taken is there, on another volume than the old one
pub record CanStore {D : Type 0} (old : Vols D) (from to : ℕ × ℕ) : Type 0 where
  pub vl : to.0 < length old.vtocs
  pub el : to.1 < length (vtoc_at old to.0)
  pub other : from.0 ≢ to.0
  pub pages : length (map_at old from) ≡ 256

pub can_store : {D : Type 0} {old : Vols D} {uid v : ℕ} {from : ℕ × ℕ} {table : List (Option Entry)} {e : ℕ}
    → CanBegin old uid from v
    → IsLeastFreeEntry (vtoc_at old v) e → HasFullMaps table → table ≡ vtoc_at old from.0 → CanStore old from (v, e)
can_store {old} {v} {from} {e} can
    least full same = assumption (list_within old.vtocs v e least.within, (subst HasFullMaps same full).places from.1)

pub begun_start : {D : Type 0} {old : Vols D} {uid : ℕ} {from to : ℕ × ℕ} (now : Vols D) → CanBegin old uid from to.0
    → CanStore old from to → now ≡ entry_taken old to uid → IsPartBegun old now uid from to 0
begun_start {old = old} {uid = uid} {from = from} {to = to} now can store is =
    let fresh : map_at (entry_taken old to uid) to ≡ no_records =
    ap records_in (put_here old.vtocs to.0 to.1 (fresh_entry uid) None store.vl store.el) in
    rw is (record {
      drives = refl;
      records = sym (set-get_or old.records to.0 []);
      vtocs = cc;
      flags = refl;
      places = refl;
      blank = λ p late. cc (no_record p);
      room = can.room;
      size = refl;
      long = ap length fresh ∙ length_no_records;
    })

-- ---- one page more, in lists

at_place : {Y : Type 0} (f : List (Option ℕ) → Y) (m : List (Option ℕ)) (n : ℕ) (place : Option ℕ) → n < length m
    → get_or m n None ≡ place → f (drop n m) ≡ f (place ∷ drop (n + 1) m)
at_place f m n place lt is = cc (at_drop_more f m n None lt)

front_more : (front more : List (Option ℕ)) (place : Option ℕ) (rest now : List (Option ℕ)) → more ≡ front ++ place ∷ []
    → now ≡ place ∷ rest → more ++ rest ≡ front ++ now
front_more front more place rest now is then = rw is (cc (append_assoc front (place ∷ []) rest))

some_more : (flags : List Bool) (m : List (Option ℕ)) (n q : ℕ) → n < length m → get_or m n None ≡ Some q
    → count_by is_some (drop n m) ≡ count_by is_some (drop (n + 1) m) + 1
some_more flags m n q lt is =
    let step = sum_by-cons (λ (place : Option ℕ). cond {A = ℕ} (is_some place) 1 0) (Some q) (drop (n + 1) m) in
    omega (arith, at_place (count_by is_some) m n (Some q) lt is)

none_more : (m : List (Option ℕ)) (n : ℕ) → n < length m → get_or m n None ≡ None
    → count_by is_some (drop n m) ≡ count_by is_some (drop (n + 1) m)
none_more m n lt is =
    let step = sum_by-cons (λ (place : Option ℕ). cond {A = ℕ} (is_some place) 1 0) None (drop (n + 1) m) in
    omega (arith, at_place (count_by is_some) m n None lt is)

-- ---- one page more

-- the new entry after its file map names record r for page n
renamed : (entry : Option Entry) (uid n r : ℕ) (places now : List (Option ℕ)) → entry ≡ Some (record {
  uid = uid;
  records = places;
}) → now ≡ set places n (Some r) → with_record entry n (Some r) ≡ Some (record { uid = uid; records = now })
renamed entry uid n r places now is map = rw (is, map) refl

module _ {D : Type 0} {old now : Vols D} {uid n : ℕ} {from to : ℕ × ℕ} (store : CanStore old from to)
    (part : IsPartBegun old now uid from to n) where
  -- the entry of the new home
  pub entry_now : entry_of now to ≡ Some (record { uid = uid; records = map_at now to })
  entry_now =
      cc (put_here old.vtocs to.0 to.1 (Some (record { uid = uid; records = map_at now to })) None store.vl store.el)

  -- and the old one's is as it was
  pub entry_kept : entry_of now from ≡ entry_of old from
  entry_kept = rw (part.vtocs, get_or-set_other old.vtocs to.0 from.0 _ [] store.other)

  skipped : n < 256 → place_at old from n ≡ None → IsPartBegun old now uid from to (n + 1)
  skipped lt none =
      let flags : List Bool = records_at now to.0 in
      let m : List (Option ℕ) = map_at old from in
      let within : n < length m = omega arith in
      let there : n < length (map_at now to) = omega arith in
      record {
        drives = part.drives;
        records = part.records;
        vtocs = part.vtocs;
        flags = cc (at_place (flags_taken flags) m n None within none);
        places = front_more (take n (map_at now to)) (take (n + 1) (map_at now to)) None (map_taken flags (drop (n + 1)
            m)) (map_taken flags (drop n m)) (cc (take_more (map_at now to) n None there, part.blank n (omega arith)))
            (at_place (map_taken flags) m n None within none) ∙ part.places;
        blank = λ p late. part.blank p (omega arith);
        room = omega (arith, none_more m n within none);
        size = part.size;
        long = part.long;
      }

  stored : (q r : ℕ) → n < 256 → place_at old from n ≡ Some q → least_free (records_at now to.0) ≡ Some r
      → IsPartBegun old (with_place (with_record_used now to.0 r true) to n (Some r)) uid from to (n + 1)
  stored q r lt some is =
      let flags = records_at now to.0 in
      let m = map_at old from in
      let places = map_at now to in
      let mid = with_record_used now to.0 r true in
      let new = with_place mid to n (Some r) in
      let within : n < length m = omega arith in
      let there : n < length places = omega (arith, lt, part.long) in
      let least = least_is flags r is in
      let rl = records_within now to.0 r least.within in
      let entry = entry_now in
      let used : IsSome (entry_of now to) = rw entry refl in
      let flags_is = flags_used now to.0 r true rl in
      let map_is = map_placed mid to n (Some r) used in
      let more = count_with flags r least.within least.free in
      let used_is : used_at new to.0 ≡ count_by (λ (flag : Bool). flag) (set flags r true) =
      ap (count_by (λ (flag : Bool). flag)) flags_is in
      let size_is : length (records_at new to.0) ≡ length flags = ap length flags_is ∙ length-set flags r true in
      let fewer = some_more flags m n q within some in
      record {
        drives = part.drives;
        records = cc (set-set old.records to.0 flags (set flags r true));
        vtocs = cc (
          renamed (entry_of now to) uid n r places (map_at new to) entry map_is,
          put_put old.vtocs to.0 to.1 (Some (record { uid = uid; records = places }))
              (Some (record { uid = uid; records = map_at new to })) store.vl,
        );
        flags = cc (at_place (flags_taken flags) m n (Some q) within some);
        places = cc (front_more (take n places) (take (n + 1) (map_at new to)) (Some r)
            (map_taken (set flags r true) (drop (n + 1) m)) (map_taken flags (drop n m))
            (ap (take (n + 1)) map_is ∙ take_more_set places n (Some r) there) (at_place (map_taken flags) m n (Some q)
            within some ∙ ap (λ (place : Option ℕ). place ∷ map_taken (with_taken flags place) (drop (n + 1) m)) is));
        blank = λ p late. cc (
          get_or-set_other places n p (Some r) None (λ same. absurd (omega (arith, late, same))),
          part.blank p (omega (arith, late)),
        );
        room = omega (arith, used_is, more, size_is, fewer, part.room);
        size = cc;
        long = cc (length-set places n (Some r));
      }

  -- the page's place, where it is known
  place_kept : (place : Option ℕ) → place_at now from n ≡ place → place_at old from n ≡ place
  place_kept place is = cc (entry_kept)

  -- there is a record for a page that the old file map names
  pub has_room : n < 256 → IsSome (place_at now from n) → used_at now to.0 < length (records_at now to.0)
  has_room lt there =
      let q = some_number (place_at now from n) there in
      omega (arith, some_more [] (map_at old from) n q.0 (omega arith) (place_kept (Some q.0) q.1))

  -- one page more, as the call of it says
  pub begun_more : (new : Vols D) → n < 256 → (place_at now from n ≡ None → new ≡ now) → (IsSome (place_at now from n)
      → new ≡ page_stored now to n (least_free (records_at now to.0))) → IsPartBegun old new uid from to (n + 1)
  begun_more new lt none some = go (place_at now from n) refl
    where
      go : (place : Option ℕ) → place_at now from n ≡ place → IsPartBegun old new uid from to (n + 1)
      go None is = rw (none is) (skipped lt (place_kept None is))
      go (Some q) is =
          let there : IsSome (place_at now from n) = rw is refl in
          let found = least_there (records_at now to.0) (has_room lt there) in
          rw (some there ∙ ap (page_stored now to n) found.1) (stored q found.0 lt (place_kept (Some q) is) found.1)

-- ---- all pages

pub begun_end : {D : Type 0} {old now : Vols D} {uid n v e : ℕ} {from : ℕ × ℕ} → CanStore old from (v, e)
    → IsPartBegun old now uid from (v, e) n → n ≡ 256 → e ≡ entry_for old v → now ≡ begun old uid from v
begun_end {old = old} {now = now} {uid = uid} {n = n} {v = v} {e = e} {from = from} store part last entry =
    let m : List (Option ℕ) = map_at old from in
    let flags : List Bool = records_at now v in
    let none : drop n m ≡ [] = drop_all n m (omega arith) in
    let flags_is : flags ≡ flags_taken (records_at old v) m = ap (flags_taken flags) (sym none) ∙ part.flags in
    let map_is : map_at now (v, e) ≡ map_taken (records_at old v) m = sym (append-nil (map_at now (v, e)))
    ∙ ap (λ (xs : List (Option ℕ)). xs ++ []) (sym (take_all n (map_at now (v, e)) (omega arith)))
    ∙ ap (λ (xs : List (Option ℕ)). take n (map_at now (v, e)) ++ map_taken flags xs) (sym none) ∙ part.places in
    vols_same now (begun old uid from v) part.drives (cc) (cc)
