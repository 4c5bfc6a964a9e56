-- What a move that began leaves.
pub use Rattle.seg_mover.proofs.Prelude.{AddsRecords, AreKept, Bool, CanBegin, Entry, HasParts, IsLeastFreeEntry, IsMoving, KeepsOthersThan, KeepsTables, List, None, Option, Some, Vols, [], ap, arith, begun, cond, count_by, entry_for, entry_of, flags_taken, get_or, get_or-set_other, get_or-set_same, given_back, is_some, length, length-map, list_within, map, map_at, map_taken, place_at, put, put_here, put_other, put_put, records_at, records_in, refl, rules, set, set-get_or, set-set, sum_by-set, sym, uid_at, uid_of, used_at, vtoc_at, ℕ, ◌+◌, ◌<◌, ◌∙◌, ◌≡◌}
use Rattle.seg_mover.proofs.Records.{HasTaken, has_taken}

-- each volume has a map of its records
pub records_there : {D : Type 0} (pages : D → List (List ℕ)) (vols : Vols D) (v : ℕ)
    → HasParts (map pages vols.drives) vols.records vols.vtocs → v < length vols.drives → v < length vols.records
records_there pages vols v parts lt = omega (
  arith,
  sym (length-map vols.records length) ∙ ap length parts.sizes ∙ length-map (map pages vols.drives)
      length ∙ length-map vols.drives pages,
)

-- what the volumes were, and what they are now
pub record Begins {D : Type 0} (old now : Vols D) (uid : ℕ) (from to : ℕ × ℕ) : Type 0 where
  pub can : CanBegin old uid from to.0
  pub least : IsLeastFreeEntry (vtoc_at old to.0) to.1
  pub there : to.0 < length old.records
  pub drives : now.drives ≡ old.drives
  pub records : now.records ≡ set old.records to.0 (flags_taken (records_at old to.0) (map_at old from))
  pub vtocs : now.vtocs ≡ put old.vtocs to.0 to.1
      (Some (record { uid = uid; records = map_taken (records_at old to.0) (map_at old from) }))

pub begins : {D : Type 0} {old : Vols D} {uid v e : ℕ} {from : ℕ × ℕ} (now : Vols D) → CanBegin old uid from v
    → IsLeastFreeEntry (vtoc_at old v) e
    → v < length old.records → now ≡ begun old uid from v → e ≡ entry_for old v → Begins old now uid from (v, e)
begins {old = old} {uid = uid} {v = v} {e = e} {from = from} now can least there is number = assumption (
  ap (λ (s : Vols _). s.drives) is,
  ap (λ (s : Vols _). s.records) is,
  ap (λ (s : Vols _). s.vtocs) is ∙ ap (λ (place : ℕ). put old.vtocs v place (Some (record {
    uid = uid;
    records = map_taken (records_at old v) (map_at old from);
  }))) (sym number),
)

-- one entry more is used
entry_more : (table : List (Option Entry)) (e : ℕ) (x : Entry) → IsLeastFreeEntry table e
    → count_by is_some (set table e (Some x)) ≡ count_by is_some table + 1
entry_more table e x least =
    let step = sum_by-set (λ (entry : Option Entry). cond {A = ℕ} (is_some entry) 1 0) table e (Some x) None
    least.within in
    let none : cond {A = ℕ} (is_some (get_or table e None)) 1 0 ≡ 0 = rw least.free refl in
    omega arith

module _ {D : Type 0} {old now : Vols D} {uid : ℕ} {from to : ℕ × ℕ} (h : Begins old now uid from to) where
  vtoc_there : to.0 < length old.vtocs
  vtoc_there = list_within old.vtocs to.0 to.1 h.least.within

  entry_is : entry_of now to ≡ Some (record { uid = uid; records = map_taken (records_at old to.0) (map_at old from) })
  entry_is = cc (put_here old.vtocs to.0 to.1 (Some (record {
    uid = uid;
    records = map_taken (records_at old to.0) (map_at old from);
  })) None vtoc_there h.least.within)

  map_is : map_at now to ≡ map_taken (records_at old to.0) (map_at old from)
  map_is = ap records_in entry_is

  flags_are : records_at now to.0 ≡ flags_taken (records_at old to.0) (map_at old from)
  flags_are =
      rw h.records (get_or-set_same old.records to.0 (flags_taken (records_at old to.0) (map_at old from)) [] h.there)

  taken : HasTaken (records_at old to.0) (map_at old from)
  taken = has_taken (records_at old to.0) (map_at old from) h.can.room

  pub begun_others : KeepsOthersThan old now to
  begun_others = record {
    drives = h.drives;
    records = λ v other. ap (λ (rs : List (List Bool)). get_or rs v []) h.records
        ∙ get_or-set_other old.records to.0 v _ [] other;
    entries = λ v e other. ap (λ (vtocs : List (List (Option Entry))). get_or (get_or vtocs v []) e None) h.vtocs
        ∙ put_other old.vtocs to.0 to.1 _ None v e vtoc_there other;
  }

  -- the old home is as it was
  from_kept : entry_of now from ≡ entry_of old from
  from_kept = begun_others.entries from.0 from.1 (λ same _. h.can.other same)

  pub begun_uid : uid_at now to ≡ Some uid
  begun_uid = ap uid_of entry_is

  pub begun_same : (p : ℕ) → is_some (place_at now to p) ≡ is_some (place_at now from p)
  begun_same p = rw map_is (cc (taken.same p, from_kept))

  pub begun_adds : AddsRecords (records_at old to.0) (records_at now to.0) (map_at now to)
  begun_adds = rw (flags_are, map_is) taken.adds

  pub begun_count : used_at now to.0 ≡ used_at old to.0 + count_by is_some (map_at old from)
  begun_count = cc (flags_are, taken.count)

  pub begun_entries : count_by is_some (vtoc_at now to.0) ≡ count_by is_some (vtoc_at old to.0) + 1
  begun_entries =
      rw h.vtocs (ap (count_by is_some) (get_or-set_same old.vtocs to.0 _ [] vtoc_there)
      ∙ entry_more (vtoc_at old to.0) to.1 _ h.least)

  pub begun_moving : AreKept (records_at old from.0) (map_at old from)
      → IsMoving now (record { uid = uid; from = from; to = to; next = 0 })
  begun_moving kept = record {
    source = rw h.drives h.can.source;
    target = rw h.drives h.can.target;
    other = h.can.other;
    old_used = cc (from_kept);
    new_used = begun_uid;
    same = begun_same;
    old_kept = rw (ap records_in from_kept) (rw (begun_others.records from.0 h.can.other) kept);
    new_kept = begun_adds.kept;
  }

  -- what was taken is given back
  pub begun_back : (then : Vols D) → KeepsTables now then → KeepsTables old (given_back then to)
  begun_back then kept = record {
    records = rw (kept.vtocs, kept.records, flags_are, map_is) (cc (
      taken.back,
      set-set old.records to.0 (flags_taken (records_at old to.0) (map_at old from)) (records_at old to.0),
      set-get_or old.records to.0 [],
    ));
    vtocs = cc (
      put_put old.vtocs to.0 to.1 (Some (record {
        uid = uid;
        records = map_taken (records_at old to.0) (map_at old from);
      })) None vtoc_there,
      set-get_or (vtoc_at old to.0) to.1 None,
      set-get_or old.vtocs to.0 [],
    );
  }
