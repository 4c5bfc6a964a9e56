-- What giving a home up leaves.
use Rattle.seg_mover.proofs.Places.{AddsRecords, AreKept, Entry, IsSome, KeepsOthersThan, None, Some, Vols, [], ap, count_by, count_freed, entry_of, entry_within, flags_given, get_or-set_other, get_or-set_same, given_back, is_some, length, map_at, map_some, put_here, put_other, records_at, uid_at, used_at, vtoc_at, vtoc_within, ℕ, ◌+◌, ◌<◌, ◌∙◌, ◌≡◌}
use Rattle.seg_mover.proofs.Records.{count_given, gives}

-- what the volumes were, and what they are now
pub record Gives {D : Type 0} (old now : Vols D) (home : ℕ × ℕ) : Type 0 where
  pub used : IsSome (entry_of old home)
  pub kept : AreKept (records_at old home.0) (map_at old home)
  pub there : home.0 < length old.records
  pub is : now ≡ given_back old home

module _ {D : Type 0} {old now : Vols D} {home : ℕ × ℕ} (h : Gives old now home) where
  pub given_others : KeepsOthersThan old now home
  given_others = record {
    drives = cc;
    records = λ v other. ap (λ (s : Vols _). records_at s v) h.is ∙ get_or-set_other old.records home.0 v _ [] other;
    entries = λ v e other. cc (put_other old.vtocs home.0 home.1 None None v e (vtoc_within old home h.used) other);
  }

  pub given_free : entry_of now home ≡ None
  given_free = rw h.is
      (put_here old.vtocs home.0 home.1 None None (vtoc_within old home h.used) (entry_within old home h.used))

  flags_are : records_at now home.0 ≡ flags_given (records_at old home.0) (map_at old home)
  flags_are = rw h.is (get_or-set_same old.records home.0
      (flags_given (records_at old home.0) (map_at old home)) [] h.there)

  pub given_adds : AddsRecords (records_at now home.0) (records_at old home.0) (map_at old home)
  given_adds = rw flags_are (gives (records_at old home.0) (map_at old home) h.kept)

  pub given_count : used_at now home.0 + count_by is_some (map_at old home) ≡ used_at old home.0
  given_count = rw flags_are (count_given (records_at old home.0) (map_at old home) h.kept)

  pub given_entries : count_by is_some (vtoc_at now home.0) + 1 ≡ count_by is_some (vtoc_at old home.0)
  given_entries = rw (h.is, get_or-set_same old.vtocs home.0 _ [] (vtoc_within old home h.used))
      (count_freed (vtoc_at old home.0) home.1 h.used)

pub gives_home : {D : Type 0} {old : Vols D} {uid : ℕ} {home : ℕ × ℕ} (now : Vols D) → uid_at old home ≡ Some uid
    → AreKept (records_at old home.0) (map_at old home)
    → home.0 < length old.records → now ≡ given_back old home → Gives old now home
gives_home {old = old} {uid = uid} {home = home} now used kept there is =
    record { used = map_some (λ (e : Entry). e.uid) (entry_of old home) uid used; kept = kept; there = there; is = is }
