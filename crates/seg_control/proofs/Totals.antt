-- How much of each volume is in use after a move is committed.
use Rattle.seg_control.proofs.Prelude.{AreKept, Home, IsSome, List, None, Option, Some, Vols, VtocEntry, [], arith, cond, count_by, count_given, entry_of, entry_within, eqb_tells, false, get_or, get_or-set_same, given_back, inl, inr, is_some, length, map_some, mover_map, mover_uid, named_on, records_at, refl, set, suc, sum_by-cons, sum_by-set, sym, taken, used, vtoc_at, vtoc_entry as entry_at, vtoc_within, ℕ, ◌+◌, ◌<◌, ◌∷◌, ◌≡◌, ◌≢◌}
pub use Rattle.seg_control.proofs.Aside.{AreAside, IsAside, filed_less, given_here, home_adds, map_same, not_free, tie_less, tie_more, uid_same, words_same}

-- ---- file maps that name the same pages

count_none : (places : List (Option ℕ)) → ((p : ℕ) → is_some (get_or places p None) ≡ false)
    → count_by is_some places ≡ 0
count_none [] none = refl
count_none (place ∷ places) none =
    rw (sum_by-cons (λ (x : Option ℕ). cond {A = ℕ} (is_some x) 1 0) place places, none 0)
    (omega (arith, count_none places (λ p. none (suc p))))

pub count_same : (places those : List (Option ℕ)) → ((p : ℕ)
    → is_some (get_or places p None) ≡ is_some (get_or those p None)) → count_by is_some places ≡ count_by is_some those
count_same [] those same = sym (count_none those (λ p. sym (same p)))
count_same (place ∷ places) [] same = count_none (place ∷ places) same
count_same (place ∷ places) (x ∷ those) same = rw (
  sum_by-cons (λ (x : Option ℕ). cond {A = ℕ} (is_some x) 1 0) place places,
  sum_by-cons (λ (x : Option ℕ). cond {A = ℕ} (is_some x) 1 0) x those,
  same 0,
  count_same places those (λ p. same (suc p)),
)

-- a file map names no record of another volume
pub named_elsewhere : (vtocs : List (List (Option VtocEntry))) (home : Home) (v : ℕ) → v ≢ home.volume
    → named_on vtocs home v ≡ 0
unfolding named_on
named_elsewhere vtocs home v other = elim (eqb_tells v home.volume) [
  | inl same ↦ absurd (other same.1)
  | inr is ↦ rw is.0
]

-- ---- a home that is given up

-- its records are free
pub taken_given : {D : Type 0} (vols : Vols D) (home : ℕ × ℕ) → AreKept (records_at vols home.0) (mover_map vols home)
    → taken (given_back vols home).records home.0 + count_by is_some (mover_map vols home) ≡ taken vols.records home.0
taken_given vols home kept = rw (given_here vols.records home.0 (mover_map vols home))
    (count_given (records_at vols home.0) (mover_map vols home) kept)

-- and so is its entry
entry_less : (table : List (Option VtocEntry)) (e : ℕ) → e < length table → IsSome (entry_at table e)
    → count_by is_some (set table e None) + 1 ≡ count_by is_some table
entry_less table e lt some =
    let step = sum_by-set (λ (entry : Option VtocEntry). cond {A = ℕ} (is_some entry) 1 0) table e None None lt in
    let one : cond {A = ℕ} (is_some (get_or table e None)) 1 0 ≡ 1 = rw some refl in
    omega arith

pub used_given : {D : Type 0} (vols : Vols D) (home : ℕ × ℕ) (uid : ℕ) → mover_uid vols home ≡ Some uid
    → used (given_back vols home).vtocs home.0 + 1 ≡ used vols.vtocs home.0
used_given vols home uid is =
    let some = map_some (λ (e : VtocEntry). e.uid) (entry_of vols home) uid is in
    rw (get_or-set_same vols.vtocs home.0 (set (vtoc_at vols home.0) home.1 None) [] (vtoc_within vols home some))
    (entry_less (vtoc_at vols home.0) home.1 (entry_within vols home some) some)
