-- A VTOC entry at a home is changed.
use Rattle.storage_ops.proofs.Prelude.{◌≡◌, ◌≢◌, ℕ, zero, suc, ◌+◌, Bool, true, cond, List, [], ◌∷◌, set, get_or, Option, Some, None, is_some, refl, ap, arith, inl, inr, count_by, cases_eq, get_or-set_other, get_or-set_same, sum_by-cons, entry_at, records_in, with_record, Home, map_at, uid_at, vtoc_in, VtocEntry as Entry, Vtoc_uid_of as uid_of}
use Rattle.storage_ops.proofs.Tables.{homed_entry, homed_volume}
use Rattle.page_control.proofs.Places.{same_uid}

-- the entry at a home becomes this
abbrev pub entry_put : List (List (Option Entry)) → Home → Option Entry → List (List (Option Entry))
entry_put vtocs home x = set vtocs home.volume (set (vtoc_in vtocs home.volume) home.entry x)

abbrev pub entry_there : List (List (Option Entry)) → Home → Option Entry
entry_there vtocs home = entry_at (vtoc_in vtocs home.volume) home.entry

both_same : {a b : Home} → a.volume ≡ b.volume → a.entry ≡ b.entry → a ≡ b
both_same v e = λ i. record { volume = v i; entry = e i }

-- what is told of each entry, once one is changed
pub entry_told : (vtocs : List (List (Option Entry))) (home : Home) (u : ℕ) (x : Option Entry)
    (P : Option Entry → Type 0) (other : Home) → uid_at vtocs home ≡ Some u → (other ≡ home → P x)
    → (other ≢ home → P (entry_there vtocs other)) → P (entry_there (entry_put vtocs home x) other)
entry_told vtocs home u x P other used here there = elim (cases_eq other.volume home.volume) [
  | inr ne ↦ rw (get_or-set_other vtocs home.volume other.volume (set (vtoc_in vtocs home.volume) home.entry x) [] ne)
      (there (λ same. ne (cc)))
  | inl v ↦ rw (
    v,
    get_or-set_same vtocs home.volume (set (vtoc_in vtocs home.volume) home.entry x) [] (homed_volume vtocs home used),
  ) (elim (cases_eq other.entry home.entry) [
    | inr ne ↦ rw (get_or-set_other (vtoc_in vtocs home.volume) home.entry other.entry x None ne)
        (rw v at (there (λ same. ne (cc))))
    | inl e ↦ rw (e, get_or-set_same (vtoc_in vtocs home.volume) home.entry x None (homed_entry vtocs home used))
        (here (both_same v e))
  ])
]

record_map : (o : Option Entry) (q u : ℕ) (r : Option ℕ) → uid_of o ≡ Some u
    → records_in (with_record o q r) ≡ set (records_in o) q r
record_map None q u r e = cc
record_map (Some x) q u r e = refl

-- the file map at a home names another record for a page, or none
abbrev pub map_put : List (List (Option Entry)) → Home → ℕ → Option ℕ → List (List (Option Entry))
map_put vtocs home q r = entry_put vtocs home (with_record (entry_there vtocs home) q r)

module _ (vtocs : List (List (Option Entry))) (home : Home) {u : ℕ} (q : ℕ) (r : Option ℕ)
    (used : uid_at vtocs home ≡ Some u) where
  pub put_uid : (other : Home) → uid_at (map_put vtocs home q r) other ≡ uid_at vtocs other
  put_uid other = entry_told vtocs home u (with_record (entry_there vtocs home) q r)
      (λ (o : Option Entry). uid_of o ≡ uid_at vtocs other) other used
      (λ same. cc (same_uid (entry_there vtocs home) q r)) (λ ne. refl)

  pub put_other : (other : Home) → other ≢ home → map_at (map_put vtocs home q r) other ≡ map_at vtocs other
  put_other other apart = entry_told vtocs home u (with_record (entry_there vtocs home) q r)
      (λ (o : Option Entry). records_in o ≡ map_at vtocs other) other used (λ same. absurd (apart same)) (λ ne. refl)

  pub put_here : map_at (map_put vtocs home q r) home ≡ set (map_at vtocs home) q r
  put_here = entry_told vtocs home u (with_record (entry_there vtocs home) q r)
      (λ (o : Option Entry). records_in o ≡ set (map_at vtocs home) q r) home used
      (λ same. record_map (entry_there vtocs home) q u r used) (λ ne. absurd (ne refl))

-- a record named less
pub one_named : (xs : List (Option ℕ)) (q : ℕ) → is_some (get_or xs q None) ≡ true
    → count_by is_some (set xs q None) + 1 ≡ count_by is_some xs
one_named [] q on = cc
one_named (x ∷ xs) zero on =
    let old = sum_by-cons (λ (y : Option ℕ). cond (is_some y) 1 0) x xs in
    let new = sum_by-cons (λ (y : Option ℕ). cond (is_some y) 1 0) None xs in
    let one = ap (λ (z : Bool). cond {A = ℕ} z 1 0) on in
    omega arith
one_named (x ∷ xs) (suc q) on =
    let ih = one_named xs q on in
    let old = sum_by-cons (λ (y : Option ℕ). cond (is_some y) 1 0) x xs in
    let new = sum_by-cons (λ (y : Option ℕ). cond (is_some y) 1 0) x (set xs q None) in
    omega arith
