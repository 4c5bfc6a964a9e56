-- A drive in core without lines never fails.
use Rattle.bulk_store.proofs.Prelude.{CountsBoth, DriveState, Err, IfNone, IfSome, IsOk, IsOneMore, None, Ok, OnErr, OnOk, Option, Result, Rose, Some, [], arith, false, faults_of, inl, inr, named_none, refl, true, ℕ, ◌≡◌, ◌⊎◌}

no_faults : (d : DriveState) → d.fails ≡ [] → faults_of d ≡ 0
no_faults d none = rw none (omega (arith, named_none false d.reads, named_none true d.writes))

pub never_rises : (old now : DriveState) → old.fails ≡ [] → Some now.fails ≡ Some old.fails
    → Rose (faults_of old) (faults_of now) → ⊥
never_rises old now none same rose =
    let also : now.fails ≡ [] = cc in
    omega (arith, no_faults old none, no_faults now also)

-- a call that fails for no cause is done
pub sure_call : {T E P : Type 0} (result : Result T E) → (P → ⊥) → OnErr result P → IsOk result
sure_call (Ok v) never cause = refl
sure_call (Err e) never cause = absurd (never cause)

-- and one that fails by this drive or that, by that one
pub other_cause : {T E : Type 0} (P Q : Type 0) (result : Result T E) → (P → ⊥) → OnErr result (P ⊎ Q) → OnErr result Q
other_cause P Q (Ok v) never cause = tt
other_cause P Q (Err e) never (inl p) = absurd (never p)
other_cause P Q (Err e) never (inr q) = q

-- a read of what is held is done
pub sure_read : {T E P : Type 0} (place : Option ℕ) (result : Result T E) → (P → ⊥)
    → OnErr result (IfSome place (λ _. P)) → IfSome place (λ _. IsOk result)
sure_read None result never cause = tt
sure_read (Some p) result never cause = sure_call result never cause

-- so a read fails by the disk
pub read_cause : {T E : Type 0} (P Q : Type 0) (place : Option ℕ) (result : Result T E) → (P → ⊥)
    → OnErr result (IfSome place (λ _. P)) → OnErr result (IfNone place Q) → OnErr result Q
read_cause P Q place (Ok v) never held other = tt
read_cause P Q None (Err e) never held other = other
read_cause P Q (Some p) (Err e) never held other = absurd (never held)

-- where only the disk may fail, the counts of both are its own
pub disk_told : {T E : Type 0} {fast fast' disk disk' : ℕ} {result : Result T E}
    → CountsBoth fast fast' disk disk' result → OnOk result (disk' ≡ disk)
disk_told {result = Ok v} counts = counts.told.1
disk_told {result = Err e} counts = tt

pub disk_once : {T E : Type 0} {fast fast' disk disk' : ℕ} {result : Result T E} → (Rose fast fast' → ⊥)
    → CountsBoth fast fast' disk disk' result → OnErr result (IsOneMore disk disk')
disk_once {result = Ok v} never counts = tt
disk_once {result = Err e} never counts = elim counts.once [
  | inl by_fast ↦ absurd (never by_fast.1)
  | inr by_disk ↦ by_disk.0
]
