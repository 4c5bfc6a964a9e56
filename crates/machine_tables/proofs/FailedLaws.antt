-- The write of a page failed: what was taken is back.
use Rattle.machine_tables.proofs.Prelude.{◌≡◌, ℕ, List, [], ◌∷◌, refl, Result, Err, Left, CutDescriptor, by_outcome, page_back, pages_back, seg_back, segs_back, write_failed, State, Parts, outcome_of, with_drives, with_state, arith}

faults_pages : (s : State) (fs : List ℕ) → (pages_back s fs).faults ≡ s.faults
faults_pages s [] = refl
faults_pages s (f ∷ fs) = faults_pages (page_back s f) fs

faults_segs : (s : State) (ds : List CutDescriptor) → (segs_back s ds).faults ≡ s.faults
faults_segs s [] = refl
faults_segs s (d ∷ ds) = faults_segs (seg_back s d) ds

failed_faults : (s : State) (c faults : ℕ) → (write_failed s c faults).faults ≡ faults
failed_faults s c faults = grind (arith, faults_segs, faults_pages)

failed_state : {D : Type 0} (old mid new : Parts D) (c faults : ℕ) (drives : List D)
    → mid ≡ with_drives old drives faults
    → new ≡ with_state mid (write_failed mid.state c mid.state.faults) → new.state ≡ write_failed old.state c faults
failed_state old mid new c faults drives is failed = grind arith

-- the machine after a failed write
pub failed_outcome : {D E : Type 0} (old mid new : Parts D) (c faults : ℕ) (drives : List D) (done : State)
    (r : Result Left E) (e : E) → r ≡ Err e → mid ≡ with_drives old drives faults
    → new ≡ with_state mid (write_failed mid.state c mid.state.faults)
    → new.state ≡ by_outcome (outcome_of r new.state.faults) done (write_failed old.state c new.state.faults)
failed_outcome old mid new c faults drives done r e ill is failed = grind (arith, failed_state, failed_faults)
