-- Steps of writing the processes of a script (own).
use Rattle.script.proofs.Prelude.{◌≡◌, ℕ, ◌+◌, ◌<◌, ◌≤◌, Bool, false, List, ◌++◌, length, drop, append_assoc, slice_index_or, ProcessPlan, process_text, processes_text, VolumeLine}
use Rattle.script.proofs.SmallLaws.{left_at, nil_after, none_left}

-- one more process is written
pub process_next : (volumes : List VolumeLine) (first : Bool) (xs : List ProcessPlan) (i : ℕ) (x : ProcessPlan)
    (old new all : List ℕ) → i < length xs → x ≡ slice_index_or xs i x → new ≡ old ++ process_text volumes first x
    → old ++ processes_text volumes first (drop i xs) ≡ all → new ++ processes_text volumes false (drop (i + 1) xs)
    ≡ all
unfolding processes_text
process_next volumes first xs i x old new all lt e pushed h =
    rw (pushed, append_assoc) (rw (left_at xs i x lt e) at h)

pub processes_end : (volumes : List VolumeLine) (first : Bool) (xs : List ProcessPlan) (i : ℕ) (out all : List ℕ)
    → length xs ≤ i → out ++ processes_text volumes first (drop i xs) ≡ all → out ≡ all
unfolding processes_text
processes_end volumes first xs i out all end h = rw (none_left xs i end, nil_after out) at h
