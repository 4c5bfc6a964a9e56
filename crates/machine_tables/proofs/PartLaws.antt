-- Tables of which a loop changes the machine's state alone.
use Rattle.machine_tables.proofs.Prelude.{◌≡◌, ℕ, List, Stored, State, Storage, with_store, Parts, shown, with_state, with_stored, arith}

pub rest_next : {D : Type 0} (s t first : Parts D) (x : State) → s ≡ with_state first s.state → t ≡ with_state s x
    → t ≡ with_state first t.state
rest_next s t first x rest is = cc

pub state_of : {D : Type 0} (s t : Parts D) (x : State) → t ≡ with_state s x → t.state ≡ x
state_of s t x is = cc

pub rest_end : {D : Type 0} (s first : Parts D) (x : State) → s ≡ with_state first s.state → s.state ≡ x
    → s ≡ with_state first x
rest_end s first x rest is = cc

-- the tables of such a loop, and what holds of the state
pub record Going {D : Type 0} (On : State → State → Type 0) (now first : Parts D) : Type 0 where
  pub on : On now.state first.state
  pub rest : now ≡ with_state first now.state

pub going : {D : Type 0} {On : State → State → Type 0} {now first : Parts D} → On now.state first.state
    → now ≡ with_state first now.state → Going On now first
going on rest = assumption

pub going_next : {D : Type 0} {On Next : State → State → Type 0} (s t first : Parts D) (x : State) → Going On s first
    → t ≡ with_state s x → (t.state ≡ x → Next t.state first.state) → Going Next t first
going_next s t first x going is on = assumption (on (state_of s t x is), rest_next s t first x going.rest is)

-- the same tables over another store, whose drives are as before
pub stored_is : {D : Type 0} (pages : D → List (List ℕ)) (faults : D → ℕ) (x now : Parts D) (t u : Stored D)
    (change : Storage → Storage) → x ≡ now → x ≡ with_stored x pages faults t
    → shown pages u ≡ change (shown pages t) → u.segs.pages.volumes.drives ≡ t.segs.pages.volumes.drives
    → with_stored x pages faults u ≡ with_state now (with_store now.state (change now.state.store))
stored_is {D} pages faults x now t u change view is changed drives = grind arith
