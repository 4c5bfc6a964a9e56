-- What a step has done, by what the call for its action says.
use Rattle.machine.proofs.Prelude.{map, Bool, CallsAs, IfStill, IsTurn, MayDo, OnErr, Parts, Result, Rose, State, Turn, Why, after, ap, arith, calls_drive, cond, false, length, no_call, outcome_of, refl, true, turn_of, why_by, why_of, with_faults, with_state, ℕ, ◌∙◌, ◌≡◌, ◌≤◌, Why as why, Action}
use Rattle.machine.proofs.CallLaws.{outcome_tells}
use Rattle.machine.proofs.CountsKept.{tally_kept}

-- an action that makes no call of a drive leaves the drives' count
quiet_faults : (s : State) (c : ℕ) (a : Action) → (after s c a (no_call s)).faults ≡ s.faults
quiet_faults s c a = ap (λ (n : (ℕ × ℕ) × ℕ). n.1) (tally_kept s c a (no_call s)) ∙ by (calls_drive a)
  where
    by : (b : Bool) → (cond b (with_faults s s.faults) s).faults ≡ s.faults
    by true = refl
    by false = refl

module _ {D X : Type 0} {plan : D → X} {places faults : D → ℕ} {t u new : Parts D} {c : ℕ} {a : Action} {r : Turn}
    (same : t ≡ u) (may : MayDo u.state c a) where
  -- the turn of such an action
  pub quiet_turn : {v : State} → new ≡ with_state t v → v ≡ after t.state c a (no_call t.state)
      → r ≡ turn_of t.state c a → CallsAs faults t.state a t.drives t.drives false → IfStill r (new ≡ t)
      → IsTurn plan places faults u new c r
  quiet_turn {v} is state answer calls still = grind (arith, quiet_faults)

  -- the turn of one that calls a drive, or two
  pub drive_turn : {T E : Type 0} (x : Result T E) → new.state ≡ after t.state c a (outcome_of x new.state.faults)
      → r ≡ turn_of t.state c a → CallsAs faults t.state a t.drives new.drives (outcome_of x new.state.faults).failed
      → map plan new.drives ≡ map plan t.drives → map places new.drives ≡ map places t.drives
      → length new.drives ≡ length t.drives → new.room ≡ t.room
      → (t.state.faults ≤ new.state.faults) × OnErr x (Rose t.state.faults new.state.faults) → IfStill r (new ≡ t)
      → IsTurn plan places faults u new c r
  drive_turn x state answer calls plans stores count room counts still = grind (arith, outcome_tells)

-- what is waited for, as it is told
pub why_told : (w : Why) → w ≡ why_by (why_of w)
why_told (why.ForOwner cpu) = refl
why_told _ = refl
