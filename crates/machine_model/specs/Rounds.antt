-- The loop that makes the machine end, said of machines: what each of its turns does (own).
use Rattle.std.specs.Prelude.{◌≡◌, ℕ, false, Some}
use Rattle.machine_model.specs.Actions.{action_of}
use Rattle.machine_model.specs.After.{Outcome, after}
use Rattle.machine_model.specs.Promise.{KeepsAll}
use Rattle.machine_model.specs.State.{Owner, State}

-- a machine that keeps its promise and wasn't stopped
pub record IsGoing (s : State) : Type 0 where
  pub keeps : KeepsAll s
  pub on : s.stopped ≡ false

-- a processor has made its step
pub record HasStepped (s t : State) (c : ℕ) : Type 0 where
  pub outcome : Outcome
  pub done : t ≡ after s c (action_of s c) outcome

-- a processor owns the supervisor
pub record IsOwnedBy (s : State) (c : ℕ) : Type 0 where
  pub owner : Owner
  pub mine : s.owner ≡ Some owner
  pub cpu : owner.cpu ≡ c
