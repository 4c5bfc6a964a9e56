-- What an answer tells.
use Rattle.machine.proofs.Prelude.{◌≡◌, ℕ, false, refl, State, moves, is_moved, IfStill, turn_of, Turn, Turn as turn, Action, Action as act}

-- an answer tells of a move just where something is done
pub told_moves : (s : State) (c : ℕ) (a : Action) → is_moved (turn_of s c a) ≡ moves a
told_moves s c act.IsStopped = refl
told_moves s c a = refl

-- where nothing was done, nothing changed
pub still_of : (x : Turn) {P : Type 0} → is_moved x ≡ false → IfStill x P → P
still_of (turn.Moved point) moved h = cc
still_of _ moved h = h
