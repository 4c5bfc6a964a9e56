-- What a processor is to do, in a machine that keeps its promise.
use Rattle.machine.proofs.Prelude.{ℕ, ◌≡◌, true, Action, no_call, Keeps, AsksMover, moving_fits, Knows, step_knows, Parts, IsSound, IsBusy, MayDo, is_of_process}
use Rattle.machine.proofs.Busy.{busy_of}
use Rattle.machine.proofs.Found.{Found, found_of}

-- Processor c of a machine that keeps its promise is to do this, and the book has room for it.
pub record Does {D : Type 0} (t : Parts D) (c : ℕ) (a : Action) : Type 0 where
  pub sound : IsSound t
  pub may : MayDo t.state c a

-- as it is asked of the machine that is seen from outside
pub does : {D : Type 0} {t u : Parts D} {c : ℕ} {a : Action} → t ≡ u → IsSound t → MayDo u.state c a → Does t c a
does same sound may = record { sound = sound; may = rw same may }

module _ {D : Type 0} {t : Parts D} {c : ℕ} {a : Action} (d : Does t c a) where
  pub keeps_of : Keeps t.state
  keeps_of = d.sound.keeps.machine.keeps

  -- what the rules found
  pub found : Found t.state c a
  found = found_of t.state c d.sound.keeps.machine d.may.there a d.may.doing

  pub knows : Knows t.state c a
  knows = rw d.may.doing at (step_knows t.state c (no_call t.state) d.sound.keeps.machine d.may.there
      d.sound.keeps.working)

  pub busy : is_of_process a ≡ true → IsBusy t.state c
  busy = busy_of t.state c keeps_of d.sound.keeps.reading d.may.there a d.may.doing

  -- what the action asks of the move that segment control has under way
  pub still_for : AsksMover a t.state.store.moving
  still_for = moving_fits t.state c a d.sound.keeps.machine d.may.doing
