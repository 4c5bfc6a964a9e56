use Rattle.machine.proofs.Prelude.{refl, ap, after, Turn as turn}
use Rattle.machine.proofs.StepDone.{quiet_turn, why_told}
use Rattle.machine.proofs.machine.Machine.act.Goals as goal

pub returns-in-IsStopped : goal.returns-in-IsStopped
unfolding after
returns-in-IsStopped g c = quiet_turn refl (rw c.in-IsStopped.is at c.requires) refl refl refl (refl, refl) refl

pub returns-in-HasEnded : goal.returns-in-HasEnded
unfolding after
returns-in-HasEnded g c = quiet_turn refl (rw c.in-HasEnded.is at c.requires) refl refl refl (refl, refl) refl

pub returns-in-Waits : goal.returns-in-Waits
unfolding after
returns-in-Waits g c = quiet_turn refl (rw c.in-Waits.is at c.requires) refl refl (ap turn.Waits (why_told _))
    (refl, refl) refl
