-- What is told of a step, by its turn.
use Rattle.machine.proofs.Prelude.{◌<◌, ℕ, length, ap, ◌∙◌, arith, action_of, after, State, calls_drive, process_at, entries_after, HasTold, faults_after, pools_kept, Parts, IsSound, Appends, Changes, IfMoved, IsTurn, KeepsParts, TellsFaults, Turn}
use Rattle.machine.proofs.CallLaws.{are_told, told_alike}
use Rattle.machine.proofs.MovedLaws.{moved_changes}
use Rattle.machine.proofs.TurnLaws.{told_moves}

module _ {D X : Type 0} {plan : D → X} {places faults : D → ℕ} {old new : Parts D} {c : ℕ} {answer : Turn}
    (sound : IsSound old) (there : c < length old.state.processors)
    (made : IsTurn plan places faults old new c answer) where
  pub step_appends : Appends old.state.entries new.state.entries 320
  step_appends = let booked = entries_after old.state c made.step.outcome sound.keeps there in record {
    more = booked.more;
    entries = cc;
    few = booked.few;
  }

  -- what is done changes something
  pub step_changes : IfMoved answer (Changes old.state new.state)
  step_changes = grind (arith, told_moves, moved_changes)

  pub step_faults : TellsFaults faults old new (process_at old.state c)
  step_faults = record {
    more = told.booked.more;
    entries = ap (λ (s : State). s.entries) made.step.done ∙ told.booked.entries;
    told = are_told old.state (action_of old.state c) made.step.outcome.failed made.step.calls_are told.right.few
        told.right.only told.right.each;
    its = told.right.its;
    later = told.right.later;
  }
    where
      told : HasTold old.state (after old.state c (action_of old.state c) made.step.outcome) c
          (calls_drive (action_of old.state c)) made.step.outcome.failed
      told = faults_after old.state c made.step.outcome sound.keeps there

  pub step_keeps : KeepsParts plan places faults old new
  step_keeps = assumption (
    ap (λ (s : State). s.plan) made.step.done ∙ (pools_kept old.state c (action_of old.state c) made.step.outcome).plan,
    told_alike faults old new step_faults.more step_faults.entries made.step.count step_faults.told,
  )

-- a processor of the script is one of the machine's
pub processor_there : {D : Type 0} {t : Parts D} {c : ℕ} → IsSound t → c < t.state.plan.processors
    → c < length t.state.processors
processor_there sound within = omega arith
