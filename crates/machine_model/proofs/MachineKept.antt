-- A machine that keeps its promise keeps it through each step, where the calls of its store do what they say.
use Rattle.machine_model.proofs.StepBasics.{◌<◌, ℕ, length, sym, ap, subst, ◌∙◌, IsPlan, Plan, action_of, Outcome, after, Keeps, AsksMover, mover_of, IsMachine, KeepsAll, Says, State, next_command, process_at, IsEntitledToAll, IsReading, IsWorking, Action, Action as act, MayEntitle, entitled_kept, action_asks, tie_kept, schedule_kept, CanDo, after_keeps}
use Rattle.machine_model.proofs.CommitRights.{commit_entitled, moved_entitled}
use Rattle.machine_model.proofs.PoolsKept.{SamePools, pools_kept}
use Rattle.machine_model.proofs.RulesKept.{action_can}
use Rattle.machine_model.proofs.FitsKept.{fits_kept}
use Rattle.machine_model.proofs.StepAsks.{step_asks}
use Rattle.machine_model.proofs.ReadKept.{IsPast, is_past, reading_kept}
use Rattle.machine_model.proofs.StepGoes.{comes, may_read, may_schedule, may_work}
use Rattle.machine_model.proofs.StepKnows.{Knows, step_knows}
use Rattle.machine_model.proofs.WorkStep.{work_kept}

-- what is kept by each action
record KeepsMost (now : State) : Type 0 where
  machine : IsMachine now
  entitled : IsEntitledToAll now
  reading : IsReading now
  working : IsWorking now

module _ (s : State) (c : ℕ) (o : Outcome) (all : KeepsAll s) (there : c < length s.processors) where
  abbrev m : IsMachine s
  m = all.machine

  entitles : (a : Action) → Keeps (after s c a o) → MayEntitle s c o a
  unfolding after
  entitles act.Commit kept = commit_entitled s c m.keeps there all.entitled (next_command s (process_at s c)) kept
  entitles (act.CommitMove x) kept = moved_entitled s c m.keeps there all.entitled x
  entitles _ kept = tt

  -- an action that may be done, of which the rules know what they do
  done : (a : Action) → CanDo s c o a → Knows s c a → IsPast s c a → AsksMover a (mover_of s.owner)
      → KeepsMost (after s c a o)
  done a can knows past fits = record {
    machine = record {
      keeps = keeps;
      script = subst IsPlan (sym pools.plan) m.script;
      come = comes s c o m there all.reading a can knows;
      scheduled = schedule_kept s c o m.scheduled there a (may_schedule s c o m there all.reading a can knows);
      pools = pools.sizes ∙ (m.pools ∙ ap (λ (p : Plan). p.pools) (sym pools.plan));
      moving = tie_kept s c o m.moving a fits;
    };
    entitled = entitled_kept s c o m.keeps there all.entitled a can (entitles a keeps);
    reading = reading_kept s c o m there all.reading a (may_read s c o m there all.reading a can knows past) keeps;
    working = work_kept c o m all.working a (may_work s c o m there all.reading a can knows) keeps;
  }
    where
      keeps : Keeps (after s c a o)
      keeps = after_keeps c o a m.keeps there can

      pools : SamePools s (after s c a o)
      pools = pools_kept s c a o

  -- Each step keeps the whole promise, whichever processor makes it.
  pub step_keeps_all : Says s c o (action_of s c) → KeepsAll (after s c (action_of s c) o)
  step_keeps_all says = record {
    machine = most.machine;
    entitled = most.entitled;
    reading = most.reading;
    working = most.working;
    fitting = fits_kept s c o m all.entitled all.reading all.working all.fitting there most.machine most.reading;
  }
    where
      most : KeepsMost (after s c (action_of s c) o)
      most = done (action_of s c)
          (action_can s c o m.keeps there (step_asks s c o m there all.entitled all.reading all.working says))
          (step_knows s c o m there all.working) (is_past s c) (action_asks s c)
