-- The pools of the active segment table stay those of the script through every action.
use Rattle.machine_model.proofs.Prelude.{◌≡◌, ℕ, Option, Some, None, refl, Command, Outcome, after, committed, committed_at, with_effect, uid_of_command, write_failed, frames_of_owner, next_command, process_at, State, Command as command, Aim as aim, Action, Action as act}
use Rattle.machine_model.proofs.ActionCases.{by_end}
use Rattle.machine_model.proofs.JobStays.{Stays, all_taken, emptying, evicting, is_back, is_emptied, emptying_victim}
use Rattle.machine_model.proofs.EffectLaws.{effect_rests}

-- the script, the sizes of the pools, whether the machine was stopped, and how many frames were visited are as before
pub record SamePools (s t : State) : Type 0 where
  pub plan : t.plan ≡ s.plan
  pub stopped : t.stopped ≡ s.stopped
  pub visited : t.visited ≡ s.visited
  pub sizes : t.store.ast.sizes ≡ s.store.ast.sizes

pools_stay : {s t : State} → t.plan ≡ s.plan → t.stopped ≡ s.stopped → t.visited ≡ s.visited
    → t.store.ast.sizes ≡ s.store.ast.sizes → SamePools s t
pools_stay plan stopped visited sizes = assumption

on : {s t u : State} → SamePools s t → SamePools t u → SamePools s u
on a b = pools_stay (cc) (cc) (cc) (cc)

pools_of : {s t : State} → Stays s t → SamePools s t
pools_of h = assumption

-- a write failed
failed : (s : State) (c faults : ℕ) → SamePools s (write_failed s c faults)
failed s c faults = on (pools_of (is_back s c faults)) (pools_stay refl refl refl refl)

-- ---- a command takes effect

committed_same : (s : State) (c k : ℕ) (cmd : Command) → SamePools s (committed s c k cmd)
committed_same s c k cmd =
    by cmd (effect_rests s.store k (uid_of_command s.store k cmd) (frames_of_owner s.owner) cmd).sizes
  where
    by : (x : Command)
        → (with_effect s.store k (uid_of_command s.store k x) (frames_of_owner s.owner) x).ast.sizes ≡ s.store.ast.sizes
        → SamePools s (committed s c k x)
    by command.End e = pools_stay refl refl refl e
    by _ e = pools_stay refl refl refl e

commits : (s : State) (c : ℕ) (x : Option Command) → SamePools s (committed_at s c x)
commits s c None = pools_stay refl refl refl refl
commits s c (Some cmd) = committed_same s c (process_at s c) cmd

-- ---- each action

pub pools_kept : (s : State) (c : ℕ) (a : Action) (o : Outcome) → SamePools s (after s c a o)
unfolding after
pools_kept s c (act.EndTransfer t) o = by_end (SamePools s) o _ _ (λ e. assumption) (λ e. assumption)
pools_kept s c (act.Evict f) o = pools_of (evicting s c f)
pools_kept s c (act.Empty u) o = pools_of (emptying s c u)
pools_kept s c (act.EmptyVictim pool chain u) o = pools_of (emptying_victim s c pool chain u)
pools_kept s c (act.TakeAway fs pairs w) o = pools_of (all_taken s c aim.Committing w fs pairs)
pools_kept s c (act.CopyPage m page) o = by_end (SamePools s) o _ _ (λ e. assumption) (λ e. assumption)
pools_kept s c (act.FinishEviction f) o = by_end (SamePools s) o _ _ (λ e. assumption) (λ e. failed s c o.faults)
pools_kept s c (act.FinishPage f) o = by_end (SamePools s) o _ _ (λ e. assumption) (λ e. failed s c o.faults)
pools_kept s c (act.Deactivate u) o = pools_of (is_emptied s c u)
pools_kept s c act.Commit o = commits s c (next_command s (process_at s c))
pools_kept s c _ o = pools_stay refl refl refl refl
