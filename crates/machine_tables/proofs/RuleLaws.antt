-- The rules of a step, in their order.
use Rattle.machine_tables.proofs.Prelude.{◌≡◌, ◌≤◌, ℕ, true, false, length, List, Some, refl, IsSome, action_of, has_process, is_over, IsActive, Mover, table_of, Keeps, mover_of, cpu_at, processor_at, State, CutDescriptor, over_idle, table_few, active_at, rule_of, owner_by, owner_of, Holder, Action as act, arith}
use Rattle.machine_model.specs.declared.Phase.{Phase as phase}

pub stopped_rule : (s : State) (c : ℕ) → s.stopped ≡ true → act.IsStopped ≡ action_of s c
unfolding action_of
stopped_rule s c stopped = rw stopped refl

pub over_rule : (s : State) (c : ℕ) → s.stopped ≡ false → is_over s ≡ true → act.HasEnded ≡ action_of s c
unfolding action_of
over_rule s c going over = rw (going, over) refl

pub work_rule : (s : State) (c : ℕ) → s.stopped ≡ false → is_over s ≡ false
    → rule_of s c (processor_at s.processors c) ≡ action_of s c
unfolding action_of
work_rule s c going work = rw (going, work) refl

-- the owner of the supervisor has a process
pub owner_busy : (s : State) (c : ℕ) (h : Holder) (frames : List ℕ) (cut : List CutDescriptor) → Keeps s
    → s.owner ≡ owner_of (Some h) frames cut → h.cpu ≡ c → IsSome (cpu_at s.processors c).process
owner_busy s c h frames cut keeps is here = rw (← here) (keeps.at_work (owner_by h frames cut) is).busy

-- a segment that the owner moves is active
pub moved_active : (s : State) (h : Holder) (frames : List ℕ) (cut : List CutDescriptor)
    → s.store.moving ≡ mover_of s.owner → ((m : Mover) → s.store.moving ≡ Some m → IsActive s.store.ast.entries m.uid)
    → s.owner ≡ owner_of (Some h) frames cut → (m : Mover) → h.phase ≡ phase.Moving m
    → IsActive s.store.ast.entries m.uid
moved_active s h frames cut moving active is m moves = active m (cc)

-- and its page table has 256 words at the most
pub moved_short : (s : State) (keeps : Keeps s) (m : Mover) → IsActive s.store.ast.entries m.uid
    → length (table_of s.store.ast m.uid) ≤ 256
moved_short s keeps m active = table_few s m.uid keeps (active_at s.store.ast active.0 m.uid active.1)

-- where a processor has a process, some process is running
pub busy_goes_on : (s : State) (c : ℕ) → has_process (processor_at s.processors c) ≡ true → is_over s ≡ false
busy_goes_on s c busy = grind (arith, over_idle)
