-- Where a step has the effect of a tree command, the command isn't refused, and what it must have out of use is so.
use Rattle.machine_model.proofs.StepBasics.{◌≡◌, ◌<◌, ℕ, length, Some, None, sym, subst, ◌∙◌, reference_of, Command, action_of, no_call, KeepsAll, IsReadyFor, OwnsFor, frames_of_owner, next_command, process_at, refusal_of, State, Action as act, Speaks, IsMine}
use Rattle.machine_model.proofs.ReadyLaws.{ready_by}
use Rattle.machine_model.proofs.StepKnows.{Commits, Knows, step_knows}

some_same : (a b : Command) → Some a ≡ Some b → a ≡ b
some_same a b h = cc

-- The owner's process comes to a tree command that isn't refused; what it must have out of use is so, and its job took
-- just that.
pub record IsCommitting (s : State) (c : ℕ) (x : Command) : Type 0 where
  pub owner : IsMine s c
  pub speaks : Speaks s c (process_at s c) x
  pub tree : reference_of x ≡ None
  pub stands : refusal_of s (process_at s c) x ≡ None
  pub ready_for : IsReadyFor s.store (process_at s c) x
  pub owns : OwnsFor s.store (frames_of_owner s.owner) x

pub committing : (s : State) (c : ℕ) → KeepsAll s → c < length s.processors → action_of s c ≡ act.Commit
    → (x : Command) → next_command s (process_at s c) ≡ Some x → IsCommitting s c x
committing s c all there is x next = rw (← (some_same knows.command x (sym knows.speaks.next ∙ next)))
    (assumption (knows.owner, knows.speaks, knows.tree, knows.taken.stands, ready.0, ready.1))
  where
    knows : Commits s c
    knows = subst (Knows s c) is (step_knows s c (no_call s) all.machine there all.working)

    ready : IsReadyFor s.store (process_at s c) knows.command × OwnsFor s.store (frames_of_owner s.owner) knows.command
    ready = ready_by (process_at s c) all.machine.keeps knows.command knows.taken knows.out
