-- A tree command takes effect in a store as in the machine's model.
use Rattle.std.specs.Prelude.{◌≡◌, ℕ, true, List, Option, Some, None}
use Rattle.script.specs.Plans.{Plan}
use Rattle.script.specs.declared.commands.Command.{Command}
use Rattle.script.specs.declared.commands.Command.TheVariants as command
use Rattle.book.specs.declared.replies.Reply.{Reply}
use Rattle.book.specs.declared.replies.Reply.TheVariants as reply
use Rattle.flat_model.specs.Commands.{takes_effect}
use Rattle.flat_model.specs.Store.{Store}
use Rattle.storage_ops.specs.Cut.{Commits}
use Rattle.storage_ops.specs.Shown.{Storage as Stored}
use Rattle.machine_model.specs.Commits.{with_effect}
use Rattle.machine_model.specs.Keeps.{IsFaithful}
use Rattle.machine_model.specs.Refusal.{reply_of, uid_of_command}
use Rattle.machine_model.specs.State.{State, Storage}
use Rattle.machine_tables.specs.Parts.{shown}

-- a reply isn't a refusal: a command that tells has no effect
abbrev pub HasEffect : Command → Reply → Type 0
HasEffect (command.Status path) r = Unit {0}
HasEffect _ r = takes_effect r ≡ true

-- A tree command of process k, for which these frames were taken, is answered as in each flat store that is shown, and
-- changes what is shown as there; where it takes effect the store has exactly the model's effect; and no drive is
-- called.
pub record IsCommitted {D : Type 0} (drive : D → List (List ℕ)) (old new : Stored D) (k : ℕ) (frames : List ℕ)
    (c : Command) (r : Reply) : Type 0 where
  pub does : Commits drive old new k c r
  pub exact : (p : Plan) (t : Store) → IsFaithful p t (shown drive old) → HasEffect c r
      → shown drive new ≡ with_effect (shown drive old) k (uid_of_command (shown drive old) k c) frames c
  pub drives : new.segs.pages.volumes.drives ≡ old.segs.pages.volumes.drives

-- the same whatever frames were taken
abbrev pub TakesEffect : {D : Type 0} → (D → List (List ℕ)) → Stored D → Stored D → ℕ → Command → Reply → Type 0
TakesEffect drive old new k c r = (frames : List ℕ) → IsCommitted drive old new k frames c r

-- the store once the next command of process k takes effect, for which these frames were taken
abbrev pub effect_for : Storage → ℕ → List ℕ → Option Command → Storage
effect_for st k frames None = st
effect_for st k frames (Some x) = with_effect st k (uid_of_command st k x) frames x

-- how the next command of process k is answered
abbrev pub reply_for : State → ℕ → Option Command → Reply
reply_for s k None = reply.Done
reply_for s k (Some x) = reply_of s k x
