-- Which stores the commands of a script may come to.
use Rattle.std.specs.Prelude.{sum_by, ◌≤◌, ℕ, ◌+◌, if◌then◌else◌, length, List, [], ◌∷◌}
use Rattle.script.specs.Plans.{Plan, ProcessPlan}
use Rattle.script.specs.Forms.{IsPlan}
use Rattle.script.specs.declared.commands.Command.{Command}
use Rattle.book.specs.declared.replies.Reply.{Reply}
use Rattle.flat_model.specs.Commands.{effect_of, takes_effect}
use Rattle.flat_model.specs.Store.{Store, Progress}

-- no process has come past its last command
abbrev pub ArePlaces : List Progress → List ProcessPlan → Type 0
ArePlaces [] xs = Unit {0}
ArePlaces (q ∷ qs) [] = ⊥
ArePlaces (q ∷ qs) (x ∷ xs) = (q.place ≤ length x.commands) × ArePlaces qs xs

-- a store that the commands of a script may come to: each uid is that of a command that a process has passed
pub record IsReached (p : Plan) (s : Store) : Type 0 where
  pub plan : IsPlan p
  pub places : ArePlaces s.processes p.processes
  pub uids : s.next ≤ 2 + sum_by (λ q. q.place) s.processes

-- what an answer leaves of the tree, the words, the pages and the numbers
abbrev pub answered : Plan → Store → ℕ → Command → Reply → Store
answered p s k c r = if takes_effect r then effect_of p s k c else s
