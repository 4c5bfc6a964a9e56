-- A page is read into a frame for the next command of the process of the processor that reads it (Bensoussan, Clingen
-- and Daley 1972).
use Rattle.std.specs.Prelude.{◌≡◌, ℕ, ◌/◌, List, Option, Some, None, Ok, ◌⊎◌}
use Rattle.script.specs.Plans.{Plan, command_at}
use Rattle.script.specs.References.{reference_of}
use Rattle.script.specs.declared.commands.Command.{Command}
use Rattle.script.specs.declared.commands.Command.TheVariants as command
use Rattle.script.specs.declared.commands.Reference.{Reference}
use Rattle.tree_model.specs.Tree.{Node}
use Rattle.flat_model.specs.Branches.{segment_at}
use Rattle.known_segs.specs.Known.{uid_of}
use Rattle.seg_control.specs.Control.{kst_at}
use Rattle.processor.specs.declared.Transfer.{Transfer}
use Rattle.machine_model.specs.declared.Processor.{Processor}
use Rattle.machine_model.specs.declared.Run.{Run}
use Rattle.machine_model.specs.Reads.{cpu_at, run_at}
use Rattle.machine_model.specs.State.{State}

-- a reference to a word of page p of segment u, by its number to process k
pub record Refers (numbers : List (List (Option ℕ))) (k u p : ℕ) (c : Command) : Type 0 where
  pub reference : Reference
  pub is : reference_of c ≡ Some reference
  pub stands : uid_of (kst_at numbers k) reference.number ≡ Some u
  pub page : reference.offset / 1024 ≡ p

-- a `truncate` of segment u
pub record Truncates (nodes : List Node) (u : ℕ) (c : Command) : Type 0 where
  pub path : List (List ℕ)
  pub words : ℕ
  pub is : c ≡ command.Truncate path words
  pub node : Node
  pub found : segment_at nodes path ≡ Ok node
  pub uid : node.uid ≡ u

-- a command for which this page is read
abbrev pub Wants : List Node → List (List (Option ℕ)) → ℕ → Transfer → Option Command → Type 0
Wants nodes numbers k t None = ⊥
Wants nodes numbers k t (Some c) = Refers numbers k t.uid t.page c ⊎ Truncates nodes t.uid c

-- processor d has a process whose next command wants the page
pub record IsReadFor (p : Plan) (runs : List Run) (nodes : List Node) (numbers : List (List (Option ℕ)))
    (processors : List Processor) (d : ℕ) (t : Transfer) : Type 0 where
  pub process : ℕ
  pub its : (cpu_at processors d).process ≡ Some process
  pub wants : Wants nodes numbers process t (command_at p process (run_at runs process).place)

-- so does each that has a transfer under way
pub record AllRead (p : Plan) (runs : List Run) (nodes : List Node) (numbers : List (List (Option ℕ)))
    (processors : List Processor) : Type 0 where
  pub each : (d : ℕ) (t : Transfer) → (cpu_at processors d).transfer ≡ Some t
      → IsReadFor p runs nodes numbers processors d t

abbrev pub IsReading : State → Type 0
IsReading s = AllRead s.plan s.runs s.store.accounts.nodes s.store.links.known s.processors
