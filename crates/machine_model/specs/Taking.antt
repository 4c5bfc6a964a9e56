-- A tree command whose job takes isn't refused, and what the job has taken is just what the command must have out of
-- use (Bensoussan, Clingen and Daley 1972; own).
use Rattle.std.specs.Prelude.{◌≡◌, ◌≤◌, ◌==◌, ℕ, ◌/◌, ◌%◌, true, false, List, Option, Some, None}
use Rattle.std.specs.List.{list_any}
use Rattle.script.specs.declared.commands.Command.{Command}
use Rattle.script.specs.declared.commands.Command.TheVariants as command
use Rattle.tree_model.specs.Tree.{Node, is_inferior}
use Rattle.seg_control.specs.Control.{word_of}
use Rattle.custody_model.specs.Custody.{Custody, is_going_descriptor, is_going_frame, leads_to, page_of}
use Rattle.machine_model.specs.declared.Aim.{Aim}
use Rattle.machine_model.specs.declared.Aim.TheVariants as aim
use Rattle.machine_model.specs.declared.Phase.{Phase}
use Rattle.machine_model.specs.declared.Phase.TheVariants as phase
use Rattle.machine_model.specs.Custodial.{is_out}
use Rattle.machine_model.specs.Holding.{holding}
use Rattle.machine_model.specs.Reads.{is_active}
use Rattle.machine_model.specs.Refusal.{refusal_of, uid_of_command}
use Rattle.machine_model.specs.State.{State, Storage}

-- the pages that a command takes of a segment u: a `delete` all, a `truncate` those that it cuts
abbrev pub TakesPage : Command → ℕ → ℕ → ℕ → Type 0
TakesPage (command.Delete path) u v q = v ≡ u
TakesPage (command.Truncate path words) u v q = (v ≡ u) × (words / 1024 ≤ q)
TakesPage _ u v q = ⊥

-- the descriptors that it takes: an `acl` and a `delete` all of the segment u, a `terminate` of process k that of its
-- number, an `end` all of the process
abbrev pub TakesDescriptor : Command → ℕ → ℕ → ℕ → ℕ → ℕ → Type 0
TakesDescriptor (command.Acl path row m) k u j n v = v ≡ u
TakesDescriptor (command.Delete path) k u j n v = v ≡ u
TakesDescriptor (command.Terminate number) k u j n v = (j ≡ k) × (n ≡ number)
TakesDescriptor command.End k u j n v = j ≡ k
TakesDescriptor _ k u j n v = ⊥

-- A page in a frame, or being read into one, is on its way out just where it is one of these; so is a descriptor.
pub record GoesJust (c : Custody) (Page : ℕ → ℕ → Type 0) (Descriptor : ℕ → ℕ → ℕ → Type 0) : Type 0 where
  pub pages : (f u q : ℕ) → page_of (c.frame f) ≡ Some (u, q) → Page u q → is_going_frame (c.frame f) ≡ true
  pub its_pages : (f u q : ℕ) → page_of (c.frame f) ≡ Some (u, q) → is_going_frame (c.frame f) ≡ true → Page u q
  pub descriptors : (k n u : ℕ) → leads_to (c.descriptor k n) ≡ Some u → Descriptor k n u
      → is_going_descriptor (c.descriptor k n) ≡ true
  pub its_descriptors : (k n u : ℕ) → leads_to (c.descriptor k n) ≡ Some u
      → is_going_descriptor (c.descriptor k n) ≡ true → Descriptor k n u

-- a node that is deleted has no inferior
abbrev pub IsAlone : List Node → ℕ → Command → Type 0
IsAlone nodes u (command.Delete path) = list_any (is_inferior u) nodes ≡ false
IsAlone nodes u _ = Unit {0}

-- the segment of a `truncate` is active, and the page that its words cut isn't on its record alone
abbrev pub WasBrought : Storage → ℕ → Command → Type 0
WasBrought st u (command.Truncate path words) = (is_active st.ast u ≡ true)
    × ((words % 1024 == 0) ≡ false → is_out (word_of st.ast u (words / 1024)) ≡ false)
WasBrought st u _ = Unit {0}

pub record IsTakenFor (s : State) (k : ℕ) (c : Command) : Type 0 where
  pub just : GoesJust (holding s) (TakesPage c (uid_of_command s.store k c))
      (TakesDescriptor c k (uid_of_command s.store k c))
  pub alone : IsAlone s.store.accounts.nodes (uid_of_command s.store k c) c
  pub brought : WasBrought s.store (uid_of_command s.store k c) c
  pub stands : refusal_of s k c ≡ None

abbrev pub IsTakenBy : State → ℕ → Option Command → Type 0
IsTakenBy s k None = Unit {0}
IsTakenBy s k (Some c) = IsTakenFor s k c

-- a job that takes for a command has taken this
abbrev pub TakenTo : Aim → State → ℕ → Option Command → Type 0
TakenTo aim.Evicting s k c = Unit {0}
TakenTo (aim.Deactivating u) s k c = Unit {0}
TakenTo aim.Committing s k c = IsTakenBy s k c

abbrev pub TakenIn : Phase → State → ℕ → Option Command → Type 0
TakenIn phase.Looking s k c = Unit {0}
TakenIn (phase.Taken a w) s k c = TakenTo a s k c
TakenIn (phase.Waiting a w) s k c = TakenTo a s k c
TakenIn (phase.Moving m) s k c = Unit {0}
