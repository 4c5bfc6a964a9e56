-- What the owner's job rests on: while it makes room, that a drive's failure may be told of its command, and that the
-- segment that it makes inactive is a leaf that it took whole; while it moves a segment, what the beginning of the move
-- found; otherwise, that its command is one that takes, and that it took just that.
use Rattle.std.specs.Prelude.{◌≡◌, ◌≢◌, ◌⊎◌, ◌<◌, ◌≤◌, ◌*◌, ℕ, Bool, true, false, List, [], ◌∷◌, Option, Some, ◌+◌, length, None, Ok}
use Rattle.script.specs.References.{reference_of}
use Rattle.script.specs.declared.commands.Command.{Command}
use Rattle.script.specs.declared.commands.Command.TheVariants as command
use Rattle.script.specs.declared.commands.Reference.{Reference}
use Rattle.tree_model.specs.Tree.{Node, node_in}
use Rattle.known_segs.specs.Known.{uid_of}
use Rattle.seg_control.specs.Control.{kst_at}
use Rattle.flat_model.specs.Branches.{segment_at}
use Rattle.storage_ops.specs.Shown.{is_filed}
use Rattle.custody_model.specs.Allowed.{superior_in}
use Rattle.machine_model.specs.declared.Aim.{Aim}
use Rattle.machine_model.specs.declared.Aim.TheVariants as aim
use Rattle.machine_model.specs.declared.Phase.{Phase}
use Rattle.machine_model.specs.declared.Phase.TheVariants as phase
use Rattle.machine_model.specs.Lacking.{MovesIn}
use Rattle.machine_model.specs.Reads.{cut_of_owner, frames_of_owner, is_active, next_command, process_at}
use Rattle.machine_model.specs.declared.CutDescriptor.{CutDescriptor}
use Rattle.machine_model.specs.State.{Owner, State, Storage}
use Rattle.machine_model.specs.Taking.{TakenIn}
use Rattle.machine_model.specs.Whole.{TakenWhole, going_for}

-- a reference is to a word of a segment that is there
pub record IsReached (nodes : List Node) (numbers : List (List (Option ℕ))) (k : ℕ) (r : Reference) : Type 0 where
  pub uid : ℕ
  pub stands : uid_of (kst_at numbers k) r.number ≡ Some uid
  pub node : Node
  pub there : node_in nodes uid ≡ Some node
  pub within : r.offset < 1024 * node.pages

-- a `length` or a `truncate` that nothing refuses
abbrev pub MayChange : List Node → (ℕ → ℕ → Bool) → Command → Type 0
MayChange nodes filed (command.Length path pages) = (n : Node) × (segment_at nodes path ≡ Ok n)
    × ((q : ℕ) → pages ≤ q → filed n.uid q ≡ false)
MayChange nodes filed (command.Truncate path words) = (n : Node) × (segment_at nodes path ≡ Ok n)
MayChange nodes filed _ = ⊥

-- of such a command a drive's failure may be told
abbrev pub MayFailBy : Storage → ℕ → Option Command → Type 0
MayFailBy st k None = ⊥
MayFailBy st k (Some c) =
    ((r : Reference) × (reference_of c ≡ Some r) × IsReached st.accounts.nodes st.links.known k r)
    ⊎ MayChange st.accounts.nodes (is_filed st.accounts st.pages.vtocs) c

-- a command that takes pages or descriptors out of use before its effect
abbrev pub TakesSome : Option Command → Type 0
TakesSome (Some (command.Acl path row m)) = Unit {0}
TakesSome (Some (command.Terminate n)) = Unit {0}
TakesSome (Some (command.Truncate path words)) = Unit {0}
TakesSome (Some (command.Delete path)) = Unit {0}
TakesSome (Some command.End) = Unit {0}
TakesSome _ = ⊥

abbrev pub FailsBy : Aim → Storage → ℕ → Option Command → Type 0
FailsBy aim.Evicting st k c = MayFailBy st k c
FailsBy (aim.Deactivating u) st k c = MayFailBy st k c
FailsBy aim.Committing st k c = TakesSome c

abbrev pub FailsIn : Phase → Storage → ℕ → Option Command → Type 0
FailsIn phase.Looking st k c = Unit {0}
FailsIn (phase.Taken a w) st k c = FailsBy a st k c
FailsIn (phase.Waiting a w) st k c = FailsBy a st k c
FailsIn (phase.Moving m) st k c = MayFailBy st k c

-- a segment is active, and no active one lies below it
pub record IsLeaf (st : Storage) (u : ℕ) : Type 0 where
  pub active : is_active st.ast u ≡ true
  pub inferiors : (v : ℕ) → is_active st.ast v ≡ true → superior_in (node_in st.accounts.nodes v) ≢ Some u

-- each of some descriptors is of a number by which its process knows its segment
abbrev pub AreNumbered : List (List (Option ℕ)) → List CutDescriptor → Type 0
AreNumbered numbers [] = Unit {0}
AreNumbered numbers (d ∷ ds) =
    (uid_of (kst_at numbers d.process) d.number ≡ Some d.uid) × AreNumbered numbers ds

-- a job takes at the most the 256 pages of a segment and a descriptor of each of 32 processes
abbrev pub OwnsFew : Option Owner → Type 0
OwnsFew o = length (frames_of_owner o) + length (cut_of_owner o) ≤ 288

pub record IsWorking (s : State) : Type 0 where
  pub whole : TakenWhole s
  pub few : OwnsFew s.owner
  -- what the job has cut may be connected again
  pub numbered : AreNumbered s.store.links.known (cut_of_owner s.owner)
  pub leaf : (u : ℕ) → going_for s.owner ≡ Some u → IsLeaf s.store u
  pub fails : (o : Owner) → s.owner ≡ Some o
      → FailsIn o.phase s.store (process_at s o.cpu) (next_command s (process_at s o.cpu))
  pub taken : (o : Owner) → s.owner ≡ Some o
      → TakenIn o.phase s (process_at s o.cpu) (next_command s (process_at s o.cpu))
  -- what the beginning of a move found
  pub moves : (o : Owner) → s.owner ≡ Some o
      → MovesIn o.phase s.store (process_at s o.cpu) (next_command s (process_at s o.cpu))
