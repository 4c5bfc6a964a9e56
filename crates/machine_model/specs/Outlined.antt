-- The outline of a machine: what each processor's next command wants, by the tables.
use Rattle.std.specs.Prelude.{ℕ, ◌+◌, ◌-◌, ◌*◌, ◌/◌, ◌%◌, Bool, true, false, not, ◌==◌, nat_le, if◌then◌else◌, is_some, map, sum_by, length, drop, List, [], ◌∷◌, Option, Some, None, Result, Ok, Err}
use Rattle.mnames.specs.declared.principals.Who.{Who}
use Rattle.script.specs.Forms.{weight}
use Rattle.script.specs.Plans.{ProcessPlan}
use Rattle.script.specs.References.{reference_of, new_word, permits}
use Rattle.script.specs.declared.commands.Command.{Command}
use Rattle.script.specs.declared.commands.Command.TheVariants as command
use Rattle.script.specs.declared.commands.Reference.{Reference}
use Rattle.book.specs.declared.replies.Reply.{Reply}
use Rattle.assoc_mem.specs.Held.{Held, frame_of, seg_of}
use Rattle.tree_model.specs.Access.{access_of}
use Rattle.tree_model.specs.Tree.{Node, node_in, volume_in}
use Rattle.dir_tree.specs.Nodes.{chain_of}
use Rattle.known_segs.specs.Known.{uid_of}
use Rattle.flat_model.specs.Branches.{segment_at}
use Rattle.active_segs.specs.declared.Entry.{Entry}
use Rattle.core_map.specs.declared.Frame.{Frame}
use Rattle.core_map.specs.declared.Frame.TheVariants as frame
use Rattle.page_control.specs.Counts.{is_full}
use Rattle.seg_control.specs.Control.{Links, kst_at, place_of}
use Rattle.storage_ops.specs.Shown.{is_filed, who_at}
use Rattle.machine_model.specs.declared.Aim.{Aim}
use Rattle.machine_model.specs.declared.Aim.TheVariants as aim
use Rattle.machine_model.specs.declared.Phase.{Phase}
use Rattle.machine_model.specs.declared.Phase.TheVariants as phase
use Rattle.machine_model.specs.declared.Processor.{Processor}
use Rattle.machine_model.specs.declared.Run.{Run}
use Rattle.machine_model.specs.State.{State, Owner}
use Rattle.machine_model.specs.Reads.{descriptor_of, is_connected, next_command}
use Rattle.machine_model.specs.Steps.{uid_of_held}
use Rattle.machine_model.specs.Outline.{Want, Refer, Truncate, Length, Other, Runner, no_runner, Work, EvictFrame, EmptyPlace, CommitCommand, Stage, Look, Taken, Waiting, Copying, Keeper, Outline}

-- what a processor's outline reads beside the processor: the tree, the principals, what leads to segments, and the
-- next command of each process
pub record Around : Type 0 where
  pub nodes : List Node
  pub whos : List Who
  pub links : Links
  pub next : ℕ → Option Command

abbrev pub around : State → Around
around s = record {
  nodes = s.store.accounts.nodes;
  whos = s.store.whos;
  links = s.store.links;
  next = next_command s;
}

-- ---- what a command wants

-- a reference that isn't refused before its page is looked at
abbrev pub want_in : List Node → Who → Reference → Option Node → Want
want_in nodes who r None = Other
want_in nodes who r (Some n) =
    if not (permits (access_of who n.rows) r.kind) then Other
    else if nat_le (1024 * n.pages) r.offset then Other
    else Refer (chain_of nodes n.uid) n.uid (r.offset / 1024) (not (new_word 0 r.kind == 0))

abbrev pub want_known : List Node → Who → Reference → Option ℕ → Want
want_known nodes who r None = Other
want_known nodes who r (Some uid) = want_in nodes who r (node_in nodes uid)

abbrev pub want_of_reference : Around → ℕ → Reference → Want
want_of_reference a k r = want_known a.nodes (who_at a.whos k) r (uid_of (kst_at a.links.known k) r.number)

abbrev pub cut_page : ℕ → Option ℕ
cut_page words = if words % 1024 == 0 then None else Some (words / 1024)

abbrev pub want_truncated : List Node → ℕ → Result Node Reply → Want
want_truncated nodes words (Err r) = Other
want_truncated nodes words (Ok n) = Truncate (chain_of nodes n.uid) n.uid (cut_page words)

abbrev pub want_lengthened : Result Node Reply → Want
want_lengthened (Err r) = Other
want_lengthened (Ok n) = Length n.uid

abbrev pub want_of_command : List Node → Command → Want
want_of_command nodes (command.Truncate path words) = want_truncated nodes words (segment_at nodes path)
want_of_command nodes (command.Length path pages) = want_lengthened (segment_at nodes path)
want_of_command nodes _ = Other

abbrev pub want_by : Around → ℕ → Command → Option Reference → Want
want_by a k c (Some r) = want_of_reference a k r
want_by a k c None = want_of_command a.nodes c

abbrev pub want_of : Around → ℕ → Option Command → Want
want_of a k None = Other
want_of a k (Some c) = want_by a k c (reference_of c)

-- ---- processors

abbrev pub reference_in : Option Command → Option Reference
reference_in None = None
reference_in (Some c) = reference_of c

abbrev pub is_linked : Around → ℕ → Option Reference → Bool
is_linked a k None = false
is_linked a k (Some r) = is_connected (descriptor_of a.links k r.number)

abbrev pub holds_seg : Held → Option Reference → Bool
holds_seg held None = false
holds_seg held (Some r) = is_some (seg_of held r.number)

abbrev pub holds_page : Held → Option Reference → Bool
holds_page held None = false
holds_page held (Some r) = is_some (frame_of held (uid_of_held (seg_of held r.number)) (r.offset / 1024))

abbrev pub runner_by : Around → Processor → Option ℕ → Runner
runner_by a p None = record no_runner {
  online = p.cpu.online;
  due = is_some p.cpu.due;
  reading = p.cpu.transfer;
  since = p.count;
  tried = p.tried;
}
runner_by a p (Some k) = record {
  online = p.cpu.online;
  running = true;
  due = is_some p.cpu.due;
  reading = p.cpu.transfer;
  since = p.count;
  tried = p.tried;
  want = want_of a k (a.next k);
  linked = is_linked a k (reference_in (a.next k));
  has_seg = holds_seg p.cpu.assoc (reference_in (a.next k));
  has_page = holds_page p.cpu.assoc (reference_in (a.next k));
}

abbrev pub runner_of : Around → Processor → Runner
runner_of a p = runner_by a p p.cpu.process

-- ---- the owner

abbrev pub first_frame : List ℕ → ℕ
first_frame [] = 0
first_frame (f ∷ fs) = f

abbrev pub work_of : List (Option Entry) → List ℕ → Aim → Work
work_of entries frames aim.Evicting = EvictFrame (first_frame frames)
work_of entries frames (aim.Deactivating uid) = EmptyPlace (place_of entries uid) frames
work_of entries frames aim.Committing = CommitCommand

abbrev pub stage_of : List (Option Entry) → List ℕ → Phase → Stage
stage_of entries frames phase.Looking = Look
stage_of entries frames (phase.Taken a w) = Taken (work_of entries frames a)
stage_of entries frames (phase.Waiting a w) = Waiting (work_of entries frames a)
stage_of entries frames (phase.Moving m) = Copying (256 - m.next)

abbrev pub keeper_of : List (Option Entry) → Option Owner → Option Keeper
keeper_of entries None = None
keeper_of entries (Some o) = Some (record { cpu = o.cpu; stage = stage_of entries o.frames o.phase })

-- ---- commands to come

-- of a process, an `await` counted by the tries that it still has
abbrev pub left_of : List Command → Run → ℕ
left_of commands run = if run.ended then 0 else sum_by weight (drop run.place commands) - run.tries

abbrev pub left_in : List ProcessPlan → List Run → ℕ
left_in [] runs = 0
left_in (x ∷ xs) [] = 0
left_in (x ∷ xs) (run ∷ runs) = left_of x.commands run + left_in xs runs

-- ---- volumes

-- no record of a segment's volume is free
abbrev pub lacks_record : List Node → List (List Bool) → ℕ → Bool
lacks_record nodes records uid = is_full records (volume_in nodes uid)

-- ---- the whole

-- a frame without its marks, which no measure reads
abbrev pub bare : Frame → Frame
bare frame.Free = frame.Free
bare (frame.Started uid page) = frame.Started uid page
bare (frame.Bound uid page used modified) = frame.Bound uid page false false

unfoldable pub outline_of : State → Outline
outline_of s = record {
  runners = map (runner_of (around s)) s.processors;
  frames = map bare s.store.pages.core.frames;
  entries = s.store.ast.entries;
  stored = is_filed s.store.accounts s.store.pages.vtocs;
  full = lacks_record s.store.accounts.nodes s.store.pages.records;
  owner = keeper_of s.store.ast.entries s.owner;
  ready = length s.ready;
  left = left_in s.plan.processes s.runs;
}
