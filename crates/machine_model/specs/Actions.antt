-- What a processor does in its next step, by the rules in their order and by the owner's job (Bensoussan, Clingen and
-- Daley 1972; Corbató 1968; the steps and their order are own).
use Rattle.std.specs.Prelude.{ℕ, ◌/◌, ◌%◌, Bool, true, false, not, ◌&&◌, ◌||◌, ◌==◌, nat_le, if◌then◌else◌, is_some, count_by, position, List, [], ◌∷◌, Option, Some, None}
use Rattle.std.specs.List.{list_any}
use Rattle.script.specs.References.{reference_of, new_word}
use Rattle.script.specs.declared.commands.Command.{Command}
use Rattle.script.specs.declared.commands.Command.TheVariants as command
use Rattle.script.specs.declared.commands.Reference.{Reference}
use Rattle.book.specs.declared.replies.Reply.{Reply}
use Rattle.assoc_mem.specs.declared.What.{What}
use Rattle.assoc_mem.specs.declared.What.TheVariants as what
use Rattle.tree_model.specs.Tree.{Node, node_in, pool_of}
use Rattle.dir_tree.specs.Nodes.{chain_of}
use Rattle.core_map.specs.CoreMap.{Core, is_started, least_free_frame}
use Rattle.core_map.specs.Clock.{clock_choice}
use Rattle.page_table.specs.declared.Ptw.{Ptw}
use Rattle.page_table.specs.declared.Ptw.TheVariants as ptw
use Rattle.descriptor_seg.specs.declared.Sdw.{Sdw}
use Rattle.descriptor_seg.specs.declared.Sdw.TheVariants as sdw
use Rattle.active_segs.specs.Active.{uid_at}
use Rattle.active_segs.specs.Victim.{victim_of}
use Rattle.seg_control.specs.Control.{sdws_at, table_of, word_of}
use Rattle.seg_control.specs.Moving.{next_out}
use Rattle.seg_mover.specs.declared.Mover.{Mover}
use Rattle.processor.specs.declared.Cpu.{Cpu}
use Rattle.processor.specs.declared.Move.{Move}
use Rattle.processor.specs.declared.Move.TheVariants as move
use Rattle.processor.specs.declared.Transfer.{Transfer}
use Rattle.processor.specs.Moves.{next_move}
use Rattle.machine_model.specs.declared.Aim.{Aim}
use Rattle.machine_model.specs.declared.Aim.TheVariants as aim
use Rattle.machine_model.specs.declared.Phase.{Phase}
use Rattle.machine_model.specs.declared.Phase.TheVariants as phase
use Rattle.machine_model.specs.declared.Processor.{Processor}
use Rattle.machine_model.specs.State.{State, Storage, Owner}
use Rattle.machine_model.specs.Reads.{or_zero, processor_at, next_command, is_due, is_active, first_inactive, free_place, frame_reading, frames_from, descriptor_of, is_connected, connected_of, trailers_in}
use Rattle.machine_model.specs.Refusal.{outside_refusal, room_refusal, refusal_of, uid_of_number, uid_of_command, move_to}

-- what a step waits for: that a processor gives the supervisor up, that one clears, that a page is read into a frame,
-- or work, while so many processors have a process
pub data Why : Type 0 where
  ForOwner : (cpu : ℕ) → Why
  ForClear : (cpu : ℕ) → Why
  ForTransfer : (frame : ℕ) → Why
  WhileIdle : (busy : ℕ) → Why

pub data Action : Type 0 where
  -- nothing: the machine was stopped, no process is ready or running, or something must come first
  IsStopped : Action
  HasEnded : Action
  Waits : (why : Why) → Action
  -- without the supervisor
  Online : Action
  Clear : (what : What) → Action
  EndTransfer : (transfer : Transfer) → Action
  Load : (process : ℕ) → Action
  Leave : Action
  FillSeg : (number : ℕ) → Action
  FillPage : (frame : ℕ) (reference : Reference) → Action
  Through : (frame : ℕ) (reference : Reference) → Action
  Plain : (reply : Reply) → Action
  TakeSupervisor : Action
  -- a look that makes the reply, or gives the supervisor up
  Answer : (reply : Reply) → Action
  GiveUp : Action
  -- a look that brings a segment or a page nearer
  Activate : (uid place : ℕ) → Action
  Connect : (number uid : ℕ) → Action
  Create : (frame uid page : ℕ) (reference : Reference) → Action
  Start : (frame uid page : ℕ) → Action
  -- a look that takes: a frame's page; a segment's pages and descriptors, for its length or as the victim of a pool
  -- that has no place for a segment of a chain; what a tree command must have out of use
  Evict : (frame : ℕ) → Action
  Empty : (uid : ℕ) → Action
  EmptyVictim : (pool : ℕ) (chain : List ℕ) (uid : ℕ) → Action
  TakeAway : (frames : List ℕ) (descriptors : List (ℕ × ℕ)) (what : What) → Action
  -- a look that begins to move a segment to a volume that has room for it; then a page of it is copied in each step;
  -- and last its home is there
  BeginMove : (uid volume : ℕ) → Action
  CopyPage : (mover : Mover) (page : ℕ) → Action
  CommitMove : (mover : Mover) → Action
  -- the phases that follow
  Signal : (what : What) → Action
  FinishEviction : (frame : ℕ) → Action
  FinishPage : (frame : ℕ) → Action
  Deactivate : (uid : ℕ) → Action
  Commit : Action

-- ---- looks

-- an action, unless the page is being read into a frame
abbrev pub unless_read : Option ℕ → Action → Action
unless_read None otherwise = otherwise
unless_read (Some f) otherwise = Waits (ForTransfer f)

abbrev pub any_page : ℕ → Bool
any_page p = true

-- a segment may be emptied when none of its pages is being read
abbrev pub empty_when_read : Core → ℕ → Action → Action
empty_when_read core uid empty = unless_read (frame_reading core uid any_page) empty

-- the pool of a node
abbrev pub pool_of_node : Option Node → ℕ
pool_of_node None = 0
pool_of_node (Some n) = pool_of n

abbrev pub empty_victim : Storage → ℕ → List ℕ → Option ℕ → Action
empty_victim st pool chain None = GiveUp
empty_victim st pool chain (Some place) =
    let uid = or_zero (uid_at st.ast.entries place) in empty_when_read st.pages.core uid (EmptyVictim pool chain uid)

-- a segment of a chain becomes active in a free place, or the victim of its pool goes first
abbrev pub activate_in : Storage → ℕ → List ℕ → ℕ → Option ℕ → Action
activate_in st pool chain uid (Some place) = Activate uid place
activate_in st pool chain uid None = empty_victim st pool chain (victim_of st.ast pool chain)

abbrev pub activate_first : Storage → List ℕ → Option ℕ → Action → Action
activate_first st chain None otherwise = otherwise
activate_first st chain (Some uid) otherwise =
    let pool = pool_of_node (node_in st.accounts.nodes uid) in activate_in st pool chain uid (free_place st.ast pool)

-- the first link of a segment's chain that isn't active becomes so; an action where all are
abbrev pub with_chain : Storage → ℕ → Action → Action
with_chain st uid otherwise =
    let chain = chain_of st.accounts.nodes uid in activate_first st chain (first_inactive st.ast chain) otherwise

-- where no frame is free the clock's choice goes; where every frame is being read into, the least is waited for
abbrev pub evict_or_wait : Core → Option ℕ → Action
evict_or_wait core (Some f) = Evict f
evict_or_wait core None = unless_read (position is_started core.frames) GiveUp

abbrev pub into_frame : Core → Option ℕ → (ℕ → Action) → Action
into_frame core (Some f) into = into f
into_frame core None into = evict_or_wait core (clock_choice core)

-- a page gets the least free frame, unless it is being read into one
abbrev pub room_for : Core → ℕ → ℕ → (ℕ → Action) → Action
room_for core uid p into =
    unless_read (frame_reading core uid (λ q. q == p)) (into_frame core (least_free_frame core) into)

-- ---- the look for a reference of a process

-- a page that has no record is made, unless there is no room for it
abbrev pub create_unless : Option Reply → Action → Action
create_unless (Some r) create = Answer r
create_unless None create = create

-- where the segment must move first it does, unless a page of it is being read into a frame
abbrev pub move_or : Core → ℕ → Option ℕ → Action → Action
move_or core uid None create = create
move_or core uid (Some volume) create = unless_read (frame_reading core uid any_page) (BeginMove uid volume)

-- a page that has no record and is to be stored
abbrev pub look_to_create : State → ℕ → Reference → ℕ → ℕ → Action
look_to_create s k r uid p = create_unless (room_refusal s k r)
    (move_or s.store.pages.core uid (move_to s uid)
    (room_for s.store.pages.core uid p (λ f. Create f uid p r)))

abbrev pub look_at_word : State → ℕ → Reference → ℕ → ℕ → Ptw → Action
look_at_word s k r uid p ptw.Null = if new_word 0 r.kind == 0 then GiveUp else look_to_create s k r uid p
look_at_word s k r uid p (ptw.Out n) = room_for s.store.pages.core uid p (λ f. Start f uid p)
look_at_word s k r uid p (ptw.Here f) = GiveUp
look_at_word s k r uid p (ptw.Leaving f) = GiveUp

abbrev pub look_at_page : State → ℕ → Reference → ℕ → ℕ → Action
look_at_page s k r uid p = look_at_word s k r uid p (word_of s.store.ast uid p)

abbrev pub look_at_descriptor : State → ℕ → Reference → ℕ → Sdw → Action
look_at_descriptor s k r uid sdw.Fault = with_chain s.store uid (Connect r.number uid)
look_at_descriptor s k r uid (sdw.Present aste mode pages) = look_at_page s k r uid (r.offset / 1024)

abbrev pub look_inside : State → ℕ → Reference → Option Reply → Action
look_inside s k r (Some refused) = Answer refused
look_inside s k r None =
    look_at_descriptor s k r (uid_of_number s.store k r.number) (descriptor_of s.store.links k r.number)

abbrev pub look_for_reference : State → ℕ → Reference → Action
look_for_reference s k r = look_inside s k r (outside_refusal s k r)

-- ---- the look for a tree command of a process

-- the pages that must be taken: of a `delete` all, of a `truncate` those that are cut or past the words
abbrev pub first_taken : Command → Option ℕ
first_taken (command.Delete path) = Some 0
first_taken (command.Truncate path words) = Some (words / 1024)
first_taken _ = None

abbrev pub frame_read_from : Core → ℕ → Option ℕ → Option ℕ
frame_read_from core uid None = None
frame_read_from core uid (Some low) = frame_reading core uid (λ p. nat_le low p)

abbrev pub frames_taken : Storage → ℕ → Option ℕ → List ℕ
frames_taken st uid None = []
frames_taken st uid (Some low) = frames_from st.ast uid low

-- the descriptors that must be cut: of an `acl` and a `delete` all of the segment, of a `terminate` that of the
-- number, of an `end` all of the process
abbrev pub descriptors_taken : Storage → ℕ → ℕ → Command → List (ℕ × ℕ)
descriptors_taken st k uid (command.Acl path row m) = trailers_in st uid
descriptors_taken st k uid (command.Delete path) = trailers_in st uid
descriptors_taken st k uid (command.Terminate n) = if is_connected (descriptor_of st.links k n) then (k, n) ∷ [] else []
descriptors_taken st k uid command.End = connected_of st.links k
descriptors_taken st k uid _ = []

-- an `end` signals all, any other command its segment
abbrev pub what_taken : ℕ → Command → What
what_taken uid command.End = what.All
what_taken uid _ = what.Seg uid

abbrev pub take_or_commit : List ℕ → List (ℕ × ℕ) → What → Action
take_or_commit [] [] w = Commit
take_or_commit frames descriptors w = TakeAway frames descriptors w

abbrev pub look_to_take : Storage → ℕ → ℕ → Command → Action
look_to_take st k uid c =
    unless_read (frame_read_from st.pages.core uid (first_taken c))
    (take_or_commit (frames_taken st uid (first_taken c)) (descriptors_taken st k uid c) (what_taken uid c))

-- a page that the words of a `truncate` cut is read in
abbrev pub bring_cut : Core → ℕ → ℕ → Ptw → Action → Action
bring_cut core uid p (ptw.Out n) otherwise = room_for core uid p (λ f. Start f uid p)
bring_cut core uid p _ otherwise = otherwise

abbrev pub with_cut_page : Storage → ℕ → ℕ → Action → Action
with_cut_page st uid words otherwise =
    if words % 1024 == 0 then otherwise
    else bring_cut st.pages.core uid (words / 1024) (word_of st.ast uid (words / 1024)) otherwise

abbrev pub look_to_change : Storage → ℕ → ℕ → Command → Action
look_to_change st k uid (command.Truncate path words) =
    with_chain st uid (with_cut_page st uid words (look_to_take st k uid (command.Truncate path words)))
look_to_change st k uid (command.Length path pages) =
    if is_active st.ast uid then empty_when_read st.pages.core uid (Empty uid) else Commit
look_to_change st k uid c = look_to_take st k uid c

abbrev pub look_unless : State → ℕ → Command → Option Reply → Action
look_unless s k c (Some refused) = Answer refused
look_unless s k c None = look_to_change s.store k (uid_of_command s.store k c) c

abbrev pub look_for_command : State → ℕ → Command → Action
look_for_command s k c = look_unless s k c (refusal_of s k c)

-- ---- the owner of the supervisor

-- the next page of a segment that moves is copied, and after the last one its home is on the other volume
abbrev pub copy_or_commit : Mover → Option ℕ → Action
copy_or_commit m (Some p) = CopyPage m p
copy_or_commit m None = CommitMove m

abbrev pub move_on : Storage → Mover → Action
move_on st m = copy_or_commit m (next_out (table_of st.ast m.uid) m.next)

abbrev pub look_for : State → ℕ → Command → Option Reference → Action
look_for s k c (Some r) = look_for_reference s k r
look_for s k c None = look_for_command s k c

abbrev pub look_of : State → ℕ → Option Command → Action
look_of s k None = GiveUp
look_of s k (Some c) = look_for s k c (reference_of c)

-- a page that was taken leaves its frame, one in each step; after the last page a segment becomes inactive
abbrev pub finish_of : Aim → List ℕ → Action
finish_of aim.Evicting [] = GiveUp
finish_of aim.Evicting (f ∷ fs) = FinishEviction f
finish_of (aim.Deactivating uid) [] = Deactivate uid
finish_of (aim.Deactivating uid) (f ∷ fs) = FinishPage f
finish_of aim.Committing frames = Commit

-- an action once no clear is due at a processor that takes part
abbrev pub once_cleared : Option ℕ → Action → Action
once_cleared None then_do = then_do
once_cleared (Some d) then_do = Waits (ForClear d)

abbrev pub go_on_with : State → ℕ → Owner → Phase → Action
go_on_with s k o phase.Looking = look_of s k (next_command s k)
go_on_with s k o (phase.Taken aim w) = Signal w
go_on_with s k o (phase.Waiting aim w) = once_cleared (position is_due s.processors) (finish_of aim o.frames)
go_on_with s k o (phase.Moving m) = move_on s.store m

-- ---- the rules of a step

-- the supervisor is taken where nobody owns it
abbrev pub take_or_wait : Option Owner → Action
take_or_wait None = TakeSupervisor
take_or_wait (Some o) = Waits (ForOwner o.cpu)

-- a move by itself, or the supervisor
abbrev pub by_move : Option Owner → Reference → Move → Action
by_move owner r (move.FillSeg) = FillSeg r.number
by_move owner r (move.FillPage f) = FillPage f r
by_move owner r (move.Through f) = Through f r
by_move owner r (move.Plain answer) = Plain answer
by_move owner r (move.Fault) = take_or_wait owner

abbrev pub move_of : State → Cpu → ℕ → Reference → Move
move_of s cpu k r = next_move cpu.assoc (sdws_at s.store.links.descriptors k) (word_of s.store.ast) r

abbrev pub refer_or_take : State → Cpu → ℕ → Option Reference → Action
refer_or_take s cpu k (Some r) = by_move s.owner r (move_of s cpu k r)
refer_or_take s cpu k None = take_or_wait s.owner

-- the next command of a process: a reference, or a tree command, which needs the supervisor
abbrev pub come_to : State → Cpu → ℕ → Option Command → Action
come_to s cpu k None = take_or_wait s.owner
come_to s cpu k (Some c) = refer_or_take s cpu k (reference_of c)

abbrev pub has_process : Processor → Bool
has_process p = is_some p.cpu.process

-- the front of the ready list, or nothing to do
abbrev pub load_or_idle : State → List ℕ → Action
load_or_idle s [] = Waits (WhileIdle (count_by has_process s.processors))
load_or_idle s (k ∷ ks) = Load k

abbrev pub is_empty : List ℕ → Bool
is_empty [] = true
is_empty (k ∷ ks) = false

-- a process has had its turn
abbrev pub has_had_its_turn : Processor → Bool
has_had_its_turn p = nat_le 16 p.count || p.tried

abbrev pub run_process : State → Processor → Option ℕ → Action
run_process s p None = load_or_idle s s.ready
run_process s p (Some k) =
    if has_had_its_turn p && not (is_empty s.ready) then Leave else come_to s p.cpu k (next_command s k)

abbrev pub own_or_run : State → ℕ → Processor → Option Owner → Action
own_or_run s c p None = run_process s p p.cpu.process
own_or_run s c p (Some o) =
    if o.cpu == c then go_on_with s (or_zero p.cpu.process) o o.phase else run_process s p p.cpu.process

abbrev pub transfer_or : State → ℕ → Processor → Option Transfer → Action
transfer_or s c p (Some t) = EndTransfer t
transfer_or s c p None = own_or_run s c p s.owner

abbrev pub clear_or : State → ℕ → Processor → Option What → Action
clear_or s c p (Some w) = Clear w
clear_or s c p None = transfer_or s c p p.cpu.transfer

-- no process is ready or running
abbrev pub is_over : State → Bool
is_over s = is_empty s.ready && not (list_any has_process s.processors)

unfoldable pub action_of : State → ℕ → Action
action_of s c =
    if s.stopped then IsStopped
    else if is_over s then HasEnded
    else if not (processor_at s.processors c).cpu.online then Online
    else clear_or s c (processor_at s.processors c) (processor_at s.processors c).cpu.due
