-- Which reasons an entry can have: each is one of the conditions that the entry needs, with the numbers that it names
-- (own).
use Rattle.std.specs.Prelude.{◌≡◌, ◌≢◌, ◌<◌, ◌≤◌, ◌⊎◌, ℕ, ◌+◌, ◌*◌, ◌/◌, true, false, Option, Some, None, IsSomeAnd, is_some, Result, Ok, Err}
use Rattle.assoc_mem.specs.declared.What.{What}
use Rattle.script.specs.Plans.{Plan}
use Rattle.script.specs.References.{reference_of}
use Rattle.script.specs.declared.commands.Command.{Command}
use Rattle.script.specs.declared.commands.Command.TheVariants as command
use Rattle.script.specs.declared.commands.Reference.{Reference}
use Rattle.book.specs.declared.entries.Entry.{Entry}
use Rattle.book.specs.declared.entries.Entry.TheVariants as entry
use Rattle.book.specs.declared.replies.Reply.{Reply}
use Rattle.tree_model.specs.Tree.{Node, node_in, pool_of}
use Rattle.flat_model.specs.Branches.{branch_at, segment_at}
use Rattle.flat_model.specs.Pages.{is_zero_page, without_words}
use Rattle.flat_model.specs.Store.{Store, known_uid, progress_of}
use Rattle.custody_model.specs.declared.FrameUse.TheVariants as slot
use Rattle.custody_model.specs.Custody.{Custody, leads_to}
use Rattle.custody_model.specs.Allowed.{is_effective, is_word_or_done, next_command, pool_size, superior_in}
use Rattle.clean_reasons.specs.declared.reasons.CommandAt.{CommandAt}
use Rattle.clean_reasons.specs.declared.reasons.DescriptorAt.{DescriptorAt}
use Rattle.clean_reasons.specs.declared.reasons.PageOf.{PageOf}
use Rattle.clean_reasons.specs.declared.reasons.Held.{Held}
use Rattle.clean_reasons.specs.declared.reasons.Held.TheVariants as held
use Rattle.clean_reasons.specs.declared.reasons.Absent.{Absent}
use Rattle.clean_reasons.specs.declared.reasons.Absent.TheVariants as absent
use Rattle.clean_reasons.specs.declared.reasons.SeatReason.{SeatReason}
use Rattle.clean_reasons.specs.declared.reasons.SeatReason.TheVariants as seat
use Rattle.clean_reasons.specs.declared.reasons.ReadyReason.{ReadyReason}
use Rattle.clean_reasons.specs.declared.reasons.ReadyReason.TheVariants as ready
use Rattle.clean_reasons.specs.declared.reasons.ActiveReason.{ActiveReason}
use Rattle.clean_reasons.specs.declared.reasons.ActiveReason.TheVariants as active
use Rattle.clean_reasons.specs.declared.reasons.FrameReason.{FrameReason}
use Rattle.clean_reasons.specs.declared.reasons.FrameReason.TheVariants as frame
use Rattle.clean_reasons.specs.declared.reasons.DescriptorReason.{DescriptorReason}
use Rattle.clean_reasons.specs.declared.reasons.DescriptorReason.TheVariants as descriptor
use Rattle.clean_reasons.specs.declared.reasons.CommandReason.{CommandReason}
use Rattle.clean_reasons.specs.declared.reasons.CommandReason.TheVariants as answer
use Rattle.clean_reasons.specs.declared.reasons.Taker.TheVariants as taker
use Rattle.clean_reasons.specs.declared.reasons.Loss.{Loss}
use Rattle.clean_reasons.specs.declared.reasons.Loss.TheVariants as loss
use Rattle.clean_reasons.specs.declared.reasons.EffectReason.{EffectReason}
use Rattle.clean_reasons.specs.declared.reasons.EffectReason.TheVariants as effect
use Rattle.clean_reasons.specs.declared.reasons.Reason.{Reason}
use Rattle.clean_reasons.specs.declared.reasons.Reason.TheVariants as reason

-- ---- what an entry names of a script

-- the processor that an entry names
abbrev pub processor_in : Entry → Option ℕ
processor_in (entry.Do k i d f r) = Some d
processor_in (entry.Online d) = Some d
processor_in (entry.Load d k) = Some d
processor_in (entry.Leave d) = Some d
processor_in (entry.Signal d w) = Some d
processor_in (entry.Clear d w) = Some d
processor_in (entry.FillSeg d n) = Some d
processor_in (entry.FillPage d f) = Some d
processor_in _ = None

-- the frame
abbrev pub frame_in : Entry → Option ℕ
frame_in (entry.Do k i d f r) = f
frame_in (entry.Start f u q) = Some f
frame_in (entry.Lose f) = Some f
frame_in (entry.Here f u q) = Some f
frame_in (entry.Take f) = Some f
frame_in (entry.FillPage d f) = Some f
frame_in (entry.GonePage f) = Some f
frame_in (entry.BackPage f) = Some f
frame_in _ = None

-- the process
abbrev pub process_in : Entry → Option ℕ
process_in (entry.Do k i d f r) = Some k
process_in (entry.Moved k u v) = Some k
process_in (entry.Load d k) = Some k
process_in (entry.Connect k n u) = Some k
process_in (entry.Cut k n) = Some k
process_in (entry.GoneSeg k n) = Some k
process_in (entry.BackSeg k n) = Some k
process_in _ = None

-- what the script hasn't is named by the entry
abbrev pub IsAbsentOf : Entry → Absent → Type 0
IsAbsentOf e (absent.Processor d) = processor_in e ≡ Some d
IsAbsentOf e (absent.Frame f) = frame_in e ≡ Some f
IsAbsentOf e (absent.Process k) = process_in e ≡ Some k

-- ---- what a reason repeats

abbrev pub IsDescriptor : ℕ → ℕ → DescriptorAt → Type 0
IsDescriptor k n at = (at.process ≡ k) × (at.number ≡ n)

abbrev pub IsPage : ℕ → ℕ → PageOf → Type 0
IsPage u q x = (x.uid ≡ u) × (x.page ≡ q)

abbrev pub IsCommand : ℕ → ℕ → CommandAt → Type 0
IsCommand k i at = (at.process ≡ k) × (at.place ≡ i)

-- a descriptor of the process that a processor has, by its number
abbrev pub IsOwn : Custody → ℕ → ℕ → DescriptorAt → Type 0
IsOwn c d n at = ((c.seat d).process ≡ Some at.process) × (at.number ≡ n)

-- a processor holds a descriptor, or a frame
abbrev pub IsHeldSeg : ℕ → ℕ → Held → Type 0
IsHeldSeg k n (held.Descriptor at) = IsDescriptor k n at
IsHeldSeg k n _ = ⊥

abbrev pub IsHeldPage : ℕ → Held → Type 0
IsHeldPage f (held.Frame g) = g ≡ f
IsHeldPage f _ = ⊥

abbrev pub IsHeldOwn : Custody → ℕ → ℕ → Held → Type 0
IsHeldOwn c d n (held.Descriptor at) = IsOwn c d n at
IsHeldOwn c d n _ = ⊥

-- ---- the reference that comes next

abbrev pub reference_in : Option Command → Option Reference
reference_in None = None
reference_in (Some x) = reference_of x

abbrev pub next_reference : Plan → Store → ℕ → Option Reference
next_reference p s k = reference_in (next_command p s k)

-- the page that a reference is to
pub record IsReferred (s : Store) (k : ℕ) (r : Reference) (x : PageOf) : Type 0 where
  pub uid : known_uid s k r.number ≡ Some x.uid
  pub page : x.page ≡ r.offset / 1024

-- a page is another one
abbrev pub IsOther : PageOf → PageOf → Type 0
IsOther o x = (o.uid ≡ x.uid) → (o.page ≡ x.page) → ⊥

-- a command is a reference, and goes through a frame: of the two this is so
abbrev pub IsThrough : Option ℕ → Option Reference → (ℕ → Reference → Type 0) → Type 0
IsThrough f r P = IsSomeAnd f (λ g. IsSomeAnd r (P g))

-- what such a reference wants of its processor: the descriptor of its number, or the page table word of the frame
abbrev pub IsWanted : ℕ → ℕ → ℕ → Held → Type 0
IsWanted k n f (held.Descriptor at) = IsDescriptor k n at
IsWanted k n f (held.Frame g) = g ≡ f

-- ---- processors

-- to load a process: the processor isn't online, or has one
abbrev pub IsOfLoad : ℕ → SeatReason → Type 0
IsOfLoad d (seat.Offline x) = x ≡ d
IsOfLoad d (seat.Busy x j) = x ≡ d
IsOfLoad d _ = ⊥

-- to leave one: it has none, or one that hasn't ended and hasn't had its 16 command entries
abbrev pub IsOfLeave : Store → ℕ → SeatReason → Type 0
IsOfLeave s d (seat.Idle x) = x ≡ d
IsOfLeave s d (seat.Early k n x) = (x ≡ d) × (n < 16) × ((progress_of s k).ended ≡ false)
IsOfLeave s d _ = ⊥

-- to signal: it isn't online, or some processor is still to drop something
abbrev pub IsOfDue : SeatReason → Type 0
IsOfDue (seat.Due v x) = Unit {0}
IsOfDue _ = ⊥

abbrev pub IsOfSignal : ℕ → SeatReason → Type 0
IsOfSignal d r = (r ≡ seat.Offline d) ⊎ IsOfDue r

-- to drop what is named: it is to drop nothing, or another thing
abbrev pub IsOfClear : ℕ → What → SeatReason → Type 0
IsOfClear d w (seat.NoneDue x) = x ≡ d
IsOfClear d w (seat.OtherDue x v given) = (x ≡ d) × (given ≡ w) × (v ≢ w)
IsOfClear d w _ = ⊥

-- to hold a descriptor of its process: it has no process, or holds that descriptor
abbrev pub IsOfFillSeg : Custody → ℕ → ℕ → SeatReason → Type 0
IsOfFillSeg c d n (seat.Idle x) = x ≡ d
IsOfFillSeg c d n (seat.HoldsAlready x h) = (x ≡ d) × IsHeldOwn c d n h
IsOfFillSeg c d n _ = ⊥

-- to hold the page table word of a frame: it holds that already
abbrev pub IsOfFillPage : ℕ → ℕ → SeatReason → Type 0
IsOfFillPage d f (seat.HoldsAlready x h) = (x ≡ d) × IsHeldPage f h
IsOfFillPage d f _ = ⊥

-- for a page to be gone or back: some processor holds its frame
abbrev pub IsOfEndPage : ℕ → SeatReason → Type 0
IsOfEndPage f (seat.Holds x h) = IsHeldPage f h
IsOfEndPage f _ = ⊥

-- for a descriptor: some processor holds it
abbrev pub IsOfEndSeg : ℕ → ℕ → SeatReason → Type 0
IsOfEndSeg k n (seat.Holds x h) = IsHeldSeg k n h
IsOfEndSeg k n _ = ⊥

-- to answer a command of a process: the processor has none, or another one, or lacks what a reference goes through
abbrev pub IsOfRunning : ℕ → ℕ → SeatReason → Type 0
IsOfRunning d k (seat.Idle x) = x ≡ d
IsOfRunning d k (seat.OtherProcess x j given) = (x ≡ d) × (given ≡ k) × (j ≢ k)
IsOfRunning d k _ = ⊥

abbrev pub IsOfHolding : ℕ → ℕ → ℕ → ℕ → SeatReason → Type 0
IsOfHolding d k n f (seat.Lacks x h) = (x ≡ d) × IsWanted k n f h
IsOfHolding d k n f _ = ⊥

abbrev pub IsOfAnswer : Option Reference → ℕ → ℕ → Option ℕ → SeatReason → Type 0
IsOfAnswer r d k f x = IsOfRunning d k x ⊎ IsThrough f r (λ g y. IsOfHolding d k y.number g x)

abbrev pub IsSeatOf : Plan → Store → Custody → Entry → SeatReason → Type 0
IsSeatOf p s c (entry.Online d) r = r ≡ seat.Online d
IsSeatOf p s c (entry.Load d k) r = IsOfLoad d r
IsSeatOf p s c (entry.Leave d) r = IsOfLeave s d r
IsSeatOf p s c (entry.Signal d w) r = IsOfSignal d r
IsSeatOf p s c (entry.Clear d w) r = IsOfClear d w r
IsSeatOf p s c (entry.FillSeg d n) r = IsOfFillSeg c d n r
IsSeatOf p s c (entry.FillPage d f) r = IsOfFillPage d f r
IsSeatOf p s c (entry.GonePage f) r = IsOfEndPage f r
IsSeatOf p s c (entry.BackPage f) r = IsOfEndPage f r
IsSeatOf p s c (entry.GoneSeg k n) r = IsOfEndSeg k n r
IsSeatOf p s c (entry.BackSeg k n) r = IsOfEndSeg k n r
IsSeatOf p s c (entry.Do k i d f given) r = IsOfAnswer (next_reference p s k) d k f r
IsSeatOf p s c _ r = ⊥

-- ---- the ready list

-- for a process to be loaded: none is ready, or another one is the first
abbrev pub IsOfFront : ℕ → ReadyReason → Type 0
IsOfFront k ready.Empty = Unit {0}
IsOfFront k (ready.Front x given) = (given ≡ k) × (x ≢ k)
IsOfFront k _ = ⊥

-- for the process of a processor to be left: no other one is ready
abbrev pub IsOfLast : Option ℕ → ReadyReason → Type 0
IsOfLast process (ready.Last k) = process ≡ Some k
IsOfLast process _ = ⊥

abbrev pub IsReadyOf : Custody → Entry → ReadyReason → Type 0
IsReadyOf c (entry.Load d k) r = IsOfFront k r
IsReadyOf c (entry.Leave d) r = IsOfLast (c.seat d).process r
IsReadyOf c _ r = ⊥

-- ---- active segments

-- a pool is that of a segment or directory, and has so many places
pub record IsPoolOf (p : Plan) (s : Store) (u z m : ℕ) : Type 0 where
  pub pool : IsSomeAnd (node_in s.nodes u) (λ n. pool_of n ≡ z)
  pub size : m ≡ pool_size p z

-- to become active: it isn't in the tree, is active, its superior isn't, or its pool is full
abbrev pub IsOfActivate : Plan → Store → ℕ → ActiveReason → Type 0
IsOfActivate p s u (active.NoNode x) = x ≡ u
IsOfActivate p s u (active.Active x) = x ≡ u
IsOfActivate p s u (active.Superior v x) = (x ≡ u) × (superior_in (node_in s.nodes u) ≡ Some v)
IsOfActivate p s u (active.Pool z m) = IsPoolOf p s u z m
IsOfActivate p s u _ = ⊥

-- to be active no more: it isn't active, or an inferior is
abbrev pub IsOfDeactivate : Store → ℕ → ActiveReason → Type 0
IsOfDeactivate s u (active.Inactive x) = x ≡ u
IsOfDeactivate s u (active.Inferior v x) = (x ≡ u) × (superior_in (node_in s.nodes v) ≡ Some u)
IsOfDeactivate s u _ = ⊥

abbrev pub IsActiveOf : Plan → Store → Entry → ActiveReason → Type 0
IsActiveOf p s (entry.Activate u) r = IsOfActivate p s u r
IsActiveOf p s (entry.Deactivate u) r = IsOfDeactivate s u r
IsActiveOf p s (entry.Start f u q) r = r ≡ active.Inactive u
IsActiveOf p s (entry.Here f u q) r = r ≡ active.Inactive u
IsActiveOf p s (entry.Connect k n u) r = r ≡ active.Inactive u
IsActiveOf p s (entry.Moved k u v) r = r ≡ active.Inactive u
IsActiveOf p s _ r = ⊥

-- ---- frames

-- for a segment to be active no more: a page of it is in a frame, or is being read into one
abbrev pub IsOfDisuse : ℕ → FrameReason → Type 0
IsOfDisuse u (frame.HasPage x f) = x.uid ≡ u
IsOfDisuse u (frame.HasRead x f) = x.uid ≡ u
IsOfDisuse u _ = ⊥

-- for it to move: one is being read into a frame
abbrev pub IsOfMove : ℕ → FrameReason → Type 0
IsOfMove u (frame.HasRead x f) = x.uid ≡ u
IsOfMove u _ = ⊥

-- for a page to be in no frame: it is in one, or is being read into one
abbrev pub IsOfAbsence : ℕ → ℕ → FrameReason → Type 0
IsOfAbsence u q (frame.PageIn x f) = IsPage u q x
IsOfAbsence u q (frame.PageRead x f) = IsPage u q x
IsOfAbsence u q _ = ⊥

-- for a frame to be free: it has a page, or is being read into
abbrev pub IsOfFreedom : ℕ → FrameReason → Type 0
IsOfFreedom f (frame.Bound g x) = g ≡ f
IsOfFreedom f (frame.Read g x) = g ≡ f
IsOfFreedom f _ = ⊥

-- for a page to come into a frame: the frame isn't free, or the page is in one
abbrev pub IsOfComing : ℕ → ℕ → ℕ → FrameReason → Type 0
IsOfComing f u q r = IsOfFreedom f r ⊎ IsOfAbsence u q r

-- for a frame to have a page that is current: it has none, or one on its way out
abbrev pub IsOfCurrent : ℕ → FrameReason → Type 0
IsOfCurrent f (frame.NoPage g) = g ≡ f
IsOfCurrent f (frame.Going g) = g ≡ f
IsOfCurrent f _ = ⊥

-- for all that is on its way out to be named: a frame isn't
abbrev pub IsOfNaming : What → FrameReason → Type 0
IsOfNaming w (frame.Unnamed x f) = x ≡ w
IsOfNaming w _ = ⊥

-- for a reference through a frame: it has no page, or another one than that of the reference
abbrev pub IsOfPage : Store → ℕ → ℕ → Reference → FrameReason → Type 0
IsOfPage s k f r (frame.NoPage g) = g ≡ f
IsOfPage s k f r (frame.OtherPage g o x) = (g ≡ f) × IsReferred s k r x × IsOther o x
IsOfPage s k f r _ = ⊥

abbrev pub IsFrameOf : Plan → Store → Custody → Entry → FrameReason → Type 0
IsFrameOf p s c (entry.Deactivate u) r = IsOfDisuse u r
IsFrameOf p s c (entry.Moved k u v) r = IsOfMove u r
IsFrameOf p s c (entry.Release u q) r = IsOfAbsence u q r
IsFrameOf p s c (entry.Start f u q) r = IsOfComing f u q r
IsFrameOf p s c (entry.Here f u q) r = IsOfComing f u q r × (c.frame f ≢ slot.Started u q)
IsFrameOf p s c (entry.Lose f) r = r ≡ frame.NotRead f
IsFrameOf p s c (entry.Take f) r = IsOfCurrent f r
IsFrameOf p s c (entry.FillPage d f) r = IsOfCurrent f r
IsFrameOf p s c (entry.GonePage f) r = r ≡ frame.Stays f
IsFrameOf p s c (entry.BackPage f) r = r ≡ frame.Stays f
IsFrameOf p s c (entry.Signal d w) r = IsOfNaming w r
IsFrameOf p s c (entry.Do k i d f given) r =
    IsThrough f (next_reference p s k) (λ g x. IsOfPage s k g x r)
IsFrameOf p s c _ r = ⊥

-- ---- descriptors

-- for a segment to be active no more: a descriptor leads to it
abbrev pub IsOfLeading : ℕ → DescriptorReason → Type 0
IsOfLeading u (descriptor.Leads at x) = x ≡ u
IsOfLeading u _ = ⊥

-- for a descriptor to lead to a segment from now on: its number stands for nothing, or for another segment, or it is
-- connected
abbrev pub IsOfConnect : ℕ → ℕ → ℕ → DescriptorReason → Type 0
IsOfConnect k n u (descriptor.Unknown m j) = (m ≡ n) × (j ≡ k)
IsOfConnect k n u (descriptor.StandsFor m j v x) = (m ≡ n) × (j ≡ k) × (x ≡ u) × (v ≢ u)
IsOfConnect k n u (descriptor.Connected at) = IsDescriptor k n at
IsOfConnect k n u _ = ⊥

-- for it to be current: it isn't connected, or is on its way out
abbrev pub IsOfCut : ℕ → ℕ → DescriptorReason → Type 0
IsOfCut k n (descriptor.Unconnected at) = IsDescriptor k n at
IsOfCut k n (descriptor.Going at) = IsDescriptor k n at
IsOfCut k n _ = ⊥

-- the same of one of a processor's process
abbrev pub IsOfOwnCut : Custody → ℕ → ℕ → DescriptorReason → Type 0
IsOfOwnCut c d n r = IsSomeAnd (c.seat d).process (λ k. IsOfCut k n r)

-- for it to be gone or back: it isn't on its way out
abbrev pub IsOfStay : ℕ → ℕ → DescriptorReason → Type 0
IsOfStay k n (descriptor.Stays at) = IsDescriptor k n at
IsOfStay k n _ = ⊥

-- for a signal: nothing is on its way out, or a descriptor that isn't named is
abbrev pub IsOfNames : What → DescriptorReason → Type 0
IsOfNames w descriptor.NothingGoes = Unit {0}
IsOfNames w (descriptor.Unnamed x at) = x ≡ w
IsOfNames w _ = ⊥

-- for a reference through a frame: its number stands for nothing
abbrev pub IsOfNumber : ℕ → ℕ → DescriptorReason → Type 0
IsOfNumber k n (descriptor.Unknown m j) = (m ≡ n) × (j ≡ k)
IsOfNumber k n _ = ⊥

abbrev pub IsDescriptorOf : Plan → Store → Custody → Entry → DescriptorReason → Type 0
IsDescriptorOf p s c (entry.Deactivate u) r = IsOfLeading u r
IsDescriptorOf p s c (entry.Connect k n u) r = IsOfConnect k n u r
IsDescriptorOf p s c (entry.Cut k n) r = IsOfCut k n r
IsDescriptorOf p s c (entry.FillSeg d n) r = IsOfOwnCut c d n r
IsDescriptorOf p s c (entry.GoneSeg k n) r = IsOfStay k n r
IsDescriptorOf p s c (entry.BackSeg k n) r = IsOfStay k n r
IsDescriptorOf p s c (entry.Signal d w) r = IsOfNames w r
IsDescriptorOf p s c (entry.Do k i d f given) r =
    IsThrough f (next_reference p s k) (λ g x. IsOfNumber k x.number r)
IsDescriptorOf p s c _ r = ⊥

-- ---- commands

-- for a command to be answered: none is left; a reference that reaches no word, or a tree command, has a frame; or a
-- reference has none that reaches a word
abbrev pub IsOfCommand : Store → Option Reference → ℕ → ℕ → Option ℕ → Reply → CommandReason → Type 0
IsOfCommand s r k i f given (answer.NoneLeft j) = j ≡ k
IsOfCommand s r k i f given (answer.Refused at x) =
    IsCommand k i at × (x ≡ given) × (is_some f ≡ true) × (is_some r ≡ true)
IsOfCommand s r k i f given (answer.Tree at w) = IsCommand k i at × (is_some f ≡ true)
IsOfCommand s r k i f given (answer.Stored at x) =
    IsCommand k i at × (f ≡ None) × (is_word_or_done given ≡ true) × IsSomeAnd r (λ y. IsReferred s k y x)

abbrev pub IsCommandOf : Plan → Store → Entry → CommandReason → Type 0
IsCommandOf p s (entry.Do k i d f given) r = IsOfCommand s (next_reference p s k) k i f given r
IsCommandOf p s _ r = ⊥

-- ---- what a tree command takes away

-- a fact of the node that a path leads to, which is there
abbrev pub IsOfNode : (Node → Type 0) → Result Node Reply → Type 0
IsOfNode P (Ok n) = P n
IsOfNode P (Err r) = ⊥

-- an `acl`: a descriptor of the segment
abbrev pub IsOfAcl : Custody → ℕ → EffectReason → Type 0
IsOfAcl c u (effect.Connected taker.Acl at) = leads_to (c.descriptor at.process at.number) ≡ Some u
IsOfAcl c u _ = ⊥

-- a `terminate`: the descriptor of its number
abbrev pub IsOfTerminate : ℕ → ℕ → EffectReason → Type 0
IsOfTerminate k n (effect.Connected taker.Terminate at) = IsDescriptor k n at
IsOfTerminate k n _ = ⊥

-- an `end`: a descriptor of the process
abbrev pub IsOfEnd : ℕ → EffectReason → Type 0
IsOfEnd k (effect.Connected taker.End at) = at.process ≡ k
IsOfEnd k _ = ⊥

-- a `delete`: a page of what is deleted, a descriptor of it, or that it is active
abbrev pub IsOfDelete : Custody → ℕ → EffectReason → Type 0
IsOfDelete c u (effect.Connected taker.Delete at) = leads_to (c.descriptor at.process at.number) ≡ Some u
IsOfDelete c u (effect.DeleteActive x) = x ≡ u
IsOfDelete c u (effect.InFrame loss.Deleted x f) = x.uid ≡ u
IsOfDelete c u (effect.BeingRead loss.Deleted x f) = x.uid ≡ u
IsOfDelete c u _ = ⊥

-- a `length`: that the segment is active
abbrev pub IsOfLength : ℕ → EffectReason → Type 0
IsOfLength u (effect.LengthActive x) = x ≡ u
IsOfLength u _ = ⊥

-- a page that a `truncate` at this word cuts, and that keeps no word other than 0
pub record IsCut (s : Store) (u from q : ℕ) : Type 0 where
  pub kept : 1024 * q < from
  pub zero : is_zero_page (without_words s.words u from) u q ≡ true
  pub last : from < 1024 * q + 1024

-- a page that is taken away is in a frame, or is being read into one
abbrev pub IsOfLoss : Loss → ℕ → ℕ → EffectReason → Type 0
IsOfLoss l u q (effect.InFrame m x f) = (m ≡ l) × IsPage u q x
IsOfLoss l u q (effect.BeingRead m x f) = (m ≡ l) × IsPage u q x
IsOfLoss l u q _ = ⊥

-- a page that a `truncate` at this word takes away
abbrev pub IsTakenPage : Store → ℕ → ℕ → Loss → PageOf → Type 0
IsTakenPage s u from loss.Past x = (x.uid ≡ u) × (from ≤ 1024 * x.page)
IsTakenPage s u from loss.Cut x = (x.uid ≡ u) × IsCut s u from x.page
IsTakenPage s u from loss.Deleted x = ⊥

-- a `truncate`: a page of the segment wholly past the words that are kept, or the page that is cut
abbrev pub IsOfTruncate : Store → ℕ → ℕ → EffectReason → Type 0
IsOfTruncate s u from (effect.InFrame l x f) = IsTakenPage s u from l x
IsOfTruncate s u from (effect.BeingRead l x f) = IsTakenPage s u from l x
IsOfTruncate s u from _ = ⊥

abbrev pub IsOfEffect : Store → Custody → ℕ → Command → EffectReason → Type 0
IsOfEffect s c k (command.Acl path row m) r = IsOfNode (λ n. IsOfAcl c n.uid r) (segment_at s.nodes path)
IsOfEffect s c k (command.Terminate n) r = IsOfTerminate k n r
IsOfEffect s c k command.End r = IsOfEnd k r
IsOfEffect s c k (command.Delete path) r = IsOfNode (λ n. IsOfDelete c n.uid r) (branch_at s.nodes path)
IsOfEffect s c k (command.Length path pages) r = IsOfNode (λ n. IsOfLength n.uid r) (segment_at s.nodes path)
IsOfEffect s c k (command.Truncate path words) r =
    IsOfNode (λ n. IsOfTruncate s n.uid words r) (segment_at s.nodes path)
IsOfEffect s c k _ r = ⊥

-- a tree command takes effect, and what it takes away is still in use
pub record TakesAway (p : Plan) (s : Store) (c : Custody) (k : ℕ) (given : Reply) (x : Command) (r : EffectReason)
    : Type 0 where
  pub effective : is_effective p s k x given ≡ true
  pub away : IsOfEffect s c k x r

abbrev pub IsEffectOf : Plan → Store → Custody → Entry → EffectReason → Type 0
IsEffectOf p s c (entry.Do k i d f given) r = IsSomeAnd (next_command p s k) (λ x. TakesAway p s c k given x r)
IsEffectOf p s c _ r = ⊥

-- ---- all reasons

-- A reason is one of the conditions that an entry needs, and what it names is what the entry names.
abbrev pub IsAbout : Plan → Store → Custody → Entry → Reason → Type 0
IsAbout p s c e (reason.Absent r) = IsAbsentOf e r
IsAbout p s c e (reason.Seat r) = IsSeatOf p s c e r
IsAbout p s c e (reason.Ready r) = IsReadyOf c e r
IsAbout p s c e (reason.Active r) = IsActiveOf p s e r
IsAbout p s c e (reason.Frame r) = IsFrameOf p s c e r
IsAbout p s c e (reason.Descriptor r) = IsDescriptorOf p s c e r
IsAbout p s c e (reason.Command r) = IsCommandOf p s e r
IsAbout p s c e (reason.Effect r) = IsEffectOf p s c e r
