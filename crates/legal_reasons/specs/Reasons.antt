-- What each reason says: of a state, and of the command that it names (own).
use Rattle.std.specs.Prelude.{◌≡◌, ◌≢◌, ◌<◌, ◌≤◌, ℕ, ◌+◌, ◌*◌, Bool, true, false, is_some, length, IsSomeAnd, Option, Some, None, ◌⊎◌}
use Rattle.script.specs.Plans.{Plan, command_at}
use Rattle.script.specs.References.{new_word, reference_of}
use Rattle.script.specs.declared.commands.Command.{Command}
use Rattle.script.specs.declared.commands.Reference.{Reference}
use Rattle.book.specs.declared.entries.Entry.{Entry}
use Rattle.book.specs.declared.entries.Entry.TheVariants as entry
use Rattle.book.specs.declared.replies.Reply.{Reply}
use Rattle.book.specs.declared.replies.Reply.TheVariants as reply
use Rattle.tree_model.specs.Tree.{node_in, taken_on, volume_in}
use Rattle.flat_model.specs.Commands.{reply_to_command}
use Rattle.flat_model.specs.Legal.{MayRelease, may_fail, moves_pages}
use Rattle.flat_model.specs.Moves.{is_held_back}
use Rattle.flat_model.specs.Pages.{is_stored, is_zero_page}
use Rattle.flat_model.specs.Rooms.{room_for}
use Rattle.flat_model.specs.Store.{Store, known_uid, progress_of, records_of}
use Rattle.legal_reasons.specs.declared.reasons.CommandAt.{CommandAt}
use Rattle.legal_reasons.specs.declared.reasons.Reason.{Reason}
use Rattle.legal_reasons.specs.declared.reasons.Reason.TheVariants as reason

-- a process hasn't ended, and its next command is at this place
pub record IsNext (s : Store) (k place : ℕ) : Type 0 where
  pub going : (progress_of s k).ended ≡ false
  pub at : (progress_of s k).place ≡ place

-- each process has ended
unfoldable pub HaveEnded : Plan → Store → Type 0
HaveEnded p s = (k : ℕ) → k < length p.processes → (progress_of s k).ended ≡ true

-- a page, which a segment may have, has a word other than 0 at a place
pub record HasWordAt (s : Store) (uid page at : ℕ) : Type 0 where
  pub within : 1024 * page + at < 4294967296
  pub other : s.words uid (1024 * page + at) ≢ 0

-- a volume is the home of a node, and has a free record
pub record HasFreeRecord (p : Plan) (s : Store) (uid volume : ℕ) : Type 0 where
  pub there : is_some (node_in s.nodes uid) ≡ true
  pub home : volume_in s.nodes uid ≡ volume
  pub free : taken_on s.nodes s.stored volume < records_of p volume

-- a node is there, and no volume has room for it
pub record IsRoomless (p : Plan) (s : Store) (uid : ℕ) : Type 0 where
  pub there : is_some (node_in s.nodes uid) ≡ true
  pub full : room_for p s uid ≡ None

-- a node is there, and this volume is the first that has room for it
pub record IsFirstRoom (p : Plan) (s : Store) (uid volume : ℕ) : Type 0 where
  pub there : is_some (node_in s.nodes uid) ≡ true
  pub first : room_for p s uid ≡ Some volume

-- whether the sentence of a reason speaks of a state
abbrev pub has_since : Reason → Bool
has_since (reason.NoProcess k) = false
has_since (reason.DeviceReference c r) = false
has_since (reason.DeviceRefused c r) = false
has_since (reason.DeviceOther c r) = false
has_since (reason.Due c r) = false
has_since (reason.DueOrDevice c r) = false
has_since (reason.MoveFirst u v c) = false
has_since (reason.MoveDevice u v c) = false
has_since (reason.MoveReply c r) = false
has_since (reason.MoveZero c) = false
has_since _ = true

-- The sentence of a reason is true in a state; of a reason whose sentence speaks of no state that isn't so.
unfoldable pub Says : Plan → Store → Reason → Type 0
Says p s (reason.Ended k) = (progress_of s k).ended ≡ true
Says p s (reason.Next k next given) = IsNext s k next
Says p s (reason.Kept k) = (progress_of s 0).ended ≡ false
Says p s (reason.DeviceFault k) = (progress_of s k).faulted ≡ false
Says p s (reason.Unstored u q) = is_stored s.stored u q ≡ false
Says p s (reason.WordAt u q at) = HasWordAt s u q at
Says p s (reason.Unended k) = (progress_of s k).ended ≡ false
Says p s (reason.MoveCommand c) = IsNext s c.process c.place
Says p s (reason.Unknown k n) = known_uid s k n ≡ None
Says p s (reason.StandsFor k n u given) = known_uid s k n ≡ Some u
Says p s (reason.MoveStored u q) = is_stored s.stored u q ≡ true
Says p s (reason.MoveRecord u v) = HasFreeRecord p s u v
Says p s (reason.MoveNone u) = IsRoomless p s u
Says p s (reason.MoveOther u v) = IsFirstRoom p s u v
Says p s (reason.PartSummary c) = IsNext s c.process c.place
Says p s (reason.PartEnd c) = IsNext s c.process c.place
Says p s (reason.Zeros u q) = MayRelease s u q
Says p s _ = ⊥

-- ---- the reasons that speak of a command

-- the command at a place of a process
abbrev pub command_of : Plan → CommandAt → Option Command
command_of p c = command_at p c.process c.place

-- the command at a place of a process is there, and is answered so
abbrev pub IsDueOf : Plan → Store → ℕ → Option Command → Reply → Type 0
IsDueOf p s k None r = ⊥
IsDueOf p s k (Some c) r = reply_to_command p s k c ≡ r

abbrev pub IsDue : Plan → Store → CommandAt → Reply → Type 0
IsDue p s c r = IsDueOf p s c.process (command_of p c) r

-- the reference that a command at a place of a process makes
abbrev pub reference_in : Option Command → Option Reference
reference_in None = None
reference_in (Some c) = reference_of c

abbrev pub reference_at : Plan → ℕ → ℕ → Option Reference
reference_at p k i = reference_in (command_at p k i)

-- the command is a reference; it is a `length` or a `truncate`
abbrev pub is_reference : Option Command → Bool
is_reference None = false
is_reference (Some c) = is_some (reference_of c)

abbrev pub is_resize : Option Command → Bool
is_resize None = false
is_resize (Some c) = moves_pages c

abbrev pub may_fail_at : Option Command → Reply → Bool
may_fail_at None r = false
may_fail_at (Some c) r = may_fail c r

-- a reply that refuses a reference before a record is looked for
abbrev pub is_refusal : Reply → Bool
is_refusal reply.Gone = true
is_refusal reply.NoAccess = true
is_refusal reply.Length = true
is_refusal reply.Quota = true
is_refusal _ = false

-- a segment must move to a volume before a command is answered
pub record MustMove (p : Plan) (s : Store) (k : ℕ) (c : Command) (uid volume : ℕ) : Type 0 where
  pub held : is_held_back p s k c ≡ true
  pub first : room_for p s uid ≡ Some volume

abbrev pub MustMoveAt : Plan → Store → ℕ → Option Command → ℕ → ℕ → Type 0
MustMoveAt p s k None uid volume = ⊥
MustMoveAt p s k (Some c) uid volume = MustMove p s k c uid volume

-- the word that a reference would leave is 0
abbrev pub LeavesZero : Store → ℕ → Option Reference → Type 0
LeavesZero s k None = ⊥
LeavesZero s k (Some x) = IsSomeAnd (known_uid s k x.number) (λ uid. new_word (s.words uid x.offset) x.kind ≡ 0)

-- What a reason says is so: of the state, of the script, or of what a command is answered.
unfoldable pub IsSaid : Plan → Store → Reason → Type 0
IsSaid p s (reason.NoProcess k) = length p.processes ≤ k
IsSaid p s (reason.Ended k) = (progress_of s k).ended ≡ true
IsSaid p s (reason.Next k next given) = IsNext s k next
IsSaid p s (reason.Kept k) = (progress_of s 0).ended ≡ false
IsSaid p s (reason.DeviceFault k) = (progress_of s k).faulted ≡ false
IsSaid p s (reason.DeviceReference c r) = IsDue p s c r × (is_reference (command_of p c) ≡ true)
IsSaid p s (reason.DeviceRefused c r) = IsDue p s c r × (is_resize (command_of p c) ≡ true)
IsSaid p s (reason.DeviceOther c r) = IsDue p s c r × (is_reference (command_of p c) ≡ false)
IsSaid p s (reason.Due c r) = IsDue p s c r
IsSaid p s (reason.DueOrDevice c r) =
    IsDue p s c r × ((progress_of s c.process).faulted ≡ true) × (may_fail_at (command_of p c) r ≡ true)
IsSaid p s (reason.MoveFirst u v c) = MustMoveAt p s c.process (command_of p c) u v
IsSaid p s (reason.MoveDevice u v c) =
    MustMoveAt p s c.process (command_of p c) u v × ((progress_of s c.process).faulted ≡ true)
IsSaid p s (reason.Unstored u q) = is_stored s.stored u q ≡ false
IsSaid p s (reason.WordAt u q at) = (is_zero_page s.words u q ≡ false) × (q < 4194304 → HasWordAt s u q at)
IsSaid p s (reason.Unended k) = (progress_of s k).ended ≡ false
IsSaid p s (reason.MoveCommand c) = IsNext s c.process c.place
IsSaid p s (reason.Unknown k n) = known_uid s k n ≡ None
IsSaid p s (reason.StandsFor k n u given) = (known_uid s k n ≡ Some u) × (u ≢ given)
IsSaid p s (reason.MoveReply c r) = IsDue p s c r
IsSaid p s (reason.MoveZero c) = LeavesZero s c.process (reference_at p c.process c.place)
IsSaid p s (reason.MoveStored u q) = is_stored s.stored u q ≡ true
IsSaid p s (reason.MoveRecord u v) = HasFreeRecord p s u v
IsSaid p s (reason.MoveNone u) = IsRoomless p s u
IsSaid p s (reason.MoveOther u v) = IsFirstRoom p s u v
IsSaid p s (reason.PartSummary c) = IsNext s c.process c.place
IsSaid p s (reason.PartEnd c) = IsNext s c.process c.place
IsSaid p s (reason.Zeros u q) = MayRelease s u q

-- the reason is one of a book that isn't complete: at the end of a listing, or at its summary
abbrev pub is_part : Bool → Reason → Bool
is_part true (reason.PartEnd c) = true
is_part false (reason.PartSummary c) = true
is_part _ _ = false

-- the reason is that a stored page is all zeros
abbrev pub is_zeros : Reason → Bool
is_zeros (reason.Zeros u q) = true
is_zeros _ = false

-- ---- what a reason names

-- the process that a reason is about
abbrev pub process_in : Reason → Option ℕ
process_in (reason.NoProcess k) = Some k
process_in (reason.Ended k) = Some k
process_in (reason.Next k next given) = Some k
process_in (reason.Kept k) = Some k
process_in (reason.DeviceFault k) = Some k
process_in (reason.DeviceReference c r) = Some c.process
process_in (reason.DeviceRefused c r) = Some c.process
process_in (reason.DeviceOther c r) = Some c.process
process_in (reason.Due c r) = Some c.process
process_in (reason.DueOrDevice c r) = Some c.process
process_in (reason.MoveFirst u v c) = Some c.process
process_in (reason.MoveDevice u v c) = Some c.process
process_in (reason.Unended k) = Some k
process_in (reason.MoveCommand c) = Some c.process
process_in (reason.Unknown k n) = Some k
process_in (reason.StandsFor k n u given) = Some k
process_in (reason.MoveReply c r) = Some c.process
process_in (reason.MoveZero c) = Some c.process
process_in (reason.PartSummary c) = Some c.process
process_in (reason.PartEnd c) = Some c.process
process_in _ = None

-- the segment that a reason is about, where it is about no process
abbrev pub uid_in : Reason → Option ℕ
uid_in (reason.Unstored u q) = Some u
uid_in (reason.WordAt u q at) = Some u
uid_in (reason.MoveStored u q) = Some u
uid_in (reason.MoveRecord u v) = Some u
uid_in (reason.MoveNone u) = Some u
uid_in (reason.MoveOther u v) = Some u
uid_in (reason.Zeros u q) = Some u
uid_in _ = None

-- the page that a reason is about
abbrev pub page_in : Reason → Option ℕ
page_in (reason.Unstored u q) = Some q
page_in (reason.WordAt u q at) = Some q
page_in (reason.MoveStored u q) = Some q
page_in (reason.Zeros u q) = Some q
page_in _ = None

-- of the commands of a process a reason is about this one, where it is about one
abbrev pub IsOfCommand : ℕ → Reason → Type 0
IsOfCommand i (reason.Next k next given) = given ≡ i
IsOfCommand i (reason.DeviceReference c r) = c.place ≡ i
IsOfCommand i (reason.DeviceRefused c r) = c.place ≡ i
IsOfCommand i (reason.DeviceOther c r) = c.place ≡ i
IsOfCommand i (reason.Due c r) = c.place ≡ i
IsOfCommand i (reason.DueOrDevice c r) = c.place ≡ i
IsOfCommand i (reason.MoveFirst u v c) = c.place ≡ i
IsOfCommand i (reason.MoveDevice u v c) = c.place ≡ i
IsOfCommand i _ = Unit {0}

-- a reason is about a process, or else about a segment
abbrev pub IsOf : ℕ → ℕ → Reason → Type 0
IsOf k u r = (process_in r ≡ Some k) ⊎ (uid_in r ≡ Some u)

-- a reason is about what an entry names
abbrev pub IsAbout : Entry → Reason → Type 0
IsAbout (entry.Do k i cpu frame given) r = (process_in r ≡ Some k) × IsOfCommand i r
IsAbout (entry.Release u q) r = (uid_in r ≡ Some u) × (page_in r ≡ Some q)
IsAbout (entry.Fault (Some k)) r = process_in r ≡ Some k
IsAbout (entry.Moved k u v) r = IsOf k u r
IsAbout _ r = Unit {0}

-- What a reason says of an entry that isn't lawful is so: it is about what the entry names, and true.
pub record IsSo (p : Plan) (s : Store) (e : Entry) (r : Reason) : Type 0 where
  pub about : IsAbout e r
  pub said : IsSaid p s r
