-- What the reasons say of the state before an entry, and that they are reasons of it (own).
use Rattle.std.specs.Prelude.{◌≡◌, ◌≢◌, ◌≤◌, ℕ, ◌&&◌, Bool, true, false, count_by, length, [], Option, Some, None, IsSomeAnd, MatchOption}
use Rattle.assoc_mem.specs.declared.What.{What}
use Rattle.script.specs.Plans.{Plan}
use Rattle.script.specs.References.{reference_of}
use Rattle.script.specs.declared.commands.Command.{Command}
use Rattle.script.specs.declared.commands.Command.TheVariants as command
use Rattle.book.specs.declared.entries.Entry.{Entry}
use Rattle.tree_model.specs.Tree.{node_in}
use Rattle.flat_model.specs.Pages.{is_stored}
use Rattle.flat_model.specs.Store.{Store, known_uid, progress_of}
use Rattle.custody_model.specs.declared.FrameUse.TheVariants as slot
use Rattle.custody_model.specs.declared.DescriptorUse.TheVariants as lead
use Rattle.custody_model.specs.Custody.{Custody, bound_page, has, is_going_descriptor, is_going_frame, is_started, is_uid, leads_to, names_descriptor, names_frame}
use Rattle.custody_model.specs.Allowed.{IsAllowed, IsFront, SomethingGoes, is_active_in, is_word_or_done, next_command}
use Rattle.clean_reasons.specs.Rows.{IsAbout}
use Rattle.clean_reasons.specs.declared.reasons.Held.{Held}
use Rattle.clean_reasons.specs.declared.reasons.Held.TheVariants as held
use Rattle.clean_reasons.specs.declared.reasons.Absent.{Absent}
use Rattle.clean_reasons.specs.declared.reasons.Absent.TheVariants as absent
use Rattle.clean_reasons.specs.declared.reasons.SeatReason.{SeatReason}
use Rattle.clean_reasons.specs.declared.reasons.SeatReason.TheVariants as seat
use Rattle.clean_reasons.specs.declared.reasons.ReadyReason.{ReadyReason}
use Rattle.clean_reasons.specs.declared.reasons.ReadyReason.TheVariants as ready
use Rattle.clean_reasons.specs.declared.reasons.ActiveReason.{ActiveReason}
use Rattle.clean_reasons.specs.declared.reasons.ActiveReason.TheVariants as active
use Rattle.clean_reasons.specs.declared.reasons.FrameReason.{FrameReason}
use Rattle.clean_reasons.specs.declared.reasons.FrameReason.TheVariants as frame
use Rattle.clean_reasons.specs.declared.reasons.DescriptorReason.{DescriptorReason}
use Rattle.clean_reasons.specs.declared.reasons.DescriptorReason.TheVariants as descriptor
use Rattle.clean_reasons.specs.declared.reasons.CommandReason.{CommandReason}
use Rattle.clean_reasons.specs.declared.reasons.CommandReason.TheVariants as answer
use Rattle.clean_reasons.specs.declared.reasons.CommandWord.{CommandWord}
use Rattle.clean_reasons.specs.declared.reasons.CommandWord.TheVariants as word
use Rattle.clean_reasons.specs.declared.reasons.EffectReason.{EffectReason}
use Rattle.clean_reasons.specs.declared.reasons.EffectReason.TheVariants as effect
use Rattle.clean_reasons.specs.declared.reasons.Reason.{Reason}
use Rattle.clean_reasons.specs.declared.reasons.Reason.TheVariants as reason

-- ---- of the state

abbrev pub AbsentSays : Plan → Absent → Type 0
AbsentSays p (absent.Processor d) = p.processors ≤ d
AbsentSays p (absent.Frame f) = p.frames ≤ f
AbsentSays p (absent.Process k) = length p.processes ≤ k

-- a page is in a frame, or is being read into it
abbrev pub IsIn : Custody → ℕ → ℕ → ℕ → Type 0
IsIn c u q f = bound_page (c.frame f) ≡ Some (u, q)

abbrev pub IsReadInto : Custody → ℕ → ℕ → ℕ → Type 0
IsReadInto c u q f = c.frame f ≡ slot.Started u q

abbrev pub IsConnected : Custody → ℕ → ℕ → Type 0
IsConnected c k n = c.descriptor k n ≢ lead.Free

-- a processor's process is this one, and it holds that descriptor of it
abbrev pub holds_seg : Custody → ℕ → ℕ → ℕ → Bool
holds_seg c d k n = is_uid k (c.seat d).process && has (c.seat d).segs n

abbrev pub holds : Custody → ℕ → Held → Bool
holds c d (held.Descriptor at) = holds_seg c d at.process at.number
holds c d (held.Frame f) = has (c.seat d).pages f

-- its process has had so many command entries since its load, and no try of an `await` was the last that goes on
pub record IsEarly (c : Custody) (k n d : ℕ) : Type 0 where
  pub process : (c.seat d).process ≡ Some k
  pub count : (c.seat d).count ≡ n
  pub tried : (c.seat d).tried ≡ false

abbrev pub SeatSays : Custody → SeatReason → Type 0
SeatSays c (seat.Online d) = (c.seat d).online ≡ true
SeatSays c (seat.Offline d) = (c.seat d).online ≡ false
SeatSays c (seat.Busy d k) = (c.seat d).process ≡ Some k
SeatSays c (seat.Idle d) = (c.seat d).process ≡ None
SeatSays c (seat.OtherProcess d x k) = (c.seat d).process ≡ Some x
SeatSays c (seat.Due w d) = (c.seat d).due ≡ Some w
SeatSays c (seat.NoneDue d) = (c.seat d).due ≡ None
SeatSays c (seat.OtherDue d x w) = (c.seat d).due ≡ Some x
SeatSays c (seat.HoldsAlready d h) = holds c d h ≡ true
SeatSays c (seat.Holds d h) = holds c d h ≡ true
SeatSays c (seat.Lacks d h) = holds c d h ≡ false
SeatSays c (seat.Early k n d) = IsEarly c k n d

-- a process hasn't ended, and no other one is ready
pub record IsLast (s : Store) (c : Custody) (k : ℕ) : Type 0 where
  pub going : (progress_of s k).ended ≡ false
  pub empty : c.ready ≡ []

abbrev pub ReadySays : Store → Custody → ReadyReason → Type 0
ReadySays s c ready.Empty = c.ready ≡ []
ReadySays s c (ready.Front x k) = IsFront c.ready x
ReadySays s c (ready.Last k) = IsLast s c k

-- a segment or directory is in the tree, and the one that is named as its superior isn't active
pub record IsBelowInactive (s : Store) (c : Custody) (v u : ℕ) : Type 0 where
  pub node : node_in s.nodes u ≢ None
  pub inactive : c.active v ≡ false

abbrev pub ActiveSays : Store → Custody → ActiveReason → Type 0
ActiveSays s c (active.NoNode u) = node_in s.nodes u ≡ None
ActiveSays s c (active.Active u) = c.active u ≡ true
ActiveSays s c (active.Superior v u) = IsBelowInactive s c v u
ActiveSays s c (active.Pool z m) = m ≤ count_by (is_active_in c z) s.nodes
ActiveSays s c (active.Inactive u) = c.active u ≡ false
ActiveSays s c (active.Inferior v u) = c.active v ≡ true

-- the page in a frame is on its way out, and isn't named
pub record FrameIsUnnamed (c : Custody) (w : What) (f : ℕ) : Type 0 where
  pub going : is_going_frame (c.frame f) ≡ true
  pub unnamed : names_frame c w f ≡ false

abbrev pub FrameSays : Custody → FrameReason → Type 0
FrameSays c (frame.HasPage p f) = IsIn c p.uid p.page f
FrameSays c (frame.HasRead p f) = IsReadInto c p.uid p.page f
FrameSays c (frame.Bound f p) = IsIn c p.uid p.page f
FrameSays c (frame.Read f p) = IsReadInto c p.uid p.page f
FrameSays c (frame.PageIn p f) = IsIn c p.uid p.page f
FrameSays c (frame.PageRead p f) = IsReadInto c p.uid p.page f
FrameSays c (frame.NotRead f) = is_started (c.frame f) ≡ false
FrameSays c (frame.NoPage f) = bound_page (c.frame f) ≡ None
FrameSays c (frame.Going f) = is_going_frame (c.frame f) ≡ true
FrameSays c (frame.Stays f) = is_going_frame (c.frame f) ≡ false
FrameSays c (frame.OtherPage f o p) = IsIn c o.uid o.page f
FrameSays c (frame.Unnamed w f) = FrameIsUnnamed c w f

-- a descriptor is on its way out, and isn't named
pub record DescriptorIsUnnamed (c : Custody) (w : What) (k n : ℕ) : Type 0 where
  pub going : is_going_descriptor (c.descriptor k n) ≡ true
  pub unnamed : names_descriptor c w k n ≡ false

abbrev pub DescriptorSays : Store → Custody → DescriptorReason → Type 0
DescriptorSays s c (descriptor.Leads d u) = leads_to (c.descriptor d.process d.number) ≡ Some u
DescriptorSays s c (descriptor.Unknown n k) = known_uid s k n ≡ None
DescriptorSays s c (descriptor.StandsFor n k v u) = known_uid s k n ≡ Some v
DescriptorSays s c (descriptor.Connected d) = IsConnected c d.process d.number
DescriptorSays s c (descriptor.Unconnected d) = c.descriptor d.process d.number ≡ lead.Free
DescriptorSays s c (descriptor.Going d) = is_going_descriptor (c.descriptor d.process d.number) ≡ true
DescriptorSays s c (descriptor.Stays d) = is_going_descriptor (c.descriptor d.process d.number) ≡ false
DescriptorSays s c (descriptor.Unnamed w d) = DescriptorIsUnnamed c w d.process d.number
DescriptorSays s c descriptor.NothingGoes = SomethingGoes c → ⊥

abbrev pub EffectSays : Custody → EffectReason → Type 0
EffectSays c (effect.Connected t d) = IsConnected c d.process d.number
EffectSays c (effect.DeleteActive u) = c.active u ≡ true
EffectSays c (effect.LengthActive u) = c.active u ≡ true
EffectSays c (effect.InFrame l p f) = IsIn c p.uid p.page f
EffectSays c (effect.BeingRead l p f) = IsReadInto c p.uid p.page f

-- the sentence of a reason; those that speak of the entry, of the script or of the reply have none
abbrev pub Says : Store → Custody → Reason → Type 0
Says s c (reason.Absent r) = ⊥
Says s c (reason.Seat r) = SeatSays c r
Says s c (reason.Ready r) = ReadySays s c r
Says s c (reason.Active r) = ActiveSays s c r
Says s c (reason.Frame r) = FrameSays c r
Says s c (reason.Descriptor r) = DescriptorSays s c r
Says s c (reason.Command (answer.Stored a p)) = is_stored s.stored p.uid p.page ≡ true
Says s c (reason.Command _) = ⊥
Says s c (reason.Effect r) = EffectSays c r

-- whether a reason has a sentence
abbrev pub has_since : Reason → Bool
has_since (reason.Absent r) = false
has_since (reason.Command (answer.Stored a p)) = true
has_since (reason.Command _) = false
has_since _ = true

-- ---- of a command

abbrev pub word_of : Command → CommandWord
word_of (command.MkDir path v) = word.MkDir
word_of (command.MkSeg path n v) = word.MkSeg
word_of (command.Initiate path) = word.Initiate
word_of (command.Terminate n) = word.Terminate
word_of (command.Read n o) = word.Read
word_of (command.Write n o w) = word.Write
word_of (command.Add n o w) = word.Add
word_of (command.Await n o w t) = word.Await
word_of (command.Acl path row m) = word.Acl
word_of (command.Length path n) = word.Length
word_of (command.Truncate path n) = word.Truncate
word_of (command.Delete path) = word.Delete
word_of (command.Move path n) = word.Move
word_of (command.Status path) = word.Status
word_of command.End = word.End

-- a command is no reference, and has this first word
pub record IsTreeCommand (w : CommandWord) (c : Command) : Type 0 where
  pub tree : reference_of c ≡ None
  pub word : word_of c ≡ w

abbrev pub CommandSays : Plan → Store → CommandReason → Type 0
CommandSays p s (answer.NoneLeft k) = next_command p s k ≡ None
CommandSays p s (answer.Refused a r) = is_word_or_done r ≡ false
CommandSays p s (answer.Stored a x) = is_stored s.stored x.uid x.page ≡ true
CommandSays p s (answer.Tree a w) = IsSomeAnd (next_command p s a.process) (IsTreeCommand w)

-- What a reason says is so: of the state, of the script, or of a command.
abbrev pub IsSaid : Plan → Store → Custody → Reason → Type 0
IsSaid p s c (reason.Absent r) = AbsentSays p r
IsSaid p s c (reason.Seat r) = SeatSays c r
IsSaid p s c (reason.Ready r) = ReadySays s c r
IsSaid p s c (reason.Active r) = ActiveSays s c r
IsSaid p s c (reason.Frame r) = FrameSays c r
IsSaid p s c (reason.Descriptor r) = DescriptorSays s c r
IsSaid p s c (reason.Command r) = CommandSays p s r
IsSaid p s c (reason.Effect r) = EffectSays c r

-- A reason for which custody doesn't allow an entry is so: it is one of the conditions that the entry needs, with the
-- numbers that the entry names, and what it says is true.
pub record IsSo (p : Plan) (s : Store) (c : Custody) (e : Entry) (r : Reason) : Type 0 where
  pub about : IsAbout p s c e r
  pub said : IsSaid p s c r

-- whether a reason is that the script hasn't what the entry names
abbrev pub is_absent : Reason → Bool
is_absent (reason.Absent r) = true
is_absent _ = false

-- Each other reason that is so of an entry refuses it by itself.
abbrev pub AreRefusals : Plan → Store → Custody → Entry → Type 0
AreRefusals p s c e = (r : Reason) → is_absent r ≡ false → IsSo p s c e r → IsAllowed p s c e → ⊥

-- what an answer tells of an entry: without a reason the entry is allowed, and a reason is so
abbrev pub Tells : Plan → Store → Custody → Entry → Option Reason → Type 0
Tells p s c e r = MatchOption r (IsAllowed p s c e) (IsSo p s c e)
