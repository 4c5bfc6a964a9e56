-- Which entries of a book custody allows, by the flat store before the entry (Bensoussan, Clingen and Daley 1972).
use Rattle.std.specs.Prelude.{◌≡◌, ◌≢◌, ◌<◌, ◌≤◌, ℕ, ◌/◌, Bool, true, false, ◌&&◌, not, ◌==◌, count_by, slice_index, List, [], ◌∷◌, Option, Some, None, IfSome, IsSomeAnd, ◌⊎◌}
use Rattle.assoc_mem.specs.declared.What.{What}
use Rattle.script.specs.Plans.{Plan, command_at}
use Rattle.script.specs.References.{reference_of}
use Rattle.script.specs.declared.commands.Command.{Command}
use Rattle.script.specs.declared.commands.Reference.{Reference}
use Rattle.book.specs.declared.entries.Entry.{Entry}
use Rattle.book.specs.declared.entries.Entry.TheVariants as entry
use Rattle.book.specs.declared.replies.Reply.{Reply}
use Rattle.book.specs.declared.replies.Reply.TheVariants as reply
use Rattle.tree_model.specs.Tree.{Node, node_in, pool_of}
use Rattle.flat_model.specs.Commands.{reply_to_command, takes_effect}
use Rattle.flat_model.specs.Pages.{is_stored}
use Rattle.flat_model.specs.Store.{Store, known_uid, progress_of}
use Rattle.custody_model.specs.declared.FrameUse.TheVariants as frame
use Rattle.custody_model.specs.declared.DescriptorUse.TheVariants as descriptor
use Rattle.custody_model.specs.Custody.{Custody, Seat, bound_page, is_started, is_current_frame, is_going_frame, is_current_descriptor, is_going_descriptor, has, names_frame, names_descriptor}
use Rattle.custody_model.specs.Effects.{HasNoPage, HasNoDescriptor, IsInNoFrame, MayTakeEffect}

-- ---- processors and processes

pub record MayComeOnline (p : Plan) (c : Custody) (d : ℕ) : Type 0 where
  pub processor : d < p.processors
  pub offline : (c.seat d).online ≡ false

abbrev pub IsFront : List ℕ → ℕ → Type 0
IsFront [] k = ⊥
IsFront (x ∷ xs) k = x ≡ k

-- a processor without a process loads the first that is ready
pub record MayLoad (c : Custody) (d k : ℕ) : Type 0 where
  pub online : (c.seat d).online ≡ true
  pub empty : (c.seat d).process ≡ None
  pub front : IsFront c.ready k

-- a process has had its turn: 16 command entries since it was loaded, or a try of an `await` as the last of them, which
-- didn't end it
abbrev pub HasHadItsTurn : Seat → Type 0
HasHadItsTurn s = (16 ≤ s.count) ⊎ (s.tried ≡ true)

-- it has ended, or has had its turn and another is ready
abbrev pub MayGo : Store → Custody → Seat → ℕ → Type 0
MayGo s c seat k = ((progress_of s k).ended ≡ true) ⊎ ((c.ready ≢ []) × HasHadItsTurn seat)

abbrev pub MayLeave : Store → Custody → ℕ → Type 0
MayLeave s c d = IsSomeAnd (c.seat d).process (MayGo s c (c.seat d))

-- ---- active segments

abbrev pub pool_size : Plan → ℕ → ℕ
pool_size p q = slice_index p.pools q

abbrev pub is_active_in : Custody → ℕ → Node → Bool
is_active_in c q n = c.active n.uid && (pool_of n == q)

-- its superior is active, and its pool has room
pub record MayJoin (p : Plan) (s : Store) (c : Custody) (n : Node) : Type 0 where
  pub superior : IfSome n.superior (λ v. c.active v ≡ true)
  pub room : count_by (is_active_in c (pool_of n)) s.nodes < pool_size p (pool_of n)

pub record MayActivate (p : Plan) (s : Store) (c : Custody) (u : ℕ) : Type 0 where
  pub inactive : c.active u ≡ false
  pub node : IsSomeAnd (node_in s.nodes u) (MayJoin p s c)

-- a segment may move to another volume: it is active, and no page of it is being read into a frame
pub record MayRehome (c : Custody) (u : ℕ) : Type 0 where
  pub active : c.active u ≡ true
  pub still : (f q : ℕ) → c.frame f ≢ frame.Started u q

abbrev pub superior_in : Option Node → Option ℕ
superior_in None = None
superior_in (Some n) = n.superior

pub record MayDeactivate (s : Store) (c : Custody) (u : ℕ) : Type 0 where
  pub active : c.active u ≡ true
  pub inferiors : (v : ℕ) → c.active v ≡ true → superior_in (node_in s.nodes v) ≢ Some u
  pub pages : HasNoPage c u
  pub descriptors : HasNoDescriptor c u

-- ---- frames and descriptors

-- a page may come into a free frame: it is in none, and its segment is active
pub record MayStart (p : Plan) (c : Custody) (f u q : ℕ) : Type 0 where
  pub there : f < p.frames
  pub free : c.frame f ≡ frame.Free
  pub nowhere : IsInNoFrame c u q
  pub active : c.active u ≡ true

-- a page was being read into the frame, of a segment that is active
pub record WasStarted (c : Custody) (f u q : ℕ) : Type 0 where
  pub started : c.frame f ≡ frame.Started u q
  pub active : c.active u ≡ true

abbrev pub MayBeHere : Plan → Custody → ℕ → ℕ → ℕ → Type 0
MayBeHere p c f u q = WasStarted c f u q ⊎ MayStart p c f u q

pub record MayConnect (s : Store) (c : Custody) (k n u : ℕ) : Type 0 where
  pub known : known_uid s k n ≡ Some u
  pub active : c.active u ≡ true
  pub free : c.descriptor k n ≡ descriptor.Free

-- ---- what goes

pub record GoesPage (c : Custody) : Type 0 where
  pub at : ℕ
  pub going : is_going_frame (c.frame at) ≡ true

pub record GoesDescriptor (c : Custody) : Type 0 where
  pub process : ℕ
  pub number : ℕ
  pub going : is_going_descriptor (c.descriptor process number) ≡ true

abbrev pub SomethingGoes : Custody → Type 0
SomethingGoes c = GoesPage c ⊎ GoesDescriptor c

-- all that goes is named
pub record NamesAllGoing (c : Custody) (w : What) : Type 0 where
  pub frames : (f : ℕ) → is_going_frame (c.frame f) ≡ true → names_frame c w f ≡ true
  pub descriptors : (k n : ℕ) → is_going_descriptor (c.descriptor k n) ≡ true → names_descriptor c w k n ≡ true

pub record MaySignal (p : Plan) (c : Custody) (d : ℕ) (w : What) : Type 0 where
  pub online : (c.seat d).online ≡ true
  pub none_due : (e : ℕ) → (c.seat e).due ≡ None
  pub something : SomethingGoes c
  pub all : NamesAllGoing c w

-- no processor holds the page table word of a frame
abbrev pub NobodyHoldsPage : Custody → ℕ → Type 0
NobodyHoldsPage c f = (d : ℕ) → has (c.seat d).pages f ≡ false

-- no processor of that process holds its descriptor
abbrev pub NobodyHoldsSeg : Custody → ℕ → ℕ → Type 0
NobodyHoldsSeg c k n = (d : ℕ) → (c.seat d).process ≡ Some k → has (c.seat d).segs n ≡ false

-- what is on its way out is gone, or back, once nobody holds it
pub record MayEndPage (c : Custody) (f : ℕ) : Type 0 where
  pub going : is_going_frame (c.frame f) ≡ true
  pub nobody : NobodyHoldsPage c f

pub record MayEndSeg (c : Custody) (k n : ℕ) : Type 0 where
  pub going : is_going_descriptor (c.descriptor k n) ≡ true
  pub nobody : NobodyHoldsSeg c k n

-- a processor takes an entry that is current, and that it doesn't hold
pub record MayFillPage (p : Plan) (c : Custody) (d f : ℕ) : Type 0 where
  pub processor : d < p.processors
  pub current : is_current_frame (c.frame f) ≡ true
  pub new : has (c.seat d).pages f ≡ false

pub record MayTakeSeg (c : Custody) (seat : Seat) (n k : ℕ) : Type 0 where
  pub current : is_current_descriptor (c.descriptor k n) ≡ true
  pub new : has seat.segs n ≡ false

abbrev pub MayFillSeg : Custody → ℕ → ℕ → Type 0
MayFillSeg c d n = IsSomeAnd (c.seat d).process (MayTakeSeg c (c.seat d) n)

-- ---- commands

-- a word was reached, or the command took effect
abbrev pub is_word_or_done : Reply → Bool
is_word_or_done (reply.Word w) = true
is_word_or_done reply.Done = true
is_word_or_done _ = false

abbrev pub is_device : Reply → Bool
is_device reply.Device = true
is_device _ = false

-- whether the page that a reference is to is stored; false where the number stands for nothing
abbrev pub stores : Store → Option ℕ → ℕ → Bool
stores s None offset = false
stores s (Some u) offset = is_stored s.stored u (offset / 1024)

abbrev pub IsPageAt : Option ℕ → ℕ → Option (ℕ × ℕ) → Type 0
IsPageAt known offset None = ⊥
IsPageAt known offset (Some x) = (known ≡ Some x.0) × (x.1 ≡ offset / 1024)

-- a reference goes through a frame: the processor holds the descriptor and the page table word, and the frame has the
-- page
pub record MayGoThrough (s : Store) (c : Custody) (d k f : ℕ) (r : Reference) (given : Reply) : Type 0 where
  pub segment : has (c.seat d).segs r.number ≡ true
  pub page : has (c.seat d).pages f ≡ true
  pub bound : IsPageAt (known_uid s k r.number) r.offset (bound_page (c.frame f))
  pub answered : is_word_or_done given ≡ true

-- without a frame it is refused, or its page isn't stored
abbrev pub MayGoWithout : Store → ℕ → Reference → Reply → Type 0
MayGoWithout s k r given = (is_word_or_done given ≡ false) ⊎ (stores s (known_uid s k r.number) r.offset ≡ false)

abbrev pub MayRefer : Store → Custody → ℕ → ℕ → Option ℕ → Reference → Reply → Type 0
MayRefer s c d k (Some f) r given = MayGoThrough s c d k f r given
MayRefer s c d k None r given = MayGoWithout s k r given

-- whether a tree command takes effect: the flat store doesn't refuse it, and no drive's failure stands in its place
abbrev pub is_effective : Plan → Store → ℕ → Command → Reply → Bool
is_effective p s k command given = takes_effect (reply_to_command p s k command) && not (is_device given)

-- a tree command goes through no frame; where it takes effect, what it takes away is out of use
pub record MayChangeTree (p : Plan) (s : Store) (c : Custody) (k : ℕ) (f : Option ℕ) (command : Command)
    (given : Reply) : Type 0 where
  pub without : f ≡ None
  pub out : is_effective p s k command given ≡ true → MayTakeEffect s c k command

abbrev pub MayAnswer : Plan → Store → Custody → ℕ → ℕ → Option ℕ → Command → Reply → Option Reference → Type 0
MayAnswer p s c d k f command given (Some r) = MayRefer s c d k f r given
MayAnswer p s c d k f command given None = MayChangeTree p s c k f command given

-- the command that a process comes to next
abbrev pub next_command : Plan → Store → ℕ → Option Command
next_command p s k = command_at p k (progress_of s k).place

-- a processor answers the next command of its process
pub record MayDo (p : Plan) (s : Store) (c : Custody) (k d : ℕ) (f : Option ℕ) (given : Reply) : Type 0 where
  pub process : (c.seat d).process ≡ Some k
  pub command : IsSomeAnd (next_command p s k) (λ command. MayAnswer p s c d k f command given (reference_of command))

-- ---- all entries

abbrev pub IsAllowed : Plan → Store → Custody → Entry → Type 0
IsAllowed p s c (entry.Do k i d f r) = MayDo p s c k d f r
IsAllowed p s c (entry.Release u q) = IsInNoFrame c u q
IsAllowed p s c (entry.Fault k) = Unit {0}
IsAllowed p s c (entry.Moved k u w) = MayRehome c u
IsAllowed p s c (entry.Online d) = MayComeOnline p c d
IsAllowed p s c (entry.Load d k) = MayLoad c d k
IsAllowed p s c (entry.Leave d) = MayLeave s c d
IsAllowed p s c (entry.Activate u) = MayActivate p s c u
IsAllowed p s c (entry.Deactivate u) = MayDeactivate s c u
IsAllowed p s c (entry.Start f u q) = MayStart p c f u q
IsAllowed p s c (entry.Lose f) = is_started (c.frame f) ≡ true
IsAllowed p s c (entry.Here f u q) = MayBeHere p c f u q
IsAllowed p s c (entry.Connect k n u) = MayConnect s c k n u
IsAllowed p s c (entry.Take f) = is_current_frame (c.frame f) ≡ true
IsAllowed p s c (entry.Cut k n) = is_current_descriptor (c.descriptor k n) ≡ true
IsAllowed p s c (entry.Signal d w) = MaySignal p c d w
IsAllowed p s c (entry.Clear d w) = (c.seat d).due ≡ Some w
IsAllowed p s c (entry.FillSeg d n) = MayFillSeg c d n
IsAllowed p s c (entry.FillPage d f) = MayFillPage p c d f
IsAllowed p s c (entry.GonePage f) = MayEndPage c f
IsAllowed p s c (entry.BackPage f) = MayEndPage c f
IsAllowed p s c (entry.GoneSeg k n) = MayEndSeg c k n
IsAllowed p s c (entry.BackSeg k n) = MayEndSeg c k n
