-- What each entry changes in the tables (own).
use Rattle.std.specs.Prelude.{◌≡◌, ◌<◌, ◌+◌, ◌-◌, ℕ, Bool, true, false, not, ◌==◌, if◌then◌else◌, slice_set, replicate, length, drop, List, [], ◌∷◌, ◌++◌, Option, Some, None}
use Rattle.std.specs.List.{filter}
use Rattle.assoc_mem.specs.declared.What.{What}
use Rattle.assoc_mem.specs.declared.What.TheVariants as what
use Rattle.script.specs.Plans.{Plan}
use Rattle.script.specs.declared.commands.Command.{Command}
use Rattle.book.specs.declared.entries.Entry.{Entry}
use Rattle.book.specs.declared.entries.Entry.TheVariants as entry
use Rattle.book.specs.declared.replies.Reply.{Reply}
use Rattle.tree_model.specs.Tree.{node_in}
use Rattle.flat_model.specs.Store.{Store, known_uid}
use Rattle.custody_model.specs.Allowed.{next_command}
use Rattle.custody_model.specs.Custody.{Seat, bound_page, cut, filled, given_back, is_uid, leads_to, reconnected, taken, uid_of_page}
use Rattle.custody_model.specs.Next.{is_try, queued, released_by}
use Rattle.custody_model.specs.declared.FrameUse.{FrameUse}
use Rattle.custody_model.specs.declared.FrameUse.TheVariants as frame
use Rattle.custody_model.specs.declared.DescriptorUse.{DescriptorUse}
use Rattle.custody_model.specs.declared.DescriptorUse.TheVariants as descriptor
use Rattle.custody.specs.Uses.{frame_at, descriptor_at}
use Rattle.custody.specs.Tables.{Tables, row_at, seat_at, use_in}
use Rattle.custody.specs.declared.active.ActiveUse.{ActiveUse}

-- ---- one place of a table

-- the list of active segments once it has a place for a uid
abbrev pub with_place : List (Option ActiveUse) → ℕ → List (Option ActiveUse)
with_place uses u = uses ++ replicate (u + 1 - length uses) None

abbrev pub put_active : List (Option ActiveUse) → ℕ → Option ActiveUse → List (Option ActiveUse)
put_active uses u a = slice_set (with_place uses u) u a

abbrev pub put_use : Tables → ℕ → Option ActiveUse → Tables
put_use t u a = record t { active = put_active t.active u a }

abbrev pub put_frame : Tables → ℕ → FrameUse → Tables
put_frame t f x = record t { frames = slice_set t.frames f x }

abbrev pub put_descriptor : Tables → ℕ → ℕ → DescriptorUse → Tables
put_descriptor t k n x = record t { descriptors = slice_set t.descriptors k (slice_set (row_at t.descriptors k) n x) }

abbrev pub put_seat : Tables → ℕ → Seat → Tables
put_seat t d s = record t { seats = slice_set t.seats d s }

-- ---- what a processor drops

-- whether the page table word of a frame with this use is named
abbrev pub names_use : What → ℕ → FrameUse → Bool
names_use what.All f x = true
names_use (what.Page g) f x = f == g
names_use (what.Seg u) f x = is_uid u (uid_of_page (bound_page x))

-- whether a descriptor with this use is named
abbrev pub names_lead : What → DescriptorUse → Bool
names_lead what.All x = true
names_lead (what.Page g) x = false
names_lead (what.Seg u) x = is_uid u (leads_to x)

-- whether the descriptor of a number of a processor's process is named, where it has one
abbrev pub names_held : List (List DescriptorUse) → What → Option ℕ → ℕ → Bool
names_held rows w None n = false
names_held rows w (Some k) n = names_lead w (descriptor_at (row_at rows k) n)

-- a processor that dropped what is named
abbrev pub dropped : List FrameUse → List (List DescriptorUse) → What → Seat → Seat
dropped frames rows w s = record s {
  segs = filter (λ n. not (names_held rows w s.process n)) s.segs;
  pages = filter (λ f. not (names_use w f (frame_at frames f))) s.pages;
}

abbrev pub drop_at : Tables → ℕ → What → Tables
drop_at t d w = put_seat t d (dropped t.frames t.descriptors w (seat_at t.seats d))

-- a processor that takes part is to drop this
abbrev pub warned : What → Seat → Seat
warned w s = if s.online then record s { due = Some w } else s

-- each of these processors but one is told so; the first of them has this number
abbrev pub warn_from : ℕ → What → ℕ → List Seat → List Seat
warn_from d w e [] = []
warn_from d w e (s ∷ ss) = (if e == d then s else warned w s) ∷ warn_from d w (e + 1) ss

abbrev pub warn_others : Tables → ℕ → What → Tables
warn_others t d w = record t { seats = warn_from d w 0 t.seats }

-- a processor was answered what it was to drop
abbrev pub clear_at : Tables → ℕ → What → Tables
clear_at t d w = put_seat t d (record (dropped t.frames t.descriptors w (seat_at t.seats d)) { due = None })

-- ---- processes

abbrev pub load_at : Tables → ℕ → ℕ → Tables
load_at t d k =
    record (put_seat t d (record (seat_at t.seats d) {
      process = Some k;
      count = 0;
      tried = false;
      segs = [];
      pages =
          [];
    })) {
      ready = drop 1 t.ready;
    }

abbrev pub leave_at : Store → Tables → ℕ → Tables
leave_at s t d =
    record (put_seat t d (record (seat_at t.seats d) { process = None; segs = []; pages = [] })) {
      ready = queued s t.ready (seat_at t.seats d).process;
    }

abbrev pub answer_at : Plan → Store → Tables → ℕ → ℕ → Option Command → Reply → Tables
answer_at p s t d k command r =
    record (put_seat t d (record (seat_at t.seats d) {
      count = (seat_at t.seats d).count + 1;
      tried =
          is_try s k command r;
    })) {
      ready = t.ready ++ released_by p k command;
    }

-- ---- all entries

-- A number that a process knows is one of its 256.
abbrev pub IsNumber : Store → ℕ → ℕ → ℕ → Type 0
IsNumber s k n u = known_uid s k n ≡ Some u → n < 256

-- What an entry makes of the tables, by the flat store before it.
abbrev pub Advances : Plan → Store → Tables → Tables → Entry → Type 0
Advances p s t v (entry.Do k i d f r) = v ≡ answer_at p s t d k (next_command p s k) r
Advances p s t v (entry.Release u q) = v ≡ t
Advances p s t v (entry.Fault k) = v ≡ t
Advances p s t v (entry.Moved k u w) = v ≡ t
Advances p s t v (entry.Online d) = v ≡ put_seat t d (record (seat_at t.seats d) { online = true })
Advances p s t v (entry.Load d k) = v ≡ load_at t d k
Advances p s t v (entry.Leave d) = v ≡ leave_at s t d
Advances p s t v (entry.Activate u) = v ≡ put_use t u (use_in (node_in s.nodes u))
Advances p s t v (entry.Deactivate u) = v ≡ put_use t u None
Advances p s t v (entry.Start f u q) = v ≡ put_frame t f (frame.Started u q)
Advances p s t v (entry.Lose f) = v ≡ put_frame t f frame.Free
Advances p s t v (entry.Here f u q) = v ≡ put_frame t f (frame.Current u q)
Advances p s t v (entry.Connect k n u) = (v ≡ put_descriptor t k n (descriptor.Current u)) × IsNumber s k n u
Advances p s t v (entry.Take f) = v ≡ put_frame t f (taken (frame_at t.frames f))
Advances p s t v (entry.Cut k n) = v ≡ put_descriptor t k n (cut (descriptor_at (row_at t.descriptors k) n))
Advances p s t v (entry.Signal d w) = v ≡ drop_at (warn_others t d w) d w
Advances p s t v (entry.Clear d w) = v ≡ clear_at t d w
Advances p s t v (entry.FillSeg d n) = v ≡ put_seat t d
    (record (seat_at t.seats d) { segs = filled (seat_at t.seats d).segs n })
Advances p s t v (entry.FillPage d f) = v ≡ put_seat t d
    (record (seat_at t.seats d) { pages = filled (seat_at t.seats d).pages f })
Advances p s t v (entry.GonePage f) = v ≡ put_frame t f frame.Free
Advances p s t v (entry.BackPage f) = v ≡ put_frame t f (given_back (frame_at t.frames f))
Advances p s t v (entry.GoneSeg k n) = v ≡ put_descriptor t k n descriptor.Free
Advances p s t v (entry.BackSeg k n) = v ≡ put_descriptor t k n (reconnected (descriptor_at (row_at t.descriptors k) n))

-- ---- kinds of entries

-- whether an entry is of a frame, of a descriptor, or of a processor alone
abbrev pub is_of_frame : Entry → Bool
is_of_frame (entry.Start f u q) = true
is_of_frame (entry.Here f u q) = true
is_of_frame (entry.Lose f) = true
is_of_frame (entry.Take f) = true
is_of_frame (entry.GonePage f) = true
is_of_frame (entry.BackPage f) = true
is_of_frame _ = false

abbrev pub is_of_descriptor : Entry → Bool
is_of_descriptor (entry.Connect k n u) = true
is_of_descriptor (entry.Cut k n) = true
is_of_descriptor (entry.GoneSeg k n) = true
is_of_descriptor (entry.BackSeg k n) = true
is_of_descriptor _ = false

abbrev pub is_of_seat : Entry → Bool
is_of_seat (entry.Online d) = true
is_of_seat (entry.Load d k) = true
is_of_seat (entry.Signal d w) = true
is_of_seat (entry.Clear d w) = true
is_of_seat (entry.FillSeg d n) = true
is_of_seat (entry.FillPage d f) = true
is_of_seat _ = false
