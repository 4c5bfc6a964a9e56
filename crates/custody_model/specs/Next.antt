-- What each entry changes in custody.
use Rattle.std.specs.Prelude.{ℕ, ◌+◌, ◌-◌, Bool, true, false, ◌&&◌, ◌==◌, if◌then◌else◌, List, [], ◌∷◌, ◌++◌, length, drop, Option, Some, None}
use Rattle.assoc_mem.specs.declared.What.{What}
use Rattle.script.specs.Plans.{Plan}
use Rattle.script.specs.declared.commands.Command.{Command}
use Rattle.book.specs.declared.entries.Entry.{Entry}
use Rattle.book.specs.declared.entries.Entry.TheVariants as entry
use Rattle.book.specs.declared.replies.Reply.{Reply}
use Rattle.flat_model.specs.Commands.{is_end, tries_on}
use Rattle.flat_model.specs.Store.{Store, progress_of}
use Rattle.custody_model.specs.declared.FrameUse.{FrameUse}
use Rattle.custody_model.specs.declared.FrameUse.TheVariants as frame
use Rattle.custody_model.specs.declared.DescriptorUse.{DescriptorUse}
use Rattle.custody_model.specs.declared.DescriptorUse.TheVariants as descriptor
use Rattle.custody_model.specs.Custody.{Custody, Seat, range, taken, given_back, cut, reconnected, cleared, filled}
use Rattle.custody_model.specs.Allowed.{next_command}

-- a function changed at one place
abbrev pub at_put : {A : Type 0} → (ℕ → A) → ℕ → A → ℕ → A
at_put f i x = λ j. if j == i then x else f j

abbrev pub at_put_two : {A : Type 0} → (ℕ → ℕ → A) → ℕ → ℕ → A → ℕ → ℕ → A
at_put_two f k n x = λ i j. if i == k && j == n then x else f i j

abbrev pub with_frame : Custody → ℕ → FrameUse → Custody
with_frame c f x = record c { frame = at_put c.frame f x }

abbrev pub with_descriptor : Custody → ℕ → ℕ → DescriptorUse → Custody
with_descriptor c k n x = record c { descriptor = at_put_two c.descriptor k n x }

abbrev pub with_active : Custody → ℕ → Bool → Custody
with_active c u x = record c { active = at_put c.active u x }

abbrev pub with_seat : Custody → ℕ → Seat → Custody
with_seat c d x = record c { seat = at_put c.seat d x }

-- a process is loaded: it is ready no more, and its processor holds nothing
abbrev pub loaded : Custody → ℕ → ℕ → Custody
loaded c d k = record (with_seat c d (record (c.seat d)
    { process = Some k; count = 0; tried = false; segs = []; pages = [] })) { ready = drop 1 c.ready }

-- a process that hasn't ended goes to the back of the ready list
abbrev pub queued : Store → List ℕ → Option ℕ → List ℕ
queued s ready None = ready
queued s ready (Some k) = if (progress_of s k).ended then ready else ready ++ k ∷ []

abbrev pub left : Store → Custody → ℕ → Custody
left s c d = record (with_seat c d (record (c.seat d) { process = None; segs = []; pages = [] }))
    { ready = queued s c.ready (c.seat d).process }

-- a processor drops what is named, and every other one that takes part is to drop it
abbrev pub told : Custody → ℕ → What → ℕ → Seat → Seat
told c d w e seat = if e == d then cleared c w seat else if seat.online then record seat { due = Some w } else seat

abbrev pub signalled : Custody → ℕ → What → Custody
signalled c d w = record c { seat = λ e. told c d w e (c.seat e) }

abbrev pub answered_clear : Custody → ℕ → What → Custody
answered_clear c d w = with_seat c d (record (cleared c w (c.seat d)) { due = None })

-- whether a command was a try that doesn't end its `await`
abbrev pub is_try : Store → ℕ → Option Command → Reply → Bool
is_try s k None r = false
is_try s k (Some command) r = tries_on (progress_of s k) command r

-- the end of the initializer makes the other processes ready, in order
abbrev pub released_by : Plan → ℕ → Option Command → List ℕ
released_by p k None = []
released_by p k (Some command) = if is_end command && (p.initializer && k == 0) then range 1 (length p.processes - 1)
    else []

abbrev pub answered : Plan → Store → Custody → ℕ → ℕ → Option Command → Reply → Custody
answered p s c d k command r =
    record (with_seat c d (record (c.seat d) { count = (c.seat d).count + 1; tried = is_try s k command r })) {
      ready = c.ready ++ released_by p k command;
    }

-- the custody after an entry
unfoldable pub custody_next : Plan → Store → Custody → Entry → Custody
custody_next p s c (entry.Do k i d f r) = answered p s c d k (next_command p s k) r
custody_next p s c (entry.Release u q) = c
custody_next p s c (entry.Fault k) = c
custody_next p s c (entry.Moved k u w) = c
custody_next p s c (entry.Online d) = with_seat c d (record (c.seat d) { online = true })
custody_next p s c (entry.Load d k) = loaded c d k
custody_next p s c (entry.Leave d) = left s c d
custody_next p s c (entry.Activate u) = with_active c u true
custody_next p s c (entry.Deactivate u) = with_active c u false
custody_next p s c (entry.Start f u q) = with_frame c f (frame.Started u q)
custody_next p s c (entry.Lose f) = with_frame c f frame.Free
custody_next p s c (entry.Here f u q) = with_frame c f (frame.Current u q)
custody_next p s c (entry.Connect k n u) = with_descriptor c k n (descriptor.Current u)
custody_next p s c (entry.Take f) = with_frame c f (taken (c.frame f))
custody_next p s c (entry.Cut k n) = with_descriptor c k n (cut (c.descriptor k n))
custody_next p s c (entry.Signal d w) = signalled c d w
custody_next p s c (entry.Clear d w) = answered_clear c d w
custody_next p s c (entry.FillSeg d n) = with_seat c d (record (c.seat d) { segs = filled (c.seat d).segs n })
custody_next p s c (entry.FillPage d f) = with_seat c d (record (c.seat d) { pages = filled (c.seat d).pages f })
custody_next p s c (entry.GonePage f) = with_frame c f frame.Free
custody_next p s c (entry.BackPage f) = with_frame c f (given_back (c.frame f))
custody_next p s c (entry.GoneSeg k n) = with_descriptor c k n descriptor.Free
custody_next p s c (entry.BackSeg k n) = with_descriptor c k n (reconnected (c.descriptor k n))
