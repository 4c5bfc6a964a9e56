-- What is true of the book, of custody and of what ties the tables to it: the half of the machine's promise that each
-- entry of the book keeps by itself (Bensoussan, Clingen and Daley 1972; own).
use Rattle.std.specs.Prelude.{◌≡◌, ◌≤◌, ℕ, Bool, true, false, length, List, [], ◌∷◌, Option, Some, None}
use Rattle.std.specs.List.{list_any}
use Rattle.assoc_mem.specs.declared.HeldPage.{HeldPage}
use Rattle.assoc_mem.specs.declared.HeldSeg.{HeldSeg}
use Rattle.assoc_mem.specs.declared.What.{What}
use Rattle.assoc_mem.specs.declared.What.TheVariants as what
use Rattle.page_table.specs.declared.Ptw.{Ptw}
use Rattle.page_table.specs.declared.Ptw.TheVariants as ptw
use Rattle.processor.specs.declared.Transfer.{Transfer}
use Rattle.flat_model.specs.Legal.{IsLegal}
use Rattle.flat_model.specs.Store.{Progress, progress_of}
use Rattle.custody_model.specs.declared.DescriptorUse.{DescriptorUse}
use Rattle.custody_model.specs.Allowed.{SomethingGoes, NamesAllGoing}
use Rattle.custody_model.specs.Clean.{IsClean, custody_after}
use Rattle.custody_model.specs.Custody.{Custody, has, is_going_frame, is_going_descriptor, leads_to}
use Rattle.custody_model.specs.Fine.{Fine}
use Rattle.machine_model.specs.declared.Aim.{Aim}
use Rattle.machine_model.specs.declared.Aim.TheVariants as aim
use Rattle.machine_model.specs.declared.Phase.{Phase}
use Rattle.machine_model.specs.declared.Phase.TheVariants as phase
use Rattle.machine_model.specs.Reads.{frames_of_owner, cut_of_owner}
use Rattle.machine_model.specs.declared.Processor.{Processor}
use Rattle.machine_model.specs.declared.Run.{Run}
use Rattle.machine_model.specs.declared.CutDescriptor.{CutDescriptor}
use Rattle.machine_model.specs.State.{Owner}
use Rattle.machine_model.specs.Seen.{Seen, flat, shown, is_cut_at}

-- ---- the owner's job

-- whether the job took something for which it hasn't signalled yet
abbrev pub is_pending_in : Phase → Bool
is_pending_in phase.Looking = false
is_pending_in (phase.Taken aim w) = true
is_pending_in (phase.Waiting aim w) = false
is_pending_in (phase.Moving m) = false

abbrev pub is_pending : Option Owner → Bool
is_pending None = false
is_pending (Some o) = is_pending_in o.phase

-- what the job is to signal
abbrev pub says_in : Phase → Option What
says_in phase.Looking = None
says_in (phase.Taken aim w) = Some w
says_in (phase.Waiting aim w) = None
says_in (phase.Moving m) = None

abbrev pub says : Option Owner → Option What
says None = None
says (Some o) = says_in o.phase

-- what the job signalled, and waits for
abbrev pub waits_in : Phase → Option What
waits_in phase.Looking = None
waits_in (phase.Taken aim w) = None
waits_in (phase.Waiting aim w) = Some w
waits_in (phase.Moving m) = None

abbrev pub waits_for : Option Owner → Option What
waits_for None = None
waits_for (Some o) = waits_in o.phase

-- An eviction has taken one page, and names its frame. A deactivation names its segment.
abbrev pub IsAimed : Aim → What → List ℕ → List CutDescriptor → Type 0
IsAimed aim.Evicting w frames cut = (f : ℕ) × (frames ≡ f ∷ []) × (w ≡ what.Page f) × (cut ≡ [])
IsAimed (aim.Deactivating u) w frames cut = w ≡ what.Seg u
IsAimed aim.Committing w frames cut = Unit {0}

-- a job that looks, or moves a segment, has taken nothing
abbrev pub FitsPhase : Phase → List ℕ → List CutDescriptor → Type 0
FitsPhase phase.Looking frames cut = (frames ≡ []) × (cut ≡ [])
FitsPhase (phase.Taken aim w) frames cut = IsAimed aim w frames cut
FitsPhase (phase.Waiting aim w) frames cut = IsAimed aim w frames cut
FitsPhase (phase.Moving m) frames cut = (frames ≡ []) × (cut ≡ [])

abbrev pub IsShaped : Option Owner → Type 0
IsShaped None = Unit {0}
IsShaped (Some o) = FitsPhase o.phase o.frames o.cut

-- whether a descriptor is among some that were cut
abbrev pub has_cut : List CutDescriptor → ℕ → ℕ → Bool
has_cut ds k n = list_any (is_cut_at k n) ds

-- each frame is listed once, and each descriptor
abbrev pub AreDistinct : List ℕ → Type 0
AreDistinct [] = Unit {0}
AreDistinct (f ∷ fs) = (has fs f ≡ false) × AreDistinct fs

abbrev pub AreApart : List CutDescriptor → Type 0
AreApart [] = Unit {0}
AreApart (d ∷ ds) = (has_cut ds d.process d.number ≡ false) × AreApart ds

-- Something is going only in the owner's job: what goes is what the job has taken, each once. A clear that is due is
-- the one that the job waits for, and something goes then. What the job is to signal names all that goes.
pub record IsOwned (c : Custody) (o : Option Owner) : Type 0 where
  pub frames : (f : ℕ) → is_going_frame (c.frame f) ≡ has (frames_of_owner o) f
  pub cuts : (k n : ℕ) → is_going_descriptor (c.descriptor k n) ≡ has_cut (cut_of_owner o) k n
  pub once : AreDistinct (frames_of_owner o)
  pub apart : AreApart (cut_of_owner o)
  pub due : (d : ℕ) (w : What) → (c.seat d).due ≡ Some w → waits_for o ≡ Some w
  pub alive : (d : ℕ) (w : What) → (c.seat d).due ≡ Some w → SomethingGoes c
  pub says : (w : What) → says o ≡ Some w → SomethingGoes c × NamesAllGoing c w
  pub shaped : IsShaped o

-- ---- frames and page table words

-- the frame that a word names
abbrev pub names : Ptw → Option ℕ
names ptw.Null = None
names (ptw.Out r) = None
names (ptw.Here f) = Some f
names (ptw.Leaving f) = Some f

abbrev pub is_out : Ptw → Bool
is_out ptw.Null = false
is_out (ptw.Out r) = true
is_out (ptw.Here f) = false
is_out (ptw.Leaving f) = false

-- A frame is bound to a page exactly where the word of that page names the frame. A page that is being read into a
-- frame is on its record alone, and into no other frame; such a frame isn't bound.
pub record IsTied (bound reads : ℕ → Option (ℕ × ℕ)) (words : ℕ → ℕ → Ptw) : Type 0 where
  pub named : (f u p : ℕ) → bound f ≡ Some (u, p) → names (words u p) ≡ Some f
  pub back : (f u p : ℕ) → names (words u p) ≡ Some f → bound f ≡ Some (u, p)
  pub out : (f u p : ℕ) → reads f ≡ Some (u, p) → is_out (words u p) ≡ true
  pub alone : (f g u p : ℕ) → reads f ≡ Some (u, p) → reads g ≡ Some (u, p) → f ≡ g
  pub unbound : (f u p : ℕ) → reads f ≡ Some (u, p) → bound f ≡ None

-- ---- processors

-- each page table word that is held is that of the page in its frame
abbrev pub AreHeldPages : (ℕ → Option (ℕ × ℕ)) → List HeldPage → Type 0
AreHeldPages bound [] = Unit {0}
AreHeldPages bound (e ∷ es) = (bound e.frame ≡ Some (e.uid, e.page)) × AreHeldPages bound es

-- each descriptor that is held leads, or led until it was cut, to its segment
abbrev pub AreHeldSegs : (ℕ → ℕ → DescriptorUse) → ℕ → List HeldSeg → Type 0
AreHeldSegs descriptor k [] = Unit {0}
AreHeldSegs descriptor k (e ∷ es) = (leads_to (descriptor k e.number) ≡ Some e.uid) × AreHeldSegs descriptor k es

-- a processor without a process holds no descriptor
abbrev pub AreOfProcess : (ℕ → ℕ → DescriptorUse) → Option ℕ → List HeldSeg → Type 0
AreOfProcess descriptor None es = es ≡ []
AreOfProcess descriptor (Some k) es = AreHeldSegs descriptor k es

-- What a processor holds, at most 16 of each kind, agrees with the frames and the descriptors. One that is to drop
-- something takes part.
pub record HoldsRight (bound : ℕ → Option (ℕ × ℕ)) (descriptor : ℕ → ℕ → DescriptorUse) (p : Processor) : Type 0 where
  pub pages : AreHeldPages bound p.cpu.assoc.pages
  pub segs : AreOfProcess descriptor p.cpu.process p.cpu.assoc.segs
  pub few_pages : length p.cpu.assoc.pages ≤ 16
  pub few_segs : length p.cpu.assoc.segs ≤ 16
  pub warned : (w : What) → p.cpu.due ≡ Some w → p.cpu.online ≡ true

-- A transfer that a processor has under way reads its page into its frame, and each page that is being read into a
-- frame is some processor's transfer, of just one.
pub record AreUnderWay (reads : ℕ → Option (ℕ × ℕ)) (processors : ℕ → Processor) : Type 0 where
  pub reading : (d : ℕ) (t : Transfer) → (processors d).cpu.transfer ≡ Some t → reads t.frame ≡ Some (t.uid, t.page)
  pub reader : (f u p : ℕ) → reads f ≡ Some (u, p)
      → (d : ℕ) × ((processors d).cpu.transfer ≡ Some (record { frame = f; uid = u; page = p }))
  pub alone : (d e : ℕ) (t v : Transfer) → (processors d).cpu.transfer ≡ Some t → (processors e).cpu.transfer ≡ Some v
      → t.frame ≡ v.frame → d ≡ e

-- how far a process has come, by the flat store
pub record IsRun (q : Progress) (run : Run) : Type 0 where
  pub place : q.place ≡ run.place
  pub tries : q.tries ≡ run.tries
  pub ended : q.ended ≡ run.ended

-- ---- the whole

-- The book is legal and clean, and what the tables show is the custody after it. What a processor holds is current, or
-- its clear is due, or its signal is still to come.
pub record KeepsBook (v : Seen) : Type 0 where
  pub legal : IsLegal v.plan v.entries
  pub clean : IsClean v.plan v.entries
  pub held : shown v ≡ custody_after v.plan v.entries
  pub stale_due : Fine (shown v) (is_pending v.owner)
  pub going_owned : IsOwned (shown v) v.owner
  pub tied : IsTied v.bound v.reads v.words
  pub holding_right : (d : ℕ) → HoldsRight v.bound (shown v).descriptor (v.processors d)
  pub under_way : AreUnderWay v.reads v.processors
  pub runs : (k : ℕ) → IsRun (progress_of (flat v) k) (v.runs k)
