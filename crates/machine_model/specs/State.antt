-- What the machine has between two steps: the book, the store with its tables, marks and hands, the processors, and
-- the owner of the supervisor with its job (Bensoussan, Clingen and Daley 1972; Corbató 1968; the phases of a job are
-- own).
use Rattle.std.specs.Prelude.{ℕ, Bool, List, Option}
use Rattle.mnames.specs.declared.principals.Who.{Who}
use Rattle.script.specs.Plans.{Plan}
use Rattle.book.specs.declared.entries.Entry.{Entry}
use Rattle.accounts.specs.Maps.{AccountMaps}
use Rattle.page_control.specs.Plain.{Plain}
use Rattle.active_segs.specs.Active.{ActiveSegs}
use Rattle.seg_control.specs.Control.{Links}
use Rattle.seg_mover.specs.declared.Mover.{Mover}
use Rattle.machine_model.specs.declared.Phase.{Phase}
use Rattle.machine_model.specs.declared.Processor.{Processor}
use Rattle.machine_model.specs.declared.Run.{Run}
use Rattle.machine_model.specs.declared.CutDescriptor.{CutDescriptor}

-- The tree with its accounts; the core map, the words in the frames and on the drives, the records and the VTOCs; the
-- active segments; the trailers, the numbers and the descriptors; for whom each process runs; and the segment that is
-- moving to another volume, if one is. The volumes are those at rest: without the home that the move has taken.
pub record Storage : Type 0 where
  pub accounts : AccountMaps
  pub pages : Plain
  pub ast : ActiveSegs
  pub links : Links
  pub whos : List Who
  pub moving : Option Mover

-- The processor that owns the supervisor; how far its job has come; the frames that the job took, and the descriptors
-- that it cut, in the order in which it came to them.
pub record Owner : Type 0 where
  pub cpu : ℕ
  pub phase : Phase
  pub frames : List ℕ
  pub cut : List CutDescriptor

-- The script; the entries of the book so far, and how many more it has room for; the store; how far each process has
-- come; the ready processes, the first to run in front; the processors; the owner of the supervisor; whether the
-- machine was stopped; how many frames the shutdown has visited; how many calls of the drives have failed.
pub record State : Type 0 where
  pub plan : Plan
  pub entries : List Entry
  pub spare : ℕ
  pub store : Storage
  pub runs : List Run
  pub ready : List ℕ
  pub processors : List Processor
  pub owner : Option Owner
  pub stopped : Bool
  pub visited : ℕ
  pub faults : ℕ
