-- What custody sees of a machine, and the custody that its tables show: the frames with the pages that are in them or
-- being read into them, the descriptors with those that the owner's job has cut, and the processors.
use Rattle.std.specs.Prelude.{ℕ, Bool, ◌&&◌, ◌==◌, if◌then◌else◌, map, List, [], ◌∷◌, Option, Some, None}
use Rattle.script.specs.Plans.{Plan}
use Rattle.book.specs.declared.entries.Entry.{Entry}
use Rattle.page_table.specs.declared.Ptw.{Ptw}
use Rattle.page_table.specs.declared.Ptw.TheVariants as ptw
use Rattle.flat_model.specs.Legal.{store_after}
use Rattle.flat_model.specs.Store.{Store}
use Rattle.custody_model.specs.declared.FrameUse.{FrameUse}
use Rattle.custody_model.specs.declared.FrameUse.TheVariants as frame
use Rattle.custody_model.specs.declared.DescriptorUse.{DescriptorUse}
use Rattle.custody_model.specs.declared.DescriptorUse.TheVariants as descriptor
use Rattle.custody_model.specs.Custody.{Custody, Seat}
use Rattle.machine_model.specs.Reads.{cut_of_owner}
use Rattle.machine_model.specs.declared.Processor.{Processor}
use Rattle.machine_model.specs.declared.Run.{Run}
use Rattle.machine_model.specs.declared.CutDescriptor.{CutDescriptor}
use Rattle.machine_model.specs.State.{Owner}

-- The script and the book; for each frame the page that it is bound to, and the one that is being read into it; the
-- page table word of each page of each segment; which segments are active; for each process and segment number the
-- segment that a connected descriptor leads to; the ready processes; the processors; the owner; how far each process
-- has come.
pub record Seen : Type 0 where
  pub plan : Plan
  pub entries : List Entry
  pub bound : ℕ → Option (ℕ × ℕ)
  pub reads : ℕ → Option (ℕ × ℕ)
  pub words : ℕ → ℕ → Ptw
  pub active : ℕ → Bool
  pub linked : ℕ → ℕ → Option ℕ
  pub ready : List ℕ
  pub processors : ℕ → Processor
  pub owner : Option Owner
  pub runs : ℕ → Run

-- the flat store after the book
abbrev pub flat : Seen → Store
flat v = store_after v.plan v.entries

-- ---- frames

-- a page that is in a frame is on its way out where its word says so
abbrev pub bound_use : ℕ × ℕ → Ptw → FrameUse
bound_use page ptw.Null = frame.Current page.0 page.1
bound_use page (ptw.Out r) = frame.Current page.0 page.1
bound_use page (ptw.Here f) = frame.Current page.0 page.1
bound_use page (ptw.Leaving f) = frame.Going page.0 page.1

abbrev pub read_use : Option (ℕ × ℕ) → FrameUse
read_use None = frame.Free
read_use (Some page) = frame.Started page.0 page.1

-- what a frame is used for, by the page that it is bound to and the one that is being read into it
abbrev pub frame_use : (ℕ → ℕ → Ptw) → Option (ℕ × ℕ) → Option (ℕ × ℕ) → FrameUse
frame_use words None read = read_use read
frame_use words (Some page) read = bound_use page (words page.0 page.1)

-- ---- descriptors

abbrev pub is_cut_at : ℕ → ℕ → CutDescriptor → Bool
is_cut_at k n d = d.process == k && d.number == n

-- the segment that a descriptor led to which was cut, if it was
abbrev pub cut_uid : List CutDescriptor → ℕ → ℕ → Option ℕ
cut_uid [] k n = None
cut_uid (d ∷ ds) k n = if is_cut_at k n d then Some d.uid else cut_uid ds k n

abbrev pub cut_use : Option ℕ → DescriptorUse
cut_use None = descriptor.Free
cut_use (Some u) = descriptor.Going u

-- what a descriptor is used for, by the segment that it leads to, and the one that it led to where it was cut
abbrev pub descriptor_use : Option ℕ → Option ℕ → DescriptorUse
descriptor_use None cut = cut_use cut
descriptor_use (Some u) cut = descriptor.Current u

-- ---- processors

abbrev pub seat_of : Processor → Seat
seat_of p = record {
  online = p.cpu.online;
  process = p.cpu.process;
  count = p.count;
  tried = p.tried;
  due = p.cpu.due;
  segs = map (λ e. e.number) p.cpu.assoc.segs;
  pages = map (λ e. e.frame) p.cpu.assoc.pages;
}

-- the custody that the tables show
abbrev pub shown : Seen → Custody
shown v = record {
  active = v.active;
  frame = λ f. frame_use v.words (v.bound f) (v.reads f);
  descriptor = λ k n. descriptor_use (v.linked k n) (cut_uid (cut_of_owner v.owner) k n);
  ready = v.ready;
  seat = λ d. seat_of (v.processors d);
}
