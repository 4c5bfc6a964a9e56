-- Who holds which entry: the active segments, what frames and descriptors are used for, the ready processes, and what
-- each processor holds in its associative memory (Bensoussan, Clingen and Daley 1972; the ready list and the 16 places
-- are own).
use Rattle.std.specs.Prelude.{ℕ, zero, suc, ◌+◌, Bool, true, false, not, ◌==◌, nat_le, if◌then◌else◌, List, [], ◌∷◌, ◌++◌, length, drop, Option, Some, None}
use Rattle.std.specs.List.{filter, list_any}
use Rattle.assoc_mem.specs.declared.What.{What}
use Rattle.assoc_mem.specs.declared.What.TheVariants as what
use Rattle.script.specs.Plans.{Plan}
use Rattle.custody_model.specs.declared.FrameUse.{FrameUse}
use Rattle.custody_model.specs.declared.FrameUse.TheVariants as frame
use Rattle.custody_model.specs.declared.DescriptorUse.{DescriptorUse}
use Rattle.custody_model.specs.declared.DescriptorUse.TheVariants as descriptor

-- A processor: whether it takes part; its process; how many command entries it made since it loaded that, and whether
-- the last of them was a try that didn't end its `await`; what it is to drop; the numbers of the descriptors and the
-- frames of the page table words that it holds, the oldest fill first.
pub record Seat : Type 0 where
  pub online : Bool
  pub process : Option ℕ
  pub count : ℕ
  pub tried : Bool
  pub due : Option What
  pub segs : List ℕ
  pub pages : List ℕ

-- For each uid whether it is active; for each frame what it is used for; for each process and segment number what the
-- descriptor leads to; the processes that are ready, the first to run in front; the processors. Past the last of a
-- script a frame and a descriptor are free, and a processor is offline.
pub record Custody : Type 0 where
  pub active : ℕ → Bool
  pub frame : ℕ → FrameUse
  pub descriptor : ℕ → ℕ → DescriptorUse
  pub ready : List ℕ
  pub seat : ℕ → Seat

-- a processor that isn't there, or hasn't taken part yet
abbrev pub offline : Seat
offline = record { online = false; process = None; count = 0; tried = false; due = None; segs = []; pages = [] }

-- so many numbers from one on
abbrev pub range : ℕ → ℕ → List ℕ
range from zero = []
range from (suc count) = from ∷ range (from + 1) count

-- at first the initializer alone is ready, where there is one, else all processes in order
abbrev pub ready_at_first : Plan → List ℕ
ready_at_first p = if p.initializer then 0 ∷ [] else range 0 (length p.processes)

-- at first nothing is active, in core, connected or held, and no processor takes part
abbrev pub nothing_held : Plan → Custody
nothing_held p = record {
  active = λ u. false;
  frame = λ f. frame.Free;
  descriptor = λ k n. descriptor.Free;
  ready = ready_at_first p;
  seat = λ c. offline;
}

-- ---- frames and descriptors

-- the page that is in a frame
abbrev pub bound_page : FrameUse → Option (ℕ × ℕ)
bound_page frame.Free = None
bound_page (frame.Started u p) = None
bound_page (frame.Current u p) = Some (u, p)
bound_page (frame.Going u p) = Some (u, p)

-- the page that is in a frame, or is being read into it
abbrev pub page_of : FrameUse → Option (ℕ × ℕ)
page_of frame.Free = None
page_of (frame.Started u p) = Some (u, p)
page_of (frame.Current u p) = Some (u, p)
page_of (frame.Going u p) = Some (u, p)

abbrev pub uid_of_page : Option (ℕ × ℕ) → Option ℕ
uid_of_page None = None
uid_of_page (Some x) = Some x.0

abbrev pub is_started : FrameUse → Bool
is_started (frame.Started u p) = true
is_started _ = false

abbrev pub is_current_frame : FrameUse → Bool
is_current_frame (frame.Current u p) = true
is_current_frame _ = false

abbrev pub is_going_frame : FrameUse → Bool
is_going_frame (frame.Going u p) = true
is_going_frame _ = false

-- a page that is in a frame is on its way out, or is back
abbrev pub taken : FrameUse → FrameUse
taken (frame.Current u p) = frame.Going u p
taken other = other

abbrev pub given_back : FrameUse → FrameUse
given_back (frame.Going u p) = frame.Current u p
given_back other = other

-- the segment that a descriptor leads to
abbrev pub leads_to : DescriptorUse → Option ℕ
leads_to descriptor.Free = None
leads_to (descriptor.Current u) = Some u
leads_to (descriptor.Going u) = Some u

abbrev pub is_current_descriptor : DescriptorUse → Bool
is_current_descriptor (descriptor.Current u) = true
is_current_descriptor _ = false

abbrev pub is_going_descriptor : DescriptorUse → Bool
is_going_descriptor (descriptor.Going u) = true
is_going_descriptor _ = false

abbrev pub cut : DescriptorUse → DescriptorUse
cut (descriptor.Current u) = descriptor.Going u
cut other = other

abbrev pub reconnected : DescriptorUse → DescriptorUse
reconnected (descriptor.Going u) = descriptor.Current u
reconnected other = other

-- ---- what is held, and what is dropped

-- whether a list has a number
abbrev pub has : List ℕ → ℕ → Bool
has xs x = list_any (λ y. y == x) xs

abbrev pub is_uid : ℕ → Option ℕ → Bool
is_uid u None = false
is_uid u (Some v) = v == u

-- whether the page table word of a frame is named: by everything, by its frame, or by the segment whose page is in it
abbrev pub names_frame : Custody → What → ℕ → Bool
names_frame c what.All f = true
names_frame c (what.Page g) f = f == g
names_frame c (what.Seg u) f = is_uid u (uid_of_page (bound_page (c.frame f)))

-- whether a descriptor is named: by everything, or by the segment that it leads to
abbrev pub names_descriptor : Custody → What → ℕ → ℕ → Bool
names_descriptor c what.All k n = true
names_descriptor c (what.Page g) k n = false
names_descriptor c (what.Seg u) k n = is_uid u (leads_to (c.descriptor k n))

-- the same of a descriptor of a processor's process, where it has one
abbrev pub names_number : Custody → What → Option ℕ → ℕ → Bool
names_number c w None n = false
names_number c w (Some k) n = names_descriptor c w k n

-- a processor that dropped what is named
abbrev pub cleared : Custody → What → Seat → Seat
cleared c w s = record s {
  segs = filter (λ n. not (names_number c w s.process n)) s.segs;
  pages = filter (λ f. not (names_frame c w f)) s.pages;
}

-- a fill into the 16 places: of 16 the oldest goes
abbrev pub filled : List ℕ → ℕ → List ℕ
filled xs x = (if nat_le 16 (length xs) then drop 1 xs else xs) ++ x ∷ []
