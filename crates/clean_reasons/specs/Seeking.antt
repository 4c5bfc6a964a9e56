-- What frames, descriptors and processors are looked for by (own).
use Rattle.std.specs.Prelude.{◌≡◌, ◌<◌, ◌≤◌, ℕ, Bool, true, false, ◌&&◌, ◌==◌, not, is_some, Option, Some, None}
use Rattle.assoc_mem.specs.declared.What.{What}
use Rattle.custody_model.specs.Custody.{Custody, Seat, bound_page, has, is_going_descriptor, is_going_frame, is_uid, leads_to, page_of, uid_of_page}
use Rattle.custody_model.specs.declared.FrameUse.{FrameUse}
use Rattle.custody_model.specs.declared.FrameUse.TheVariants as frame
use Rattle.custody_model.specs.declared.DescriptorUse.{DescriptorUse}
use Rattle.custody_model.specs.declared.DescriptorUse.TheVariants as descriptor
use Rattle.assoc_mem.specs.declared.What.TheVariants as what
use Rattle.clean_reasons.specs.declared.seeking.FrameSeek.{FrameSeek}
use Rattle.clean_reasons.specs.declared.seeking.FrameSeek.TheVariants as seek
use Rattle.clean_reasons.specs.declared.seeking.LeadSeek.{LeadSeek}
use Rattle.clean_reasons.specs.declared.seeking.LeadSeek.TheVariants as lead
use Rattle.clean_reasons.specs.declared.seeking.SeatSeek.{SeatSeek}
use Rattle.clean_reasons.specs.declared.seeking.SeatSeek.TheVariants as held

-- the page that is being read into a frame
abbrev pub read_page : FrameUse → Option (ℕ × ℕ)
read_page (frame.Started u q) = Some (u, q)
read_page _ = None

abbrev pub is_page : ℕ → ℕ → Option (ℕ × ℕ) → Bool
is_page u q None = false
is_page u q (Some x) = x.0 == u && x.1 == q

-- whether the page table word of a frame with this use is named
abbrev pub names_use : What → ℕ → FrameUse → Bool
names_use what.All f x = true
names_use (what.Page g) f x = f == g
names_use (what.Seg u) f x = is_uid u (uid_of_page (bound_page x))

-- whether a descriptor with this use is named
abbrev pub names_lead : What → DescriptorUse → Bool
names_lead what.All x = true
names_lead (what.Page g) x = false
names_lead (what.Seg u) x = is_uid u (leads_to x)

abbrev pub frame_passes : FrameSeek → ℕ → FrameUse → Bool
frame_passes (seek.Bound u) f x = is_uid u (uid_of_page (bound_page x))
frame_passes (seek.Read u) f x = is_uid u (uid_of_page (read_page x))
frame_passes (seek.BoundTo u q) f x = is_page u q (bound_page x)
frame_passes (seek.ReadFor u q) f x = is_page u q (read_page x)
frame_passes (seek.Unnamed w) f x = is_going_frame x && not (names_use w f x)

abbrev pub is_connected : DescriptorUse → Bool
is_connected descriptor.Free = false
is_connected _ = true

abbrev pub lead_passes : LeadSeek → DescriptorUse → Bool
lead_passes (lead.To u) x = is_uid u (leads_to x)
lead_passes lead.Connected x = is_connected x
lead_passes (lead.Unnamed w) x = is_going_descriptor x && not (names_lead w x)

abbrev pub seat_passes : SeatSeek → Seat → Bool
seat_passes (held.Page f) s = has s.pages f
seat_passes (held.Seg k n) s = is_uid k s.process && has s.segs n
seat_passes held.Due s = is_some s.due

-- the page of a segment is in a frame with this use or is being read into it, and is none of the first ones
abbrev pub IsLostPage : ℕ → ℕ → ℕ → FrameUse → Type 0
IsLostPage u from q x = (page_of x ≡ Some (u, q)) × (from ≤ q)

pub record LosesPage (c : Custody) (u from : ℕ) : Type 0 where
  pub frame : ℕ
  pub page : ℕ
  pub lost : IsLostPage u from page (c.frame frame)

-- no page of a segment from this one on is in a frame, or being read into one, before this frame
abbrev pub HasLostNone : Custody → ℕ → ℕ → ℕ → Type 0
HasLostNone c u from i = (f : ℕ) → f < i → (q : ℕ) → IsLostPage u from q (c.frame f) → ⊥
