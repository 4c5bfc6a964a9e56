-- What frames and descriptors are used for, seen by what is counted of them: the segment, and whether it is on its way
-- out (own).
use Rattle.std.specs.Prelude.{◌≡◌, ◌≤◌, ℕ, ◌+◌, ◌*◌, ◌%◌, Bool, true, false, ◌&&◌, ◌==◌, if◌then◌else◌, sum_by, slice_index_or, nat_le, length, List, Option, Some, None}
use Rattle.custody_model.specs.declared.FrameUse.{FrameUse}
use Rattle.custody_model.specs.declared.FrameUse.TheVariants as frame
use Rattle.custody_model.specs.declared.DescriptorUse.{DescriptorUse}
use Rattle.custody_model.specs.declared.DescriptorUse.TheVariants as descriptor
use Rattle.custody.specs.Counts.{AreFew, Counted, HasPlace, Keeps, Shifts, count_at, key_bit}
use Rattle.custody.specs.declared.uses.Mark.{Mark}

-- the uses of frames and of the descriptors of a process; past the last there is none
abbrev pub frame_at : List FrameUse → ℕ → FrameUse
frame_at uses f = slice_index_or uses f frame.Free

abbrev pub descriptor_at : List DescriptorUse → ℕ → DescriptorUse
descriptor_at uses n = slice_index_or uses n descriptor.Free

abbrev pub frame_mark : FrameUse → Option Mark
frame_mark frame.Free = None
frame_mark (frame.Started u q) = Some (record { uid = u; going = false })
frame_mark (frame.Current u q) = Some (record { uid = u; going = false })
frame_mark (frame.Going u q) = Some (record { uid = u; going = true })

abbrev pub descriptor_mark : DescriptorUse → Option Mark
descriptor_mark descriptor.Free = None
descriptor_mark (descriptor.Current u) = Some (record { uid = u; going = false })
descriptor_mark (descriptor.Going u) = Some (record { uid = u; going = true })

-- ---- the keys under which a use is counted

abbrev pub uid_key : Option Mark → Option ℕ
uid_key None = None
uid_key (Some m) = Some m.uid

abbrev pub going_key : Option Mark → Option ℕ
going_key None = None
going_key (Some m) = if m.going then Some m.uid else None

abbrev pub kind_key : Option Mark → Option ℕ
kind_key None = None
kind_key (Some m) = if m.going then Some 1 else Some 0

-- the key of its segment, where a page of it is being read into the frame
abbrev pub started_key : FrameUse → Option ℕ
started_key (frame.Started u q) = Some u
started_key _ = None

-- The number under which a page is counted. Pages of the 255 uids in a row have numbers of their own, if they are below
-- 257.
abbrev pub page_number : ℕ → ℕ → ℕ
page_number u q = (257 * u + q) % 65536

abbrev pub page_key : FrameUse → Option ℕ
page_key frame.Free = None
page_key (frame.Started u q) = Some (page_number u q)
page_key (frame.Current u q) = Some (page_number u q)
page_key (frame.Going u q) = Some (page_number u q)

-- whether a page is this one
abbrev pub is_page : ℕ → ℕ → Option (ℕ × ℕ) → Bool
is_page u q None = false
is_page u q (Some p) = p.0 == u && p.1 == q

-- whether a page is one of a segment from a number on
abbrev pub is_page_from : ℕ → ℕ → Option (ℕ × ℕ) → Bool
is_page_from u from None = false
is_page_from u from (Some p) = p.0 == u && nat_le from p.1

-- the counts by segment, those of what is on its way out by segment, and those of what is on its way out and of what
-- isn't
pub record UseCounted : Type 0 where
  pub uids : Counted
  pub going : Counted
  pub kinds : Counted

pub record KeepUses (old new : UseCounted) : Type 0 where
  pub uids : Keeps old.uids new.uids
  pub going : Keeps old.going new.going
  pub kinds : Keeps old.kinds new.kinds

pub record AreReady (c : UseCounted) (to : Option Mark) : Type 0 where
  pub uids : HasPlace c.uids (uid_key to)
  pub going : HasPlace c.going (going_key to)
  pub kinds : HasPlace c.kinds (kind_key to)

pub record AreFewUses (c : UseCounted) : Type 0 where
  pub uids : AreFew c.uids
  pub going : AreFew c.going
  pub kinds : AreFew c.kinds

pub record ShiftUses (old new : UseCounted) (from to : Option Mark) : Type 0 where
  pub uids : Shifts old.uids new.uids (uid_key from) (uid_key to)
  pub going : Shifts old.going new.going (going_key from) (going_key to)
  pub kinds : Shifts old.kinds new.kinds (kind_key from) (kind_key to)

-- ---- what is counted of a list

-- the counts are those of the elements of a list by their keys
abbrev pub IsTally : {X : Type 0} → (X → Option ℕ) → List X → Counted → Type 0
IsTally key xs c = (a : ℕ) → count_at c a ≡ sum_by (λ x. key_bit (key x) a) xs

pub record AreFrames (uses : List FrameUse) (c : UseCounted) (by_page by_started : Counted) : Type 0 where
  pub few : length uses ≤ 1024
  pub uids : IsTally (λ x. uid_key (frame_mark x)) uses c.uids
  pub going : IsTally (λ x. going_key (frame_mark x)) uses c.going
  pub kinds : IsTally (λ x. kind_key (frame_mark x)) uses c.kinds
  pub pages : IsTally page_key uses by_page
  pub started : IsTally started_key uses by_started

pub record AreDescriptors (uses : List DescriptorUse) (c : UseCounted) : Type 0 where
  pub few : length uses ≤ 256
  pub uids : IsTally (λ x. uid_key (descriptor_mark x)) uses c.uids
  pub going : IsTally (λ x. going_key (descriptor_mark x)) uses c.going
  pub kinds : IsTally (λ x. kind_key (descriptor_mark x)) uses c.kinds
