use Rattle.std.specs.Prelude.{◌≡◌, ℕ, ◌<◌, Bool, true, false, ◌||◌, ◌⊎◌, List, length, Option, None, Some, slice_index_or, slice_set, position, map}
use Rattle.core_map.specs.declared.Frame.{Frame}
use Rattle.core_map.specs.declared.Frame.TheVariants.{Free, Started, Bound}

-- the frames of core and the hand of the clock (Corbató 1968)
pub record Core : Type 0 where
  pub frames : List Frame
  pub hand : ℕ

-- frame f, and a free one past the end
abbrev pub frame_at : Core → ℕ → Frame
frame_at core f = slice_index_or core.frames f Free

-- the core after frame f has changed
abbrev pub with_frame : Core → ℕ → Frame → Core
with_frame core f frame = record core { frames = slice_set core.frames f frame }

abbrev pub is_free : Frame → Bool
is_free Free = true
is_free (Started uid page) = false
is_free (Bound uid page used modified) = false

-- a frame that is started or bound
abbrev pub is_taken : Frame → Bool
is_taken Free = false
is_taken (Started uid page) = true
is_taken (Bound uid page used modified) = true

abbrev pub is_started : Frame → Bool
is_started Free = false
is_started (Started uid page) = true
is_started (Bound uid page used modified) = false

abbrev pub is_bound : Frame → Bool
is_bound Free = false
is_bound (Started uid page) = false
is_bound (Bound uid page used modified) = true

-- the page that a frame is bound to, as uid and page number
abbrev pub bound_page : Frame → Option (ℕ × ℕ)
bound_page Free = None
bound_page (Started uid page) = None
bound_page (Bound uid page used modified) = Some (uid, page)

-- the page that is being read into a frame
abbrev pub started_page : Frame → Option (ℕ × ℕ)
started_page Free = None
started_page (Started uid page) = Some (uid, page)
started_page (Bound uid page used modified) = None

-- for each frame the page that is being read into it
abbrev pub reads_of : Core → List (Option (ℕ × ℕ))
reads_of core = map started_page core.frames

-- whether a frame is bound and its modified mark is on
abbrev pub is_modified : Frame → Bool
is_modified Free = false
is_modified (Started uid page) = false
is_modified (Bound uid page used modified) = modified

-- a bound frame after a reference through it: its used mark is on, and its modified mark too if the reference wrote
abbrev pub after_reference : Frame → Bool → Frame
after_reference Free wrote = Free
after_reference (Started uid page) wrote = Started uid page
after_reference (Bound uid page used modified) wrote = Bound uid page true (modified || wrote)

-- a bound frame whose modified mark is as given
abbrev pub with_modified : Frame → Bool → Frame
with_modified Free now = Free
with_modified (Started uid page) now = Started uid page
with_modified (Bound uid page used modified) now = Bound uid page used now

-- a frame that may be bound to the page: it is free, or started for that very page
abbrev pub CanBind : Frame → ℕ → ℕ → Type 0
CanBind frame uid page = (frame ≡ Free) ⊎ (frame ≡ Started uid page)

-- the least free frame, None where none is free
abbrev pub least_free_frame : Core → Option ℕ
least_free_frame core = position is_free core.frames

-- f is the least free frame
pub record IsLeastFreeFrame (core : Core) (f : ℕ) : Type 0 where
  pub within : f < length core.frames
  pub free : frame_at core f ≡ Free
  pub before : (k : ℕ) → k < f → is_free (frame_at core k) ≡ false
