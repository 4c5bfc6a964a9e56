-- The clock, which chooses the frame that gives up its page (Corbató 1968).
use Rattle.std.specs.Prelude.{◌≡◌, ℕ, ◌+◌, ◌-◌, ◌<◌, ◌≤◌, ◌==◌, nat_le, if◌then◌else◌, Bool, true, false, not, ◌⊎◌, List, [], ◌∷◌, ◌++◌, length, Option, None, Some, slice_index_or, slice_set}
use Rattle.std.specs.List.{range_with_len, find}
use Rattle.core_map.specs.declared.Frame.{Frame}
use Rattle.core_map.specs.declared.Frame.TheVariants.{Free, Started, Bound}
use Rattle.core_map.specs.CoreMap.{Core, frame_at, is_bound}

-- frame i of a list, and a free one past the end
abbrev pub frame_in : List Frame → ℕ → Frame
frame_in frames i = slice_index_or frames i Free

-- a bound frame whose used mark is off
abbrev pub is_idle : Frame → Bool
is_idle Free = false
is_idle (Started uid page) = false
is_idle (Bound uid page used modified) = not used

-- a frame after its used mark is turned off
abbrev pub unmarked : Frame → Frame
unmarked Free = Free
unmarked (Started uid page) = Started uid page
unmarked (Bound uid page used modified) = Bound uid page false modified

-- how many frames lie between the hand and frame f, going from the hand round n frames
abbrev pub way : ℕ → ℕ → ℕ → ℕ
way n hand f = if nat_le hand f then f - hand else n + f - hand

-- f is the first frame from the hand, round the frames, that passes
pub record IsFirstFromHand (core : Core) (passes : Frame → Bool) (f : ℕ) : Type 0 where
  pub within : f < length core.frames
  pub here : passes (frame_at core f) ≡ true
  pub before : (i : ℕ) → i < length core.frames → way (length core.frames) core.hand i < way (length core.frames)
      core.hand f
      → passes (frame_at core i) ≡ false

-- the hand stands at the frame after f
abbrev pub hand_after : Core → ℕ → ℕ
hand_after core f = if f + 1 == length core.frames then 0 else f + 1

-- A frame whose used mark is off is there: the first of them is chosen, and the marks of the frames from the hand to
-- it are turned off.
pub record PassesOver (old : Core) (frames : List Frame) (f : ℕ) : Type 0 where
  pub first : IsFirstFromHand old is_idle f
  pub passed : (i : ℕ) → i < length old.frames → way (length old.frames) old.hand i < way (length old.frames) old.hand f
      → frame_in frames i ≡ unmarked (frame_at old i)
  pub others : (i : ℕ) → i < length old.frames → way (length old.frames) old.hand f ≤ way (length old.frames) old.hand i
      → frame_in frames i ≡ frame_at old i

-- Every bound frame has its used mark on: the first bound one is chosen, after one whole turn that turns off all
-- marks.
pub record GoesRound (old : Core) (frames : List Frame) (f : ℕ) : Type 0 where
  pub busy : (i : ℕ) → i < length old.frames → is_idle (frame_at old i) ≡ false
  pub first : IsFirstFromHand old is_bound f
  pub passed : (i : ℕ) → i < length old.frames → frame_in frames i ≡ unmarked (frame_at old i)

-- f is what the clock comes to, with the frames as they are then
abbrev pub IsTurn : Core → List Frame → ℕ → Type 0
IsTurn old frames f = PassesOver old frames f ⊎ GoesRound old frames f

-- f is the choice of the clock, and `new` the core after it
pub record IsClockChoice (old new : Core) (f : ℕ) : Type 0 where
  pub count : length new.frames ≡ length old.frames
  pub hand : new.hand ≡ hand_after old f
  pub turn : IsTurn old new.frames f

-- the frames' numbers in the order in which the hand meets them
abbrev pub round_frames : Core → List ℕ
round_frames core = range_with_len core.hand (length core.frames - core.hand) ++ range_with_len 0 core.hand

-- the first answer, and where there is none the second
abbrev pub or_else : Option ℕ → Option ℕ → Option ℕ
or_else None other = other
or_else (Some f) other = Some f

-- the choice of the clock: the first bound frame from the hand whose used mark is off, and where there is none the
-- first bound one
abbrev pub clock_choice : Core → Option ℕ
clock_choice core =
    or_else (find (λ f. is_idle (frame_at core f)) (round_frames core))
    (find (λ f. is_bound (frame_at core f)) (round_frames core))

-- the frames after the hand went over those of these numbers, up to the first bound one whose used mark was off
unfoldable pub passed_over : List Frame → List ℕ → List Frame
passed_over frames [] = frames
passed_over frames (f ∷ fs) =
    if is_idle (frame_in frames f) then frames else passed_over (slice_set frames f (unmarked (frame_in frames f))) fs

-- the core after frame f was chosen
abbrev pub after_choice : Core → ℕ → Core
after_choice core f = record { frames = passed_over core.frames (round_frames core); hand = hand_after core f }
