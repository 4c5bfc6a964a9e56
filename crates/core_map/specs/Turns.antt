-- What the parts of the clock do with a range of frames, and how a turn of it ends (own).
use Rattle.std.specs.Prelude.{◌≡◌, ℕ, ◌<◌, ◌≤◌, Bool, true, false, ◌⊎◌, List, length, Option, None, Some}
use Rattle.core_map.specs.declared.Frame.{Frame}
use Rattle.core_map.specs.CoreMap.{is_bound}
use Rattle.core_map.specs.Clock.{frame_in, is_idle, unmarked}

-- f is the first frame from `low` on and below `high` that passes
pub record IsFirst (passes : Frame → Bool) (frames : List Frame) (low high f : ℕ) : Type 0 where
  pub above : low ≤ f
  pub below : f < high
  pub here : passes (frame_in frames f) ≡ true
  pub before : (i : ℕ) → low ≤ i → i < f → passes (frame_in frames i) ≡ false

-- no frame from `low` on and below `high` passes
pub record HasNone (passes : Frame → Bool) (frames : List Frame) (low high : ℕ) : Type 0 where
  pub none : (i : ℕ) → low ≤ i → i < high → passes (frame_in frames i) ≡ false

-- the used marks of the frames from `low` on and below `high` are off, and the other frames are as before
pub record IsUnmarked (old new : List Frame) (low high : ℕ) : Type 0 where
  pub count : length new ≡ length old
  pub inside : (i : ℕ) → low ≤ i → i < high → frame_in new i ≡ unmarked (frame_in old i)
  pub before : (i : ℕ) → i < low → frame_in new i ≡ frame_in old i
  pub after : (i : ℕ) → high ≤ i → frame_in new i ≡ frame_in old i

-- the hand went over the frames from `low` on and below `high`, up to the first idle one, and turned their marks off
pub record PassesTo (old new : List Frame) (low high f : ℕ) : Type 0 where
  pub first : IsFirst is_idle old low high f
  pub marks : IsUnmarked old new low f

pub record PassesAll (old new : List Frame) (low high : ℕ) : Type 0 where
  pub busy : HasNone is_idle old low high
  pub marks : IsUnmarked old new low high

abbrev pub HasPassed : List Frame → List Frame → ℕ → ℕ → Option ℕ → Type 0
HasPassed old new low high None = PassesAll old new low high
HasPassed old new low high (Some f) = PassesTo old new low high f

-- f is the first frame from the hand, round the frames, that is bound
abbrev pub IsFirstBound : List Frame → ℕ → ℕ → Type 0
IsFirstBound frames hand f =
    IsFirst is_bound frames hand (length frames) f
    ⊎ (HasNone is_bound frames hand (length frames) × IsFirst is_bound frames 0 hand f)

-- How a turn ends: at an idle frame from the hand on, at one before the hand, or after a whole turn that met none. Each
-- stretch of frames starts from what the one before it left.
pub record StopsBehind (old new : List Frame) (hand f : ℕ) : Type 0 where
  pub middle : List Frame
  pub ahead : PassesAll old middle hand (length old)
  pub behind : PassesTo middle new 0 hand f

pub record GoesAround (old new : List Frame) (hand f : ℕ) : Type 0 where
  pub middle : List Frame
  pub ahead : PassesAll old middle hand (length old)
  pub behind : PassesAll middle new 0 hand
  pub first : IsFirstBound new hand f

abbrev pub IsTurned : List Frame → List Frame → ℕ → ℕ → Type 0
IsTurned old new hand f = PassesTo old new hand (length old) f
    ⊎ (StopsBehind old new hand f ⊎ GoesAround old new hand f)
