use Rattle.std.specs.Prelude.{◌≡◌, ℕ, ◌≤◌, ◌<◌, ◌^◌, Bool, List, length, map}
use Rattle.core_map.specs.declared.Frame.{Frame}
use Rattle.core_map.specs.CoreMap.{is_taken}

-- What ties the bits of taken frames, the frames and the hand together (own).
pub record IsTied (taken : List Bool) (frames : List Frame) (hand : ℕ) : Type 0 where
  pub bits : taken ≡ map is_taken frames
  pub short : length frames < 2 ^ 32
  pub hand_within : hand ≤ length frames
