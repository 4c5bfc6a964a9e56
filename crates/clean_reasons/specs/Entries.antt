-- The entries of the processors, of the frames, and of the segments (own).
use Rattle.std.specs.Prelude.{Bool, true, false}
use Rattle.book.specs.declared.entries.Entry.{Entry}
use Rattle.book.specs.declared.entries.Entry.TheVariants as entry

abbrev pub is_of_seats : Entry → Bool
is_of_seats (entry.Online d) = true
is_of_seats (entry.Load d k) = true
is_of_seats (entry.Leave d) = true
is_of_seats (entry.Signal d w) = true
is_of_seats (entry.Clear d w) = true
is_of_seats (entry.FillSeg d n) = true
is_of_seats (entry.FillPage d f) = true
is_of_seats _ = false

abbrev pub is_of_frames : Entry → Bool
is_of_frames (entry.Release u q) = true
is_of_frames (entry.Start f u q) = true
is_of_frames (entry.Lose f) = true
is_of_frames (entry.Here f u q) = true
is_of_frames (entry.Take f) = true
is_of_frames (entry.GonePage f) = true
is_of_frames (entry.BackPage f) = true
is_of_frames _ = false

abbrev pub is_of_segments : Entry → Bool
is_of_segments (entry.Activate u) = true
is_of_segments (entry.Deactivate u) = true
is_of_segments (entry.Moved k u v) = true
is_of_segments (entry.Connect k n u) = true
is_of_segments (entry.Cut k n) = true
is_of_segments (entry.GoneSeg k n) = true
is_of_segments (entry.BackSeg k n) = true
is_of_segments _ = false
