-- What a step is answered, by the action that it makes.
use Rattle.std.specs.Prelude.{ℕ, Bool, true, false}
use Rattle.site_io.specs.declared.gate.Point.{Point}
use Rattle.site_io.specs.declared.gate.Point.TheVariants as point
use Rattle.machine_model.specs.State.{State}
use Rattle.machine_model.specs.Reads.{process_at}
use Rattle.machine_model.specs.Actions as act
use Rattle.machine_model.specs.Outline.{Turn, Moved, WaitsFor, Ended}

-- whether something changes
abbrev pub moves : act.Action → Bool
moves act.IsStopped = false
moves act.HasEnded = false
moves (act.Waits why) = false
moves _ = true

-- whether a drive may be called
abbrev pub calls_drive : act.Action → Bool
calls_drive (act.EndTransfer t) = true
calls_drive (act.FinishEviction f) = true
calls_drive (act.FinishPage f) = true
calls_drive (act.CopyPage m p) = true
calls_drive _ = false

-- the point that a step comes to: it came online, loaded a process, answered a reference through a frame, or signalled
abbrev pub point_of : State → ℕ → act.Action → Point
point_of s c act.Online = point.Online
point_of s c (act.Load k) = point.Loaded k
point_of s c (act.Through f r) = point.Answered (process_at s c)
point_of s c (act.Signal w) = point.Signalled
point_of s c _ = point.Other

-- how the step ends, while the machine isn't stopped
abbrev pub turn_of : act.Action → Turn
turn_of act.IsStopped = Ended
turn_of act.HasEnded = Ended
turn_of (act.Waits why) = WaitsFor why
turn_of _ = Moved
