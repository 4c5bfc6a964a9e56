-- The segment that the owner of the supervisor moves, and what each action asks of the move that segment control has
-- under way.
use Rattle.std.specs.Prelude.{◌≡◌, Option, Some, None}
use Rattle.seg_mover.specs.declared.Mover.{Mover}
use Rattle.machine_model.specs.declared.Phase.{Phase}
use Rattle.machine_model.specs.declared.Phase.TheVariants as phase
use Rattle.machine_model.specs.Actions as act
use Rattle.machine_model.specs.State.{Owner}

abbrev pub mover_in : Phase → Option Mover
mover_in phase.Looking = None
mover_in (phase.Taken a w) = None
mover_in (phase.Waiting a w) = None
mover_in (phase.Moving m) = Some m

-- the move that the owner makes, None where it makes none or nobody owns the supervisor
abbrev pub mover_of : Option Owner → Option Mover
mover_of None = None
mover_of (Some o) = mover_in o.phase

-- The steps of a move are those of the one under way. It excludes every other step of the owner, and that the
-- supervisor is taken; what processors do by themselves it doesn't.
abbrev pub AsksMover : act.Action → Option Mover → Type 0
AsksMover act.IsStopped x = Unit {0}
AsksMover act.HasEnded x = Unit {0}
AsksMover (act.Waits why) x = Unit {0}
AsksMover act.Online x = Unit {0}
AsksMover (act.Clear w) x = Unit {0}
AsksMover (act.EndTransfer t) x = Unit {0}
AsksMover (act.Load k) x = Unit {0}
AsksMover act.Leave x = Unit {0}
AsksMover (act.FillSeg n) x = Unit {0}
AsksMover (act.FillPage f r) x = Unit {0}
AsksMover (act.Through f r) x = Unit {0}
AsksMover (act.Plain r) x = Unit {0}
AsksMover (act.CopyPage m p) x = x ≡ Some m
AsksMover (act.CommitMove m) x = x ≡ Some m
AsksMover _ x = x ≡ None
