use Rattle.live_doors.proofs.Keeps.{forgets_at, rules}
use Rattle.live_doors.proofs.doors.LiveDoors.forget.Goals as goal

pub load-stamp-requires : goal.load-stamp-requires
load-stamp-requires c = (search rules, search rules, forgets_at c.self.inside.table.shared.key _ c.pass.invariant.seat)
