use Rattle.machine.proofs.ChoiceCalls.{may_choose}
use Rattle.machine.proofs.machine.Machine.action.Goals as goal

pub action-requires : goal.action-requires
action-requires g c = record { may = may_choose _ c.args.c c.self.invariant (rw c.self.view_is c.requires) }
