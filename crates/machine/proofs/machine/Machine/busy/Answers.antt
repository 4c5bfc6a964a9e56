use Rattle.machine.proofs.Prelude.{arith, common_steps, IsBusy}
use Rattle.machine.proofs.Does.{busy, does}
use Rattle.machine.proofs.machine.Machine.busy.Goals as goal

pub unreachable-requires : goal.unreachable-requires
unreachable-requires g c =
    let its : IsBusy c.args.self.now.state c.args.c = rw (← c.self.view_is)
    (busy (does c.self.view_is c.self.invariant c.requires.does) c.requires.of_process) in
    grind (arith, common_steps)
