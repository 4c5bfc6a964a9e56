use Rattle.machine.proofs.RunLaws.{round_made}
use Rattle.machine.proofs.machine.Machine.round.Goals as goal

pub returns-clause-made : goal.returns-clause-made
returns-clause-made g c = round_made _ _ _ c.args.self.now c.reserve.new.self c.step.new.self c.args.c _ c.step.result
    c.reserve.ensures.rest c.step.ensures.turn c.step.ensures.entries c.step.ensures.kept c.step.ensures.faults
    c.moves_in.ensures
