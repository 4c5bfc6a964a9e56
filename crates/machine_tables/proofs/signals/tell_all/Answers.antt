use Rattle.machine_tables.proofs.Prelude.{arith}
use Rattle.machine_tables.proofs.SignalLaws.{next_told, none_told, told_all}
use Rattle.machine_tables.proofs.signals.tell_all.Goals as goal

pub loop-at-init : goal.loop-at-init
loop-at-init c = none_told _ _ _

pub loop-at-preserved : goal.loop-at-preserved
loop-at-preserved c =
    next_told _ _ c.loop-at.at c.args.processors.now c.loop-at.processors c.index-processors-at.result _
    c.loop-at-test.true c.loop-at.invariant c.tell_one.ensures

pub returns : goal.returns
returns c = told_all _ _ c.loop-at.at c.args.processors.now c.loop-at.processors (omega arith) c.loop-at.invariant
