use Rattle.legal_reasons.proofs.Prelude.{arith}
use Rattle.legal_reasons.proofs.ReasonLaws.{all_ended}
use Rattle.legal_reasons.proofs.ends.first_unended.Goals as goal

pub returns-clause-none : goal.returns-clause-none
returns-clause-none c = λ s shown. all_ended c.args.script.now s c.loop-process.process
    (omega (arith, c.processes-process-end.ensures.count)) (c.loop-process.invariant s shown)
