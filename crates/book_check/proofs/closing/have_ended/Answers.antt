use Rattle.book_check.proofs.Prelude.{arith}
use Rattle.book_check.proofs.CloseLaws.{not_ended, all_ended}
use Rattle.book_check.proofs.closing.have_ended.Goals as goal

pub returns-then-not-has_ended : goal.returns-then-not-has_ended
returns-then-not-has_ended c = λ s shown. not_ended c.args.script.now s c.loop-process.process c.has_ended.result
    (omega (arith, c.processes-process-end.ensures.count)) (c.has_ended.ensures c.args.script.now s shown) (cc)

pub returns : goal.returns
returns c = λ s shown. all_ended c.args.script.now s c.loop-process.process
    (omega (arith, c.processes-process-end.ensures.count)) (c.loop-process.invariant s shown)
