use Rattle.clean_reasons.proofs.Prelude.{arith, custody_of, IsLostPage}
use Rattle.clean_reasons.proofs.SeekLaws.{no_lost_page}
use Rattle.clean_reasons.proofs.seeking.least_page.Goals as goal

pub returns-clause-none : goal.returns-clause-none
returns-clause-none c = no_lost_page
    (λ x. IsLostPage c.args.uid c.args.from x.page ((custody_of c.args.custody.now).frame x.frame))
    c.args.script.now c.args.custody.now
    c.args.uid c.args.from c.loop-frame.frame c.loop-frame.best c.requires
    (omega (arith, c.frames-frame-end.ensures, c.loop-frame-test.false)) c.loop-frame.invariant
