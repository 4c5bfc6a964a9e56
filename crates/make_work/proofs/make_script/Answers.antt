use Rattle.make_work.proofs.Plans.{accepted}
use Rattle.make_work.proofs.make_script.Goals as goal

pub returns-in-Ok-clause-accepted : goal.returns-in-Ok-clause-accepted
returns-in-Ok-clause-accepted c = accepted c.args.n c.each_text_is_read_again.ensures
    (cc (c.into_bytes.ensures.value, c.in-Ok.ensures, c.of.ensures))
