use Rattle.layer_tests.proofs.Homes.{filed_home, rules}
use Rattle.layer_tests.proofs.tests.moves.file.Goals as goal

pub returns : goal.returns
returns g c =
    filed_home c.args.v.now _ c.args.home c.args.p c.in-Some.r c.requires.home c.in-Some.ensures.some (search rules)
