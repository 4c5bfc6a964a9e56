use Rattle.std.proofs.lemmas.Grind.{common_steps}
use Rattle.custody.proofs.Prelude.{arith, nat_tests, segment_at, LosesNoPage, custody_of}
use Rattle.custody.proofs.NodeLaws.{node_decides, no_node_decides}
use Rattle.custody.proofs.tables.Custody.may_truncate.Goals as goal

pub returns-in-Some : goal.returns-in-Some
returns-in-Some c = grind (arith, nat_tests, common_steps, node_decides)

pub returns-in-None : goal.returns-in-None
returns-in-None c = λ p s shown. no_node_decides (λ u. LosesNoPage s (custody_of c.args.self.now) u c.args.words)
    (segment_at s.nodes c.args.path.now) c.segment_at.result (c.segment_at.ensures p s shown) c.in-None.is
