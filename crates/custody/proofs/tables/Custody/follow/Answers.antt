use Rattle.std.proofs.lemmas.Grind.{common_steps}
use Rattle.custody.proofs.Prelude.{arith, nat_tests, on_ok}
use Rattle.custody.proofs.FollowLaws.{active_advanced, custody_advanced, of_advanced}
use Rattle.custody.proofs.KeptNodes.{nodes_kept}
use Rattle.custody.proofs.tables.Custody.follow.Goals as goal

pub returns-clause-custody : goal.returns-clause-custody
returns-clause-custody c = on_ok c.advance.result _ _ (λ advances s shows nodes.
    custody_advanced c.args.script.now c.args.store.now s c.args.self.now c.advance.new.self c.args.e shows
    c.requires.tables (c.requires.allowed s shows nodes) (advances s shows)) c.advance.ensures.ok

pub returns-clause-nodes : goal.returns-clause-nodes
returns-clause-nodes c = on_ok c.advance.result _ _ (λ advances s shows nodes lawful.
    active_advanced c.args.script.now s c.args.self.now c.advance.new.self c.args.e (advances s shows) nodes
    (nodes_kept c.args.script.now s c.args.self.now c.args.e (c.next_uid-next.ensures.fresh c.args.script.now s shows)
    (c.requires.allowed s shows nodes) lawful nodes)) c.advance.ensures.ok

pub returns-clause-tables : goal.returns-clause-tables
returns-clause-tables c = grind (arith, nat_tests, common_steps, on_ok, of_advanced)
