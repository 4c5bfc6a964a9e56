use Rattle.machine_tables.proofs.Prelude.{rules}
use Rattle.machine_tables.proofs.LookLaws.{link_superiors, link_victim}
use Rattle.machine_tables.proofs.tables.Tables.activate_link.Goals as goal

pub empty_victim-requires-clause-victim : goal.empty_victim-requires-clause-victim
empty_victim-requires-clause-victim g c = record {
  there = c.requires.there;
  few = search rules;
  off = link_victim c.args.self.now.state c.args.of c.args.uid c.requires.looks
      c.requires.there c.requires.first c.pool-pool.result (search rules) (search rules);
  superiors = link_superiors c.args.self.now.state c.args.of c.requires.looks;
}
