use Rattle.machine_tables.proofs.JoinLaws.{must_pass, off_to_go, passed_is}
use Rattle.machine_tables.proofs.tables.Tables.pass_hand.Goals as goal

pub join_next-requires-clause-off : goal.join_next-requires-clause-off
join_next-requires-clause-off g c = off_to_go c.args.self.now.state.store c.args.self.now.state.store c.args.of
    c.promise.ensures.counted c.promise.ensures.accounts.tree c.requires.victim.there c.requires.victim.off

pub unreachable-requires : goal.unreachable-requires
unreachable-requires g c = must_pass c.args.self.now.state.store c.join_next.new.self.state.store c.args.of
    c.promise.ensures.counted c.promise.ensures.accounts.tree c.requires.victim.there _ c.join_next.ensures.next
    c.requires.victim c.in-Activated.is

pub returns : goal.returns
returns g c = cc (passed_is c.args.self.now.state.store c.join_next.new.self.state.store c.args.of
    c.promise.ensures.counted c.promise.ensures.accounts.tree c.requires.victim.there c.in-Victim.ensures.next.0
    c.in-Victim.ensures.next.1)
