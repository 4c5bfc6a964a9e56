use Rattle.machine_tables.proofs.Prelude.{ap, ◌∙◌, Storage, with_store, with_state}
use Rattle.machine_tables.proofs.JoinLaws.{free_to_go, joined_is, joined_place, must_join}
use Rattle.machine_tables.proofs.tables.Tables.join.Goals as goal

pub join_next-requires-clause-off : goal.join_next-requires-clause-off
join_next-requires-clause-off g c = free_to_go c.args.self.now.state.store c.args.self.now.state.store c.args.of
    c.promise.ensures.counted c.promise.ensures.accounts.tree c.requires.there c.requires.free

pub unreachable-requires : goal.unreachable-requires
unreachable-requires g c = must_join c.args.self.now.state.store c.join_next.new.self.state.store c.args.of
    c.promise.ensures.counted c.promise.ensures.accounts.tree c.requires.there _ c.join_next.ensures.next
    c.requires.first c.requires.free c.in-Victim.is

pub returns-clause-place : goal.returns-clause-place
returns-clause-place g c = joined_place c.args.self.now.state.store c.join_next.new.self.state.store c.args.of
    c.promise.ensures.counted c.promise.ensures.accounts.tree c.requires.there c.in-Activated.place
    c.in-Activated.ensures.next.0 c.in-Activated.ensures.next.1

pub returns-clause-effect : goal.returns-clause-effect
returns-clause-effect g c = λ uid wanted. c.in-Activated.ensures.rest
    ∙ ap (λ (st : Storage). with_state c.args.self.now (with_store c.args.self.now.state st))
    (joined_is c.args.self.now.state.store c.join_next.new.self.state.store c.args.of
    c.promise.ensures.counted c.promise.ensures.accounts.tree c.requires.there c.in-Activated.place
    c.in-Activated.ensures.next.0 uid c.in-Activated.ensures.next.1 wanted)
