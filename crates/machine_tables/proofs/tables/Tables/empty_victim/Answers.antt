use Rattle.machine_tables.proofs.Prelude.{◌∙◌, chain_of, EmptyVictim}
use Rattle.machine_tables.proofs.ActiveLaws.{victim_read}
use Rattle.machine_tables.proofs.tables.Tables.empty_victim.Goals as goal

pub returns-in-Some : goal.returns-in-Some
returns-in-Some g c = λ k. c.in-Some.ensures k (EmptyVictim c.args.pool
    (chain_of c.args.self.now.state.store.accounts.nodes c.args.of) c.uid_in-uid.result)
    ∙ victim_read c.args.self.now.state.store c.args.pool _ c.uid_in-uid.result c.victim.result _
    c.victim.ensures.victim c.uid_in-uid.ensures

pub returns-in-None : goal.returns-in-None
returns-in-None g c = λ k. c.in-None.ensures k (EmptyVictim c.args.pool
    (chain_of c.args.self.now.state.store.accounts.nodes c.args.of) c.uid_in-uid.result)
    ∙ victim_read c.args.self.now.state.store c.args.pool _ c.uid_in-uid.result c.victim.result _
    c.victim.ensures.victim c.uid_in-uid.ensures
