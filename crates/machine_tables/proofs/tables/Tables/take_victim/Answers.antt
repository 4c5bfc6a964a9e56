use Rattle.machine_tables.proofs.Prelude.{chain_of, wanted_pool}
use Rattle.machine_tables.proofs.JoinLaws.{bare_after}
use Rattle.machine_tables.proofs.tables.Tables.take_victim.Goals as goal

pub empty-requires-clause-bare : goal.empty-requires-clause-bare
empty-requires-clause-bare g c =
    rw c.pass_hand.ensures (bare_after c.args.self.now.state.store (wanted_pool c.args.self.now.state.store c.args.of)
    (chain_of c.args.self.now.state.store.accounts.nodes c.args.of) c.args.uid c.requires.bare)
