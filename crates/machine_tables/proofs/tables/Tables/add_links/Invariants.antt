use Rattle.machine_tables.proofs.Prelude.{◌≡◌, map, take, link_of}
use Rattle.machine_tables.proofs.tables.Tables.add_links.Given as goal

abbrev pub invariant-loop-uid : goal.invariant-loop-uid
invariant-loop-uid g l = l.links.items ≡ map (link_of l.fn.self.state.store.accounts) (take l.uid-index l.uid-items)
