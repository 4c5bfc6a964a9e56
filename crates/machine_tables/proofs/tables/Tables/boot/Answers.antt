use Rattle.machine_tables.proofs.FirstLaws.{says_boot, store_first}
use Rattle.machine_tables.proofs.tables.Tables.boot.Goals as goal

pub returns-clause-state : goal.returns-clause-state
returns-clause-state g c = cc (
  c.in_ok-tables.ensures.state,
  store_first g.D.Drive.pages c.args.script c.args.volumes c.requires.count
      c.requires.fresh c.promise.ensures.parts c.in_ok-store.store c.in_ok-store.ensures.accounts
      c.in_ok-store.ensures.pages c.in_ok-store.ensures.inactive c.in_ok-store.ensures.links
      c.in_ok-store.ensures.whos c.in_ok-store.ensures.still,
  c.in_ok-store.ensures.drives,
)

pub returns-clause-says : goal.returns-clause-says
returns-clause-says g c =
    says_boot g.D.Drive.pages c.args.script c.args.volumes c.in_ok-store.store c.in_ok-tables.tables.state
    c.in_ok-tables.tables.state.spare _ c.in_ok-tables.ensures.state c.promise-2.ensures.kept
    c.promise-2.ensures.counted c.promise-2.ensures.accounts c.in_ok-store.ensures.shown
    c.in_ok-store.ensures.inactive c.in_ok-store.ensures.pages
