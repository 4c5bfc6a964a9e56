use Rattle.machine_tables.proofs.Prelude.{rules, place_of, active_place}
use Rattle.machine_tables.proofs.tables.Tables.is_active.Goals as goal

pub returns-clause-active : goal.returns-clause-active
returns-clause-active g c = λ h. (
  place_of c.args.self.now.state.store.ast.entries c.args.uid,
  (active_place c.args.self.now.state.store.ast c.args.uid (search rules)).1,
)
