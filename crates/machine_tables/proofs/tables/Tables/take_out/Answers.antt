use Rattle.machine_tables.proofs.Prelude.{◌≡◌, refl, rules, page_taken, with_state}
use Rattle.machine_tables.proofs.Laws.{chosen_here, taken_leaving}
use Rattle.machine_tables.proofs.tables.Tables.take_out.Goals as goal

pub send_off-requires-clause-here : goal.send_off-requires-clause-here
send_off-requires-clause-here g c = chosen_here c.args.self.now.state.store c.args.self.now.state.store c.args.f
    c.requires.here refl refl c.requires.bound

pub returns-clause-leaving : goal.returns-clause-leaving
returns-clause-leaving g c =
    let effect : c.note.new.self ≡ with_state c.args.self.now (page_taken c.args.self.now.state c.args.f) =
    search rules in
    rw effect (taken_leaving c.args.self.now.state.store c.args.f c.requires.bound c.requires.here)
