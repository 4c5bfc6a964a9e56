use Rattle.machine_tables.proofs.Prelude.{rules, Cpu, cpu_at}
use Rattle.machine_tables.proofs.MoveLaws.{long_for, move_is}
use Rattle.machine_tables.proofs.tables.Tables.move_by.Goals as goal

pub next_move-requires-clause-active : goal.next_move-requires-clause-active
next_move-requires-clause-active g c =
    let cpu : Cpu = cpu_at c.args.self.now.state.processors c.args.c in
    long_for c.args.self.now.state.store.ast c.ast.result.now cpu c.cpu-cpu.result.now c.args.reference.now.number
    (search rules) (search rules) c.requires.held

pub returns : goal.returns
returns g c =
    let cpu : Cpu = cpu_at c.args.self.now.state.processors c.args.c in
    move_is c.args.self.now.state c.args.process c.args.reference.now c.ast.result.now cpu c.cpu-cpu.result.now
    c.descriptors.result.now c.next_move.result (search rules) (search rules) (search rules)
    c.segs-segs.ensures.kept.tree c.next_move.ensures
