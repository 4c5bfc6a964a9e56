use Rattle.machine.proofs.LoopCalls.{reader_found, reader_is}
use Rattle.machine.proofs.machine.Machine.reader_of.Goals as goal

pub unreachable-requires : goal.unreachable-requires
unreachable-requires g c = reader_found c.self.inside.tables.state c.args.frame
    (rw c.self.view_is c.requires) (rw (← c.processors.ensures) (cc))

pub returns : goal.returns
returns g c = rw (← c.self.view_is) (reader_is c.self.inside.tables.state c.args.frame c.in-Some.reader
    (rw (← c.processors.ensures) (cc)))
