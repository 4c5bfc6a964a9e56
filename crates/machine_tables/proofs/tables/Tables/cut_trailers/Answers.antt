use Rattle.machine_tables.proofs.Laws.{cut_smaller, cuts_end, cuts_next, one_few, going_next, rest_end, state_of}
use Rattle.machine_tables.proofs.tables.Tables.cut_trailers.Goals as goal

pub cut_one-requires-clause-few : goal.cut_one-requires-clause-few
cut_one-requires-clause-few g c = (one_few c.loop-process.invariant.on c.in-Some.ensures.first).0

pub cut_one-requires-clause-room : goal.cut_one-requires-clause-room
cut_one-requires-clause-room g c = (one_few c.loop-process.invariant.on c.in-Some.ensures.first).1

pub loop-process-smaller : goal.loop-process-smaller
loop-process-smaller g c = cut_smaller c.loop-process.self.state c.cut_one.new.self.state c.args.c c.args.aim
    c.args.what c.args.uid _ c.in-Some.ensures.first
    (state_of c.loop-process.self c.cut_one.new.self _ c.cut_one.ensures)

pub loop-process-preserved : goal.loop-process-preserved
loop-process-preserved g c = going_next c.loop-process.self c.cut_one.new.self c.args.self.now _
    c.loop-process.invariant c.cut_one.ensures (cuts_next c.loop-process.invariant.on c.in-Some.ensures.first)

pub returns : goal.returns
returns g c = rest_end c.loop-process.self c.args.self.now _ c.loop-process.invariant.rest
    (cuts_end c.loop-process.invariant.on c.in_default.ensures.none)
