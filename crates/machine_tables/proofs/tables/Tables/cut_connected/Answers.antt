use Rattle.machine_tables.proofs.Laws.{number_few, number_next, numbers_end, going_next, rest_end}
use Rattle.machine_tables.proofs.tables.Tables.cut_connected.Goals as goal

pub cut_number-requires-clause-few : goal.cut_number-requires-clause-few
cut_number-requires-clause-few g c = (number_few c.loop-number.invariant.on c.loop-number-test.true).0

pub cut_number-requires-clause-room : goal.cut_number-requires-clause-room
cut_number-requires-clause-room g c = (number_few c.loop-number.invariant.on c.loop-number-test.true).1

pub loop-number-preserved : goal.loop-number-preserved
loop-number-preserved g c = going_next c.loop-number.self c.cut_number.new.self c.args.self.now _
    c.loop-number.invariant c.cut_number.ensures (number_next c.loop-number.invariant.on c.loop-number-test.true)

pub returns : goal.returns
returns g c = rest_end c.loop-number.self c.args.self.now _ c.loop-number.invariant.rest
    (numbers_end c.loop-number.invariant.on c.loop-number-test.false)
