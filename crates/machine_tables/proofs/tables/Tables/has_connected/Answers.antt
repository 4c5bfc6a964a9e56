use Rattle.machine_tables.proofs.Prelude.{arith, rules, sym, descriptor_of, is_connected}
use Rattle.machine_tables.proofs.AwayLaws.{no_pairs, some_pair}
use Rattle.machine_tables.proofs.tables.Tables.has_connected.Goals as goal

pub returns-then-is_connected : goal.returns-then-is_connected
returns-then-is_connected g c =
    let test = c.loop-number-test.true in
    sym (some_pair c.args.process
    (λ n. is_connected (descriptor_of c.args.self.now.state.store.links c.args.process n)) 0 256 c.loop-number.number
    (omega arith) (omega arith) (search rules))

pub returns : goal.returns
returns g c =
    let test = c.loop-number-test.false in
    no_pairs c.args.process (λ n. is_connected (descriptor_of c.args.self.now.state.store.links c.args.process n)) 256
    (λ n lt. c.loop-number.invariant n (omega arith))
