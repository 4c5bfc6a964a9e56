use Rattle.std.proofs.lemmas.Grind.{common_steps}
use Rattle.custody.proofs.Prelude.{arith, nat_tests, Tables}
use Rattle.custody.proofs.BootLaws.{booted, booted_sizes}
use Rattle.custody.proofs.tables.Custody.boot.Goals.{After-new-2}
use Rattle.custody.proofs.tables.Custody.boot.Goals as goal

-- the tables at a boot
abbrev tables : After-new-2 → Tables
tables c = record {
  active = c.new-2.result;
  frames = c.in_ok-frames.frames;
  descriptors = c.in_ok-descriptors.descriptors.items;
  ready = c.in_ok-ready.ready.items;
  seats = c.in_ok-seats.seats.items;
}

pub returns-clause-custody : goal.returns-clause-custody
returns-clause-custody c = booted c.args.script.now (tables c) c.frames.result c.processes-processes.result
    c.processors.result c.new-2.ensures c.in_ok-frames.ensures c.in_ok-descriptors.ensures c.in_ok-ready.ensures
    c.in_ok-seats.ensures

pub returns-clause-tables : goal.returns-clause-tables
returns-clause-tables c = grind (arith, nat_tests, common_steps, booted_sizes)
