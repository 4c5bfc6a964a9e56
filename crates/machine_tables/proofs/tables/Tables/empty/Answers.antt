use Rattle.machine_tables.proofs.Prelude.{arith}
use Rattle.machine_tables.proofs.tables.Tables.empty.Goals as goal

pub take_segment-requires-clause-takes : goal.take_segment-requires-clause-takes
take_segment-requires-clause-takes g c = record {
  owner = c.requires.owner;
  pages = c.requires.pages;
  descriptors = c.requires.descriptors;
  room = (omega arith);
}
