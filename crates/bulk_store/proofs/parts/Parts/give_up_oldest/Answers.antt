use Rattle.bulk_store.proofs.Stores.{oldest}
use Rattle.bulk_store.proofs.parts.Parts.give_up_oldest.Goals as goal

pub read_page-requires : goal.read_page-requires
read_page-requires g c = rw c.oldest-oldest.ensures (oldest c.requires.store c.requires.full).place

pub write_page-requires : goal.write_page-requires
write_page-requires g c = rw c.oldest-oldest.ensures (oldest c.requires.store c.requires.full).page

pub give_up_oldest-requires-clause-record : goal.give_up_oldest-requires-clause-record
give_up_oldest-requires-clause-record g c = (oldest c.requires.store c.requires.full).entry
