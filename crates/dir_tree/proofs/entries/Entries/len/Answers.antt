use Rattle.dir_tree.proofs.Prelude.{taken}
use Rattle.dir_tree.proofs.SlotLemmas.{length_listed}
use Rattle.dir_tree.proofs.entries.Entries.len.Goals as goal

pub returns : goal.returns
returns c = cc (length_listed c.self.inside.slots.items (taken c.self.inside.places.items))
