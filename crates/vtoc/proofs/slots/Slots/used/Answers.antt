use Rattle.vtoc.proofs.Held.{arith, held_read, used_held}
use Rattle.vtoc.proofs.slots.Slots.used.Goals as goal

pub index-requires : goal.index-requires
index-requires c = let held = used_held _ _ c.args.e _ c.self.view_is c.requires in omega (arith, held)

pub returns : goal.returns
returns c = held_read _ _ c.args.e c.self.view_is (used_held _ _ c.args.e _ c.self.view_is c.requires) c.index.ensures
