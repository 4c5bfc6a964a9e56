use Rattle.bulk_store.proofs.Indexed.{arith, free_place-within}
use Rattle.bulk_store.proofs.parts.Parts.take_in.Goals as goal

pub add-requires-clause-place : goal.add-requires-clause-place
add-requires-clause-place g c = omega (arith, free_place-within c.requires.store.index c.requires.room)
