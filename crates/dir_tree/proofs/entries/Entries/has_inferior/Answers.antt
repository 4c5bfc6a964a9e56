use Rattle.dir_tree.proofs.Prelude.{arith, lt-ltb, ltb-true}
use Rattle.dir_tree.proofs.CountLemmas.{counts_some}
use Rattle.dir_tree.proofs.UidLemmas.{slot_there, entry_there}
use Rattle.dir_tree.proofs.entries.Entries.has_inferior.Goals as goal

pub index-requires : goal.index-requires
index-requires c = omega (
  arith,
  slot_there c.self.invariant.0 c.args.self.now c.self.view_is c.args.uid c.place_of-place.result
      c.place_of-place.ensures,
)

pub returns : goal.returns
returns c =
    let at = c.place_of-place.ensures in
    let tells = counts_some c.args.self.now c.requires.counted c.args.uid at.0 at.1 at.2 in
    rw (entry_there c.self.invariant.0 c.args.self.now c.self.view_is c.args.uid c.place_of-place.result at
    c.index.result.now c.index.ensures) (λ is. tells.0 (ltb-true _ _ is), λ one. lt-ltb _ _ (tells.1 one))
