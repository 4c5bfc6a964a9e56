use Rattle.dir_tree.proofs.ShelfLemmas.{none_placed, none_shelved}
use Rattle.dir_tree.proofs.index.Index.new.Goals as goal

pub invariant_of-result : goal.invariant_of-result
invariant_of-result c = (
  none_shelved c.in_ok-shelves.shelves.items c.in_ok-hashes.hashes.items c.in_ok-shelves.ensures.count
      c.in_ok-shelves.ensures.empty,
  c.in_ok-hashes.ensures.len,
)

pub returns-clause-empty : goal.returns-clause-empty
returns-clause-empty c = none_placed c.in_ok-shelves.shelves.items c.in_ok-shelves.ensures.empty
