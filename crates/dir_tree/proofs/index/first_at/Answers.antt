use Rattle.dir_tree.proofs.Prelude.{common_steps, ◌<◌, ℕ, arith, Key, key_hash, hash_at, nat_tests}
use Rattle.dir_tree.proofs.IndexLemmas.{are_rising, before_hash, compared, halved_above}
use Rattle.dir_tree.proofs.index.first_at.Goals as goal

pub from_hash-at-requires : goal.from_hash-at-requires
from_hash-at-requires c = record { rising = are_rising c.requires.order }

pub loop-at-init : goal.loop-at-init
loop-at-init c =
    let key : Key = (c.args.superior, c.args.name.now) in
    let below : (k : ℕ) → k < c.from_hash-at.result → hash_at c.args.places.now c.args.hashes.now k < key_hash key =
    rw c.requires.hash at c.from_hash-at.ensures.below in
    assumption (before_hash c.requires.order c.from_hash-at.result key c.from_hash-at.ensures.within below)

pub returns-in-Equal : goal.returns-in-Equal
returns-in-Equal c = grind (arith, nat_tests, common_steps, compared, halved_above)
