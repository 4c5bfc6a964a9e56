use Rattle.dir_tree.proofs.Prelude.{common_steps, ◌≡◌, ◌≢◌, ◌<◌, ℕ, Some, length, sym, ◌∙◌, arith, false_from_ne_true, Less, Greater, Key, key_at, key_cmp, key_hash, hash_at, node_at, nat_tests}
use Rattle.dir_tree.proofs.IndexLemmas.{are_rising, before_hash, branch_key, compared, first_place, halved_above, key_branch, not_after, tied_same}
use Rattle.dir_tree.proofs.index.find.Goals as goal

pub from_hash-at-requires : goal.from_hash-at-requires
from_hash-at-requires c = record { rising = are_rising c.requires.order }

pub loop-at-init : goal.loop-at-init
loop-at-init c =
    let key : Key = (Some c.args.superior, c.args.name.now) in
    let below : (k : ℕ) → k < c.from_hash-at.result → hash_at c.args.places.now c.args.hashes.now k < key_hash key =
    rw c.requires.hash at c.from_hash-at.ensures.below in
    assumption (before_hash c.requires.order c.from_hash-at.result key c.from_hash-at.ensures.within below)

pub returns-in-Equal-clause-some : goal.returns-in-Equal-clause-some
returns-in-Equal-clause-some c = grind (arith, nat_tests, common_steps, tied_same, compared, key_branch)

pub returns-in-Greater-clause-none : goal.returns-in-Greater-clause-none
returns-in-Greater-clause-none c place there = false_from_ne_true _ (λ is.
    (let key : Key = (Some c.args.superior, c.args.name.now) in
    let at : ℕ = c.loop-at.at in
    let within : at < length c.args.places.now = omega arith in
    let more : key_cmp (key_at c.args.nodes.now c.args.places.now at) key ≡ Greater =
    compared c.args.nodes.now c.args.places.now at key (c.requires.within at within) c.index-nodes-place.is
    c.compare.ensures ∙ c.in-Greater.is in
    let isnt : key_cmp (key_at c.args.nodes.now c.args.places.now at) key ≢ Less =
    λ less. (let clash : Less ≡ Greater = sym less ∙ more in cc) in
    let first = first_place c.args.nodes.now c.args.places.now at c.args.superior c.args.name.now
    c.requires.order.sorted c.loop-at.invariant.below
    (halved_above c.args.nodes.now c.args.places.now at key c.requires.order.sorted isnt) place there is in
    not_after (key_at c.args.nodes.now c.args.places.now at) key (cc (branch_key c.args.superior c.args.name.now
    (node_at c.args.nodes.now place) is)) more))

pub returns-clause-none : goal.returns-clause-none
returns-clause-none c place there = false_from_ne_true _ (λ is.
    (let first = first_place c.args.nodes.now c.args.places.now c.loop-at.at c.args.superior c.args.name.now
    c.requires.order.sorted c.loop-at.invariant.below (λ k le lt. absurd (omega arith)) place there is in
    let past : c.loop-at.at < length c.args.places.now = first.0 in absurd (omega arith)))
