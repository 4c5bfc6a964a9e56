use Rattle.dir_tree.proofs.Prelude.{◌≡◌, ◌≢◌, ◌<◌, ◌+◌, ℕ, List, length, set, ap, ◌∙◌, arith, concat, get_or_read, Node, Places, IsOrdered, node_at, no_node, key_of, key_at, shelf_at}
use Rattle.dir_tree.proofs.ShelfLemmas.{Inserted, all_within, inserted, shelf_ordered, shelf_read, shelf_within}
use Rattle.dir_tree.proofs.index.Index.insert.Goals as goal

ordered : (c : goal.After-first_at-arg-1) → IsOrdered c.args.nodes.now (concat c.self.inside.shelves.items)
    c.self.inside.hashes.items
ordered c = rw (← c.self.view_is) at c.requires.order

own : (c : goal.After-first_at-arg-1)
    → c.index_mut-shelf.result.now ≡ shelf_at c.self.inside.shelves.items c.shelf_of.result
own c = shelf_read c.shelf_of.result c.self.invariant.0 c.shelf_of.ensures.within c.index_mut-shelf.ensures.value

pub first_at-at-requires-clause-order : goal.first_at-at-requires-clause-order
first_at-at-requires-clause-order c = rw (c.deref.ensures.value, c.places.ensures, own c)
    (shelf_ordered c.args.nodes.now c.self.inside.shelves.items c.self.inside.hashes.items
    (ordered c) c.shelf_of.result)

pub first_at-at-requires-clause-within : goal.first_at-at-requires-clause-within
first_at-at-requires-clause-within c = rw (c.places.ensures, own c)
    (shelf_within c.args.nodes.now c.self.inside.shelves.items c.self.inside.hashes.items (ordered c) c.shelf_of.result
    (rw (← c.self.view_is) at c.requires.within))

pub insert-requires-clause-room : goal.insert-requires-clause-room
insert-requires-clause-room c =
    let xs = c.self.inside.shelves.items in
    let all : length (concat xs) < 4096 = rw (← c.self.view_is) at c.requires.room in
    let own =
    shelf_read c.shelf_of.result c.self.invariant.0 c.shelf_of.ensures.within c.index_mut-shelf.ensures.value in
    rw own (omega (arith, all_within xs c.shelf_of.result (length (shelf_at xs c.shelf_of.result)) (omega arith)))

more : (c : goal.After-self-2-1) → Inserted c.args.nodes.now c.self.inside.shelves.items
    (set c.self.inside.shelves.items c.shelf_of.result c.insert.new.self) c.self.inside.hashes.items
    (set c.self.inside.hashes.items c.args.place c.hash_of-hash.result) c.args.place
more c =
    let nodes : List Node = c.args.nodes.now in
    let xs : List (List ℕ) = c.self.inside.shelves.items in
    let own : c.index_mut-shelf.result.now ≡ shelf_at xs c.shelf_of.result = shelf_read c.shelf_of.result
    c.self.invariant.0 c.shelf_of.ensures.within c.index_mut-shelf.ensures.value in
    let node : c.index-nodes-place.result ≡ node_at nodes c.args.place =
    get_or_read nodes c.args.place c.index-nodes-place.result c.requires.node c.index-nodes-place.is no_node in
    let order : IsOrdered nodes (concat xs) c.self.inside.hashes.items = rw (← c.self.view_is) at c.requires.order in
    let new : (k : ℕ) → k < length (concat xs) → key_at nodes (concat xs) k ≢ key_of (node_at nodes c.args.place) =
    rw (← c.self.view_is) at c.requires.new in
    inserted c.first_at-at.result order
    c.self.invariant.0 c.hash_of-hash.ensures (ap key_of node) new c.shelf_of.ensures.shelf c.shelf_of.ensures.within
    (cc) c.first_at-at.ensures.within c.first_at-at.ensures.below c.first_at-at.ensures.from (omega arith) (cc)

pub invariant_of-self : goal.invariant_of-self
invariant_of-self c = ((more c).shelved, c.self.invariant.1)

pub returns-clause-order : goal.returns-clause-order
returns-clause-order c = (more c).order

pub returns-clause-places : goal.returns-clause-places
returns-clause-places c = rw (← c.self.view_is) (more c).places

pub returns-clause-count : goal.returns-clause-count
returns-clause-count c = (more c).count ∙ ap (λ (v : Places). length v.places + 1) c.self.view_is
