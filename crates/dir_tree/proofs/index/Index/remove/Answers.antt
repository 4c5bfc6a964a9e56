use Rattle.dir_tree.proofs.Prelude.{◌≡◌, ℕ, List, length, set, ap, ◌∙◌, arith, concat, get_or_read, Places, HasPlace, IsOrdered, shelf_at}
use Rattle.dir_tree.proofs.IndexLemmas.{are_rising}
use Rattle.dir_tree.proofs.ShelfLemmas.{Removed, on_own, removed, shelf_ordered, shelf_read}
use Rattle.dir_tree.proofs.index.Index.remove.Goals as goal

pub index-requires : goal.index-requires
index-requires c =
    let order : IsOrdered c.args.nodes.now (concat c.self.inside.shelves.items) c.self.inside.hashes.items =
    rw (← c.self.view_is) at c.requires.order in
    let there : HasPlace (concat c.self.inside.shelves.items) c.args.place =
    rw (← c.self.view_is) at c.requires.there in
    omega (arith, order.slots c.args.place there)

ordered : (c : goal.After-deref) → IsOrdered c.args.nodes.now (concat c.self.inside.shelves.items)
    c.self.inside.hashes.items
ordered c = rw (← c.self.view_is) at c.requires.order

own : (c : goal.After-deref) → c.places.result.now ≡ shelf_at c.self.inside.shelves.items c.shelf_of.result
own c = cc (shelf_read c.shelf_of.result c.self.invariant.0 c.shelf_of.ensures.within c.index_mut-shelf.ensures.value)

pub place_at-at-requires-clause-there : goal.place_at-at-requires-clause-there
place_at-at-requires-clause-there c =
    let there : HasPlace (concat c.self.inside.shelves.items) c.args.place =
    rw (← c.self.view_is) at c.requires.there in
    let hash = get_or_read c.self.inside.hashes.items
    c.args.place c.index.result.now ((ordered c).slots c.args.place there) c.index.ensures 0 in
    rw (own c) (on_own c.self.invariant.0 there (cc))

pub place_at-at-requires-clause-rising : goal.place_at-at-requires-clause-rising
place_at-at-requires-clause-rising c = rw (c.deref.ensures.value, own c)
    (are_rising (shelf_ordered c.args.nodes.now c.self.inside.shelves.items c.self.inside.hashes.items (ordered c)
    c.shelf_of.result))

less : (c : goal.After-self-1) → Removed c.args.nodes.now c.self.inside.shelves.items
    (set c.self.inside.shelves.items c.shelf_of.result c.remove.new.self) c.self.inside.hashes.items c.args.place
less c =
    let xs : List (List ℕ) = c.self.inside.shelves.items in
    let own : c.index_mut-shelf.result.now ≡ shelf_at xs c.shelf_of.result =
    shelf_read c.shelf_of.result c.self.invariant.0 c.shelf_of.ensures.within c.index_mut-shelf.ensures.value in
    removed c.shelf_of.result c.place_at-at.result (rw (← c.self.view_is) at c.requires.order)
    c.self.invariant.0 (cc) c.place_at-at.ensures.within c.place_at-at.ensures.place (cc)

pub invariant_of-self : goal.invariant_of-self
invariant_of-self c = ((less c).shelved, c.self.invariant.1)

pub returns-clause-order : goal.returns-clause-order
returns-clause-order c = (less c).order

pub returns-clause-places : goal.returns-clause-places
returns-clause-places c = rw (← c.self.view_is) (less c).places

pub returns-clause-count : goal.returns-clause-count
returns-clause-count c = (less c).count ∙ ap (λ (v : Places). length v.places) c.self.view_is
