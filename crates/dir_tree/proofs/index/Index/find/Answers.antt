use Rattle.dir_tree.proofs.Prelude.{◌≡◌, ℕ, true, false, List, ap, subst, ◌∙◌, concat, HasPlace, IsOrdered, node_at, shelf_at, is_branch, shape}
use Rattle.dir_tree.proofs.ShelfLemmas.{found_all, none_elsewhere, none_then, shelf_ordered, shelf_read, shelf_within}
use Rattle.dir_tree.proofs.index.Index.find.Goals as goal

ordered : (c : goal.After-deref) → IsOrdered c.args.nodes.now (concat c.self.inside.shelves.items)
    c.self.inside.hashes.items
ordered c = rw (← c.self.view_is) at c.requires.order

shelf : (c : goal.After-deref) → c.places.result.now ≡ shelf_at c.self.inside.shelves.items c.shelf_of.result
shelf c = cc (shelf_read c.shelf_of.result c.self.invariant.0 c.shelf_of.ensures.within c.index-shelf.ensures)

pub find-requires-clause-order : goal.find-requires-clause-order
find-requires-clause-order c = rw (c.deref.ensures.value, shelf c)
    (shelf_ordered c.args.nodes.now c.self.inside.shelves.items c.self.inside.hashes.items
    (ordered c) c.shelf_of.result)

pub find-requires-clause-within : goal.find-requires-clause-within
find-requires-clause-within c = rw (shelf c)
    (shelf_within c.args.nodes.now c.self.inside.shelves.items c.self.inside.hashes.items (ordered c) c.shelf_of.result
    (rw (← c.self.view_is) at c.requires.within))

pub returns-clause-some : goal.returns-clause-some
returns-clause-some c =
    let xs = c.self.inside.shelves.items in
    let own = c.places.ensures ∙ shelf_read c.shelf_of.result
    c.self.invariant.0 c.shelf_of.ensures.within c.index-shelf.ensures in
    rw (← c.self.view_is) (found_all xs c.shelf_of.result c.find.result (λ place. is_branch c.args.superior
    c.args.name.now (shape (node_at c.args.nodes.now place)) ≡ true) (rw (← own) c.find.ensures.some))

pub returns-clause-none : goal.returns-clause-none
returns-clause-none c =
    let nodes = c.args.nodes.now in
    let xs = c.self.inside.shelves.items in
    let none : List ℕ → Type 0 = λ l. (place : ℕ) → HasPlace l place
    → is_branch c.args.superior c.args.name.now (shape (node_at nodes place)) ≡ false in
    let own = c.places.ensures ∙ shelf_read c.shelf_of.result
    c.self.invariant.0 c.shelf_of.ensures.within c.index-shelf.ensures ∙ ap (shelf_at xs) (cc) in
    none_then c.find.result (none c.places.result.now) (none c.args.self.now.places) c.find.ensures.none
    (λ here. rw (← c.self.view_is) (none_elsewhere nodes xs c.self.inside.hashes.items c.args.superior
    c.args.name.now (rw (← c.self.view_is) at c.requires.order) c.self.invariant.0 (subst none own here)))
