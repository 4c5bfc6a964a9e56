use Rattle.dir_tree.proofs.Prelude.{common_steps, ◌≡◌, ◌+◌, ◌<◌, ℕ, List, [], ◌∷◌, ◌++◌, Bool, length, None, Some, refl, arith, length-map, Node, Entry, Branches, add_fault_of, node_of_new, as_node, IsOrdered, AreWithin, shapes, newest, IsKept, has_chains, Places, nat_tests}
use Rattle.dir_tree.proofs.AddedLemmas.{place_unused, place_room, asked, new_key, added}
use Rattle.dir_tree.proofs.CountLemmas.{superior_there, pushed_few, counted_with, newest_recounted, kept_recounted}
use Rattle.dir_tree.proofs.KeptLemmas.{next_missing, no_fault}
use Rattle.dir_tree.proofs.NewestLemmas.{length_newest}
use Rattle.dir_tree.proofs.Tree.attach.Goals as goal

abbrev new_entry : ℕ → ℕ → ℕ → Entry
new_entry next superior place = record { uid = next; superior = Some superior; place = place; inferiors = 0 }

few : {nodes : List Node} {es : List Entry} {free : List ℕ} {index : Places} {next : ℕ} {t : Branches} (s : ℕ)
    (name : List ℕ) (dir : Bool) → IsKept nodes es free index next → record { nodes = newest nodes es; next = next } ≡ t
    → add_fault_of (shapes t.nodes) s name dir ≡ None → length es < 4097
few {nodes} {es} s name dir k seen e = grind (arith, nat_tests, common_steps, no_fault, length-map, length_newest)

pub store-place-requires-clause-room : goal.store-place-requires-clause-room
store-place-requires-clause-room c none =
    grind (arith, nat_tests, common_steps, few _ _ _ c.self.invariant.0 c.self.view_is c.requires.may)

pub store-place-requires-clause-count : goal.store-place-requires-clause-count
store-place-requires-clause-count c = omega (arith, c.self.invariant.0.few)

pub insert-requires-clause-room : goal.insert-requires-clause-room
insert-requires-clause-room c =
    grind (arith, nat_tests, common_steps, few _ _ _ c.self.invariant.0 c.self.view_is c.requires.may)

-- what the index asks for holds once the new node stands in its place
ready : (c : goal.After-deref)
    → IsOrdered c.store-place.new.nodes.items c.self.inside.index.places c.self.inside.index.hashes
    × AreWithin c.store-place.new.nodes.items c.self.inside.index.places
    × (c.store-place.result < length c.store-place.new.nodes.items)
ready c = asked c.self.invariant.0 c.store-place.result c.store-place.ensures.place c.store-place.new.nodes.items
    c.store-place.ensures.others c.store-place.ensures.count

pub insert-requires-clause-order : goal.insert-requires-clause-order
insert-requires-clause-order c = rw c.deref.ensures.value (ready c).0

pub insert-requires-clause-within : goal.insert-requires-clause-within
insert-requires-clause-within c = rw c.deref.ensures.value (ready c).1

pub insert-requires-clause-node : goal.insert-requires-clause-node
insert-requires-clause-node c = rw c.deref.ensures.value (ready c).2

pub insert-requires-clause-slot : goal.insert-requires-clause-slot
insert-requires-clause-slot c = place_room c.self.invariant.0 c.store-place.result c.store-place.ensures.place
    (few _ _ _ c.self.invariant.0 c.self.view_is c.requires.may)

pub insert-requires-clause-new : goal.insert-requires-clause-new
insert-requires-clause-new c =
    let may = no_fault (shapes (newest c.self.inside.nodes.items c.self.inside.entries)) c.args.superior
    c.args.new.name c.args.new.dir (rw (← c.self.view_is) at c.requires.may) in
    rw c.deref.ensures.value (new_key c.self.invariant.0 c.store-place.result c.store-place.ensures.place
    c.store-place.new.nodes.items c.store-place.ensures.others c.store-place.ensures.count c.args.superior
    (node_of_new c.self.inside.next c.args.superior (as_node c.args.new)) c.store-place.ensures.here refl may.new)

pub push-requires-clause-few : goal.push-requires-clause-few
push-requires-clause-few c = few _ _ _ c.self.invariant.0 c.self.view_is c.requires.may

pub push-requires-clause-place : goal.push-requires-clause-place
push-requires-clause-place c = place_room c.self.invariant.0 c.store-place.result c.store-place.ensures.place
    (few _ _ _ c.self.invariant.0 c.self.view_is c.requires.may)

pub push-requires-clause-new : goal.push-requires-clause-new
push-requires-clause-new c = place_unused c.self.invariant.0 c.store-place.result c.store-place.ensures.place

pub push-requires-clause-uid : goal.push-requires-clause-uid
push-requires-clause-uid c = rw (← c.self.view_is) at c.requires.uids

pub push-requires-clause-later : goal.push-requires-clause-later
push-requires-clause-later c = c.self.invariant.0.below

pub gain-requires-clause-there : goal.gain-requires-clause-there
gain-requires-clause-there c = rw c.push.ensures (superior_there c.self.invariant.0 c.args.superior
    (rw (← c.self.view_is) at c.requires.directory) _)

pub gain-requires-clause-room : goal.gain-requires-clause-room
gain-requires-clause-room c = grind (arith, nat_tests, common_steps, few, pushed_few)

-- the tables with the new branch are those of the tree with it
added_to : (c : goal.After-self-1) → IsKept c.store-place.new.nodes.items
    (c.self.inside.entries ++ new_entry c.self.inside.next c.args.superior c.store-place.result ∷ [])
    c.store-place.new.free.items c.insert.new.self (c.self.inside.next + 1) × (newest c.store-place.new.nodes.items
    (c.self.inside.entries ++ new_entry c.self.inside.next c.args.superior c.store-place.result ∷ [])
    ≡ node_of_new c.self.inside.next c.args.superior
    (as_node c.args.new) ∷ newest c.self.inside.nodes.items c.self.inside.entries)
added_to c =
    added c.self.invariant.0 c.args.superior (node_of_new c.self.inside.next c.args.superior (as_node c.args.new))
    c.store-place.new.nodes.items c.store-place.new.free.items c.insert.new.self c.store-place.result refl refl
    (rw (← c.self.view_is) at c.requires.directory) (rw (← c.self.view_is) at c.requires.may)
    c.store-place.ensures.place c.store-place.ensures.here c.store-place.ensures.others c.store-place.ensures.rest
    c.store-place.ensures.count (rw c.deref.ensures.value at c.insert.ensures.order) c.insert.ensures.places
    c.insert.ensures.count c.insert.ensures.room

pub invariant_of-self : goal.invariant_of-self
invariant_of-self c =
    let gained = rw c.push.ensures at c.gain.ensures in (
      rw gained (kept_recounted c.args.superior (λ n. n + 1) (added_to c).0),
      omega (arith, c.self.invariant.1, c.store-place.ensures.nodes_room),
      omega (arith, c.self.invariant.2, c.store-place.ensures.free_room),
      rw gained (counted_with c.self.invariant.0 c.self.invariant.3 c.args.superior
          (rw (← c.self.view_is) at c.requires.directory)
          (new_entry c.self.inside.next c.args.superior c.store-place.result) refl refl refl),
    )

pub returns-clause-tree : goal.returns-clause-tree
returns-clause-tree c = grind (arith, nat_tests, common_steps, newest_recounted, added_to)

pub returns-clause-fresh : goal.returns-clause-fresh
returns-clause-fresh c = rw (← c.self.view_is) (next_missing c.self.invariant.0)

pub returns-clause-chains : goal.returns-clause-chains
returns-clause-chains c = rw (← c.self.view_is) (has_chains
    (shapes (newest c.self.inside.nodes.items c.self.inside.entries)) c.self.invariant.0.tree)
