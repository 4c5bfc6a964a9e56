use Rattle.dir_tree.proofs.Prelude.{common_steps, ◌≡◌, ◌-◌, List, [], ◌∷◌, ◌++◌, sym, ap, ◌∙◌, arith, Entry, newest, recounted, IsKept, remove, without, length-remove, nat_tests}
use Rattle.dir_tree.proofs.KeptLemmas.{entry_present, places_within}
use Rattle.dir_tree.proofs.CountLemmas.{removed_rising, superior_left, some_left, counted_removed, length_recounted, newest_recounted, kept_recounted}
use Rattle.dir_tree.proofs.NewestLemmas.{length_newest}
use Rattle.dir_tree.proofs.RemovedLemmas.{removed_at, not_root, named_at}
use Rattle.dir_tree.proofs.Tree.detach.Goals as goal

pub remove-superior-requires : goal.remove-superior-requires
remove-superior-requires c = entry_present c.self.invariant.0 c.args.uid (rw (← c.self.view_is) at c.requires.there)

pub unreachable-requires : goal.unreachable-requires
unreachable-requires c = c.requires.branch
    (not_root c.self.invariant.0 c.args.uid c.remove-superior.ensures.at c.remove-superior.result
    c.remove-superior.ensures.within c.remove-superior.ensures.entry_is
    c.remove-superior.ensures.uid_is c.in_default.is)

pub push_reserved-requires : goal.push_reserved-requires
push_reserved-requires c = omega arith

pub lose-requires-clause-rising : goal.lose-requires-clause-rising
lose-requires-clause-rising c = rw c.remove-superior.ensures.rest
    (removed_rising c.self.invariant.0 c.remove-superior.ensures.at c.remove-superior.ensures.within)

pub lose-requires-clause-there : goal.lose-requires-clause-there
lose-requires-clause-there c =
    let up = ap (λ (e : Entry). e.superior) (sym c.remove-superior.ensures.entry_is) ∙ c.in-Some.is in
    rw c.remove-superior.ensures.rest (superior_left c.self.invariant.0 c.in-Some.superior c.remove-superior.ensures.at
    c.remove-superior.ensures.within up)

pub lose-requires-clause-some : goal.lose-requires-clause-some
lose-requires-clause-some c = grind (arith, nat_tests, common_steps, some_left)

-- the tables without the branch are those of the tree without it
left_by : (c : goal.After-push_reserved)
    → IsKept c.self.inside.nodes.items (remove c.self.inside.entries c.remove-superior.ensures.at)
    (c.self.inside.free.items ++ c.remove-superior.result.place ∷ []) c.remove.new.self c.self.inside.next
    × (newest c.self.inside.nodes.items (remove c.self.inside.entries c.remove-superior.ensures.at)
    ≡ without c.args.uid (newest c.self.inside.nodes.items c.self.inside.entries))
left_by c = removed_at c.self.invariant.0 c.args.uid c.remove-superior.ensures.at c.remove-superior.result
    c.remove-superior.ensures.within c.remove-superior.ensures.entry_is c.remove-superior.ensures.uid_is
    (rw (← c.self.view_is) at c.requires.leaf) c.remove.new.self
    (rw c.deref.ensures.value at c.remove.ensures.order) c.remove.ensures.places
    c.remove.ensures.count c.remove.ensures.room

pub invariant_of-self : goal.invariant_of-self
invariant_of-self c =
    let up = ap (λ (e : Entry). e.superior) (sym c.remove-superior.ensures.entry_is) ∙ c.in-Some.is in
    let fewer : List Entry = remove c.self.inside.entries c.remove-superior.ensures.at in
    let lost : c.lose.new.self ≡ recounted c.in-Some.superior (λ n. n - 1) fewer =
    rw c.remove-superior.ensures.rest at c.lose.ensures in (
      rw (c.push_reserved.ensures.items, lost) (kept_recounted c.in-Some.superior (λ n. n - 1) (left_by c).0),
      c.self.invariant.1,
      omega arith,
      rw lost (counted_removed c.self.inside.entries c.self.invariant.3 c.remove-superior.ensures.at
          c.remove-superior.ensures.within c.in-Some.superior up),
    )

pub returns-clause-tree : goal.returns-clause-tree
returns-clause-tree c = grind (arith, nat_tests, common_steps, newest_recounted, left_by)

pub remove-requires : goal.remove-requires
remove-requires c =
    let there = named_at c.self.invariant.0 c.remove-superior.ensures.at c.remove-superior.result
    c.remove-superior.ensures.within c.remove-superior.ensures.entry_is c.in-Some.superior c.in-Some.is in
    rw c.deref.ensures.value (assumption (places_within c.self.invariant.0))

pub returns-clause-count : goal.returns-clause-count
returns-clause-count c = grind (arith, nat_tests, common_steps, length-remove, length_recounted, length_newest)
