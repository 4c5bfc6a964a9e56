use Rattle.dir_tree.proofs.Prelude.{◌≡◌, Some, ap, ◌∙◌, branch_in, Node, node_at, newest, is_in, shape, shapes}
use Rattle.dir_tree.proofs.KeptLemmas.{branch_read, branch_missing, places_within, place_read, place_there}
use Rattle.dir_tree.proofs.Tree.branch.Goals as goal

pub find-requires : goal.find-requires
find-requires c = rw c.deref.ensures.value (assumption (places_within c.self.invariant.0))

pub returns-in_err-place-clause-none : goal.returns-in_err-place-clause-none
returns-in_err-place-clause-none c = rw (c.from_residual.ensures, ← c.self.view_is)
    (branch_missing c.self.invariant.0 c.args.directory c.args.name.now
    (rw c.deref.ensures.value at c.in_err-place.ensures.none))

pub returns-clause-some : goal.returns-clause-some
returns-clause-some c =
    let found = rw c.deref.ensures.value at c.in_ok-place.ensures.some in
    let node = place_read c.self.invariant.0 c.in_ok-place.place c.index.result.now found.0 c.index.ensures in
    let is : branch_in (shapes (newest c.self.inside.nodes.items c.self.inside.entries)) c.args.directory
    c.args.name.now ≡ Some (shape (node_at c.self.inside.nodes.items c.in_ok-place.place)) =
    branch_read c.self.invariant.0 c.args.directory c.args.name.now c.in_ok-place.place found.0 found.1 in
    rw (← c.self.view_is) (cc)

pub returns-clause-there : goal.returns-clause-there
returns-clause-there c =
    let found = rw c.deref.ensures.value at c.in_ok-place.ensures.some in
    let node = place_read c.self.invariant.0 c.in_ok-place.place c.index.result.now found.0 c.index.ensures in
    rw (← c.self.view_is) (ap (λ (n : Node). is_in (newest c.self.inside.nodes.items c.self.inside.entries) n.uid) node
    ∙ place_there c.self.invariant.0 c.in_ok-place.place found.0)
