use Rattle.dir_tree.proofs.Prelude.{refl, segment_in}
use Rattle.dir_tree.proofs.KeptLemmas.{entry_present}
use Rattle.dir_tree.proofs.ChangedLemmas.{set_kept, acl_read, shapes_changed, others_kept}
use Rattle.dir_tree.proofs.Tree.acl_mut.Goals as goal

pub place_of-place-requires : goal.place_of-place-requires
place_of-place-requires c = (entry_present c.self.invariant.0 c.args.uid
    (rw (← c.self.view_is) at (segment_in c.args.self.now.nodes c.args.uid c.requires)))

pub invariant_of-self-lent : goal.invariant_of-self-lent
invariant_of-self-lent c w =
    let set = set_kept c.self.invariant.0 c.args.uid c.place_of-place.result c.place_of-place.ensures
    (λ n. record n { acl = w }) (λ n. refl) c.index_mut-node.result.now c.index_mut-node.ensures.value in
    (set.0, c.self.invariant.1, c.self.invariant.2, c.self.invariant.3)

pub returns : goal.returns
returns c = (
  (
    refl,
    λ w. (let set = set_kept c.self.invariant.0 c.args.uid c.place_of-place.result c.place_of-place.ensures
        (λ n. record n { acl = w }) (λ n. refl) c.index_mut-node.result.now c.index_mut-node.ensures.value in
        rw (← c.self.view_is) (cc)),
  ),
  record {
    writes_back = tt;
    value = rw (← c.self.view_is) (acl_read c.self.invariant.0 c.args.uid c.place_of-place.result
        c.place_of-place.ensures c.index_mut-node.result.now c.index_mut-node.ensures.value);
    others = λ rows u other. others_kept c.args.uid (λ n. record n { acl = rows }) (λ n. refl) c.args.self.now.nodes u
        other;
    shapes = λ rows. shapes_changed c.args.uid (λ n. record n { acl = rows }) (λ n. refl) c.args.self.now.nodes;
  },
)
