use Rattle.dir_tree.proofs.Prelude.{refl}
use Rattle.dir_tree.proofs.KeptLemmas.{segment_present}
use Rattle.dir_tree.proofs.ChangedLemmas.{set_kept, set_seen}
use Rattle.dir_tree.proofs.Tree.set_length.Goals as goal

pub place_of-place-requires : goal.place_of-place-requires
place_of-place-requires c = segment_present c.self.invariant.0 c.args.uid c.self.view_is c.requires

pub invariant_of-self : goal.invariant_of-self
invariant_of-self c = (
  (set_kept c.self.invariant.0 c.args.uid c.place_of-place.result c.place_of-place.ensures
      (λ n. record n { length = c.args.pages }) (λ n. refl) c.index_mut.result.now c.index_mut.ensures.value).0,
  c.self.invariant.1,
  c.self.invariant.2,
  c.self.invariant.3,
)

pub returns : goal.returns
returns c = let seen = set_seen c.self.invariant.0 c.args.uid c.place_of-place.result c.place_of-place.ensures
    (λ n. record n { length = c.args.pages }) (λ n. refl) c.index_mut.result.now
    c.index_mut.ensures.value c.self.view_is in assumption
