use Rattle.dir_tree.proofs.Prelude.{common_steps, ◌+◌, ap, arith, Entry, nat_tests}
use Rattle.dir_tree.proofs.UidLemmas.{slot_there, entry_there, inferiors_changed}
use Rattle.dir_tree.proofs.entries.Entries.gain.Goals as goal

pub index_mut-requires : goal.index_mut-requires
index_mut-requires c = omega (
  arith,
  slot_there c.self.invariant.0 c.args.self.now c.self.view_is c.args.uid c.place_of-place.result
      c.place_of-place.ensures,
)

pub overflow_add-index_mut : goal.overflow_add-index_mut
overflow_add-index_mut c =
    let at = c.place_of-place.ensures in
    let is = ap (λ (e : Entry). e.inferiors) (entry_there c.self.invariant.0 c.args.self.now c.self.view_is c.args.uid
    c.place_of-place.result at c.index_mut.result.now c.index_mut.ensures.value) in
    omega (arith, c.requires.room at.0 at.1)

pub invariant_of-self : goal.invariant_of-self
invariant_of-self c = grind (arith, nat_tests, common_steps, inferiors_changed)

pub returns : goal.returns
returns c =
    (inferiors_changed c.self.invariant.0 c.self.invariant.1 c.args.self.now c.self.view_is c.requires.rising c.args.uid
    c.place_of-place.result c.place_of-place.ensures (λ n. n + 1) c.index_mut.result.now c.index_mut.ensures.value).2
