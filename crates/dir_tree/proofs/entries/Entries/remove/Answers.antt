use Rattle.dir_tree.proofs.Prelude.{common_steps, rules, arith, nat_tests}
use Rattle.dir_tree.proofs.UidLemmas.{in_table, left_listed, left_removed, left_tabled, left_taken, slot_there, some_taken}
use Rattle.dir_tree.proofs.entries.Entries.remove.Goals as goal

pub index_mut-requires : goal.index_mut-requires
index_mut-requires c = omega (
  arith,
  in_table c.self.invariant.0 c.self.invariant.1 c.args.self.now c.self.view_is c.args.uid
      c.place_of-place.result c.place_of-place.ensures,
)

pub overflow_sub-self : goal.overflow_sub-self
overflow_sub-self c = grind (arith, nat_tests, common_steps, some_taken)

pub index-requires : goal.index-requires
index-requires c = omega (
  arith,
  slot_there c.self.invariant.0 c.args.self.now c.self.view_is c.args.uid c.place_of-place.result
      c.place_of-place.ensures,
)

pub invariant_of-self : goal.invariant_of-self
invariant_of-self c =
    let at = c.place_of-place.ensures in
    let n = left_taken c.self.invariant.0 c.self.invariant.1 c.args.self.now c.self.view_is c.args.uid
    c.place_of-place.result at in (
      left_listed c.self.invariant.0 c.self.invariant.1 c.args.self.now c.self.view_is c.args.uid
          c.place_of-place.result at,
      left_tabled c.self.invariant.0 c.self.invariant.1 c.args.self.now c.self.view_is c.args.uid
          c.place_of-place.result at,
      search rules,
      omega arith,
      search rules,
    )

pub returns : goal.returns
returns c = left_removed c.self.invariant.0 c.self.invariant.1 c.args.self.now c.self.view_is c.args.uid
    c.place_of-place.result c.place_of-place.ensures c.index.result.now c.index.ensures
