use Rattle.dir_tree.proofs.Prelude.{length, ap, arith, taken}
use Rattle.dir_tree.proofs.SlotLemmas.{length_listed}
use Rattle.dir_tree.proofs.UidLemmas.{pushed_past, reached}
use Rattle.dir_tree.proofs.entries.Entries.push.Goals as goal

pub index_mut-requires : goal.index_mut-requires
index_mut-requires c = omega arith

pub reach-requires : goal.reach-requires
reach-requires c = omega arith

pub index_mut-requires-2 : goal.index_mut-requires-2
index_mut-requires-2 c = omega (arith, reached c.self.inside.places.items _ c.args.entry.uid c.reach.ensures.places)

pub overflow_add-self : goal.overflow_add-self
overflow_add-self c =
    omega (arith, length_listed c.self.inside.slots.items (taken c.self.inside.places.items), ap length c.self.view_is)

pub invariant_of-self : goal.invariant_of-self
invariant_of-self c =
    let long = reached c.self.inside.places.items _ c.args.entry.uid c.reach.ensures.places in
    let p = pushed_past c.self.invariant.0 c.self.invariant.1 c.args.self.now c.self.view_is _ _ c.reach.ensures.places
    c.args.entry c.requires.place c.requires.new (omega arith) c.requires.later in (
      p.0,
      p.1,
      omega arith,
      omega arith,
      omega arith,
    )

pub returns : goal.returns
returns c =
    let long = reached c.self.inside.places.items _ c.args.entry.uid c.reach.ensures.places in
    (pushed_past c.self.invariant.0 c.self.invariant.1 c.args.self.now c.self.view_is _ _ c.reach.ensures.places
    c.args.entry c.requires.place c.requires.new (omega arith) c.requires.later).3
