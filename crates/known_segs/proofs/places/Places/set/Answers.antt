use Rattle.known_segs.proofs.Prelude.{arith}
use Rattle.known_segs.proofs.PlaceLaws.{set_is, push_is}
use Rattle.known_segs.proofs.places.Places.set.Goals as goal

pub push_reserved-requires : goal.push_reserved-requires
push_reserved-requires c =
    let lt = (push_is c.self.inside.kept.items c.args.uid c.self.view_is (omega arith) c.requires (omega arith)).1 in
    omega arith

pub invariant_of-self-else-number-len : goal.invariant_of-self-else-number-len
invariant_of-self-else-number-len c =
    let lt = (push_is c.self.inside.kept.items c.args.uid c.self.view_is (omega arith) c.requires (omega arith)).1 in
    (omega arith, omega arith)

pub returns-then-number-len : goal.returns-then-number-len
returns-then-number-len c = set_is c.self.inside.kept.items c.args.number c.args.uid c.self.view_is (omega arith)

pub returns-else-number-len : goal.returns-else-number-len
returns-else-number-len c = rw c.push_reserved.ensures.items (push_is c.self.inside.kept.items c.args.uid c.self.view_is
    (omega arith) c.requires (omega arith)).0
