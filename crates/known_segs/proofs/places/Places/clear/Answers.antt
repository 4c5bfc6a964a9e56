use Rattle.known_segs.proofs.Prelude.{arith}
use Rattle.known_segs.proofs.PlaceLaws.{known_is_kept, last_dropped, cleared_is}
use Rattle.known_segs.proofs.places.Places.clear.Goals as goal

pub index_mut-requires : goal.index_mut-requires
index_mut-requires c =
    let lt = known_is_kept c.self.inside.kept.items c.args.n (rw c.self.view_is c.requires) in
    omega arith

pub returns-then-n-len : goal.returns-then-n-len
returns-then-n-len c = last_dropped c.self.inside.kept.items c.self.view_is (omega arith) (omega arith)
    (omega arith) c.pop.ensures.rest

pub returns-else-n-len : goal.returns-else-n-len
returns-else-n-len c =
    let lt = known_is_kept c.self.inside.kept.items c.args.n (rw c.self.view_is c.requires) in
    cleared_is c.self.inside.kept.items c.args.n c.self.view_is lt
