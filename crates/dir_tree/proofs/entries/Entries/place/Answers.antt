use Rattle.dir_tree.proofs.Prelude.{◌≤◌, length, arith, common_steps, get_or_read}
use Rattle.dir_tree.proofs.UidLemmas.{place_given, place_absent}
use Rattle.dir_tree.proofs.entries.Entries.place.Goals as goal

pub returns-in-Some-clause-some : goal.returns-in-Some-clause-some
returns-in-Some-clause-some c =
    place_given c.self.invariant.0 c.self.invariant.1 c.args.self.now c.self.view_is
    c.args.uid c.in-Some.place.now (grind (arith, common_steps)) (grind (arith, common_steps)) c.if-place.true

pub returns-in_default-clause-none : goal.returns-in_default-clause-none
returns-in_default-clause-none c =
    place_absent c.self.invariant.0 c.self.invariant.1 c.args.self.now c.self.view_is c.args.uid (λ lt.
    cc (get_or_read c.self.inside.places.items c.args.uid c.in-Some.place.now lt (grind (arith, common_steps)) 0))

pub returns-in_default-2-clause-none : goal.returns-in_default-2-clause-none
returns-in_default-2-clause-none c =
    let past : length c.self.inside.places.items ≤ c.args.uid = grind (arith, common_steps) in
    place_absent c.self.invariant.0 c.self.invariant.1 c.args.self.now c.self.view_is c.args.uid
    (λ lt. absurd (omega arith))
