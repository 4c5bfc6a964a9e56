use Rattle.seg_control.proofs.Connected.{linked_known}
use Rattle.seg_control.proofs.Resting.{kept_linked, kst_at, length, rules, with_number, ◌<◌}
use Rattle.seg_control.proofs.segs.Segs.make_known.Goals as goal

pub invariant_of-self : goal.invariant_of-self
invariant_of-self g c =
    let within : c.args.process < length c.self.inside.links.known = search rules in
    let k = c.self.invariant.kept in
    kept_linked c.self.invariant (rw c.make_known.ensures.effect (linked_known c.args.process (with_number (kst_at
    c.self.inside.links.known c.args.process) c.args.uid c.make_known.result) k.linked within c.make_known.ensures.once
    (cc (k.linked.lists.numbers c.args.process within)) (λ n v place e known. c.make_known.ensures.kept n v known)))
