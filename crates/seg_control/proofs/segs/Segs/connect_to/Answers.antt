use Rattle.seg_control.proofs.Connected.{connected_number, linked_connected, may_connect, others_connected, room}
use Rattle.seg_control.proofs.Resting.{kept_linked, length, rules, ◌<◌}
use Rattle.seg_control.proofs.segs.Segs.connect_to.Goals as goal

pub connect-requires : goal.connect-requires
connect-requires g c =
    let k = c.self.invariant.kept.linked in
    let within : c.args.process < length c.self.inside.links.known = search rules in
    let may = may_connect c.args.process c.args.number c.args.aste k (search rules) (search rules) (search rules)
    (search rules) in
    record {
      place = may.place_within;
      room = room c.args.mode c.args.pages k may;
      process = rw k.lists.processes within;
      number = connected_number c.args.mode c.args.pages k may;
    }

pub invariant_of-self : goal.invariant_of-self
invariant_of-self g c =
    let k = c.self.invariant.kept.linked in
    kept_linked c.self.invariant (rw c.connect.ensures (linked_connected c.args.mode c.args.pages k (may_connect
    c.args.process c.args.number c.args.aste k (search rules) (search rules) (search rules) (search rules))))

pub returns-clause-others : goal.returns-clause-others
returns-clause-others g c =
    let k = c.self.invariant.kept.linked in
    rw (← c.self.view_is, c.connect.ensures) (others_connected c.args.mode c.args.pages k (may_connect
    c.args.process c.args.number c.args.aste k (search rules) (search rules) (search rules) (search rules)))
