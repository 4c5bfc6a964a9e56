use Rattle.seg_control.proofs.Cutting.{Some, first_leads, leads_within, length, none_left, rules, slice_get, trailers_of, ◌<◌, ◌≡◌}
use Rattle.seg_control.proofs.segs.Segs.first_trailer.Goals as goal

pub returns-then-count-eq0-clause-none : goal.returns-then-count-eq0-clause-none
returns-then-count-eq0-clause-none g c =
    let none : length (trailers_of c.self.inside.links.trailers c.args.aste) ≡ 0 = search rules in
    rw (← c.self.view_is) (none_left c.args.aste c.self.invariant.kept.linked none)

pub returns : goal.returns
returns g c =
    let some : 0 < length (trailers_of c.self.inside.links.trailers c.args.aste) = search rules in
    let at : slice_get (trailers_of c.self.inside.links.trailers c.args.aste) 0 ≡ Some c.at.result = search rules in
    let k = c.self.invariant.kept.linked in
    let leading = first_leads c.args.aste c.at.result k some at in
    let lt = leads_within c.self.inside.links.descriptors c.at.result.0 c.at.result.1 c.args.aste leading in
    let within = rw k.lists.processes at lt in
    rw (← c.self.view_is) (search (rules, leading, within))
