use Rattle.quota_cells.proofs.Prelude.{◌≡◌, ◌≤◌, length, get_or, arith, common_steps, get_or_past}
use Rattle.quota_cells.proofs.PadLaws.{padded_read}
use Rattle.quota_cells.proofs.by_uid.ByUid.number.Goals as goal

pub returns-in-Some : goal.returns-in-Some
returns-in-Some c =
    let read : c.in-Some.number.now ≡ get_or c.self.inside.held.items c.args.uid 0 = grind (arith, common_steps) in
    cc (padded_read c.self.inside.held.items c.args.uid)

pub returns-in-None : goal.returns-in-None
returns-in-None c =
    let past : length c.self.inside.held.items ≤ c.args.uid = grind (arith, common_steps) in
    let none : get_or c.self.inside.held.items c.args.uid 0 ≡ 0 =
    get_or_past c.self.inside.held.items c.args.uid 0 past in
    cc (padded_read c.self.inside.held.items c.args.uid)
