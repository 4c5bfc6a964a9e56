use Rattle.quota_cells.proofs.Prelude.{◌≡◌, false, get_or, arith, common_steps}
use Rattle.quota_cells.proofs.TableLaws.{is_there, past_absent}
use Rattle.quota_cells.proofs.numbers.Numbers.has.Goals as goal

pub returns-in-Some : goal.returns-in-Some
returns-in-Some c =
    let read : c.in-Some.there.now ≡ get_or c.self.inside.there.items c.args.uid false = grind (arith, common_steps) in
    cc (is_there c.self.inside.there.items c.args.uid)

pub returns-in-None : goal.returns-in-None
returns-in-None c = cc (past_absent c.self.inside.there.items c.args.uid (grind (arith, common_steps)))
