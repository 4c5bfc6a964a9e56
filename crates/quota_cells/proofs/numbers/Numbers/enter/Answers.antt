use Rattle.quota_cells.proofs.Prelude.{◌<◌, ◌≤◌, length, arith, common_steps}
use Rattle.quota_cells.proofs.TableLaws.{now_rises, number_entered, number_reached}
use Rattle.quota_cells.proofs.numbers.Numbers.enter.Goals as goal

pub returns-then-place-len-clause-numbers : goal.returns-then-place-len-clause-numbers
returns-then-place-len-clause-numbers c =
    let lt : c.args.uid < length c.self.inside.there.items = grind (arith, common_steps) in
    cc (number_entered c.self.inside.there.items c.self.inside.values c.args.self.now c.self.view_is c.args.uid
    c.requires.absent lt (omega (arith, c.requires.bound, c.put.ensures.size)))

pub returns-then-place-len-clause-rising : goal.returns-then-place-len-clause-rising
returns-then-place-len-clause-rising c =
    now_rises c.self.inside.there.items c.self.inside.values c.args.self.now c.self.view_is

pub returns-else-place-len-clause-numbers : goal.returns-else-place-len-clause-numbers
returns-else-place-len-clause-numbers c =
    let past : length c.self.inside.there.items ≤ c.args.uid = grind (arith, common_steps) in
    cc (number_reached c.self.inside.there.items c.self.inside.values c.args.self.now c.self.view_is
    c.reach.new.held.items c.args.uid c.requires.absent past c.reach.ensures.items
    (omega (arith, c.requires.bound, c.put.ensures.size)))

pub returns-else-place-len-clause-rising : goal.returns-else-place-len-clause-rising
returns-else-place-len-clause-rising c =
    now_rises c.self.inside.there.items c.self.inside.values c.args.self.now c.self.view_is
