use Rattle.quota_cells.proofs.Prelude.{common_steps, arith, nat_tests}
use Rattle.quota_cells.proofs.TableLaws.{now_rises, there_now, there_within}
use Rattle.quota_cells.proofs.numbers.Numbers.place.Goals as goal

pub returns-clause-within : goal.returns-clause-within
returns-clause-within c = grind (arith, nat_tests, common_steps, there_within, there_now)

pub returns-clause-rising : goal.returns-clause-rising
returns-clause-rising c = now_rises c.self.inside.there.items c.self.inside.values c.args.self.now c.self.view_is
