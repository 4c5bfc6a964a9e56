use Rattle.quota_cells.proofs.Prelude.{sym, look_absent}
use Rattle.quota_cells.proofs.numbers.Numbers.look.Goals as goal

pub returns-then-not-has : goal.returns-then-not-has
returns-then-not-has c = sym (look_absent c.args.self.now.uids c.args.self.now.values c.args.uid (cc))
