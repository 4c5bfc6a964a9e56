use Rattle.quota_cells.proofs.TableLaws.{blank}
use Rattle.quota_cells.proofs.numbers.Numbers.new.Goals as goal

pub returns : goal.returns
returns c = blank c.in_ok-there.there.items c.in_ok-values.values c.in_ok-there.ensures.items
