use Rattle.quota_cells.proofs.TableLaws.{number_read}
use Rattle.quota_cells.proofs.numbers.Numbers.at.Goals as goal

pub returns : goal.returns
returns c = number_read c.self.inside.there.items c.self.inside.values c.args.self.now c.self.view_is c.args.uid
    c.number.result (cc) c.requires
