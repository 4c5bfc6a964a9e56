use Rattle.live_doors.proofs.Keeps.{noted_is_clear, rules}
use Rattle.live_doors.proofs.doors.LiveDoors.all_clear.Goals as goal

pub returns-clause-clear : goal.returns-clause-clear
returns-clause-clear c = noted_is_clear c.clear.new.self.watch c.args.stamp (search rules)
