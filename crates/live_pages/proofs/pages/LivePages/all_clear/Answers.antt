use Rattle.live_pages.proofs.Ends.{noted_is_clear, rules}
use Rattle.live_pages.proofs.pages.LivePages.all_clear.Goals as goal

pub returns-clause-clear : goal.returns-clause-clear
returns-clause-clear c = noted_is_clear c.clear.new.self.holder c.args.stamp (search rules)
