use Rattle.page_control.proofs.Homes.{asks, plain, rules}
use Rattle.page_control.proofs.pages.Pages.ask.Goals as goal

pub returns-clause-asked : goal.returns-clause-asked
returns-clause-asked g c = record {
  effect = asks (plain g.D.Drive.pages c.args.self.now) c.args.volume c.args.uid c.allocate.result
      c.allocate.new.self (search rules) (search rules) (search rules);
  least = search rules;
}
