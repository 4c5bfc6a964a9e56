use Rattle.page_control.proofs.Calls.{Creates, has_made, plain, rules, tied_volume}
use Rattle.page_control.proofs.pages.Pages.create_page.Goals as goal

-- what it was called with, and what its steps left
created : (g : _) (c : goal.After-create_at g)
    → Creates (plain g.D.Drive.pages c.args.self.now) (plain g.D.Drive.pages c.create_at.new.self) c.args.t.now
    c.create_at.new.t c.args.uid c.args.home c.args.p c.args.f c.args.at c.args.w c.create_at.result
created g c = assumption (c.requires, c.create_at.ensures)

pub create_at-requires-clause-volume : goal.create_at-requires-clause-volume
create_at-requires-clause-volume g c = tied_volume g.D.Drive.pages c.args.self.now c.requires.tie

pub returns : goal.returns
returns g c = (let call = has_made (created g c) in search rules)
