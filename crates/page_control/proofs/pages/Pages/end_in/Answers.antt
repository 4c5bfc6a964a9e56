use Rattle.page_control.proofs.Calls.{Reads, has_brought, plain, rules}
use Rattle.page_control.proofs.pages.Pages.end_in.Goals as goal

-- what it was called with, and what its steps left
read : (g : _) (c : goal.After-read_at g) → Reads (plain g.D.Drive.pages c.args.self.now) (plain g.D.Drive.pages
    c.read_at.new.self) c.args.t.now c.read_at.new.t c.args.uid c.args.home c.args.p c.args.f c.read_at.result
read g c = assumption (c.requires, c.read_at.ensures)

pub returns : goal.returns
returns g c = (let call = has_brought (read g c) in search rules)
