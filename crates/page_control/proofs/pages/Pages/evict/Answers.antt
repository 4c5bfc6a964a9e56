use Rattle.page_control.proofs.Calls.{Evicts, frame_at, has_evicted, number_in, plain, rules, uid_in}
use Rattle.page_control.proofs.pages.Pages.evict.Goals as goal

-- what it was called with, and what its steps left
evicted : (g : _) (c : goal.After-leave g) → Evicts (plain g.D.Drive.pages c.args.self.now) (plain g.D.Drive.pages
    c.leave.new.self) c.args.t.now c.leave.new.t (uid_in (frame_at c.args.self.now.core c.args.f)) c.args.home
    (number_in (frame_at c.args.self.now.core c.args.f)) c.args.f c.leave.result
evicted g c = assumption (c.requires, c.leave.ensures)

pub returns : goal.returns
returns g c = (let call = has_evicted (evicted g c) in search rules)
