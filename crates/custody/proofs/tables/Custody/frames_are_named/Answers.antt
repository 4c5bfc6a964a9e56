use Rattle.custody.proofs.Prelude.{ap}
use Rattle.custody.proofs.tables.Custody.frames_are_named.Goals as goal

pub returns-in-Page : goal.returns-in-Page
returns-in-Page c = rw c.in-Page.is (rw (ap (λ t. t.frames) c.self.view_is) at c.all_go_in.ensures)

pub returns-in-Seg : goal.returns-in-Seg
returns-in-Seg c = rw c.in-Seg.is (rw (ap (λ t. t.frames) c.self.view_is) at c.all_go_of.ensures)
