use Rattle.page_control.proofs.Prelude.{IsPartErased, plain, uid_of_home, ◌≡◌}
use Rattle.page_control.proofs.pages.Pages.give_back_all.Given as goal

abbrev pub invariant-loop-p : goal.invariant-loop-p
invariant-loop-p g l = IsPartErased (plain g.D.Drive.pages l.fn.self) (plain g.D.Drive.pages l.self)
    (uid_of_home (plain g.D.Drive.pages l.fn.self) l.home) l.home l.p × (l.self.core ≡ l.fn.self.core)
    × (l.self.volumes.drives ≡ l.fn.self.volumes.drives)
