use Rattle.page_control.proofs.Calls.{Drops, counts_of_dropped, others_of_dropped, plain, rules, starts_dropped, stored_dropped, taken_dropped, tie_dropped, uid_of_home, words_dropped}
use Rattle.page_control.proofs.pages.Pages.drop_page.Goals as goal

-- what it was called with, and what its steps left
dropped : (g : _) (c : goal.After-drop_at g)
    → Drops (plain g.D.Drive.pages c.args.self.now) (plain g.D.Drive.pages c.drop_at.new.self) c.args.t.now
    c.drop_at.new.t (uid_of_home (plain g.D.Drive.pages c.args.self.now) c.args.home) c.args.home c.args.p
dropped g c = assumption (c.requires, c.drop_at.ensures)

pub returns : goal.returns
returns g c =
    let call = dropped g c in
    search (
      rules,
      tie_dropped,
      others_of_dropped,
      words_dropped,
      stored_dropped,
      starts_dropped,
      taken_dropped,
      counts_of_dropped,
    )
