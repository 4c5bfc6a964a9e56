use Rattle.accounts.proofs.Laws.{home_exact, home_shown, segment_of}
use Rattle.accounts.proofs.Accounts.set_home.Goals as goal

pub set_home-requires : goal.set_home-requires
set_home-requires c = segment_of c.self.inside.tree c.self.inside.cells c.self.view_is c.args.seg c.requires

pub returns-clause-home : goal.returns-clause-home
returns-clause-home c = rw (← c.self.view_is) (home_shown c.self.inside.tree c.self.inside.cells
    (segment_of c.self.inside.tree c.self.inside.cells c.self.view_is c.args.seg c.requires) c.set_home.ensures.tree)

pub returns-clause-effect : goal.returns-clause-effect
returns-clause-effect c = rw (← c.self.view_is) (home_exact c.self.inside.tree c.self.inside.cells c.args.seg
    c.args.volume c.args.entry c.promise.ensures.tree c.set_home.ensures.tree)
