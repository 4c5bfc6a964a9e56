use Rattle.page_control.proofs.Erasing.{part_empty, plain, rules, uid_of_home}
use Rattle.page_control.proofs.pages.Pages.give_back_all.Goals as goal

pub loop-p-preserved : goal.loop-p-preserved
loop-p-preserved g c =
    search (
      rules,
      c.give_back.ensures.part (plain g.D.Drive.pages c.args.self.now) (uid_of_home (plain g.D.Drive.pages
          c.args.self.now) c.args.home) c.loop-p.invariant.0,
    )

pub returns-then-names_none-clause-part : goal.returns-then-names_none-clause-part
returns-then-names_none-clause-part g c =
    part_empty c.requires.home c.requires.records (search rules) (c.names_none.ensures.0 (search rules))
