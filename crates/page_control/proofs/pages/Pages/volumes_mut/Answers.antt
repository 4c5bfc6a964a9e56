use Rattle.page_control.proofs.Marks.{Paging, ap, plain, refl, tie_of_home, with_volumes, words_of_home}
use Rattle.page_control.proofs.pages.Pages.volumes_mut.Goals as goal

pub returns : goal.returns
returns g c = (
  (refl, λ w. ap (λ (s : Paging g.row.D.Denot). with_volumes s w) c.self.view_is),
  record {
    writes_back = tt;
    value = cc;
    words = λ volumes uid home p keeps. words_of_home (plain g.D.Drive.pages c.args.self.now)
        (plain g.D.Drive.pages (with_volumes c.args.self.now volumes)) uid home p refl refl keeps;
    ties = λ volumes uid home words keeps tie. tie_of_home (plain g.D.Drive.pages c.args.self.now)
        (plain g.D.Drive.pages (with_volumes c.args.self.now volumes)) uid home words refl refl keeps tie;
  },
)
