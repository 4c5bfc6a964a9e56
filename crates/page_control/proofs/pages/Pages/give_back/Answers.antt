use Rattle.page_control.proofs.Erasing.{filed, part_some, plain, rules, some_unwrapped}
use Rattle.page_control.proofs.pages.Pages.give_back.Goals as goal

pub returns-in-Some-clause-part : goal.returns-in-Some-clause-part
returns-in-Some-clause-part g c = λ old uid part. part_some c.unstore.ensures.unstored
    (some_unwrapped (filed (plain g.D.Drive.pages c.args.self.now) c.args.home c.args.p) (search rules)) part
