use Rattle.make_work.proofs.Prelude.{◌++◌, ◌∙◌, ap}
use Rattle.make_work.proofs.Texts.{day_written, front, if_ok}
use Rattle.make_work.proofs.lines.push_day.Goals as goal

pub returns : goal.returns
returns c = if_ok c.push_users.result c.push_users.ensures
    (λ e. day_written _ (c.in_ok-push_str.ensures.bytes ∙ ap (λ t. t ++ front) c.requires) e)
