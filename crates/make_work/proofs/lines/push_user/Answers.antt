use Rattle.make_work.proofs.Texts.{if_ok, user_written}
use Rattle.make_work.proofs.lines.push_user.Goals as goal

pub returns-clause-text : goal.returns-clause-text
returns-clause-text c = if_ok c.writeln.result c.writeln.ensures.bytes
    (λ e. user_written _ _ _ c.requires c.in_ok-write.ensures.bytes c.in_ok-push_references.ensures.text e)
