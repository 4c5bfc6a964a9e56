use Rattle.book_check.proofs.AfterLaws.{after_boot}
use Rattle.book_check.proofs.judge.Judge.boot.Goals as goal

pub returns-clause-after : goal.returns-clause-after
returns-clause-after c = after_boot c.args.script c.in_ok-store.store c.in_ok-custody.custody c.in_ok-store.ensures
    c.in_ok-custody.ensures.active c.in_ok-custody.ensures.custody c.in_ok-custody.ensures.tables
