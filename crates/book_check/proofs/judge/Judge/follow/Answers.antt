use Rattle.book_check.proofs.AfterLaws.{allowed_here, followed}
use Rattle.book_check.proofs.judge.Judge.follow.Goals as goal

pub follow-requires-clause-allowed : goal.follow-requires-clause-allowed
follow-requires-clause-allowed c = allowed_here c.self.inside.script c.self.inside.store c.self.inside.custody
    c.self.inside.entries c.args.self.now c.args.e.now c.self.view_is c.requires.allowed

pub returns-clause-after : goal.returns-clause-after
returns-clause-after c = λ es after entry. followed c.self.inside.script c.self.inside.store c.self.inside.custody
    c.self.inside.entries c.args.self.now
    c.args.e.now c.self.view_is es c.follow-2.new.self c.follow.new.self after entry c.requires.allowed
    c.in_ok-follow.ensures.custody
    c.in_ok-follow.ensures.nodes c.in_ok-follow-2.ensures.ok c.in_ok-follow.ensures.tables
    (λ s. c.accounts_promise.ensures.tree c.self.inside.script s)
