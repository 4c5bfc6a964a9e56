use Rattle.book_check.proofs.AfterLaws.{not_legal, not_clean, both_allow}
use Rattle.book_check.proofs.judge.Judge.broken_rule.Goals as goal

pub returns-then-not-allows-clause-broken : goal.returns-then-not-allows-clause-broken
returns-then-not-allows-clause-broken c = not_legal c.self.inside.script c.self.inside.store c.self.inside.custody
    c.self.inside.entries c.args.self.now c.args.e.now c.self.view_is c.allows.result c.allows.ensures (cc)

pub returns-then-not-allows-2-clause-broken : goal.returns-then-not-allows-2-clause-broken
returns-then-not-allows-2-clause-broken c = not_clean c.self.inside.script c.self.inside.store c.self.inside.custody
    c.self.inside.entries c.args.self.now
    c.args.e.now c.self.view_is c.allows.result c.allows-2.result c.allows.ensures c.allows-2.ensures (cc) (cc)

pub returns-clause-allowed : goal.returns-clause-allowed
returns-clause-allowed c = both_allow c.self.inside.script c.self.inside.store c.self.inside.custody
    c.self.inside.entries c.args.self.now
    c.args.e.now c.self.view_is c.allows.result c.allows-2.result c.allows.ensures c.allows-2.ensures (cc) (cc)
