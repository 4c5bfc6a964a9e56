use Rattle.book_check.proofs.Prelude.{rules}
use Rattle.book_check.proofs.AfterLaws.{no_entry, broken, taken, no_memory, one_found, none_found}
use Rattle.book_check.proofs.judge.Judge.accept.Goals as goal

pub returns-in_default-clause-takes : goal.returns-in_default-clause-takes
returns-in_default-clause-takes c = no_entry c.args.self.now c.args.self.now c.args.line.now c.in_default.ensures.back

pub returns-in_default-clause-one : goal.returns-in_default-clause-one
returns-in_default-clause-one c = none_found c.args.line.now c.in_default.ensures.back

pub returns-in-Some-broken_rule-clause-takes : goal.returns-in-Some-broken_rule-clause-takes
returns-in-Some-broken_rule-clause-takes c = broken c.args.self.now c.args.self.now c.args.line.now c.in-Some.e
    c.in-Some-broken_rule.rule (search rules) c.in-Some.ensures.some c.in-Some-broken_rule.ensures.broken

pub returns-in-Some-broken_rule-clause-one : goal.returns-in-Some-broken_rule-clause-one
returns-in-Some-broken_rule-clause-one c = one_found c.args.line.now c.in-Some.e c.in-Some.ensures.back

pub returns-in-Ok-clause-takes : goal.returns-in-Ok-clause-takes
returns-in-Ok-clause-takes c = taken c.args.self.now c.follow.new.self c.args.line.now c.in-Some.e (search rules)
    c.in-Some.ensures.some c.in_default-broken_rule.ensures.allowed c.follow.ensures.script
    (λ es after. c.in-Ok.ensures.after es after (search rules))

pub returns-in-Ok-clause-one : goal.returns-in-Ok-clause-one
returns-in-Ok-clause-one c = one_found c.args.line.now c.in-Some.e c.in-Some.ensures.back

pub returns-in-Err-clause-takes : goal.returns-in-Err-clause-takes
returns-in-Err-clause-takes c = no_memory c.args.self.now c.follow.new.self c.args.line.now

pub returns-in-Err-clause-one : goal.returns-in-Err-clause-one
returns-in-Err-clause-one c = one_found c.args.line.now c.in-Some.e c.in-Some.ensures.back
