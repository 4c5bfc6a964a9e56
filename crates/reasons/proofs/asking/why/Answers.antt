use Rattle.reasons.proofs.Prelude.{sym, subst, IfOk, IfSome, Rule, lines_of, IsWhy, first_of, is_end}
use Rattle.reasons.proofs.AskLaws.{incomplete_at, why_at}
use Rattle.reasons.proofs.asking.why.Goals as goal

pub returns-in-NoEntry-clause-so : goal.returns-in-NoEntry-clause-so
returns-in-NoEntry-clause-so c = λ es after. why_at c.args.bytes.now c.args.judge.now.script es _ _ _ _ _ _
    c.first_line-line.ensures.text c.in-NoEntry.is
    (c.why_none.ensures c.args.bytes.now c.args.judge.now.script es (is_end (lines_of c.args.rest.now)))

pub returns-in-NotLegal-clause-so : goal.returns-in-NotLegal-clause-so
returns-in-NotLegal-clause-so c = λ es after. why_at c.args.bytes.now c.args.judge.now.script es _ _ _ _ _ _
    c.first_line-line.ensures.text c.in-NotLegal.is
    (c.why_not_legal.ensures.so c.args.bytes.now es (is_end (lines_of c.args.rest.now)) after)

pub returns-in-NotClean-clause-so : goal.returns-in-NotClean-clause-so
returns-in-NotClean-clause-so c = λ es after. why_at c.args.bytes.now c.args.judge.now.script es _ _ _ _ _ _
    c.first_line-line.ensures.text c.in-NotClean.is
    (c.why_not_clean.ensures.so c.args.bytes.now es (is_end (lines_of c.args.rest.now)) after)

pub returns-in-Incomplete-clause-so : goal.returns-in-Incomplete-clause-so
returns-in-Incomplete-clause-so c = λ es after. incomplete_at c.args.bytes.now c.args.judge.now.script es
    (first_of (lines_of c.args.rest.now)) c.args.rest.now c.is_empty.result c.args.rule c.why_incomplete.result
    c.is_empty.ensures c.in-Incomplete.is
    (c.why_incomplete.ensures.so (first_of (lines_of c.args.rest.now)) es after)

pub returns-in-ZeroPage-clause-so : goal.returns-in-ZeroPage-clause-so
returns-in-ZeroPage-clause-so c = λ es after. subst (λ (r : Rule). IfSome c.why_zeros.result
    (IsWhy c.args.bytes.now c.args.judge.now.script es (first_of (lines_of c.args.rest.now))
    (is_end (lines_of c.args.rest.now)) r)) (sym c.in-ZeroPage.is)
    (c.why_zeros.ensures.so c.args.bytes.now (first_of (lines_of c.args.rest.now)) es
    (is_end (lines_of c.args.rest.now)) after)

pub returns-in-WrongSum-clause-so : goal.returns-in-WrongSum-clause-so
returns-in-WrongSum-clause-so c = λ es after. subst (λ (r : Rule). IfOk c.why_not_due.result (λ o. IfSome o
    (IsWhy c.args.bytes.now c.args.judge.now.script es (first_of (lines_of c.args.rest.now))
    (is_end (lines_of c.args.rest.now)) r))) (sym c.in-WrongSum.is)
    (c.why_not_due.ensures (first_of (lines_of c.args.rest.now)) es (is_end (lines_of c.args.rest.now)) after)
