use Rattle.listing.proofs.Prelude.{sym, ◌∙◌}
use Rattle.listing.proofs.CountLaws.{account_none, account_one}
use Rattle.listing.proofs.summing.account_count.Goals as goal

pub returns-then-not-is_account : goal.returns-then-not-is_account
returns-then-not-is_account c = λ s same counts.
    account_none s c.args.uid c.in-Some.node.now c.in-Some.ensures.some same c.quota-quota.ensures.quota
    (sym c.is_account.ensures ∙ c.if-not-is_account.true)

pub returns : goal.returns
returns c = λ s same counts. account_one s c.args.uid c.in-Some.node.now c.in-Some.ensures.some same c.if-not-node.false
    c.quota-quota.ensures.quota (sym c.is_account.ensures ∙ c.if-not-is_account.false) c.in_ok-path.ensures
    (c.used.ensures.scratch s.stored counts) c.new.ensures
