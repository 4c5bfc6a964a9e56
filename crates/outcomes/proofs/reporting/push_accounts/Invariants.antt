use Rattle.outcomes.proofs.Prelude.{◌≡◌, ◌+◌, ◌++◌, drop, accounts_text}
use Rattle.outcomes.proofs.reporting.push_accounts.Given as goal

-- the text so far, and that of the outcomes that are left
abbrev pub invariant-loop-place : goal.invariant-loop-place
invariant-loop-place l = l.out.items ++ accounts_text (l.place + 1) l.texts (drop l.place l.outcomes)
    ≡ l.fn.out.items ++ accounts_text 1 l.texts l.outcomes
