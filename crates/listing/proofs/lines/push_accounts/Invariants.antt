use Rattle.listing.proofs.Prelude.{take, string_bytes, account_text}
use Rattle.listing.proofs.LineLaws.{HasEach}
use Rattle.listing.proofs.lines.push_accounts.Given as goal

-- the lines of the accounts so far are written
abbrev pub invariant-loop-account : goal.invariant-loop-account
invariant-loop-account l = HasEach account_text (string_bytes l.fn.out) (take l.account-index l.accounts)
    (string_bytes l.out)
