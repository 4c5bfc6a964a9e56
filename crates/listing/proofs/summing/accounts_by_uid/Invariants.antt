use Rattle.listing.proofs.Prelude.{◌≡◌, Counts, Store}
use Rattle.listing.proofs.CountLaws.{gathered}
use Rattle.listing.proofs.summing.accounts_by_uid.Given as goal

-- the accounts below the next uid
abbrev pub invariant-loop-uid : goal.invariant-loop-uid
invariant-loop-uid l = (s : Store) → s.nodes ≡ l.accounts.nodes → Counts l.accounts s.stored → l.counts.items
    ≡ gathered s l.uid
