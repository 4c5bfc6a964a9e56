use Rattle.flat_store.proofs.ZeroPages.{StillToCome}
use Rattle.flat_store.proofs.pages.Pages.zero_page.Given as goal

-- no page so far is all zeros
abbrev pub invariant-loop-key : goal.invariant-loop-key
invariant-loop-key l = StillToCome l.self l.key-iterator
