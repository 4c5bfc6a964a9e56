use Rattle.flat_store.proofs.Prelude.{take, store_after, Shows}
use Rattle.flat_store.proofs.store.FlatStore.follow_all.Given as goal

-- the store is the one after the entries so far
abbrev pub invariant-loop-e : goal.invariant-loop-e
invariant-loop-e l = Shows l.script l.self (store_after l.script (take l.e-index l.e-items))
