use Rattle.std.proofs.lemmas.Grind.{common_steps}
use Rattle.flat_store.proofs.Prelude.{nat_tests, arith, store_after-nil, store_next, legal_at, entry_there}
use Rattle.flat_store.proofs.store.FlatStore.follow_all.Goals as goal

pub loop-e-init : goal.loop-e-init
loop-e-init c = rw (store_after-nil c.script-script.result.now, c.script-script.ensures) c.requires.boot

pub loop-e-preserved : goal.loop-e-preserved
loop-e-preserved c = grind (arith, nat_tests, common_steps, entry_there, store_next, legal_at)
