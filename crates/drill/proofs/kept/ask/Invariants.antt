use Rattle.drill.proofs.Prelude.{IsKeeperOf, OnlyNoted, SameButWatch}
use Rattle.drill.proofs.kept.ask.Given as goal

abbrev pub invariant-loop : goal.invariant-loop
invariant-loop l = IsKeeperOf l.pages l.keeper × OnlyNoted l.fn.keeper.holder.watch l.keeper.holder.watch
    × SameButWatch l.fn.keeper.holder l.keeper.holder
