use Rattle.live_pages.proofs.Prelude.{All, IsKeeperOf, IsPassOf, taking_all_in, vec_len, ◌≡◌}
use Rattle.live_pages.proofs.pages.LivePages.take_all_in.Given as goal

abbrev pub decreases-loop-pass : goal.decreases-loop-pass
decreases-loop-pass l = vec_len l.passes

abbrev pub invariant-loop-pass : goal.invariant-loop-pass
invariant-loop-pass l =
    IsKeeperOf l.self l.keeper × (record l.keeper { holder = taking_all_in l.passes.items l.keeper.holder } ≡ record
    l.fn.keeper { holder = taking_all_in l.fn.passes.items l.fn.keeper.holder }) × All (IsPassOf l.self) l.passes.items
