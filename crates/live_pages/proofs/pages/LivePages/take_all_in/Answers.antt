use Rattle.live_pages.proofs.AllIn.{All-pop, IsPassOf, taking_goes_on}
use Rattle.live_pages.proofs.pages.LivePages.take_all_in.Goals as goal

pub loop-pass-preserved : goal.loop-pass-preserved
loop-pass-preserved c = (
  c.take_in.ensures.keeper,
  taking_goes_on c.loop-pass.keeper c.pop.new.self.items c.pop.ensures.items c.in-Some.is c.take_in.ensures.taken
      c.loop-pass.invariant.1,
  (All-pop (IsPassOf c.args.self.now) c.loop-pass.passes.items c.pop.new.self.items c.pop.result c.pop.ensures.items
      c.loop-pass.invariant.2).0,
)
