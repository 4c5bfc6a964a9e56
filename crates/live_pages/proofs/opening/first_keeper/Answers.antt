use Rattle.live_pages.proofs.Ends.{opens, rules}
use Rattle.live_pages.proofs.opening.first_keeper.Goals as goal

pub new-requires-2 : goal.new-requires-2
new-requires-2 c = opens record { frames = c.args.frames; cpus = c.args.cpus } c.as_slice.result.now
    c.in_ok-slots.slots.items (search rules) (search rules) (search rules)
