use Rattle.lab_runs.proofs.FollowLaws.{draws_fit}
use Rattle.lab_runs.proofs.following.drawn.Goals as goal

pub returns-clause-below : goal.returns-clause-below
returns-clause-below c = draws_fit c.args.processors c.args.seed c.loop-draw._draw c.loop-draw.cpus.items c.requires
    c.loop-draw.invariant.cpus
