use Rattle.lab_runs.proofs.FollowLaws.{rounds_fit}
use Rattle.lab_runs.proofs.following.rounds.Goals as goal

pub returns-clause-below : goal.returns-clause-below
returns-clause-below c = rounds_fit c.args.processors c.loop-round._round c.loop-round.cpus.items c.loop-round.invariant
