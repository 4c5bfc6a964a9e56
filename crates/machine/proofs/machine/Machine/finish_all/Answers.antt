use Rattle.machine.proofs.Prelude.{no_owner, rules}
use Rattle.machine.proofs.LoopCalls.{gone_on, stalled_on}
use Rattle.machine.proofs.machine.Machine.finish_all.Goals as goal

pub loop-self-preserved : goal.loop-self-preserved
loop-self-preserved g c = assumption (
  gone_on c.loop-self.invariant.gone c.in_ok-finish_round.ensures.gone,
  no_owner c.finish_round.new.self.state c.in_ok-finish_round.ensures.done.owner,
)

pub returns-in_err-finish_round-clause-stalled : goal.returns-in_err-finish_round-clause-stalled
returns-in_err-finish_round-clause-stalled g c =
    let stalled = stalled_on c.loop-self.invariant.gone c.in_err-finish_round.ensures.stalled in
    search (rules, stalled)
