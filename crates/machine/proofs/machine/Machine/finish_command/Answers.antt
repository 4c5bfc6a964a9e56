use Rattle.machine.proofs.Prelude.{sym, ◌∙◌, rules, command_freed}
use Rattle.machine.proofs.LoopCalls.{gauge_falls, gone_on, gone_planned, gone_self, running_there, stalled_on, way_begins, way_ends, way_goes}
use Rattle.machine.proofs.machine.Machine.finish_command.Goals as goal

pub loop-self-init : goal.loop-self-init
loop-self-init g c = record {
  gone = gone_self;
  free = c.requires.free;
  way = way_begins c.args.self.now.state c.args.c c.count-since.result c.promise.ensures c.requires.runs
      c.count-since.ensures;
}

pub loop-self-smaller : goal.loop-self-smaller
loop-self-smaller g c = gauge_falls c.loop-self.self.state c.command_turn.new.self.state c.args.c c.count-since.result
    c.is_still_at.ensures.kept (cc) c.in_ok-command_turn.ensures.done

pub loop-self-preserved : goal.loop-self-preserved
loop-self-preserved g c = assumption (
  gone_on c.loop-self.invariant.gone c.in_ok-command_turn.ensures.gone,
  command_freed c.loop-self.self.state c.command_turn.new.self.state c.args.c c.in_ok-command_turn.ensures.done,
  way_goes c.args.self.now.state c.loop-self.self.state c.command_turn.new.self.state c.args.c c.count-since.result
      c.is_still_at.ensures.kept (sym c.is_still_at.ensures.is ∙ c.loop-self-test.true) c.loop-self.invariant.way
      c.in_ok-command_turn.ensures.done,
)

pub returns-clause-done : goal.returns-clause-done
returns-clause-done g c = way_ends c.args.self.now.state c.loop-self.self.state c.args.c c.count-since.result
    c.is_still_at.ensures.kept c.loop-self.invariant.free c.loop-self.invariant.way (cc)

pub returns-in_err-command_turn-clause-stalled : goal.returns-in_err-command_turn-clause-stalled
returns-in_err-command_turn-clause-stalled g c =
    let stalled = stalled_on c.loop-self.invariant.gone c.in_err-command_turn.ensures.stalled in
    search (rules, stalled)

pub is_still_at-requires : goal.is_still_at-requires
is_still_at-requires g c = gone_planned c.loop-self.invariant.gone
    (rw (← c.promise.ensures.machine.keeps.sizes.processors)
    (running_there c.args.self.now.state c.args.c c.requires.runs))
