use Rattle.machine.proofs.Prelude.{rules, ◌∙◌, on_err_weaker, on_ok_weaker}
use Rattle.machine.proofs.LoopCalls.{gone_run, loop_grows, loop_keeps, loop_stopped, stalled_stood}
use Rattle.machine.proofs.machine.Machine.finish.Goals as goal

pub returns : goal.returns
returns g c = record {
  run = on_ok_weaker c.finish_all.result gone_run c.finish_all.ensures.gone;
  stood = on_err_weaker c.finish_all.result stalled_stood c.finish_all.ensures.stalled;
  entries = loop_grows _ _ _ c.args.self.now c.finish_all.new.self c.finish_all.result c.finish_all.ensures.gone
      c.finish_all.ensures.stalled;
  kept = loop_keeps _ _ _ c.args.self.now c.finish_all.new.self c.finish_all.result c.finish_all.ensures.gone
      c.finish_all.ensures.stalled;
  on = loop_stopped _ _ _ c.args.self.now c.finish_all.new.self c.finish_all.result c.finish_all.ensures.gone
      c.finish_all.ensures.stalled ∙ c.requires;
  ended = search rules;
}
