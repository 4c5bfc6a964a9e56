use Rattle.machine_tables.proofs.Prelude.{◌∙◌}
use Rattle.machine_tables.proofs.CommittedLaws.{committed_leaves, committed_stays}
use Rattle.machine_tables.proofs.tables.Tables.commit.Goals as goal

pub returns-clause-effect : goal.returns-clause-effect
returns-clause-effect g c = elim c.if-ends.branch [
  | goal.then-ends w ↦ committed_leaves c.args.self.now c.apply-reply.new.self c.let_all_go.new.self c.tell.new.self
      c.args.c c.args.process c.apply-reply.result.1 c.goes_inactive-inactive.result c.apply-reply.result.0 c.requires.0
      c.requires.1.applies.next c.apply-reply.ensures.left c.requires.1.its c.goes_inactive-inactive.ensures
      c.apply-reply.ensures.reply c.apply-reply.ensures.effect c.let_all_go.ensures.effect c.tell.ensures
      c.end.new.self c.ends-ends.result w.leave.ensures (c.self.view_is ∙ w.self-is) c.end.ensures c.ends-ends.ensures
      w.if-ends.true
  | goal.else-ends w ↦ committed_stays c.args.self.now c.apply-reply.new.self c.let_all_go.new.self c.tell.new.self
      c.args.c c.args.process c.apply-reply.result.1 c.goes_inactive-inactive.result c.apply-reply.result.0 c.requires.0
      c.requires.1.applies.next c.apply-reply.ensures.left c.requires.1.its c.goes_inactive-inactive.ensures
      c.apply-reply.ensures.reply c.apply-reply.ensures.effect c.let_all_go.ensures.effect c.tell.ensures
      c.end.new.self c.ends-ends.result (c.self.view_is ∙ w.self-is) c.end.ensures c.ends-ends.ensures w.if-ends.false
]
