use Rattle.machine.proofs.Prelude.{sym, ap, ◌∙◌, arith, Plan, Parts}
use Rattle.machine.proofs.UnstuckLaws.{moves_not, one_more, still_done}
use Rattle.machine.proofs.machine.Machine.next_to_move.Goals as goal

pub loop-c-init : goal.loop-c-init
loop-c-init g c = λ d before. absurd (omega arith)

pub returns-then-would_move-clause-some : goal.returns-then-would_move-clause-some
returns-then-would_move-clause-some g c = record {
  there = rw (← (c.processors-processors.ensures ∙ ap (λ (p : Plan). p.processors)
      (c.script.ensures ∙ c.book.ensures.script ∙ ap (λ (t : Parts _). t.state.plan) c.self.view_is)))
      c.loop-c-test.true;
  moves = sym c.if-would_move.ensures;
  before = c.loop-c.invariant;
}

pub returns-then-would_move-clause-over : goal.returns-then-would_move-clause-over
returns-then-would_move-clause-over g c =
    λ done. absurd (moves_not c.args.self.now.state c.loop-c.c c.promise.ensures done (sym c.if-would_move.ensures))

pub loop-c-preserved : goal.loop-c-preserved
loop-c-preserved g c = one_more c.args.self.now.state c.loop-c.c c.loop-c.invariant (sym c.if-would_move.ensures)

pub returns-clause-none : goal.returns-clause-none
returns-clause-none g c = still_done c.args.self.now.state c.promise.ensures c.processors-processors.result (cc)
    c.loop-c.c c.loop-c-test.false c.loop-c.invariant
