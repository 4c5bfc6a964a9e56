use Rattle.make_work.proofs.Drawing.{line_written, lines_none, state_more, state_none}
use Rattle.make_work.proofs.lines.push_references.Goals as goal

pub loop-made-init : goal.loop-made-init
loop-made-init c = record { text = lines_none _; state = state_none }

pub loop-made-preserved : goal.loop-made-preserved
loop-made-preserved c = record {
  text = line_written _ _ _ _ _ _ _ _ c.loop-made.invariant.text c.loop-made.invariant.state
      c.draw_reference-reference.ensures.reference c.in_ok-push_command.ensures c.in_ok-push_str.ensures.bytes;
  state = state_more _ _ _ _ c.loop-made.invariant.state c.draw_reference-reference.ensures.state;
}
