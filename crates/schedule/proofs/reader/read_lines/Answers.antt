use Rattle.schedule.proofs.OrderLaws.{arith, line_added, within_more}
use Rattle.schedule.proofs.reader.read_lines.Goals as goal

pub loop-rest-preserved : goal.loop-rest-preserved
loop-rest-preserved c = record {
  reads = line_added c.args.processors c.loop-rest.number c.loop-rest.lines.items c.loop-rest.rest.now
      c.next_line.result.0.now c.next_line.result.1.now _ c.next_line.ensures.lines c.loop-rest.invariant.reads
      c.in-Ok.order c.push_order.new.lines.items c.in-Ok.ensures.given c.in_ok-push_order-in-Ok.ensures;
  within = within_more c.args.processors c.loop-rest.number c.loop-rest.lines.items c.push_order.new.lines.items
      c.in-Ok.order c.loop-rest.invariant.within c.in-Ok.ensures.within c.in_ok-push_order-in-Ok.ensures;
  few = let fewer = c.next_line.ensures.shorter in let before = c.loop-rest.invariant.few in
      omega (arith, fewer, before);
}
