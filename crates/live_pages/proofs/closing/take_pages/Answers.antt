use Rattle.live_pages.proofs.AllIn.{not_empty, pages_push, rules, slots_items, still_there, taken_more, ◌∙◌}
use Rattle.live_pages.proofs.closing.take_pages.Goals as goal

pub unreachable-requires : goal.unreachable-requires
unreachable-requires c = not_empty (slots_items c.args.closed.now.slots) (slots_items c.loop-f.closed.slots) c.loop-f.f
    c.loop-f.invariant.3 c.take.ensures.value c.in_default.is (c.requires.held c.loop-f.f c.loop-f-test.true)

pub loop-f-preserved : goal.loop-f-preserved
loop-f-preserved c = (
  search rules,
  pages_push c.loop-f.pages.items c.push_reserved.ensures.items c.loop-f.invariant.0 c.loop-f.invariant.3
      c.take.ensures.value c.in-Some.is c.loop-f.invariant.1,
  search rules,
  cc,
  search rules,
  taken_more _ c.take.ensures.others.1 c.loop-f.invariant.5,
  still_there _ c.take.ensures.others.1 c.loop-f.invariant.6,
)
