use Rattle.volumes.proofs.CorePages.{arith, below_size, common_steps, full_pages, held_past_page, write_held_page, write_past_page, written_held, ◌∙◌}
use Rattle.volumes.proofs.core_pages.CorePages.write.Goals as goal

pub reach-requires-clause-room : goal.reach-requires-clause-room
reach-requires-clause-room c =
    omega (arith, below_size c.args.r c.self.invariant c.self.view_is c.requires, c.self.invariant.roomy)

pub push_reserved-requires : goal.push_reserved-requires
push_reserved-requires c =
    omega (
      arith,
      below_size c.args.r c.self.invariant c.self.view_is c.requires,
      c.self.invariant.roomy,
      c.reach.ensures.size,
      c.reach.ensures.capacity,
    )

pub invariant_of-self-else-r-len : goal.invariant_of-self-else-r-len
invariant_of-self-else-r-len c =
    held_past_page c.args.r _ c.self.invariant
    (c.push_reserved.ensures.capacity ∙ c.reach.ensures.capacity) c.of.ensures.size (grind (arith, common_steps))
    (below_size c.args.r c.self.invariant c.self.view_is c.requires) c.reach.ensures.pages c.push_reserved.ensures.items

pub returns-then-r-len-clause-page : goal.returns-then-r-len-clause-page
returns-then-r-len-clause-page c =
    write_held_page _ _ c.args.r c.self.view_is (grind (arith, common_steps)) c.copy_from.ensures.words

pub returns-then-r-len-clause-full : goal.returns-then-r-len-clause-full
returns-then-r-len-clause-full c = full_pages (written_held c.args.r _ c.self.invariant c.copy_from.ensures.size)

pub returns-else-r-len-clause-page : goal.returns-else-r-len-clause-page
returns-else-r-len-clause-page c =
    write_past_page _ _ c.args.r c.self.view_is (grind (arith, common_steps)) (below_size c.args.r
    c.self.invariant c.self.view_is c.requires) c.reach.ensures.pages c.push_reserved.ensures.items c.of.ensures.words

pub returns-else-r-len-clause-full : goal.returns-else-r-len-clause-full
returns-else-r-len-clause-full c =
    full_pages (held_past_page c.args.r _ c.self.invariant (c.push_reserved.ensures.capacity ∙ c.reach.ensures.capacity)
    c.of.ensures.size (grind (arith, common_steps)) (below_size c.args.r c.self.invariant c.self.view_is c.requires)
    c.reach.ensures.pages c.push_reserved.ensures.items)
