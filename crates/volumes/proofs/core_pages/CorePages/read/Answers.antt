use Rattle.volumes.proofs.CorePages.{arith, below_size, common_steps, read_held, read_past, sym, ◌∙◌}
use Rattle.volumes.proofs.core_pages.CorePages.read.Goals as goal

pub returns-in-Some : goal.returns-in-Some
returns-in-Some c =
    rw (← c.self.view_is) (c.copy_from_block.ensures.words ∙ grind (arith, common_steps)
    ∙ sym (read_held _ _ c.args.r (grind (arith, common_steps))))

pub returns-in-None : goal.returns-in-None
returns-in-None c =
    rw (← c.self.view_is) (c.clear_from.ensures.words ∙ sym (read_past _
    _ c.args.r (grind (arith, common_steps)) (below_size c.args.r c.self.invariant c.self.view_is c.requires)))
