use Rattle.live_pages.proofs.Calls.{Some, [], rules, zero_pages_push, ◌++◌, ◌∷◌, ◌≡◌}
use Rattle.live_pages.proofs.opening.first_slots.Goals as goal

pub loop-preserved : goal.loop-preserved
loop-preserved c =
    let pushed : c.push.new.self.items ≡ c.loop.slots.items ++ Some c.in_ok-zero_slot.field-0 ∷ [] = search rules in (
      search rules,
      rw pushed (zero_pages_push c.loop.slots.items c.in_ok-zero_slot.field-0 c.loop.invariant.1 (search rules)),
    )
