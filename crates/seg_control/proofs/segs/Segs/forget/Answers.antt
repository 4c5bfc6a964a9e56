use Rattle.seg_control.proofs.Connected.{known_without, linked_known, size_without}
use Rattle.seg_control.proofs.Resting.{None, kept_linked, kst_at, leads_at, length, rules, without_number, ◌<◌, ◌∙◌, ◌≡◌}
use Rattle.seg_control.proofs.segs.Segs.forget.Goals as goal

pub invariant_of-self : goal.invariant_of-self
invariant_of-self g c =
    let within : c.args.process < length c.self.inside.links.known = search rules in
    let cut : leads_at c.self.inside.links.descriptors c.args.process c.args.number ≡ None = search rules in
    let k = c.self.invariant.kept in
    kept_linked c.self.invariant (rw c.forget.ensures.effect (linked_known c.args.process (without_number
    (kst_at c.self.inside.links.known c.args.process) c.args.number) k.linked within c.forget.ensures.once (size_without
    (kst_at c.self.inside.links.known c.args.process) c.args.number ∙ k.linked.lists.numbers c.args.process within)
    (λ n v place e known. known_without c.self.inside.links c.args.process c.args.number n v place cut e known)))
