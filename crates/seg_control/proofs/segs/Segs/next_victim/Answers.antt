use Rattle.seg_control.proofs.Chains.{at_rest, given_superiors, if_none, length, not_stuck_active, not_stuck_free, rules}
use Rattle.seg_control.proofs.segs.Segs.next_victim.Goals as goal

pub next_victim-requires-clause-superiors : goal.next_victim-requires-clause-superiors
next_victim-requires-clause-superiors g c =
    given_superiors c.self.inside.ast (at_rest c.self.inside.pages c.self.inside.moving).volumes.vtocs
    (length c.self.inside.pages.volumes.drives) c.args.chain.now _ (cc) (search rules)

pub returns-in_err-i-clause-none : goal.returns-in_err-i-clause-none
returns-in_err-i-clause-none g c = if_none c.from_residual.result
    (λ i. rw (← c.self.view_is) (not_stuck_active {ast = c.self.inside.ast} c.in_err-i.ensures.none {i = i}))

pub returns-in-Some-clause-none : goal.returns-in-Some-clause-none
returns-in-Some-clause-none g c =
    λ i. rw (← c.self.view_is) (not_stuck_free {ast = c.self.inside.ast} {i = i} c.in_ok-i.ensures.some
    (λ full. (let none = c.in-Some.ensures.full.1 full in cc)))
