use Rattle.seg_control.proofs.Chains.{given_superiors, going_free, going_is, going_whole, length, rules, superior_active}
use Rattle.seg_control.proofs.segs.Segs.activate_next.Goals as goal

pub make_active-requires-clause-superior : goal.make_active-requires-clause-superior
make_active-requires-clause-superior g c =
    λ superior e. rw (← c.self.view_is) (superior_active superior c.in-Some.ensures.some (cc))

pub victim-requires-clause-superiors : goal.victim-requires-clause-superiors
victim-requires-clause-superiors g c =
    given_superiors c.self.inside.ast c.self.inside.pages.volumes.vtocs (length c.self.inside.pages.volumes.drives)
    c.args.chain.now _ (cc) (search rules)

pub returns-in_default-clause-victim : goal.returns-in_default-clause-victim
returns-in_default-clause-victim g c =
    λ place. rw (← c.self.view_is) (λ going. going_whole c.in_default.ensures.none going)

pub returns-in-Some-free_in-clause-victim : goal.returns-in-Some-free_in-clause-victim
returns-in-Some-free_in-clause-victim g c = λ place. rw (← c.self.view_is) (λ going. going_free c.in-Some.ensures.some
    (λ full. (let none = c.in-Some-free_in.ensures.full.1 full in cc)) going)

pub returns-in-None-clause-victim : goal.returns-in-None-clause-victim
returns-in-None-clause-victim g c =
    λ place. rw (← c.self.view_is) (λ going. cc (going_is c.victim.result c.in-Some.ensures.some
    (rw (c.deref.ensures.0, c.uids_in.ensures) at c.victim.ensures.only) going))
