use Rattle.std.proofs.lemmas.Grind.{common_steps}
use Rattle.flat_store.proofs.Prelude.{arith, nat_tests, ap, ◌≡◌, false, Ok, sym, ◌∙◌, Plan, quota_in, as_term, segment_at, after_length, is_stored_from, Store, Holds}
use Rattle.flat_store.specs.contracts.holdings.Holdings.{the_view}
use Rattle.flat_store.proofs.ChangeLaws.{with_length}
use Rattle.flat_store.proofs.EffectLaws.{length_asked, length_shown}
use Rattle.laws.proofs.Bools.{not_both}
use Rattle.flat_store.proofs.holdings.Holdings.set_length.Goals.{After-set_length}
use Rattle.flat_store.proofs.holdings.Holdings.set_length.Goals as goal

pub returns-in-Err : goal.returns-in-Err
unfolding after_length
returns-in-Err c = grind (arith, nat_tests, common_steps)

shown : (c : After-set_length) {p : Plan} {s : Store} → Holds p (the_view c.self.inside) s
    → is_stored_from s.stored c.in-Ok.node.now.uid c.args.pages ≡ false
    → Holds p (record (the_view c.self.inside) { accounts = c.set_length.new.self })
    (record s { nodes = with_length s.nodes c.in-Ok.node.now.uid c.args.pages })
shown c h none = length_shown c.in-Ok.node.now.uid c.args.pages h c.set_length.ensures c.in-Ok.ensures.segment none

pub invariant_of-self : goal.invariant_of-self
invariant_of-self c =
    let (p, s, h) = c.self.invariant in
    let none = sym (c.is_stored_from.ensures p s (rw c.self.view_is at h)) ∙ c.if-not-is_stored_from.true in
    (p, _, shown c h none)

pub returns-then-not-is_stored_from : goal.returns-then-not-is_stored_from
unfolding after_length
returns-then-not-is_stored_from c = λ p s h effect.
    let holds = rw (← c.self.view_is) at h in
    let none = sym (c.is_stored_from.ensures p s h) ∙ c.if-not-is_stored_from.true in
    let found : segment_at s.nodes c.args.path.now ≡ Ok (as_term (quota_in c.self.inside.accounts.nodes)
    c.in-Ok.node.now) = rw holds.nodes c.in-Ok.ensures.ok in
    rw found (shown c holds none)

pub returns-else-not-is_stored_from : goal.returns-else-not-is_stored_from
returns-else-not-is_stored_from c = λ p s h effect.
    let holds = rw (← c.self.view_is) at h in
    absurd (not_both (sym (c.is_stored_from.ensures p s h) ∙ c.if-not-is_stored_from.false)
    (length_asked s c.args.path.now c.args.pages (ap (λ ns. segment_at ns c.args.path.now) holds.nodes
    ∙ c.in-Ok.ensures.ok) effect))
