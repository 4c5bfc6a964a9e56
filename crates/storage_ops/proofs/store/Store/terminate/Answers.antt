use Rattle.storage_ops.proofs.Prelude.{◌≡◌, Bool, not, cond, is_some, refl, sym, ap, ◌∙◌, terminate_reply, Flat, Reply as reply}
use Rattle.storage_ops.proofs.Laws.{held, shown_held, known_held, terminate_shown, terminate_told}
use Rattle.storage_ops.proofs.store.Store.terminate.Goals.{After-is_none}
use Rattle.storage_ops.proofs.store.Store.terminate.Goals as goal

-- the reply is that of the number's segment
told : (g : _) (c : After-is_none g) (s : Flat) → s.known ≡ c.args.self.now.segs.links.known
    → cond (is_some c.uid_of.result) reply.Done reply.Unknown ≡ terminate_reply s c.args.process c.args.number
told g c s known = terminate_told s refl (known_held c.self.view_is known) c.args.process c.args.number (cc)

pub returns-then-is_none-clause-answer : goal.returns-then-is_none-clause-answer
returns-then-is_none-clause-answer g c = λ p s h.
    ap (λ (z : Bool). cond z reply.Done reply.Unknown) (sym (c.is_none.ensures ∙ ap not c.if-is_none.true))
    ∙ told g (goal.at.returns-then-is_none-clause-answer g c).After-is_none s h.known

pub returns-clause-answer : goal.returns-clause-answer
returns-clause-answer g c = λ p s h.
    ap (λ (z : Bool). cond z reply.Done reply.Unknown) (sym (c.is_none.ensures ∙ ap not c.if-is_none.false))
    ∙ told g (goal.at.returns-clause-answer g c).After-is_none s h.known

pub returns-clause-effect : goal.returns-clause-effect
returns-clause-effect g c = λ p s h.
    let t = held c.self.view_is in
    rw c.forget.ensures.effect (terminate_shown c.args.process c.args.number (shown_held c.self.view_is h))
