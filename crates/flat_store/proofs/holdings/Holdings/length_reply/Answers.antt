use Rattle.flat_store.proofs.Prelude.{true, false, sym, ◌∙◌, length_refused, length_told}
use Rattle.flat_store.proofs.holdings.Holdings.length_reply.Goals as goal

pub returns-then-is_stored_from : goal.returns-then-is_stored_from
returns-then-is_stored_from c = λ p s h.
    let holds = rw (← c.self.view_is) at h in
    length_told s c.self.inside.accounts.nodes c.args.path.now holds.nodes c.args.pages _ true c.in-Ok.ensures.ok
    (sym (c.is_stored_from.ensures p s h) ∙ c.if-is_stored_from.true)

pub returns-else-is_stored_from : goal.returns-else-is_stored_from
returns-else-is_stored_from c = λ p s h.
    let holds = rw (← c.self.view_is) at h in
    length_told s c.self.inside.accounts.nodes c.args.path.now holds.nodes c.args.pages _ false c.in-Ok.ensures.ok
    (sym (c.is_stored_from.ensures p s h) ∙ c.if-is_stored_from.false)

pub returns-in-Err : goal.returns-in-Err
returns-in-Err c = λ p s h.
    let holds = rw (← c.self.view_is) at h in
    length_refused s c.self.inside.accounts.nodes c.args.path.now holds.nodes c.args.pages c.in-Err.reply
    c.in-Err.ensures.err
