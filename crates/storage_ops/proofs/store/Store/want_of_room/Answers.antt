use Rattle.storage_ops.proofs.Prelude.{◌≡◌, true, false, sym, ap, subst, ◌∙◌, ℕ, List, Bool, cond, Some, None, Counts, charge_answer, quota_in, as_term, want_of_room, Storage, is_err, Reply as reply}
use Rattle.storage_ops.proofs.Laws.{spent_told, want_told}
use Rattle.storage_ops.proofs.store.Store.want_of_room.Goals.{After-is_out_of_room}
use Rattle.storage_ops.proofs.store.Store.want_of_room.Goals as goal

-- of an account that isn't spent, whether there is no room for the node tells all
told : (g : _) (c : After-is_out_of_room g) (stored : List (ℕ × ℕ)) → Counts c.args.self.now.accounts stored
    → is_err c.may_charge.result ≡ false → (out : Bool) → c.is_out_of_room.result ≡ out
    → cond out (Some reply.NoRecord) None
    ≡ want_of_room c.args.self.now stored (as_term (quota_in c.args.self.now.accounts.nodes) c.args.node.now)
told g c stored counts room out is =
    let now = c.args.self.now in
    let n = as_term (quota_in now.accounts.nodes) c.args.node.now in
    sym (want_told now stored n (sym (spent_told now.accounts.nodes stored n.uid
    (c.may_charge.ensures stored (subst (λ (x : Storage g.row.D.Denot). Counts x.accounts stored)
    (sym c.self.view_is) counts) ∙ ap (λ (x : Storage g.row.D.Denot). charge_answer x.accounts.nodes stored n.uid)
    c.self.view_is)) ∙ room) (cc))

pub returns-then-is_out_of_room : goal.returns-then-is_out_of_room
returns-then-is_out_of_room g c = λ stored counts.
    told g (goal.at.returns-then-is_out_of_room g c).After-is_out_of_room stored counts
    (sym c.if-is_err.ensures.value) true c.if-is_out_of_room.true

pub returns-else-is_out_of_room : goal.returns-else-is_out_of_room
returns-else-is_out_of_room g c = λ stored counts.
    told g (goal.at.returns-else-is_out_of_room g c).After-is_out_of_room stored counts
    (sym c.if-is_err.ensures.value) false c.if-is_out_of_room.false
