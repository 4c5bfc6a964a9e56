use Rattle.flat_store.proofs.Prelude.{Node, as_term, quota_in, ℕ, ◌+◌, ◌/◌, nat_le, without_pages, whole_cut, truncate_done, truncate_refused}
use Rattle.flat_store.proofs.holdings.Holdings.truncate.Goals as goal

pub returns-in-Err : goal.returns-in-Err
returns-in-Err c = λ p s h.
    let holds = rw (← c.self.view_is) at h in
    rw (truncate_refused s c.args.path.now c.args.words c.in-Err.field-0 (rw holds.nodes c.in-Err.ensures.err)) h

pub returns : goal.returns
returns c = λ p s h.
    let holds = rw (← c.self.view_is) at h in
    let uid : ℕ = c.in-Ok.node.now.uid in
    let n : Node = as_term (quota_in c.self.inside.accounts.nodes) c.in-Ok.node.now in
    rw (
      truncate_done s c.args.path.now c.args.words n (rw holds.nodes c.in-Ok.ensures.ok),
      ← whole_cut s uid c.args.words,
    ) (c.cut_page.ensures p (without_pages s uid (λ q. nat_le (c.args.words / 1024 + 1) q)) (c.drop_from.ensures p s h))
