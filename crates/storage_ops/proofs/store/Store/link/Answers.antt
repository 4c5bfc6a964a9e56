use Rattle.storage_ops.proofs.Prelude.{ℕ, sym, ap, ◌∙◌, node_in, quota_in, Home, pool_in, Storage, home_of}
use Rattle.storage_ops.proofs.store.Store.link.Goals as goal

pub returns : goal.returns
returns g c = ap (λ (h : Home). record { uid = c.args.uid; pool = c.pool_of.result; home = h }) c.home-home.ensures.home
    ∙ ap (λ (k : ℕ). record { uid = c.args.uid; pool = k; home = home_of c.args.self.now.accounts c.args.uid })
    (c.pool_of.ensures (quota_in c.self.inside.accounts.nodes) ∙ sym (ap pool_in c.in-Some.ensures.some)
    ∙ ap (λ (x : Storage g.row.D.Denot). pool_in (node_in x.accounts.nodes c.args.uid)) c.self.view_is)
