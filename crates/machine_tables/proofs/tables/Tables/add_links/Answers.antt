use Rattle.machine_tables.proofs.Prelude.{◌≡◌, ◌<◌, ℕ, length, get_or, ap, ◌∙◌, chain_of, is_there, chain_there, Storage, Parts}
use Rattle.machine_tables.proofs.tables.Tables.add_links.Goals as goal

pub link-requires : goal.link-requires
link-requires g c =
    let st : Storage = c.args.self.now.state.store in
    let i : ℕ = c.loop-uid.uid-index in
    let items : c.as_slice-uid-items.result.now ≡ chain_of st.accounts.nodes c.args.of =
    c.as_slice-uid-items.ensures.value ∙ (cc) in
    let lt : i < length (chain_of st.accounts.nodes c.args.of) = rw (← items) c.loop-uid-test.true in
    ap (λ (t : Parts g.row.D.Denot). is_there t.state.store.accounts.nodes
    (get_or c.as_slice-uid-items.result.now i 0)) c.self.view_is
    ∙ (cc (chain_there st.accounts.nodes c.accounts.ensures.tree c.args.of c.requires.there i lt))

pub loop-uid-init : goal.loop-uid-init
loop-uid-init g c = c.requires.empty
