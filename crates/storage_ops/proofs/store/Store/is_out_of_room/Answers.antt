use Rattle.storage_ops.proofs.Prelude.{◌≡◌, ◌&&◌, Bool, true, false, not, refl, sym, ap, ◌∙◌, is_none, quota_in, as_term, volume_found, Home, is_full, room_of}
use Rattle.storage_ops.proofs.store.Store.is_out_of_room.Goals.{After-is_full}
use Rattle.storage_ops.proofs.store.Store.is_out_of_room.Goals as goal

-- whether the volume of the node is full
full : (g : _) (c : After-is_full g)
    → is_full c.args.self.now.segs.pages.volumes.records c.args.node.now.volume ≡ c.is_full.result
full g c =
    let now = c.args.self.now in
    let n = as_term (quota_in now.accounts.nodes) c.args.node.now in
    let volume = volume_found now.accounts.nodes n.uid n c.requires.there
    ∙ ap (λ (h : Home). h.volume) (sym c.home-home.ensures.home) in
    cc

twice : (b : Bool) → b ≡ not (not b)
twice true = refl
twice false = refl

pub returns-then-is_full : goal.returns-then-is_full
returns-then-is_full g c =
    twice c.is_none.result ∙ ap not (sym c.is_none.ensures) ∙ ap is_none c.room_for.ensures.tables
    ∙ sym (ap (λ (z : Bool). z && is_none (room_of c.args.self.now c.args.node.now.uid))
    (full g (goal.at.returns-then-is_full g c).After-is_full ∙ c.if-is_full.true))

pub returns-else-is_full : goal.returns-else-is_full
returns-else-is_full g c =
    c.if-is_full.false ∙ sym (ap (λ (z : Bool). z && is_none (room_of c.args.self.now c.args.node.now.uid))
    (full g (goal.at.returns-else-is_full g c).After-is_full ∙ c.if-is_full.false))
