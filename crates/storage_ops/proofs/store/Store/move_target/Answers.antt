use Rattle.storage_ops.proofs.Prelude.{◌≡◌, Bool, cond, List, None, sym, ap, ◌∙◌, Plan, Node, volume_in, is_volume_full, room_for, Flat, Home, Shows}
use Rattle.storage_ops.proofs.Laws.{segment_there, full_told}
use Rattle.storage_ops.proofs.store.Store.move_target.Goals.{After-is_full}
use Rattle.storage_ops.proofs.store.Store.move_target.Goals as goal

pub home-home-requires : goal.home-home-requires
home-home-requires g c = segment_there c.args.self.now.accounts.nodes c.args.uid c.requires.segment

-- whether the volume of the segment is full
full : (g : _) (c : After-is_full g) (p : Plan) (s : Flat) → Shows g.D.Drive.pages p s c.args.self.now
    → is_volume_full p s (volume_in s.nodes c.args.uid) ≡ c.is_full.result
full g c p s h =
    let volume = ap (λ (ns : List Node). volume_in ns c.args.uid) h.tree.nodes
    ∙ ap (λ (x : Home). x.volume) (sym c.home-home.ensures.home) in
    cc (full_told g.D.Drive.pages p s c.args.self.now c.home-home.result.volume c.accounts-accounts.ensures.store h)

pub returns-then-is_full-clause-shown : goal.returns-then-is_full-clause-shown
returns-then-is_full-clause-shown g c = λ p s h. c.room_for.ensures.shown p s h
    ∙ sym (ap (λ (z : Bool). cond z (room_for p s c.args.uid) None)
    (full g (goal.at.returns-then-is_full-clause-shown g c).After-is_full p s h ∙ c.if-is_full.true))

pub returns-else-is_full-clause-shown : goal.returns-else-is_full-clause-shown
returns-else-is_full-clause-shown g c = λ p s h. sym (ap (λ (z : Bool). cond z (room_for p s c.args.uid) None)
    (full g (goal.at.returns-else-is_full-clause-shown g c).After-is_full p s h ∙ c.if-is_full.false))
