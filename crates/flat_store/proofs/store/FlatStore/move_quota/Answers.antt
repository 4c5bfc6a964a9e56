use Rattle.flat_store.proofs.Prelude.{rules, w32, to_z-of_z, move_keeps}
use mir.Val.{SFits}
use Rattle.flat_store.proofs.StoreLaws.{effect_shown}
use Rattle.flat_store.proofs.store.FlatStore.move_quota.Goals as goal

pub returns : goal.returns
returns c = λ p s h effect.
    let shown = rw (← c.self.view_is) at h in
    let fits : SFits w32 c.args.amount.now = search rules in
    let back = to_z-of_z w32 c.args.amount.now fits in
    effect_shown shown (rw back at (c.move_quota.ensures p s shown.holds (rw back effect)))
    (move_keeps s c.args.path.now c.args.amount.now)
