use Rattle.storage_ops.proofs.Prelude.{◌≡◌, ℕ, true, subst, count_of, pair_of, is_roomy, home_of}
use Rattle.storage_ops.proofs.Laws.{active_held, held, may_begin}
use Rattle.storage_ops.proofs.store.Store.move_begin.Goals as goal

pub move_begin-requires-clause-can : goal.move_begin-requires-clause-can
move_begin-requires-clause-can g c =
    let t = held c.self.view_is in
    let from : c.args.from ≡ pair_of (home_of t.accounts c.args.uid) = cc (c.requires.home, c.self.view_is) in
    let to = rw (← c.self.view_is) at c.requires.volume in
    let roomy = rw (← c.self.view_is) at c.requires.room in
    rw from (may_begin g.D.Drive.pages t c.args.uid c.look.ensures.kept c.self.invariant
    (active_held c.self.view_is c.requires.active) c.look.ensures.parts to
    (subst (λ (x : ℕ × ℕ). is_roomy t.segs.pages.volumes x.0 (count_of t.accounts c.args.uid) c.args.to ≡ true) from
    roomy))
