use Rattle.flat_store.proofs.Prelude.{sym, ◌∙◌, answered, few_uids, IsShown}
use Rattle.flat_store.proofs.FollowLaws.{effect_due, go_shown}
use Rattle.flat_store.proofs.store.FlatStore.follow_do.Goals.{then-takes_effect+in_ok-take_effect, else-takes_effect}
use Rattle.flat_store.proofs.store.FlatStore.follow_do.Goals as goal

pub returns-clause-ok : goal.returns-clause-ok
returns-clause-ok c = λ s place h at lawful.
    let p = c.args.script.now in
    let shown : IsShown p c.if-takes_effect.self
    (answered p s c.args.process c.args.command.now c.args.reply.now) = elim c.if-takes_effect.branch [
      | then-takes_effect+in_ok-take_effect w ↦
          let takes = sym c.takes_effect.ensures ∙ w.if-takes_effect.true in
          let due = effect_due p s c.args.process place c.args.command.now c.args.reply.now at lawful takes in
          rw (takes, w.self-is) (w.in_ok-take_effect.ensures.ok s h.shown (few_uids p s h.reached) due.0 due.1)
      | else-takes_effect w ↦
          rw (sym c.takes_effect.ensures ∙ w.if-takes_effect.false, w.self-is) h.shown
    ] in
    go_shown h.reached (rw (← c.self.view_is) at shown) at lawful c.go_on.ensures
