use Rattle.tree_commands.proofs.Prelude.{Err, ap, ◌∙◌, w32, ◌≡◌, Result, to_z-of_z, quota_in, as_term, MoveFault, move_refused, Store, move_reply, ShowsTree}
use mir.Val.{to_z}
use Rattle.tree_commands.proofs.MoveReplies.{move_given, move_nothing, move_told}
use Rattle.tree_commands.proofs.replies.move_reply.Goals.{After-may_move}
use Rattle.tree_commands.proofs.replies.move_reply.Goals as goal

pub returns-in-Err : goal.returns-in-Err
returns-in-Err c = λ s h. move_refused s c.args.accounts.now.nodes c.args.path.now h.nodes c.args.amount
    c.in-Err.reply c.in-Err.ensures.err

told : (c : After-may_move) (s : Store) → ShowsTree s c.args.accounts.now → (r : Result (Unit {0}) MoveFault)
    → c.may_move.result ≡ r → move_told r ≡ move_reply s c.args.path.now c.args.amount
told c s h r is = move_given s c.args.accounts.now.nodes c.args.path.now h.nodes c.args.amount _
    (to_z-of_z w32 c.args.amount c.ranges.amount) (as_term (quota_in c.args.accounts.now.nodes) c.in-Ok.node.now)
    c.may_move.result r c.in-Ok.ensures.ok (c.may_move.ensures s.stored h.counts) is

pub returns-in-Ok-may_move : goal.returns-in-Ok-may_move
returns-in-Ok-may_move c = λ s h. told (goal.at.returns-in-Ok-may_move c).After-may_move s h _ c.in-Ok-may_move.is

pub returns-in-Err-TooLittle : goal.returns-in-Err-TooLittle
returns-in-Err-TooLittle c = λ s h. told (goal.at.returns-in-Err-TooLittle c).After-may_move s h _
    (c.in-Err-TooLittle.is ∙ ap (λ (e : MoveFault). Err e) c.in-Err-TooLittle.field-0-is)

pub returns-in-Err-Over : goal.returns-in-Err-Over
returns-in-Err-Over c = λ s h. told (goal.at.returns-in-Err-Over c).After-may_move s h _
    (c.in-Err-Over.is ∙ ap (λ (e : MoveFault). Err e) c.in-Err-Over.field-0-is)

pub returns-then-amount-eq0 : goal.returns-then-amount-eq0
returns-then-amount-eq0 c = λ s h.
    move_nothing s c.args.accounts.now.nodes c.args.path.now h.nodes c.args.amount _
    (to_z-of_z w32 c.args.amount c.ranges.amount) (ap (to_z w32) c.if-amount-eq0.true)
    (as_term (quota_in c.args.accounts.now.nodes) c.in-Ok.node.now) c.in-Ok.ensures.ok
    (c.look.ensures.within s.stored h.counts)
