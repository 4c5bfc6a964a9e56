use Rattle.tree_commands.proofs.Prelude.{◌≡◌, ℤ, pos, Err, true, false, refl, sym, ap, ◌∙◌, w32, Result, to_z-of_z, is_positive, Node, quota_in, as_term, MoveFault, nodes_moved, move_reply, Store, ShowsTree, directory_refuses, nothing_moved, move_refused}
use mir.Val.{to_z}
use Rattle.tree_commands.proofs.MoveReplies.{move_given, move_nothing, move_told}
use Rattle.tree_commands.proofs.rights.move_quota.Goals.{After-move_quota}
use Rattle.tree_commands.proofs.rights.move_quota.Goals as goal

pub returns-in-Err-clause-answer : goal.returns-in-Err-clause-answer
returns-in-Err-clause-answer c = λ s h. move_refused s c.args.accounts.now.nodes c.args.path.now h.nodes c.args.amount
    c.in-Err.reply c.in-Err.ensures.err

pub returns-in-Err-clause-done : goal.returns-in-Err-clause-done
returns-in-Err-clause-done c = λ on.
    let clash : true ≡ false = sym on ∙ directory_refuses c.args.accounts.now.nodes c.args.path.now c.in-Err.reply
    c.in-Err.ensures.err in cc

pub returns-then-amount-eq0-clause-answer : goal.returns-then-amount-eq0-clause-answer
returns-then-amount-eq0-clause-answer c = λ s h.
    move_nothing s c.args.accounts.now.nodes c.args.path.now h.nodes c.args.amount _
    (to_z-of_z w32 c.args.amount c.ranges.amount) (ap (to_z w32) c.if-amount-eq0.true)
    (as_term (quota_in c.args.accounts.now.nodes) c.in-Ok.node.now) c.in-Ok.ensures.ok
    (c.look.ensures.within s.stored h.counts)

pub returns-then-amount-eq0-clause-done : goal.returns-then-amount-eq0-clause-done
returns-then-amount-eq0-clause-done c = λ on.
    let n : Node = as_term (quota_in c.args.accounts.now.nodes) c.in-Ok.node.now in
    let none : c.args.amount ≡ pos 0 = sym (to_z-of_z w32 c.args.amount c.ranges.amount)
    ∙ ap (to_z w32) c.if-amount-eq0.true in
    record {
      node = n;
      found = c.in-Ok.ensures.ok;
      effect = record {
        nodes = sym (ap (λ (a : ℤ). nodes_moved c.args.accounts.now.nodes n.uid a) none
            ∙ nothing_moved c.args.accounts.now.nodes n.uid (is_positive (pos 0)));
        entries = refl;
        next = refl;
        counts = λ u. refl;
      };
    }

told : (c : After-move_quota) (s : Store) → ShowsTree s c.args.accounts.now → (r : Result (Unit {0}) MoveFault)
    → c.move_quota.result ≡ r → move_told r ≡ move_reply s c.args.path.now c.args.amount
told c s h r is = move_given s c.args.accounts.now.nodes c.args.path.now h.nodes c.args.amount _
    (to_z-of_z w32 c.args.amount c.ranges.amount) (as_term (quota_in c.args.accounts.now.nodes) c.in-Ok.node.now)
    c.move_quota.result r c.in-Ok.ensures.ok (c.move_quota.ensures.answer s.stored h.counts) is

pub returns-in-Ok-move_quota-clause-answer : goal.returns-in-Ok-move_quota-clause-answer
returns-in-Ok-move_quota-clause-answer c = λ s h.
    told (goal.at.returns-in-Ok-move_quota-clause-answer c).After-move_quota s h _ c.in-Ok-move_quota.is

pub returns-in-Err-TooLittle-clause-answer : goal.returns-in-Err-TooLittle-clause-answer
returns-in-Err-TooLittle-clause-answer c = λ s h.
    told (goal.at.returns-in-Err-TooLittle-clause-answer c).After-move_quota s h _
    (c.in-Err-TooLittle.is ∙ ap (λ (e : MoveFault). Err e) c.in-Err-TooLittle.field-0-is)

pub returns-in-Err-Over-clause-answer : goal.returns-in-Err-Over-clause-answer
returns-in-Err-Over-clause-answer c = λ s h.
    told (goal.at.returns-in-Err-Over-clause-answer c).After-move_quota s h _
    (c.in-Err-Over.is ∙ ap (λ (e : MoveFault). Err e) c.in-Err-Over.field-0-is)
