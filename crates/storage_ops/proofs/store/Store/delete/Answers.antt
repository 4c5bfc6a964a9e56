use Rattle.storage_ops.proofs.Prelude.{rules, ◌≡◌, ◌<◌, ℕ, is_some, List, true, false, eqb, refl, sym, ap, ◌∙◌, arith, is_err, ne_eqb, Node, quota_in, as_term, has_inferior, delete_done, delete_refused, delete_told, from_false, is_there, branch_refuses}
use Rattle.storage_ops.proofs.Laws.{tree_held, out_still, rest_both, rest_none, erased_exactly, same_uid}
use Rattle.storage_ops.proofs.store.Store.delete.Goals.{After-may_remove}
use Rattle.storage_ops.proofs.store.Store.delete.Goals as goal

pub returns-in-Err : goal.returns-in-Err
returns-in-Err g c =
    let refused = branch_refuses c.self.inside.accounts.nodes c.args.path.now c.in-Err.reply c.in-Err.ensures.err in
    record {
      answer = λ p s h. delete_refused s c.self.inside.accounts.nodes c.args.path.now
          (tree_held c.self.view_is h.tree).nodes c.in-Err.reply c.in-Err.ensures.err;
      effect = λ p s h. rw refused h;
      rest = rest_none c.args.self.now;
      out = λ on. (let clash = sym on ∙ refused in cc);
      exact = λ on. (let clash = sym on ∙ refused in cc);
    }

-- where nothing refuses the removal, it has no inferior
none_below : (g : _) (c : After-may_remove g) → is_err c.may_remove.result ≡ false
    → has_inferior c.self.inside.accounts.nodes c.in-Ok.node.now.uid ≡ false
none_below g c off = from_false (is_err c.may_remove.result)
    (has_inferior c.self.inside.accounts.nodes c.in-Ok.node.now.uid) c.may_remove.ensures.1 off

pub returns-then-is_err-clause-answer : goal.returns-then-is_err-clause-answer
returns-then-is_err-clause-answer g c = λ p s h.
    delete_told s c.self.inside.accounts.nodes c.args.path.now (tree_held c.self.view_is h.tree).nodes
    (as_term (quota_in c.self.inside.accounts.nodes) c.in-Ok.node.now) true
    (eqb (quota_in c.self.inside.accounts.nodes c.in-Ok.node.now.uid) 0) c.in-Ok.ensures.ok
    (c.may_remove.ensures.0 (cc)) refl

pub returns-then-quota_of-gt0-clause-answer : goal.returns-then-quota_of-gt0-clause-answer
returns-then-quota_of-gt0-clause-answer g c = λ p s h.
    let some : 0 < c.quota_of.result = c.if-quota_of-gt0.true in
    let apart : eqb c.quota_of.result 0 ≡ false = ne_eqb c.quota_of.result 0 (λ is. absurd (omega arith)) in
    delete_told s c.self.inside.accounts.nodes c.args.path.now (tree_held c.self.view_is h.tree).nodes
    (as_term (quota_in c.self.inside.accounts.nodes) c.in-Ok.node.now) false false c.in-Ok.ensures.ok
    (none_below g (goal.at.returns-then-quota_of-gt0-clause-answer g c).After-may_remove (cc)) (cc)

pub make_inactive-requires-clause-ready : goal.make_inactive-requires-clause-ready
make_inactive-requires-clause-ready g c =
    rw (← c.self.view_is) ((rw (← c.self.view_is) at c.requires.ready) (as_term (quota_in c.self.inside.accounts.nodes)
    c.in-Ok.node.now) c.in-Ok.ensures.ok)

pub make_inactive-requires-clause-empty : goal.make_inactive-requires-clause-empty
make_inactive-requires-clause-empty g c = rw (← c.self.view_is)
    (none_below g (goal.at.make_inactive-requires-clause-empty g c).After-may_remove (cc))

pub returns : goal.returns
returns g c =
    let n = as_term (quota_in c.self.inside.accounts.nodes) c.in-Ok.node.now in
    rw (← c.self.view_is) (record {
      answer = λ p s h.
          let zero_quota : c.quota_of.result ≡ 0 = omega arith in
          delete_told s c.self.inside.accounts.nodes c.args.path.now h.tree.nodes n false true c.in-Ok.ensures.ok
          (none_below g (goal.at.returns g c).After-may_remove (cc))
          (ap (λ (q : ℕ). eqb q 0) (sym c.quota_of.ensures ∙ zero_quota));
      effect = λ p s h.
          let left = c.make_inactive.ensures.shown p s (rw c.self.view_is at h) in
          rw (← left.2 ∙ sym (delete_done s c.args.path.now n (cc (h.tree.nodes, c.in-Ok.ensures.ok))))
          (c.remove.ensures.shown p left.0 left.1);
      rest = rest_both (rw (← c.self.view_is) at c.make_inactive.ensures.rest) c.remove.ensures.rest;
      out = λ on m found. rw (← same_uid n m (sym c.in-Ok.ensures.ok ∙ found)) (out_still
          (rw (← c.self.view_is) at c.make_inactive.ensures.out) c.remove.ensures.ast c.remove.ensures.core);
      exact = λ on m found. rw (← same_uid n m (sym c.in-Ok.ensures.ok ∙ found)) (rw (← c.self.view_is) at
          (erased_exactly {drive = g.D.Drive.pages} {t = c.args.self.now} c.make_inactive.new.self
          {n = c.remove.new.self} {uid = c.in-Ok.node.now.uid} c.make_inactive.ensures.active
          c.make_inactive.ensures.still c.make_inactive.ensures.home c.remove.ensures.erased c.remove.ensures.ast));
    })

pub remove-requires : goal.remove-requires
remove-requires g c =
    let nodes : c.make_inactive.new.self.accounts.nodes ≡ c.self.inside.accounts.nodes
    = rw (← c.self.view_is) at c.make_inactive.ensures.nodes in
    record {
      there = ap (λ (ns : List Node). is_there ns c.in-Ok.node.now.uid) nodes ∙ ap is_some c.in-Ok.ensures.there;
      quota = ap (λ (ns : List Node). quota_in ns c.in-Ok.node.now.uid) nodes ∙ sym c.quota_of.ensures ∙ (omega arith);
      empty = ap (λ (ns : List Node). has_inferior ns c.in-Ok.node.now.uid) nodes
          ∙ none_below g (goal.at.remove-requires g c).After-may_remove (cc);
      still = search rules;
      branch = search rules;
      inactive = search rules;
    }

pub returns-then-is_err-clause-rest : goal.returns-then-is_err-clause-rest
returns-then-is_err-clause-rest g c = rest_none c.args.self.now

pub returns-then-quota_of-gt0-clause-rest : goal.returns-then-quota_of-gt0-clause-rest
returns-then-quota_of-gt0-clause-rest g c = rest_none c.args.self.now
