use Rattle.storage_ops.proofs.Prelude.{rules, ◌≡◌, Option, length, ap, ◌∙◌, get_or_read, nobody, Reply, quota_in, as_term, target, unless, Storage, who_at, found_uid}
use Rattle.storage_ops.proofs.Laws.{held, target_found, target_gone, target_unknown, Refusals_within_told as within_told}
use Rattle.storage_ops.proofs.store.Store.target.Goals.{After-refusal_in}
use Rattle.storage_ops.proofs.store.Store.target.Goals as goal

-- the segment that a number stands for is there, and what refuses the reference is told of it
found : (g : _) (c : After-refusal_in g) → target (held c.self.view_is) c.args.process c.args.reference.now
    ≡ unless c.refusal_in.result (as_term (quota_in c.self.inside.accounts.nodes) c.in-Some-node.node.now)
found g c =
    let t = held c.self.view_is in
    let n = as_term (quota_in t.accounts.nodes) c.in-Some-node.node.now in
    let who : c.index.result.now ≡ who_at t.whos c.args.process = get_or_read t.whos c.args.process _
    (rw (c.self.invariant.known.processes ∙ ap (λ (x : Storage g.row.D.Denot). length x.segs.links.known)
    c.self.view_is) c.requires) c.index.ensures nobody in
    cc (
      target_found t c.args.process c.args.reference.now (cc) c.in-Some-node.ensures.some,
      c.refusal_in.ensures (quota_in t.accounts.nodes),
    )

pub returns-in_default-clause-err : goal.returns-in_default-clause-err
returns-in_default-clause-err g c =
    rw (← c.self.view_is) (target_unknown (held c.self.view_is) c.args.process c.args.reference.now
    (cc (c.kst.ensures.kst, c.uid_of.ensures.uid, c.in_default.is)))

pub returns-in_default-node-clause-err : goal.returns-in_default-node-clause-err
returns-in_default-node-clause-err g c =
    rw (← c.self.view_is) (target_gone (held c.self.view_is) c.args.process c.args.reference.now
    (cc (c.kst.ensures.kst, c.uid_of.ensures.uid, c.in-Some.is)) c.in_default-node.ensures.none)

pub returns-in-Some-refusal_in-clause-err : goal.returns-in-Some-refusal_in-clause-err
returns-in-Some-refusal_in-clause-err g c =
    let n = as_term (quota_in c.self.inside.accounts.nodes) c.in-Some-node.node.now in
    rw (← c.self.view_is) (found g (goal.at.returns-in-Some-refusal_in-clause-err g c).After-refusal_in
    ∙ ap (λ (o : Option Reply). unless o n) c.in-Some-refusal_in.is)

pub returns-in-None : goal.returns-in-None
returns-in-None g c = record {
  ok =
      let n = as_term (quota_in c.self.inside.accounts.nodes) c.in-Some-node.node.now in
      rw (← c.self.view_is) (found g (goal.at.returns-in-None g c).After-refusal_in
      ∙ ap (λ (o : Option Reply). unless o n) c.in-None.is);
  there =
      let t = held c.self.view_is in
      rw (← c.self.view_is) (cc (
        found_uid t.accounts.nodes c.in-Some.uid (as_term (quota_in t.accounts.nodes) c.in-Some-node.node.now)
            c.in-Some-node.ensures.some,
        c.in-Some-node.ensures.some,
      ));
  within = within_told c.index.result.now c.args.reference.now
      (as_term (λ u. 0) c.in-Some-node.node.now) (cc (c.refusal_in.ensures (λ u. 0)));
  err = search rules;
}
