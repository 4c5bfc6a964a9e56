use Rattle.storage_ops.proofs.Prelude.{◌≡◌, Ok, sym, ◌∙◌, Node, quota_in, as_term, segment_at, truncate_done, truncate_refused, truncate_told, segment_refuses}
use Rattle.storage_ops.proofs.Laws.{held, rest_none, rest_unstored, same_uid}
use Rattle.storage_ops.proofs.store.Store.truncate.Goals as goal

pub returns-in-Err : goal.returns-in-Err
returns-in-Err g c =
    rw (← c.self.view_is) (record {
      answer = λ p s h. truncate_refused s c.self.inside.accounts.nodes c.args.path.now h.tree.nodes c.in-Err.reply
          c.in-Err.ensures.err;
      effect = λ p s h.
          rw (segment_refuses c.self.inside.accounts.nodes c.args.path.now c.in-Err.reply c.in-Err.ensures.err) h;
      rest = rest_none (held c.self.view_is);
      pages = λ n found. (let clash = sym c.in-Err.ensures.err ∙ found in cc);
      exact = λ n found. (let clash = sym c.in-Err.ensures.err ∙ found in cc);
      others = λ n found. (let clash = sym c.in-Err.ensures.err ∙ found in cc);
    })

pub cut_off-requires-clause-past : goal.cut_off-requires-clause-past
cut_off-requires-clause-past g c =
    rw (← c.self.view_is) ((rw (← c.self.view_is) at c.requires.past) (as_term (quota_in c.self.inside.accounts.nodes)
    c.in-Ok.node.now) c.in-Ok.ensures.ok)

pub returns : goal.returns
returns g c =
    let node = as_term (quota_in c.self.inside.accounts.nodes) c.in-Ok.node.now in
    let same = λ (n : Node) (found : segment_at c.self.inside.accounts.nodes c.args.path.now ≡ Ok n).
    same_uid node n (sym c.in-Ok.ensures.ok ∙ found) in
    let done = rw (← c.self.view_is) at c.cut_off.ensures in
    rw (← c.self.view_is) (record {
      answer = λ p s h. truncate_told s c.self.inside.accounts.nodes c.args.path.now h.tree.nodes node
          c.in-Ok.ensures.ok;
      effect = λ p s h. rw (truncate_done s c.args.path.now c.args.words node (cc (h.tree.nodes, c.in-Ok.ensures.ok)))
          (done.shown p s h);
      rest = rest_unstored (held c.self.view_is) c.cut_off.new.self c.in-Ok.node.now.uid done.pages.test
          done.pages.unstores;
      pages = λ n found. rw (← same n found) done.pages;
      exact = λ n found. rw (← same n found) done.exact;
      others = λ n found. rw (← same n found) done.others;
    })
