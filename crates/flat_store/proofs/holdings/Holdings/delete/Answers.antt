use Rattle.flat_store.proofs.Prelude.{nat_le, sym, ◌∙◌, without_pages, deleted_is}
use Rattle.flat_store.proofs.RemoveLaws.{all_gone}
use Rattle.flat_store.proofs.holdings.Holdings.delete.Goals as goal

pub take_out-requires : goal.take_out-requires
take_out-requires c =
    let (p, s, h) = c.self.invariant in
    let now = rw c.self.view_is at h in
    let left = c.drop_from.ensures p s now in
    let nodes = sym left.nodes ∙ now.nodes in
    let may = c.in-Some.ensures.some in
    record {
      there = rw nodes may.there;
      branch = may.branch;
      empty = rw nodes may.empty;
      quota = rw nodes may.quota;
      pages = all_gone s c.in-Some.uid left;
    }

pub returns-in-Some : goal.returns-in-Some
returns-in-Some c = λ p s h effect. rw (c.in-Some.ensures.effect s h.nodes effect, ← deleted_is s c.in-Some.uid)
    (c.take_out.ensures p (without_pages s c.in-Some.uid (λ q. nat_le 0 q)) (c.drop_from.ensures p s h))
