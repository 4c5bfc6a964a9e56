use Rattle.flat_store.proofs.Prelude.{Plan, Store, IsShown, ShowsTree}
use Rattle.flat_store.proofs.StoreLaws.{tree_shown}
use Rattle.flat_store.proofs.store.FlatStore.reply_to_tree_command.Goals.{After-tree-tree}
use Rattle.flat_store.proofs.store.FlatStore.reply_to_tree_command.Goals as goal

shown : (c : After-tree-tree) {p : Plan} {s : Store} → IsShown p c.args.self.now s → ShowsTree s c.tree-tree.result.now
shown c h = tree_shown (rw (← c.self.view_is) at h) c.tree-tree.ensures

pub returns-in-Acl : goal.returns-in-Acl
returns-in-Acl c = λ p s h. rw c.in-Acl.is (c.acl_reply.ensures s (shown (goal.at.returns-in-Acl c).After-tree-tree h))

pub returns-in-Truncate : goal.returns-in-Truncate
returns-in-Truncate c = λ p s h.
    rw c.in-Truncate.is (c.truncate_reply.ensures s (shown (goal.at.returns-in-Truncate c).After-tree-tree h))

pub returns-in-Delete : goal.returns-in-Delete
returns-in-Delete c = λ p s h.
    rw c.in-Delete.is (c.delete_reply.ensures s (shown (goal.at.returns-in-Delete c).After-tree-tree h))

pub returns-in-Status : goal.returns-in-Status
returns-in-Status c = λ p s h.
    rw c.in-Status.is (c.status_reply.ensures s (shown (goal.at.returns-in-Status c).After-tree-tree h))

pub returns-in-Length : goal.returns-in-Length
returns-in-Length c = λ p s h. rw c.in-Length.is (c.length_reply.ensures p s (rw (← c.self.view_is) at h).holds)

pub returns-in-Move : goal.returns-in-Move
returns-in-Move c = λ p s h. rw c.in-Move.is (c.move_reply.ensures p s h)
