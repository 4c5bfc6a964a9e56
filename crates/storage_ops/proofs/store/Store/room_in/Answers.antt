use Rattle.storage_ops.proofs.Prelude.{quota_in, as_term}
use Rattle.storage_ops.proofs.Refusals.{long_segment}
use Rattle.storage_ops.proofs.store.Store.room_in.Goals as goal

pub want_of_room-requires-clause-segment : goal.want_of_room-requires-clause-segment
want_of_room-requires-clause-segment g c = long_segment c.args.self.now.accounts _
    c.accounts-accounts.ensures.store.counted c.args.node.now.uid c.args.reference.now.offset
    (as_term (quota_in c.args.self.now.accounts.nodes) c.args.node.now) c.requires.there c.requires.within
