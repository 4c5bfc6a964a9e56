use Rattle.seg_mover.proofs.Beginning.{arith, begun_end, begun_more, begun_start, can_store, entry_now, has_room, rules, used_some}
use Rattle.seg_mover.proofs.take_home.Goals as goal

pub loop-p-init : goal.loop-p-init
loop-p-init g c =
    begun_start c.take_entry.new.v c.requires (can_store c.requires c.take_entry.ensures.least c.size.ensures.places
    (search rules)) c.take_entry.ensures.taken

pub take_record-requires-clause-new_used : goal.take_record-requires-clause-new_used
take_record-requires-clause-new_used g c =
    used_some (entry_now (can_store c.requires c.take_entry.ensures.least c.size.ensures.places (search rules))
    c.loop-p.invariant)

pub take_record-requires-clause-room : goal.take_record-requires-clause-room
take_record-requires-clause-room g c =
    has_room (can_store c.requires c.take_entry.ensures.least c.size.ensures.places (search rules)) c.loop-p.invariant
    (search rules)

pub loop-p-preserved : goal.loop-p-preserved
loop-p-preserved g c =
    begun_more (can_store c.requires c.take_entry.ensures.least c.size.ensures.places (search rules)) c.loop-p.invariant
    c.take_record.new.v (search rules) c.take_record.ensures.none c.take_record.ensures.some

pub returns-clause-begun : goal.returns-clause-begun
returns-clause-begun g c =
    begun_end (can_store c.requires c.take_entry.ensures.least c.size.ensures.places (search rules)) c.loop-p.invariant
    (omega arith) c.take_entry.ensures.number
