use Rattle.storage_ops.proofs.NamingLaws.{number_told, room_told}
use Rattle.storage_ops.proofs.naming.has_number_for.Goals as goal

pub returns-then-is_some : goal.returns-then-is_some
returns-then-is_some c = number_told c.args.kst.now c.args.uid c.number_of.result c.number_of.ensures.number (cc)

pub returns : goal.returns
returns c = room_told c.args.kst.now c.args.uid c.number_of.result c.has_room.result c.requires
    c.number_of.ensures.number (cc) c.has_room.ensures
