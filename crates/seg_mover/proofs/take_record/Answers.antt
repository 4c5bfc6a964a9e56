use Rattle.seg_mover.proofs.Records.{not_all, records_at, rules}
use Rattle.seg_mover.proofs.take_record.Goals as goal

pub unreachable-requires : goal.unreachable-requires
unreachable-requires g c =
    not_all (records_at c.args.v.now c.args.to.0) (c.requires.room (search rules)) c.in-None.ensures.none
