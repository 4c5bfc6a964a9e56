use Rattle.seg_mover.proofs.Records.{not_full, vtoc_at}
use Rattle.seg_mover.proofs.take_entry.Goals as goal

pub unreachable-requires : goal.unreachable-requires
unreachable-requires g c =
    not_full c.vtoc_mut.result.now (vtoc_at c.args.v.now c.args.to) c.vtoc_mut.ensures.value c.requires.entry
    c.in-None.ensures.none
