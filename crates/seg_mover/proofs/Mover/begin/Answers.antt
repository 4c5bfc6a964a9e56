use Rattle.seg_mover.proofs.Begun.{begins, begun_adds, begun_back, begun_count, begun_entries, begun_moving, begun_others, begun_same, begun_uid, records_there, rules}
use Rattle.seg_mover.proofs.Mover.begin.Goals as goal

pub returns : goal.returns
returns g c =
    let begun = begins c.take_home-entry.new.v c.requires c.take_home-entry.ensures.least
    (records_there g.D.Drive.pages c.args.v.now c.args.to c.promise.ensures.parts c.requires.target)
    c.take_home-entry.ensures.begun c.take_home-entry.ensures.number in
    search (
      rules,
      begun_uid begun,
      begun_same begun,
      begun_adds begun,
      begun_count begun,
      begun_entries begun,
      begun_others begun,
      begun_moving begun,
      begun_back begun,
    )
