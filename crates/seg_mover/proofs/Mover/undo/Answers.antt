use Rattle.seg_mover.proofs.Begun.{records_there, rules}
use Rattle.seg_mover.proofs.Given.{given_adds, given_count, given_entries, given_free, given_others, gives_home}
use Rattle.seg_mover.proofs.Mover.undo.Goals as goal

pub returns : goal.returns
returns g c =
    let given = gives_home c.give_back.new.v c.requires.new_used c.requires.new_kept (records_there
    g.D.Drive.pages c.args.v.now c.args.self.to.0 c.promise.ensures.parts c.requires.target) c.give_back.ensures in
    search (rules, given_free given, given_adds given, given_count given, given_entries given, given_others given)
