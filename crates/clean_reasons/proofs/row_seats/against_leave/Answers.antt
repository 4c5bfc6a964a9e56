use Rattle.clean_reasons.proofs.Prelude.{sym, ◌∙◌, custody_of, seat_at, MayGo, MayLeave, IsSo}
use Rattle.clean_reasons.proofs.RowLaws.{and_some, maps}
use Rattle.book.specs.declared.entries.Entry.TheVariants as entry
use Rattle.clean_reasons.proofs.row_seats.against_leave.Goals as goal

pub returns-in-Some : goal.returns-in-Some
returns-in-Some c = λ s shown.
    let is = sym c.process_of.ensures ∙ c.in-Some.is in
    maps (MayGo s (custody_of c.args.custody.now) (seat_at c.args.custody.now.seats c.args.cpu) c.in-Some.process)
    (MayLeave s (custody_of c.args.custody.now) c.args.cpu)
    (IsSo c.args.script.now s (custody_of c.args.custody.now) (entry.Leave c.args.cpu)) c.against_going.result
    (and_some (MayGo s (custody_of c.args.custody.now) (seat_at c.args.custody.now.seats c.args.cpu))
    (seat_at c.args.custody.now.seats c.args.cpu).process c.in-Some.process is)
    (c.against_going.ensures c.args.script.now s shown is)
