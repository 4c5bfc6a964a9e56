use Rattle.book_check.proofs.Prelude.{◌∙◌, lines_of}
use Rattle.book_check.proofs.CheckLaws.{closed_told}
use Rattle.book_check.proofs.check.judge_listing.Goals as goal

pub returns-in-Ok-accept_entries : goal.returns-in-Ok-accept_entries
returns-in-Ok-accept_entries c = closed_told c.args.script c.accept_entries.new.self c.args.first
    (lines_of c.args.lines.now)
    (lines_of c.in-Ok-accept_entries.rest.now) c.close.result (c.accept_entries.ensures.script ∙ c.in-Ok.ensures.script)
    c.in-Ok-accept_entries.ensures.reached c.in-Ok-accept_entries.ensures.ended c.close.ensures
