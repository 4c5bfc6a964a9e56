use Rattle.clean_reasons.proofs.Prelude.{MatchOption, custody_of, HasLostNone, IsLostPage}
use Rattle.clean_reasons.proofs.seeking.least_page.Given as goal

-- the page is in its frame, or no page that is looked for was in one so far
abbrev pub invariant-loop-frame : goal.invariant-loop-frame
invariant-loop-frame l = MatchOption l.best (HasLostNone (custody_of l.custody) l.uid l.from l.frame)
    (λ x. IsLostPage l.uid l.from x.page ((custody_of l.custody).frame x.frame))
