use Rattle.reasons.proofs.Prelude.{Option, subst, ◌∙◌, IfSome, lines_of, Judged, Begins}
use Rattle.reasons.proofs.TellLaws.{since_told}
use Rattle.reasons.proofs.telling.since_line.Goals as goal

pub returns : goal.returns
returns c = λ p o read judged. since_told c.args.input.now.script.now c.in-Some.judge c.go_over.new.judge
    c.args.input.now.first (lines_of c.args.input.now.listing.now) _ c.args.reason.now c.go_over.new.since.reason
    c.go_over.new.since.line p o
    (subst (λ (j : Option Judged). IfSome j (Begins c.args.input.now.script.now)) c.in-Some.is
    c.in_ok-judge.ensures.some)
    read c.in_ok-go_over.ensures.script
    (c.in_ok-go_over.ensures.reason ∙ c.look.ensures.same ∙ c.of-since.ensures.reason) c.in_ok-go_over.ensures.passed
    c.in_ok-go_over.ensures.ends judged
