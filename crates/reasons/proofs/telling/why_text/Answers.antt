use Rattle.reasons.proofs.Prelude.{Option, subst, IfNone, IfSome, Judged, Begins, IsRefused}
use Rattle.reasons.proofs.TellLaws.{is_told_ok, not_refused}
use Rattle.reasons.proofs.telling.why_text.Goals as goal

pub returns-in_default : goal.returns-in_default
returns-in_default c = absurd (not_refused c.args.bytes.now c.split_input-input.result.script.now
    c.split_input-input.result.listing.now c.split_input-input.result.first c.split_input-input.ensures.script
    c.split_input-input.ensures.listing c.split_input-input.ensures.first c.args.offence c.requires.refused
    (subst (λ (j : Option Judged). IfNone j (IsRefused c.split_input-input.result.script.now)) c.in_default.is
    c.in_ok-judge.ensures.none))

pub returns : goal.returns
returns c = is_told_ok c.args.bytes.now c.split_input-input.result.script.now c.split_input-input.result.listing.now
    c.split_input-input.result.first c.split_input-input.ensures.script c.split_input-input.ensures.listing
    c.split_input-input.ensures.first c.args.offence c.requires.refused _ _ (λ t. t.items) c.explain.result
    c.in-Some.judge c.go_over.new.judge _ _ _
    (subst (λ (j : Option Judged). IfSome j (Begins c.split_input-input.result.script.now)) c.in-Some.is
    c.in_ok-judge.ensures.some) c.in_ok-rest.ensures.script c.in_ok-rest.ensures.passed c.in_ok-rest.ensures.ends
    c.explain.ensures
