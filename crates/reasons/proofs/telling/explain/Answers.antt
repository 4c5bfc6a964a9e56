use Rattle.reasons.proofs.Prelude.{Option, subst, IfSome, lines_of, IsWhy, first_of, is_end, Reason}
use Rattle.reasons.proofs.TellLaws.{tells_ok}
use Rattle.reasons.proofs.telling.explain.Goals as goal

pub returns-in-Ok-Some : goal.returns-in-Ok-Some
returns-in-Ok-Some c = λ es after read judged. tells_ok _ _ (λ t. t.items) c.tell.result c.args.bytes.now
    c.args.input.now.script.now c.args.input.now.first (lines_of c.args.input.now.listing.now) c.args.offence
    c.args.judge.now.script c.script.result.now es (lines_of c.args.rest.now) c.in-Ok-Some.reason
    c.script.ensures read judged
    (subst (λ (o : Option Reason). IfSome o (IsWhy c.args.bytes.now c.args.judge.now.script es
    (first_of (lines_of c.args.rest.now)) (is_end (lines_of c.args.rest.now)) c.args.offence.rule))
    c.in-Ok-Some.field-0-is
    (c.in-Ok-Some.ensures.so es after))
    c.tell.ensures
