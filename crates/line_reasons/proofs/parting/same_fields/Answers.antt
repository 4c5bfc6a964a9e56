use Rattle.line_reasons.proofs.Prelude.{pieces, same_front}
use Rattle.line_reasons.proofs.FrontLaws.{front_due_last}
use Rattle.line_reasons.proofs.parting.same_fields.Goals as goal

pub returns-in-None-clause-same : goal.returns-in-None-clause-same
returns-in-None-clause-same c =
    front_due_last (same_front (pieces c.args.line.now) (pieces c.args.other.now)) c.loop-field.same c.one_more.result
    (pieces c.loop-field.left.now) (pieces c.loop-field.wanted.now) (pieces c.in-Some.more.now) c.in-Some.field.now
    c.loop-field.wanted.now c.loop-field.invariant.same c.in-Some.ensures.some c.in-None.ensures.none
    c.one_more.ensures.more
