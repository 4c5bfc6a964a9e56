use Rattle.line_reasons.proofs.Prelude.{pieces, reason_from, due}
use Rattle.line_reasons.proofs.ReasonLaws.{goes_out}
use Rattle.line_reasons.proofs.entry_reasons.field_fault.Goals as goal

pub returns-in-Some-fault_at : goal.returns-in-Some-fault_at
returns-in-Some-fault_at c = goes_out c.loop-field.n c.loop-field.due c.in-Some.field.now (pieces c.in-Some.more.now)
    (pieces c.loop-field.rest.now) c.in-Some-fault_at.reason (reason_from 1 due.First (pieces c.args.line.now))
    c.in-Some.ensures.some c.in-Some-fault_at.ensures c.loop-field.invariant.same
