use Rattle.legal_reasons.proofs.Prelude.{ℕ, Option, sym, subst, MayFault, when_none}
use Rattle.legal_reasons.proofs.ReasonLaws.{may_fault}
use Rattle.legal_reasons.proofs.refusals.why_not_fault.Goals as goal

pub returns-in_err-process-in-None-clause-none : goal.returns-in_err-process-in-None-clause-none
returns-in_err-process-in-None-clause-none c = λ s shown. when_none c.from_residual.result
    (subst (λ (o : Option ℕ). MayFault s o) (sym c.in-None.is)
    (may_fault c.args.script.now c.args.store.now s shown (c.in_err-process-in-None.ensures.none s shown)))
