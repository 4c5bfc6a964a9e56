use Rattle.legal_reasons.proofs.Prelude.{sym, subst, Entry, IsLawful, quiet_lawful, IsAbout, map_none}
use Rattle.legal_reasons.proofs.ReasonLaws.{fault_so}
use Rattle.legal_reasons.proofs.refusals.why_refused.Goals as goal

pub returns-in-Do-clause-so : goal.returns-in-Do-clause-so
returns-in-Do-clause-so c = λ s shown not_. record {
  about = subst (λ (e : Entry). IsAbout e c.why_not_do.result) (sym c.in-Do.is)
      (c.why_not_do.ensures.about, c.why_not_do.ensures.place);
  said = c.why_not_do.ensures.so s shown;
}

pub returns-in-Release-clause-so : goal.returns-in-Release-clause-so
unfolding IsLawful
returns-in-Release-clause-so c = λ s shown not_. record {
  about = subst (λ (e : Entry). IsAbout e c.why_not_release.result) (sym c.in-Release.is)
      (c.why_not_release.ensures.uid, c.why_not_release.ensures.page);
  said = c.why_not_release.ensures.so c.args.script.now s shown
      (λ may. not_ (subst (λ (e : Entry). IsLawful c.args.script.now s e) (sym c.in-Release.is) may));
}

pub returns-in-Fault-clause-none : goal.returns-in-Fault-clause-none
unfolding IsLawful
returns-in-Fault-clause-none c = λ s shown. map_none c.why_not_fault.result
    (λ may. subst (λ (e : Entry). IsLawful c.args.script.now s e) (sym c.in-Fault.is) may)
    (c.why_not_fault.ensures.none s shown)

pub returns-in-Fault-clause-so : goal.returns-in-Fault-clause-so
returns-in-Fault-clause-so c = λ s shown not_.
    fault_so c.args.script.now s c.in-Fault.process c.args.e.now c.in-Fault.is c.why_not_fault.result
    (c.why_not_fault.ensures.so s shown) c.why_not_fault.ensures.about

pub returns-in-Moved-clause-so : goal.returns-in-Moved-clause-so
returns-in-Moved-clause-so c = λ s shown not_. record {
  about = subst (λ (e : Entry). IsAbout e c.why_not_moved.result) (sym c.in-Moved.is) c.why_not_moved.ensures.about;
  said = c.why_not_moved.ensures.so s shown;
}

pub returns-in_default : goal.returns-in_default
returns-in_default c = record {
  none = λ s shown. quiet_lawful c.args.script.now s c.args.e.now c.in_default.not-Do c.in_default.not-Release
      c.in_default.not-Fault c.in_default.not-Moved;
  so = λ s shown not_. tt;
}
