-- Each clause of the top call, by what the ending says. (own)
use Rattle.runner.proofs.Verdicts.{accepted_so, by_verdict, drilled_so, ended, found_accepted, found_checked_long, found_done, found_fault, found_long, found_refused, listed_so, made_so, of_run, offence_so, refused_so, said_so, shut_down, usage_there, verdict}
use Rattle.runner.specs.declared.finished.Status.TheVariants as status
use Rattle.runner.proofs.top.multics.Goals as goal

pub returns-clause-ends : goal.returns-clause-ends
returns-clause-ends g c = c.answer.ensures.ends

pub returns-clause-source : goal.returns-clause-source
returns-clause-source g c = c.answer.ensures.source

pub returns-clause-reads : goal.returns-clause-reads
returns-clause-reads g c = c.answer.ensures.ends.reads

pub returns-clause-usage : goal.returns-clause-usage
returns-clause-usage g c = (
  λ e. (ended _ _ _ _ status.Usage c.answer.ensures.ends e).0,
  λ e. usage_there _ _ _ _ c.answer.ensures.ends e,
)

pub returns-clause-read_fault : goal.returns-clause-read_fault
returns-clause-read_fault g c = λ e.
    let so = ended _ _ _ _ status.ReadFault c.answer.ensures.ends e in (so.0, so.1)

pub returns-clause-too_long : goal.returns-clause-too_long
returns-clause-too_long g c = λ e.
    let so = ended _ _ _ _ status.TooLong c.answer.ensures.ends e in (so.0, so.1)

pub returns-clause-refused : goal.returns-clause-refused
returns-clause-refused g c = λ r e. refused_so _ _ _ _ r c.answer.ensures.ends e

pub returns-clause-offence : goal.returns-clause-offence
returns-clause-offence g c = λ o e. offence_so _ _ _ _ o c.answer.ensures.ends e

pub returns-clause-text : goal.returns-clause-text
returns-clause-text g c = said_so _ _ _ _ c.answer.ensures.ends

pub returns-clause-script : goal.returns-clause-script
returns-clause-script g c = of_run _ _ _ (λ m r. r.script) c.answer.ensures.ends.run

pub returns-clause-legal : goal.returns-clause-legal
returns-clause-legal g c = of_run _ _ _ (λ m r. r.run.legal) c.answer.ensures.ends.run

pub returns-clause-clean : goal.returns-clause-clean
returns-clause-clean g c = of_run _ _ _ (λ m r. r.run.clean) c.answer.ensures.ends.run

pub returns-clause-drives : goal.returns-clause-drives
returns-clause-drives g c = of_run _ _ _ (λ m r. r.run.drives) c.answer.ensures.ends.run

pub returns-clause-faults : goal.returns-clause-faults
returns-clause-faults g c = of_run _ _ _ (λ m r. r.run.faults) c.answer.ensures.ends.run

pub returns-clause-booted : goal.returns-clause-booted
returns-clause-booted g c = c.answer.ensures.ends.booted

pub returns-clause-no_machine : goal.returns-clause-no_machine
returns-clause-no_machine g c = c.answer.ensures.ends.only

pub returns-clause-complete : goal.returns-clause-complete
returns-clause-complete g c = λ asks printed. shut_down _ _ _ _ _ (λ m s. s.complete) c.answer.ensures.ends asks printed

pub returns-clause-settled : goal.returns-clause-settled
returns-clause-settled g c = λ asks printed. shut_down _ _ _ _ _ (λ m s. s.settled) c.answer.ensures.ends asks printed

pub returns-clause-disk : goal.returns-clause-disk
returns-clause-disk g c = λ asks printed. shut_down _ _ _ _ _ (λ m s. s.disk) c.answer.ensures.ends asks printed

pub returns-clause-stayed : goal.returns-clause-stayed
returns-clause-stayed g c = λ asks printed. shut_down _ _ _ _ _ (λ m s. s.told) c.answer.ensures.ends asks printed

pub returns-clause-listing : goal.returns-clause-listing
returns-clause-listing g c = λ asks printed. listed_so _ _ _ _ c.answer.ensures.ends asks printed

pub returns-clause-accepted : goal.returns-clause-accepted
returns-clause-accepted g c = λ asks printed. accepted_so _ _ _ _ c.answer.ensures.ends asks printed

pub returns-clause-made : goal.returns-clause-made
returns-clause-made g c = λ n asks. made_so _ _ _ _ n c.answer.ensures.ends asks

pub returns-clause-drilled : goal.returns-clause-drilled
returns-clause-drilled g c = λ p f n seed asks. drilled_so _ _ _ _ p f n seed c.answer.ensures.ends asks

pub returns-clause-finds_too_long : goal.returns-clause-finds_too_long
returns-clause-finds_too_long g c = λ asks fine. by_verdict _ _ _ _ (verdict _ _ _ _ c.answer.ensures.ends asks fine)
    (λ bytes v. found_long _ _ _ v)

pub returns-clause-finds_refused : goal.returns-clause-finds_refused
returns-clause-finds_refused g c = λ asks fine. by_verdict _ _ _ _ (verdict _ _ _ _ c.answer.ensures.ends asks fine)
    (λ bytes v. found_refused _ _ _ v)

pub returns-clause-completes : goal.returns-clause-completes
returns-clause-completes g c = λ asks fine whole. by_verdict _ _ _ _ (verdict _ _ _ _ c.answer.ensures.ends asks fine)
    (λ bytes v. found_done _ _ _ v whole)

pub returns-clause-finds_long_listing : goal.returns-clause-finds_long_listing
returns-clause-finds_long_listing g c = λ asks fine. found_checked_long _ _ _ _ c.answer.ensures.ends asks fine

pub returns-clause-finds_fault : goal.returns-clause-finds_fault
returns-clause-finds_fault g c = λ asks fine. found_fault _ _ _ _ c.answer.ensures.ends asks fine

pub returns-clause-accepts : goal.returns-clause-accepts
returns-clause-accepts g c = λ asks fine whole. found_accepted _ _ _ _ c.answer.ensures.ends asks fine whole
