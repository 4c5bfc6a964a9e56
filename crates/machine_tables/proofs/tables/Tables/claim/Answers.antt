use Rattle.machine_tables.proofs.Prelude.{◌≡◌, Some, refl, subst, next_command, State, HasItsSegment}
use Rattle.machine_tables.proofs.tables.Tables.claim.Goals as goal

pub returns-clause-active : goal.returns-clause-active
returns-clause-active g c = λ needs.
    let s : State = c.args.self.now.state in
    let next : next_command s c.args.process ≡ Some c.in-Some.command.now = c.in-Some.ensures.some in
    let its = subst (HasItsSegment s.store c.args.process) next c.requires.segment in
    rw c.uid_of_command-uid.ensures (its (c.cuts_of.ensures.segment (record {
      uid = c.uid_of_command-uid.result;
      low = c.first_taken.result;
      cuts = c.cuts_of.result;
      what = c.what_taken.result;
    }) c.first_taken.ensures refl needs))
