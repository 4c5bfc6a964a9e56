use Rattle.vtoc.proofs.Prelude.{ap, sym, table_of, ◌∙◌}
use Rattle.vtoc.proofs.Table.{all_used, allocate_empty, allocate_marked, allocate_table, bit_is, count_taken, least_entry, least_same, least_slot}
use Rattle.vtoc.proofs.Vtoc.allocate.Goals as goal

pub give-requires-clause-within : goal.give-requires-clause-within
give-requires-clause-within c = least_slot c.self.invariant c.in_ok-e.ensures.some

pub give-requires-clause-before : goal.give-requires-clause-before
give-requires-clause-before c = λ k lt. sym (bit_is k c.self.invariant) ∙ c.in_ok-e.ensures.some.before k lt

pub invariant_of-self : goal.invariant_of-self
invariant_of-self c =
    rw c.give.ensures (allocate_marked c.self.invariant c.self.view_is c.args.uid c.in_ok-e.ensures.some
    c.take.ensures.flags)

pub returns-in_err-e-clause-least : goal.returns-in_err-e-clause-least
returns-in_err-e-clause-least c = c.from_residual.ensures ∙ c.in_err-e.ensures.least
    ∙ least_same c.self.invariant c.self.view_is

pub returns-in_err-e-clause-none : goal.returns-in_err-e-clause-none
returns-in_err-e-clause-none c = rw c.from_residual.ensures
    (all_used c.self.invariant c.self.view_is c.in_err-e.ensures.none)

pub returns : goal.returns
returns c =
    let some = least_entry c.self.invariant c.self.view_is c.in_ok-e.ensures.some in
    let taken = ap table_of c.give.ensures
    ∙ allocate_table c.self.invariant c.self.view_is c.args.uid c.in_ok-e.ensures.some in
    record {
      least = c.in_ok-e.ensures.least ∙ least_same c.self.invariant c.self.view_is;
      some = some;
      none = tt;
      taken = taken;
      empty = rw taken (allocate_empty c.self.invariant c.self.view_is c.args.uid c.in_ok-e.ensures.some);
      count = rw taken (count_taken c.args.uid some);
      same = tt;
    }
