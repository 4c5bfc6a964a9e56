use Rattle.machine.proofs.Prelude.{◌<◌, ◌^◌, ◌∙◌, List, ap, arith, length, rules, Entry}
use Rattle.machine.proofs.AccountLaws.{few_told}
use Rattle.machine.proofs.machine.Machine.book.Goals as goal

pub returns-clause-conserved : goal.returns-clause-conserved
returns-clause-conserved g c = rw (c.book-book.ensures.script, c.book-book.ensures.entries)
    c.self.invariant.keeps.machine.keeps.conserved

pub returns-clause-few : goal.returns-clause-few
returns-clause-few g c =
    let short : length c.entries-entries.result.now < 2 ^ 63 = search rules in
    let same = ap (λ (es : List Entry). length es) c.entries-entries.ensures in
    omega arith

pub returns-clause-faults : goal.returns-clause-faults
returns-clause-faults g c =
    let short : length c.entries-entries.result.now < 2 ^ 63 = search rules in
    let same = ap (λ (es : List Entry). length es) (c.entries-entries.ensures ∙ c.book-book.ensures.entries) in
    rw (c.book-book.ensures.entries, ← c.self.view_is) (few_told c.self.inside.tables.state
    c.self.invariant.keeps.machine.keeps _ (omega arith) c.promise.ensures.faults)
