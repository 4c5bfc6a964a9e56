use Rattle.machine.proofs.Prelude.{List, ap, length, ◌∙◌, arith, Entry}
use Rattle.machine.proofs.AloneLaws.{count_room, may_answer}
use Rattle.machine.proofs.machine.Machine.to_answer.Goals as goal

pub returns : goal.returns
returns g c =
    let its = rw (← c.self.view_is) at c.busy-process.ensures in
    let less = count_room c.self.invariant c.args.c its in
    let same = c.len-entries.ensures ∙ ap (λ (es : List Entry). length es) c.book.ensures.entries in
    let fits = c.len-entries.type_inv in
    rw (← c.self.view_is) (may_answer c.self.invariant c.args.c its
    (rw c.self.view_is c.requires.does.there) (omega arith))
