use Rattle.std.proofs.lemmas.Grind.{common_steps}
use Rattle.custody.proofs.Prelude.{arith, nat_tests, ◌≡◌, ◌+◌, eqb}
use Rattle.custody.proofs.LookLaws.{row_free_decides}
use Rattle.custody.proofs.descriptors.Descriptors.are_free.Goals as goal

pub returns-then-staying-eq0 : goal.returns-then-staying-eq0
returns-then-staying-eq0 c = grind (arith, nat_tests, common_steps, row_free_decides)

pub returns-else-staying-eq0 : goal.returns-else-staying-eq0
returns-else-staying-eq0 c =
    let n = c.staying-staying.result in
    let m = c.going-going.result in
    let same : eqb n 0 ≡ eqb (n + m) 0 = (let some = c.if-staying-eq0.false in grind (arith, nat_tests)) in
    rw same (row_free_decides c.self.view_is c.self.invariant c.staying-staying.ensures c.going-going.ensures)
