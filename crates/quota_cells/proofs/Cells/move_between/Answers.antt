use Rattle.quota_cells.proofs.Prelude.{◌≡◌, ◌≤◌, true, false, None, sym, ◌∙◌, w32, arith, to_z-of_z, is_positive, unsigned_abs, common_steps, above, giver_of, shapes, first_over, move_answer, moved, quota_in}
use Rattle.quota_cells.proofs.TransferLaws.{may_go}
use Rattle.quota_cells.proofs.Cells.move_between.Goals as goal

-- the pages that go down to the directory are there, and leave no account above its quota
down : (c : goal.After-unsigned_abs)
    → (c.unsigned_abs.result ≤ quota_in c.args.self.now (giver_of (above (shapes c.args.t.now.nodes)) c.args.dir true))
    × (first_over (moved c.args.self.now (above (shapes c.args.t.now.nodes)) c.args.dir true c.unsigned_abs.result)
    ≡ None)
down c =
    let back = to_z-of_z w32 c.args.amount c.ranges.amount in
    may_go c.args.self.now (above (shapes c.args.t.now.nodes)) c.args.dir (unsigned_abs c.args.amount)
    (is_positive c.args.amount) (rw back at c.move_refusal.ensures.answer) c.in_ok-move_refusal.was true
    (sym (rw back at c.is_positive.ensures) ∙ c.if-is_positive.true) c.unsigned_abs.result
    (rw back at c.unsigned_abs.ensures.value)

-- and so with those that go up from it
up : (c : goal.After-unsigned_abs-else-is_positive) → (c.unsigned_abs-else-is_positive.result
    ≤ quota_in c.args.self.now (giver_of (above (shapes c.args.t.now.nodes)) c.args.dir false))
    × (first_over (moved c.args.self.now (above (shapes c.args.t.now.nodes)) c.args.dir false
    c.unsigned_abs-else-is_positive.result) ≡ None)
up c =
    let back = to_z-of_z w32 c.args.amount c.ranges.amount in
    may_go c.args.self.now (above (shapes c.args.t.now.nodes)) c.args.dir (unsigned_abs c.args.amount)
    (is_positive c.args.amount) (rw back at c.move_refusal.ensures.answer) c.in_ok-move_refusal.was false
    (sym (rw back at c.is_positive.ensures) ∙ c.if-is_positive.false) c.unsigned_abs-else-is_positive.result
    (rw back at c.unsigned_abs-else-is_positive.ensures.value)

pub transfer-requires-clause-none : goal.transfer-requires-clause-none
transfer-requires-clause-none c = rw c.requires.lies.is at (down c).1

pub transfer-requires-else-is_positive-clause-none : goal.transfer-requires-else-is_positive-clause-none
transfer-requires-else-is_positive-clause-none c = rw c.requires.lies.is at (up c).1

pub transfer-requires-clause-enough : goal.transfer-requires-clause-enough
transfer-requires-clause-enough c = rw c.requires.lies.is at (down c).0

pub transfer-requires-else-is_positive-clause-enough : goal.transfer-requires-else-is_positive-clause-enough
transfer-requires-else-is_positive-clause-enough c = (up c).0

pub returns-in_err-move_refusal-clause-answer : goal.returns-in_err-move_refusal-clause-answer
returns-in_err-move_refusal-clause-answer c =
    let back = to_z-of_z w32 c.args.amount c.ranges.amount in
    let answer : c.move_refusal.result ≡ move_answer c.args.self.now (above (shapes c.args.t.now.nodes)) c.args.dir
    (is_positive c.args.amount) (unsigned_abs c.args.amount) = rw back at c.move_refusal.ensures.answer in
    grind (arith, common_steps)

pub returns-then-is_positive-clause-answer : goal.returns-then-is_positive-clause-answer
returns-then-is_positive-clause-answer c = sym c.in_ok-move_refusal.was
    ∙ rw (to_z-of_z w32 c.args.amount c.ranges.amount) at c.move_refusal.ensures.answer

pub returns-else-is_positive-clause-answer : goal.returns-else-is_positive-clause-answer
returns-else-is_positive-clause-answer c = sym c.in_ok-move_refusal.was
    ∙ rw (to_z-of_z w32 c.args.amount c.ranges.amount) at c.move_refusal.ensures.answer
