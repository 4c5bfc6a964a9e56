use Rattle.quota_cells.proofs.Prelude.{arith, common_steps, ◌≡◌, w32, to_z-of_z, is_positive, unsigned_abs, above, shapes, move_answer, nat_tests}
use Rattle.quota_cells.proofs.FitLaws.{Settled}
use Rattle.quota_cells.proofs.ScratchLaws.{AfterMove, after_move, answer_same, stored_kept}
use Rattle.quota_cells.proofs.Cells.move_quota.Goals as goal

settled : (c : goal.After-move_between) → Settled c.args.t.now.nodes c.args.self.now
settled c = assumption

answered : (c : goal.After-move_between) → c.move_between.result
    ≡ move_answer c.args.self.now (above (shapes c.args.t.now.nodes)) c.args.dir (is_positive c.args.amount)
    (unsigned_abs c.args.amount)
answered c = rw (to_z-of_z w32 c.args.amount c.ranges.amount) at c.move_between.ensures.answer

kept : (c : goal.After-move_between)
    → AfterMove c.args.t.now.nodes c.args.self.now c.move_between.new.self c.args.dir (unsigned_abs c.args.amount)
    (is_positive c.args.amount) c.move_between.result
kept c = after_move (settled c) c.requires.directory c.requires.branch c.requires.amount (is_positive c.args.amount)
    c.move_between.result (answered c) (rw (to_z-of_z w32 c.args.amount c.ranges.amount) at c.move_between.ensures.ok)
    c.move_between.ensures.err

pub returns-clause-scratch : goal.returns-clause-scratch
returns-clause-scratch c stored holds = grind (arith, nat_tests, common_steps, answered, answer_same, settled)

pub returns-clause-tree : goal.returns-clause-tree
returns-clause-tree c = (kept c).shown

pub returns-clause-stored : goal.returns-clause-stored
returns-clause-stored c s = grind (arith, nat_tests, common_steps, stored_kept)

pub returns-clause-fits : goal.returns-clause-fits
returns-clause-fits c = (kept c).fits

pub returns-clause-total : goal.returns-clause-total
returns-clause-total c = (kept c).total
