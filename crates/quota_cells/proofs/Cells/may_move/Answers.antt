use Rattle.quota_cells.proofs.Prelude.{◌≡◌, ◌∙◌, w32, to_z-of_z, is_positive, unsigned_abs, above, shapes, move_answer}
use Rattle.quota_cells.proofs.FitLaws.{Settled}
use Rattle.quota_cells.proofs.ScratchLaws.{answer_same}
use Rattle.quota_cells.proofs.Cells.may_move.Goals as goal

pub returns : goal.returns
returns c stored holds =
    let back = to_z-of_z w32 c.args.amount c.ranges.amount in
    let is : c.move_refusal.result ≡ move_answer c.args.self.now (above (shapes c.args.t.now.nodes)) c.args.dir
    (is_positive c.args.amount) (unsigned_abs c.args.amount) = rw back at c.move_refusal.ensures.answer in
    let settled : Settled c.args.t.now.nodes c.args.self.now = assumption in
    is ∙ answer_same settled c.requires.directory c.requires.branch c.requires.amount stored holds
    (is_positive c.args.amount)
