use Rattle.seg_control.proofs.Prelude.{IsActive, link_at, ℕ, ◌<◌}
use Rattle.seg_control.proofs.activating.first_inactive.Given as goal

abbrev pub invariant-loop-i : goal.invariant-loop-i
invariant-loop-i l = record { before : (j : ℕ) → j < l.i → IsActive l.ast.entries (link_at l.chain j).uid }
