use Rattle.clean_reasons.proofs.Prelude.{◌≡◌, ◌<◌, ℕ, false, custody_of, frame_passes}
use Rattle.clean_reasons.proofs.seeking.least_frame.Given as goal

-- no frame so far is looked for
abbrev pub invariant-loop-frame : goal.invariant-loop-frame
invariant-loop-frame l = (f : ℕ) → f < l.frame → frame_passes l.seek f ((custody_of l.custody).frame f) ≡ false
