use Rattle.clean_reasons.proofs.Prelude.{◌≡◌, ◌<◌, ℕ, false, custody_of, seat_passes}
use Rattle.clean_reasons.proofs.seeking.least_cpu.Given as goal

-- no processor so far is looked for
abbrev pub invariant-loop-cpu : goal.invariant-loop-cpu
invariant-loop-cpu l = (d : ℕ) → d < l.cpu → seat_passes l.seek ((custody_of l.custody).seat d) ≡ false
