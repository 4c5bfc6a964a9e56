use Rattle.live_pages.proofs.Prelude.{first_passes, watching, ◌≡◌, ◌≤◌}
use Rattle.live_pages.proofs.opening.admit_all.Given as goal

abbrev pub invariant-loop-cpu : goal.invariant-loop-cpu
invariant-loop-cpu l = (l.keeper ≡ record l.fn.keeper {
  holder = watching (λ w. record w { made = l.cpu }) l.fn.keeper.holder;
}) × (l.passes.items ≡ first_passes l.fn.pages l.cpu) × (l.cpu ≤ l.fn.pages.cpus)
