use Rattle.active_segs.proofs.Prelude.{entry_at, find, off_chain, places_from, ◌≡◌}
use Rattle.active_segs.proofs.victim.first_off_chain.Given as goal

abbrev pub invariant-loop-place : goal.invariant-loop-place
invariant-loop-place l = find (λ place. off_chain l.chain (entry_at l.entries place)) (places_from l.place l.fn.to)
    ≡ find (λ place. off_chain l.chain (entry_at l.entries place)) (places_from l.fn.from l.fn.to)
