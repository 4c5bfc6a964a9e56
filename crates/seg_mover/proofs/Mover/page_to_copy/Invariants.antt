use Rattle.seg_mover.proofs.Prelude.{first_to_copy, map_at, page_to_copy, ◌-◌, ◌≡◌}
use Rattle.seg_mover.proofs.Mover.page_to_copy.Given as goal

abbrev pub invariant-loop-p : goal.invariant-loop-p
invariant-loop-p g l = first_to_copy (map_at l.v l.self.from) l.skip (256 - l.p) l.p ≡ page_to_copy l.v l.self l.skip
