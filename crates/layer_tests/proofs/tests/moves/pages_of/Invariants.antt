use Rattle.layer_tests.proofs.Prelude.{count_by, is_some, map_at, take, ◌≡◌}
use Rattle.layer_tests.proofs.tests.moves.pages_of.Given as goal

abbrev pub invariant-loop-p : goal.invariant-loop-p
invariant-loop-p l = l.pages ≡ count_by is_some (take l.p (map_at l.v l.home))
