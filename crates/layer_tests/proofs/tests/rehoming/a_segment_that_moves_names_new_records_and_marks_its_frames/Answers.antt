use Rattle.layer_tests.proofs.Rehomed.{blank, refl}
use Rattle.layer_tests.proofs.tests.rehoming.a_segment_that_moves_names_new_records_and_marks_its_frames.Goals as goal

pub moves-is_moved-requires-clause-blank : goal.moves-is_moved-requires-clause-blank
moves-is_moved-requires-clause-blank g c = rw c.in_ok-t.ensures (blank 256 refl)
