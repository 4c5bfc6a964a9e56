use Rattle.vtoc.proofs.Prelude.{list_all, take, ◌==◌, ◌≡◌}
use Rattle.vtoc.proofs.file_map.name_no_record.Given as goal

abbrev pub invariant-loop-p : goal.invariant-loop-p
invariant-loop-p l = l.none ≡ list_all (λ code. code == 65535) (take l.p l.codes)
