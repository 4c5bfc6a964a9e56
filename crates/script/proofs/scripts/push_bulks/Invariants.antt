use Rattle.script.proofs.Prelude.{◌≡◌, ◌++◌, take, flat_map, string_bytes, bulk_text, ended}
use Rattle.script.proofs.scripts.push_bulks.Given as goal

abbrev pub invariant-loop-bulk : goal.invariant-loop-bulk
invariant-loop-bulk l = string_bytes l.out ≡ string_bytes l.fn.out
    ++ flat_map (λ b. ended (bulk_text l.volumes b)) (take l.bulk-index l.bulks)
