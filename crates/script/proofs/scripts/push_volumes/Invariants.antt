use Rattle.script.proofs.Prelude.{◌≡◌, ◌++◌, take, flat_map, string_bytes, ended, volume_text}
use Rattle.script.proofs.scripts.push_volumes.Given as goal

abbrev pub invariant-loop-volume : goal.invariant-loop-volume
invariant-loop-volume l = string_bytes l.out ≡ string_bytes l.fn.out
    ++ flat_map (λ v. ended (volume_text v)) (take l.volume-index l.volumes)
