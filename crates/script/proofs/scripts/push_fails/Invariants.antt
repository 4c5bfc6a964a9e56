use Rattle.script.proofs.Prelude.{◌≡◌, ◌++◌, take, flat_map, string_bytes, ended, fail_text}
use Rattle.script.proofs.scripts.push_fails.Given as goal

abbrev pub invariant-loop-fail : goal.invariant-loop-fail
invariant-loop-fail l = string_bytes l.out ≡ string_bytes l.fn.out
    ++ flat_map (λ f. ended (fail_text l.volumes f)) (take l.fail-index l.fails)
