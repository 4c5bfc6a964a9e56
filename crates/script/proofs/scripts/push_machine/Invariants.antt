use Rattle.script.proofs.Prelude.{◌≡◌, ◌++◌, drop, string_bytes, machine_text, numbers_text}
use Rattle.script.proofs.scripts.push_machine.Given as goal

abbrev pub invariant-loop-places : goal.invariant-loop-places
invariant-loop-places l = string_bytes l.out ++ numbers_text (drop l.places-index l.fn.pools) ≡ string_bytes l.fn.out
    ++ machine_text l.fn.processors l.fn.frames l.fn.pools
