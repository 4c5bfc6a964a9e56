use Rattle.script.proofs.Prelude.{◌≡◌, ◌++◌, drop, string_bytes, processes_text}
use Rattle.script.proofs.scripts.push_processes.Given as goal

abbrev pub invariant-loop-process : goal.invariant-loop-process
invariant-loop-process l = string_bytes l.out ++ processes_text l.volumes l.first (drop l.process-index l.processes)
    ≡ string_bytes l.fn.out ++ processes_text l.volumes l.initializer l.processes
