use Rattle.script.proofs.Prelude.{◌++◌, string_bytes, processes_text}
use Rattle.script.proofs.ScriptSteps.{process_next, processes_end}
use Rattle.script.proofs.scripts.push_processes.Goals as goal

pub loop-process-preserved : goal.loop-process-preserved
loop-process-preserved c = process_next c.args.volumes.now c.loop-process.first c.args.processes.now
    c.loop-process.process-index c.process-item.result (string_bytes c.loop-process.out)
    (string_bytes c.push_process.new.out) (string_bytes c.args.out.now
    ++ processes_text c.args.volumes.now c.args.initializer c.args.processes.now) c.loop-process-test.true
    c.process-item.is c.in_ok-push_process.ensures c.loop-process.invariant

pub returns : goal.returns
returns c = processes_end c.args.volumes.now c.loop-process.first c.args.processes.now c.loop-process.process-index
    (string_bytes c.loop-process.out) (string_bytes c.args.out.now
    ++ processes_text c.args.volumes.now c.args.initializer c.args.processes.now) c.loop-process-test.false
    c.loop-process.invariant
