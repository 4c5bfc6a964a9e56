use Rattle.lab_runs.proofs.counting.add_drawn.Goals as goal

pub returns : goal.returns
returns c = c.add_end-added.ensures c.args.script c.in_ok-machine.ensures
