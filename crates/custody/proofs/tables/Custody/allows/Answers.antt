use Rattle.custody.proofs.tables.Custody.allows.Goals as goal

pub returns-in-Deactivate : goal.returns-in-Deactivate
returns-in-Deactivate c = λ s shown nodes. rw c.in-Deactivate.is (c.may_deactivate.ensures s nodes)

pub returns-in-Signal : goal.returns-in-Signal
returns-in-Signal c = λ s shown nodes. rw c.in-Signal.is (c.may_signal.ensures c.args.script.now)
