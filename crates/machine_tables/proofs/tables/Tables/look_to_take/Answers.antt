use Rattle.machine_tables.proofs.Prelude.{◌∙◌, descriptors_taken, first_taken, frames_taken, take_or_commit, what_taken, Storage}
use Rattle.machine_tables.proofs.tables.Tables.look_to_take.Goals as goal

pub returns-in-None : goal.returns-in-None
returns-in-None g c =
    let st : Storage = c.args.self.now.state.store in
    c.take_or_commit.ensures ∙ c.in-None.ensures c.args.process
    (take_or_commit (frames_taken st c.args.uid (first_taken c.args.command.now))
    (descriptors_taken st c.args.process c.args.uid c.args.command.now) (what_taken c.args.uid c.args.command.now))
