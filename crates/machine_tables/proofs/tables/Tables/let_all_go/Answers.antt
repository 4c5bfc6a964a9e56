use Rattle.machine_tables.proofs.LetLaws.{all_gone}
use Rattle.machine_tables.proofs.tables.Tables.let_all_go.Goals as goal

pub returns-clause-effect : goal.returns-clause-effect
returns-clause-effect g c = all_gone c.args.self.now c.let_pages_go.new.self c.let_descriptors_go.new.self
    c.note_inactive.new.self c.args.kept c.args.inactive c.let_pages_go.ensures.effect c.let_pages_go.ensures.cut
    c.let_descriptors_go.ensures.effect c.note_inactive.ensures
