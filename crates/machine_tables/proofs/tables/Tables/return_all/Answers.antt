use Rattle.machine_tables.proofs.Prelude.{refl}
use Rattle.machine_tables.proofs.LeftLaws.{relink_after}
use Rattle.machine_tables.proofs.tables.Tables.return_all.Goals as goal

pub return_descriptors-requires-clause-back : goal.return_descriptors-requires-clause-back
return_descriptors-requires-clause-back g c =
    relink_after c.args.self.now c.tell_fault.new.self c.return_pages.new.self _ c.tell_fault.ensures refl refl
    c.return_pages.ensures.effect c.return_pages.ensures.cut c.requires.failing.descriptors
