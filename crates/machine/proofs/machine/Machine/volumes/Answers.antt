use Rattle.machine.proofs.Prelude.{rules, ◌∙◌, ap, length, map, sym, length-map, Storage}
use Rattle.machine.proofs.Laws.{entries_taken, records_taken, on_volumes, records_still, vtocs_still, drive_size}
use Rattle.machine.proofs.machine.Machine.volumes.Goals as goal

pub returns : goal.returns
returns g c =
    let s = c.self.inside.tables.state in
    let keeps = c.self.invariant.keeps.machine.keeps in
    let disks = ap (map g.D.Drive.pages) (c.volumes-volumes.ensures.drives ∙ sym c.store.ensures.drives)
    ∙ ap (λ (st : Storage). st.pages.disks) c.store.ensures.store in
    rw (← c.self.view_is) (record {
      sizes = drive_size g.D.Drive.pages c.self.inside.tables.drives s.plan s.store.pages.records s.store.pages.vtocs
          keeps.faithful.script.records c.volumes-volumes.ensures.parts;
      on_disk = λ still. on_volumes s keeps _ _ _ disks (c.volumes-volumes.ensures.records ∙ records_still _ _ still)
          (c.volumes-volumes.ensures.vtocs ∙ vtocs_still _ _ still);
      count = sym (length-map _ g.D.Drive.pages) ∙ (ap length disks ∙ c.self.invariant.drives);
      taken = λ still. records_taken s keeps _ (c.volumes-volumes.ensures.records ∙ records_still _ _ still);
      entries = λ still. entries_taken s keeps _ (c.volumes-volumes.ensures.vtocs ∙ vtocs_still _ _ still);
      drives = search rules;
      records = search rules;
      vtocs = search rules;
    })
