use Rattle.machine.proofs.Prelude.{◌∙◌}
use Rattle.machine.proofs.DiskLaws.{records_still, vtocs_still}
use Rattle.machine.proofs.machine.Machine.volumes_at_rest.Goals as goal

pub returns : goal.returns
returns g c = record {
  records = c.volumes.ensures.records ∙ records_still _ _ c.requires;
  vtocs = c.volumes.ensures.vtocs ∙ vtocs_still _ _ c.requires;
  taken = c.volumes.ensures.taken c.requires;
  entries = c.volumes.ensures.entries c.requires;
  on_disk = c.volumes.ensures.on_disk c.requires;
  drives = c.volumes.ensures.drives;
  count = c.volumes.ensures.count;
  sizes = c.volumes.ensures.sizes;
}
