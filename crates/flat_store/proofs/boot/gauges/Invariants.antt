use Rattle.flat_store.proofs.Prelude.{◌≡◌, map, take, entries_gauge, records_gauge}
use Rattle.flat_store.proofs.boot.gauges.Given as goal

-- the gauges of the volumes so far
abbrev pub invariant-loop-volume : goal.invariant-loop-volume
invariant-loop-volume l = record {
  records : l.records.items ≡ map records_gauge (take l.volume-index l.volumes);
  entries : l.entries.items ≡ map entries_gauge (take l.volume-index l.volumes);
}
