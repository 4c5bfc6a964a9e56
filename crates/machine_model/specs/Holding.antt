-- What custody sees of a machine between two steps, and the custody that its tables show.
use Rattle.std.specs.Prelude.{ℕ, List, Option, None}
use Rattle.core_map.specs.CoreMap.{reads_of}
use Rattle.descriptor_seg.specs.declared.Sdw.{Sdw}
use Rattle.descriptor_seg.specs.declared.Sdw.TheVariants as sdw
use Rattle.active_segs.specs.declared.Entry.{Entry}
use Rattle.active_segs.specs.Active.{uid_at}
use Rattle.page_control.specs.Plain.{bindings, binding_at}
use Rattle.seg_control.specs.Control.{word_of}
use Rattle.seg_control.specs.Kept.{read_at}
use Rattle.custody_model.specs.Custody.{Custody}
use Rattle.machine_model.specs.State.{State}
use Rattle.machine_model.specs.Reads.{descriptor_of, is_active, processor_at, run_at}
use Rattle.machine_model.specs.Seen.{Seen, shown}

-- the segment that a descriptor leads to
abbrev pub led_to : List (Option Entry) → Sdw → Option ℕ
led_to entries sdw.Fault = None
led_to entries (sdw.Present aste mode pages) = uid_at entries aste

abbrev pub seen : State → Seen
seen s = record {
  plan = s.plan;
  entries = s.entries;
  bound = λ f. binding_at (bindings s.store.pages.core) f;
  reads = λ f. read_at (reads_of s.store.pages.core) f;
  words = λ u p. word_of s.store.ast u p;
  active = λ u. is_active s.store.ast u;
  linked = λ k n. led_to s.store.ast.entries (descriptor_of s.store.links k n);
  ready = s.ready;
  processors = λ c. processor_at s.processors c;
  owner = s.owner;
  runs = λ k. run_at s.runs k;
}

-- who holds which entry, by the tables
abbrev pub holding : State → Custody
holding s = shown (seen s)
