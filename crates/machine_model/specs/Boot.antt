-- The machine at first: the root alone, every frame free, nothing active, known or connected, and no processor takes
-- part.
use Rattle.std.specs.Prelude.{ℕ, Bool, false, map, length, replicate, slice_set, sum, List, [], ◌∷◌, Option, None}
use Rattle.script.specs.Plans.{Plan}
use Rattle.script.specs.declared.plan.VolumeLine.{VolumeLine}
use Rattle.accounts.specs.Maps.{root_alone}
use Rattle.vtoc.specs.Vtoc.{Entry as VtocEntry, fresh_entry}
use Rattle.core_map.specs.declared.Frame.TheVariants as frame
use Rattle.page_control.specs.Plain.{Plain}
use Rattle.active_segs.specs.Active.{no_segments}
use Rattle.seg_control.specs.Effects.{no_links}
use Rattle.custody_model.specs.Custody.{ready_at_first}
use Rattle.machine_model.specs.declared.Run.{Run}
use Rattle.machine_model.specs.State.{State, Storage}
use Rattle.machine_model.specs.Reads.{no_processor}

-- no record of a volume is in use, and of its entries that of the root alone, the first of the first volume
abbrev pub unused_records : List VolumeLine → List (List Bool)
unused_records volumes = map (λ v. replicate v.records false) volumes

abbrev pub unused_entries : VolumeLine → List (Option VtocEntry)
unused_entries v = replicate v.entries None

abbrev pub first_vtocs : List VolumeLine → List (List (Option VtocEntry))
first_vtocs [] = []
first_vtocs (v ∷ vs) = slice_set (unused_entries v) 0 (fresh_entry 1) ∷ map unused_entries vs

-- the frames hold these words, and the drives these pages
abbrev pub first_pages : Plan → List (List ℕ) → List (List (List ℕ)) → Plain
first_pages p words disks = record {
  core = record { frames = replicate p.frames frame.Free; hand = 0 };
  frames = words;
  disks = disks;
  records = unused_records p.volumes;
  vtocs = first_vtocs p.volumes;
}

abbrev pub first_store : Plan → List (List ℕ) → List (List (List ℕ)) → Storage
first_store p words disks = record {
  accounts = root_alone 0 0 p.quota;
  pages = first_pages p words disks;
  ast = no_segments p.pools;
  links = no_links (sum p.pools) (length p.processes);
  whos = map (λ x. x.who) p.processes;
  moving = None;
}

-- a process before its first command
abbrev pub first_run : Run
first_run = record { place = 0; tries = 0; ended = false }

-- before the first entry, over a store: each process at its first command, and no processor takes part
abbrev pub first_state : Plan → Storage → ℕ → ℕ → State
first_state p st spare faults = record {
  plan = p;
  entries = [];
  spare = spare;
  store = st;
  runs = replicate (length p.processes) first_run;
  ready = ready_at_first p;
  processors = replicate p.processors no_processor;
  owner = None;
  stopped = false;
  visited = 0;
  faults = faults;
}

abbrev pub booted : Plan → List (List ℕ) → List (List (List ℕ)) → State
booted p words disks = first_state p (first_store p words disks) 0 0
