-- What the steps of a move change: a segment gets a home on another volume, its pages are copied there one after the
-- other, and last the home that it had is given up; or, where a drive failed, the new one (own).
use Rattle.std.specs.Prelude.{ℕ, ◌+◌, List, [], ◌∷◌, Some, None}
use Rattle.book.specs.declared.entries.Entry.TheVariants as entry
use Rattle.book.specs.declared.replies.Reply.TheVariants as reply
use Rattle.accounts.specs.Maps.{rehomed as accounts_rehomed}
use Rattle.page_control.specs.Moves.{all_modified, rehomed}
use Rattle.page_control.specs.Plain.{Plain}
use Rattle.volumes.specs.Volumes.{Vols}
use Rattle.seg_mover.specs.declared.Mover.{Mover}
use Rattle.seg_mover.specs.Copies.{copied}
use Rattle.seg_mover.specs.Homes.{map_at}
use Rattle.seg_mover.specs.Moves.{begun, committed, mover_for}
use Rattle.seg_control.specs.Control.{table_of}
use Rattle.seg_control.specs.Effects.{tabled}
use Rattle.seg_control.specs.Moving.{pair_of, volumes_of}
use Rattle.machine_model.specs.declared.Phase.TheVariants as phase
use Rattle.machine_model.specs.Reads.{home_in, process_at}
use Rattle.machine_model.specs.State.{Owner, State, Storage}
use Rattle.machine_model.specs.Steps.{booked, fault_told, looking, told, with_owner, with_pages, with_store}

-- a processor owns the supervisor, and moves a segment
abbrev pub moving : ℕ → Mover → Owner
moving c m = record { cpu = c; phase = phase.Moving m; frames = []; cut = [] }

-- the volumes while a segment moves, with the home that the move has taken there
abbrev pub volumes_in : Plain → Mover → Vols (List (List ℕ))
volumes_in pages m = begun (volumes_of pages) m.uid m.from m.to.0

-- the move of a segment from its home to a volume
abbrev pub mover_to : Storage → ℕ → ℕ → Mover
mover_to st uid volume = mover_for (volumes_of st.pages) uid (pair_of (home_in st uid)) volume

abbrev pub with_move : Storage → Mover → Storage
with_move st m = record st { moving = Some m }

abbrev pub without_move : Storage → Storage
without_move st = record st { moving = None }

-- the move begins
abbrev pub move_begun : State → ℕ → ℕ → ℕ → State
move_begun s c uid volume =
    let m = mover_to s.store uid volume in with_owner (with_store s (with_move s.store m)) (Some (moving c m))

-- page p is copied, and the next one is past it
abbrev pub past_page : Mover → ℕ → Mover
past_page m p = record m { next = p + 1 }

abbrev pub with_copy : Storage → Mover → ℕ → Storage
with_copy st m p =
    with_move (with_pages st (record st.pages { disks = copied st.pages.disks (volumes_in st.pages m) m p }))
    (past_page m p)

abbrev pub page_copied : State → ℕ → Mover → ℕ → State
page_copied s c m p = with_owner (with_store s (with_copy s.store m p)) (Some (moving c (past_page m p)))

-- a drive failed: the process is told, what the move has taken is given back, and the supervisor is given up
abbrev pub copy_failed : State → ℕ → ℕ → State
copy_failed s c faults =
    let told_of = fault_told (with_store s (without_move s.store)) (Some (process_at s c)) faults in
    with_owner (told told_of c None reply.Device) None

-- the segment has its home on the other volume, and the look is made again
abbrev pub pages_moved : Plain → Mover → Plain
pages_moved pages m =
    let vols = committed (volumes_in pages m) m in
    record pages { core = all_modified pages.core m.uid; records = vols.records; vtocs = vols.vtocs }

abbrev pub with_moved : Storage → Mover → Storage
with_moved st m = record st {
  accounts = accounts_rehomed st.accounts m.uid m.to.0 m.to.1;
  pages = pages_moved st.pages m;
  ast = tabled st.ast m.uid (rehomed (table_of st.ast m.uid) (map_at (volumes_in st.pages m) m.to));
  moving = None;
}

abbrev pub move_committed : State → ℕ → Mover → State
move_committed s c m =
    booked (with_owner (with_store s (with_moved s.store m)) (Some (looking c)))
    (entry.Moved (process_at s c) m.uid m.to.0 ∷ [])
