-- What the keeper and the passes know of doors, stamps and acknowledgements, as plain data.
-- Source: own. The problem is that of Bensoussan, Clingen and Daley 1972: once a table entry has changed, every
-- processor's associative memory is cleared before what the entry named is used again.
use Rattle.std.specs.Prelude.{◌≡◌, ℕ, zero, suc, ◌+◌, ◌%◌, ◌<◌, ◌≤◌, ◌⊎◌, List, [], ◌∷◌, ◌++◌, length, replicate, slice_index, slice_index_or, slice_set, All, None, Some}
use Rattle.atomic_table.specs.Seated.{TableId}
use Rattle.live_doors.specs.declared.views.Walk.{Walk}
use Rattle.live_doors.specs.declared.views.Watch.{Watch}

-- which table it is, and how many frames and processors it has
pub record DoorsModel : Type 0 where
  pub table : TableId
  pub frames : ℕ
  pub cpus : ℕ

-- the table that the pass came with, and what the pass knows
pub record PassModel : Type 0 where
  pub table : TableId
  pub walk : Walk

-- the table that the keeper came with, what the keeper knows, and the greatest stamp for which all was clear
pub record KeeperModel : Type 0 where
  pub table : TableId
  pub watch : Watch
  pub cleared : ℕ

-- the pass came with these doors
pub record IsPassOf (doors : DoorsModel) (pass : PassModel) : Type 0 where
  pub table : pass.table ≡ doors.table
  pub frames : length pass.walk.held ≡ doors.frames
  pub cpu : pass.walk.cpu < doors.cpus

-- the keeper came with these doors
pub record IsKeeperOf (doors : DoorsModel) (keeper : KeeperModel) : Type 0 where
  pub table : keeper.table ≡ doors.table
  pub frames : length keeper.watch.doors ≡ doors.frames
  pub since : length keeper.watch.since ≡ doors.frames
  pub cpus : length keeper.watch.noted ≡ doors.cpus

-- At the start no pass is made, no stamp raised and nothing acknowledged, and every door has this word.
abbrev pub first_watch : ℕ → ℕ → ℕ → Watch
first_watch frames cpus door = record {
  made = 0;
  request = 0;
  doors = replicate frames door;
  since = replicate frames 0;
  noted = replicate cpus 0;
  looks = 0;
  looked_at = 0;
  last = 0;
}

-- the keeper once every pass is made
abbrev pub opening_watch : ℕ → ℕ → ℕ → Watch
opening_watch frames cpus door = record (first_watch frames cpus door) { made = cpus }

-- a new pass, which holds nothing
abbrev pub blank : ℕ → ℕ → Walk
blank frames cpu = record {
  cpu = cpu;
  held = replicate frames None;
  stamp = 0;
  acked = 0;
  looks = 0;
  looked_at = 0;
  last = 0;
}

-- the first n passes of these doors, each new, in order of processor
abbrev pub first_passes : DoorsModel → ℕ → List PassModel
first_passes doors zero = []
first_passes doors (suc n) = first_passes doors n ++ record { table = doors.table; walk = blank doors.frames n } ∷ []

-- Doors of this size that all have one word, with their keeper and the passes of all processors, in order: no pass
-- holds anything, no stamp is raised, and nothing is acknowledged or cleared.
pub record AreNew (frames cpus door : ℕ) (doors : DoorsModel) (keeper : KeeperModel) (passes : List PassModel)
    : Type 0 where
  pub size : (doors.frames ≡ frames) × (doors.cpus ≡ cpus)
  pub keeper_of : IsKeeperOf doors keeper
  pub watch : (keeper.watch ≡ opening_watch frames cpus door) × (keeper.cleared ≡ 0)
  pub first : passes ≡ first_passes doors cpus
  pub passes_of : All (IsPassOf doors) passes

-- the pass holds an entry of frame f
abbrev pub HoldsEntry : Walk → ℕ → Type 0
HoldsEntry p f = (b : ℕ) × (slice_index_or p.held f None ≡ Some b)

-- The word at a place of the table was read. It is counted, and kept as the last one, with its place.
abbrev pub having_read : ℕ → ℕ → Walk → Walk
having_read at word p = record p { looks = p.looks + 1; looked_at = at; last = word }

-- an entry of frame f, of binding b, is held
abbrev pub holding : ℕ → ℕ → Walk → Walk
holding f b p = record p { held = slice_set p.held f (Some b) }

-- the stamp was read, in word 0, and nothing is held
abbrev pub forgotten : ℕ → Walk → Walk
forgotten stamp p = record (having_read 0 stamp p) { held = replicate (length p.held) None; stamp = stamp }

-- the processor's own word has the stamp of the last `forget`
abbrev pub acknowledged : Walk → Walk
acknowledged p = record p { acked = p.stamp }

-- the door of frame f admits a binding
abbrev pub IsAdmitted : Watch → ℕ → Type 0
IsAdmitted w f = slice_index w.doors f % 2 ≡ 0

-- the door of frame f is closed
abbrev pub IsShut : Watch → ℕ → Type 0
IsShut w f = slice_index w.doors f % 2 ≡ 1

-- the door of frame f was admitted, and is closed as of the last stamp
abbrev pub shut : ℕ → Watch → Watch
shut f w = record w { doors = slice_set w.doors f (slice_index w.doors f + 1); since = slice_set w.since f w.request }

-- the next stamp is raised
abbrev pub raised : Watch → Watch
raised w = record w { request = w.request + 1 }

-- the acknowledgement of a processor was read, at this place of the table
abbrev pub having_noted : ℕ → ℕ → ℕ → Watch → Watch
having_noted at cpu word w = record w {
  noted = slice_set w.noted cpu word;
  looks = w.looks + 1;
  looked_at = at;
  last = word;
}

-- only acknowledgements were read between these two
pub record OnlyNoted (old new : Watch) : Type 0 where
  pub made : new.made ≡ old.made
  pub request : new.request ≡ old.request
  pub doors : new.doors ≡ old.doors
  pub since : new.since ≡ old.since

-- from each processor an acknowledgement of at least this stamp was noted
abbrev pub HasNoted : Watch → ℕ → Type 0
HasNoted w stamp = (cpu : ℕ) → cpu < length w.noted → stamp ≤ slice_index w.noted cpu

-- Frame f was never bound, or it is closed, and all was clear for a stamp that was raised since.
abbrev pub MayBind : Watch → ℕ → ℕ → Type 0
MayBind w cleared f = (slice_index w.doors f ≡ 1) ⊎ (IsShut w f × (slice_index w.since f < cleared))
