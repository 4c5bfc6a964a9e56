-- What a pass and the keeper have beside their seats, as plain data: rows of the same values that the seats know.
use Rattle.std.specs.Prelude.{◌≡◌, ℕ, ◌+◌, ◌/◌, ◌%◌, ◌<◌, ◌⊎◌, ◌==◌, Bool, true, false, List, length, replicate, Option, Some, None, slice_index, slice_set}
use Rattle.live_doors.specs.declared.views.Walk.{Walk}
use Rattle.live_doors.specs.declared.views.Watch.{Watch}

-- the number of the processor, the entry of each frame, and the stamp that was read last
pub record EntryRows : Type 0 where
  pub cpu : ℕ
  pub held : List (Option ℕ)
  pub stamp : ℕ

-- these entries are those that the pass knows, by the parts of that
pub record AreEntries (e : EntryRows) (number : ℕ) (row : List (Option ℕ)) (last : ℕ) : Type 0 where
  pub cpu : e.cpu ≡ number
  pub held : e.held ≡ row
  pub stamp : e.stamp ≡ last

abbrev pub AreEntriesOf : EntryRows → Walk → Type 0
AreEntriesOf e p = AreEntries e p.cpu p.held p.stamp

abbrev pub no_entries : ℕ → ℕ → EntryRows
no_entries frames cpu = record { cpu = cpu; held = replicate frames None; stamp = 0 }

abbrev pub entered_if : Bool → ℕ → ℕ → EntryRows → EntryRows
entered_if true f word e = record e { held = slice_set e.held f (Some (word / 2)) }
entered_if false f word e = e

-- An even word at a door admits its half, and the entry is held.
abbrev pub entered : ℕ → ℕ → EntryRows → EntryRows
entered f word e = entered_if (word % 2 == 0) f word e

-- the stamp that was raised last, the door word of each frame, and the stamp that was the last one when it was closed
pub record KeeperRows : Type 0 where
  pub request : ℕ
  pub doors : List ℕ
  pub since : List ℕ

-- these rows are those that the keeper knows, with as many of the one kind as of the other
pub record AreRowsOf (r : KeeperRows) (w : Watch) : Type 0 where
  pub request : r.request ≡ w.request
  pub doors : r.doors ≡ w.doors
  pub since : r.since ≡ w.since
  pub rows : length r.since ≡ length r.doors

abbrev pub first_rows : ℕ → ℕ → KeeperRows
first_rows frames door = record { request = 0; doors = replicate frames door; since = replicate frames 0 }

-- the door of frame f is closed as of the last stamp
abbrev pub shut_rows : ℕ → KeeperRows → KeeperRows
shut_rows f r = record r {
  doors = slice_set r.doors f (slice_index r.doors f + 1);
  since = slice_set r.since f r.request;
}

-- Frame f was never bound, or it is closed, and all was clear for a stamp that was raised since.
abbrev pub MayBindBy : List ℕ → List ℕ → ℕ → ℕ → Type 0
MayBindBy doors since cleared f = (slice_index doors f ≡ 1)
    ⊎ ((slice_index doors f % 2 ≡ 1) × (slice_index since f < cleared))
