-- The entries of what goes when a tree command takes effect.
use Rattle.std.specs.Prelude.{ℕ, Bool, true, false, ◌==◌, if◌then◌else◌, map, List, [], ◌∷◌, ◌++◌, Option, Some, None}
use Rattle.script.specs.declared.commands.Command.{Command}
use Rattle.script.specs.declared.commands.Command.TheVariants as command
use Rattle.book.specs.declared.entries.Entry.{Entry}
use Rattle.book.specs.declared.entries.Entry.TheVariants as entry
use Rattle.machine_model.specs.Commits.{cut_entry, frame_entry}
use Rattle.machine_model.specs.Reads.{cut_of_owner, frames_of_owner, is_active}
use Rattle.machine_model.specs.Refusal.{uid_of_command}
use Rattle.machine_model.specs.State.{State, Storage}

-- whether this is the frame whose page stays
abbrev pub is_kept : Option ℕ → ℕ → Bool
is_kept None f = false
is_kept (Some g) f = g == f

-- the page in a frame that was taken is gone, unless it is the one that stays
abbrev pub left_entry : Option ℕ → ℕ → Entry
left_entry kept f = if is_kept kept f then entry.BackPage f else entry.GonePage f

-- the entry of a frame that was taken for the next command
abbrev pub next_frame_entry : Storage → Option Command → ℕ → Entry
next_frame_entry st None f = entry.GonePage f
next_frame_entry st (Some x) f = frame_entry st x f

-- the node that is active no more, if the next command of process k deletes one that is active
abbrev pub goes_inactive : Storage → ℕ → Option Command → Option ℕ
goes_inactive st k (Some (command.Delete path)) =
    if is_active st.ast (uid_of_command st k (command.Delete path))
    then Some (uid_of_command st k (command.Delete path)) else None
goes_inactive st k _ = None

abbrev pub inactive_entry : Option ℕ → List Entry
inactive_entry None = []
inactive_entry (Some uid) = entry.Deactivate uid ∷ []

-- what goes, in the order in which it was taken, and then the node
abbrev pub left_entries : State → Option ℕ → Option ℕ → List Entry
left_entries s kept inactive = map (left_entry kept) (frames_of_owner s.owner)
    ++ (map cut_entry (cut_of_owner s.owner) ++ inactive_entry inactive)

-- whether it is the end of the process
abbrev pub ends_in : Option Command → Bool
ends_in (Some command.End) = true
ends_in _ = false
