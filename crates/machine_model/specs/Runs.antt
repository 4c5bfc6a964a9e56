-- Short runs of the machine over one volume, which the rows of `proofs/` speak of: one processor after another makes
-- its steps until the book has so many entries.
use Rattle.std.specs.Prelude.{ℕ, zero, suc, ◌+◌, true, false, nat_le, if◌then◌else◌, length, map, replicate, codes, List, [], ◌∷◌, None, Some}
use Rattle.mnames.specs.Principals.{default_project}
use Rattle.mnames.specs.declared.rows.Row.{Row}
use Rattle.script.specs.Plans.{Plan, ProcessPlan}
use Rattle.script.specs.declared.commands.Command.{Command}
use Rattle.script.specs.declared.plan.Print.TheVariants as print
use Rattle.book.specs.declared.entries.Entry.{Entry}
use Rattle.book.specs.declared.entries.Entry.TheVariants as entry
use Rattle.book.specs.declared.replies.Reply.{Reply}
use Rattle.vtoc.specs.FileMap.{no_records}
use Rattle.tree_model.specs.Access.{access_of}
use Rattle.tree_model.specs.Quotas.{over_in}
use Rattle.tree_model.specs.Tree.{used_by, taken_on, entries_on}
use Rattle.flat_model.specs.Branches.{node_at}
use Rattle.flat_model.specs.Commands.{after_command}
use Rattle.flat_model.specs.Legal.{after_entry, store_after, store_from}
use Rattle.flat_model.specs.Making.{make_reply, after_make, delete_reply, after_delete}
use Rattle.flat_model.specs.Naming.{initiate_reply, after_initiate, terminate_reply, after_terminate, status_reply}
use Rattle.flat_model.specs.Pages.{is_zero_page, with_stored, without_stored}
use Rattle.flat_model.specs.References.{reply_to_reference, after_reference}
use Rattle.flat_model.specs.Rights.{acl_reply, after_acl, move_reply, after_move}
use Rattle.flat_model.specs.Sizes.{length_reply, after_length, truncate_reply, after_truncate}
use Rattle.flat_model.specs.Store.{boot}
use Rattle.core_map.specs.Clock.{passed_over}
use Rattle.active_segs.specs.Victim.{leaf_below}
use Rattle.seg_control.specs.Control.{place_of}
use Rattle.seg_control.specs.Moving.{first_out}
use Rattle.seg_control.specs.Next.{table_for}
use Rattle.page_control.specs.Moves.{rehomed}
use Rattle.machine_model.specs.State.{State}
use Rattle.machine_model.specs.Refusal.{refusal_of, outside_refusal, room_refusal, reply_of, move_to}
use Rattle.machine_model.specs.Actions.{action_of, is_over}
use Rattle.machine_model.specs.After.{after, no_call}
use Rattle.machine_model.specs.Boot.{booted}
use Rattle.machine_model.specs.Shutdown.{after_visit}

-- ---- scripts

-- a process that runs for a person on no project of its own
abbrev pub process_for : List ℕ → List Command → ProcessPlan
process_for person commands = record {
  who = record { person = person; project = default_project };
  commands = commands;
}

-- the row of an access control list that names that person
abbrev pub row_for : List ℕ → Row
row_for person = record { person = Some person; project = Some default_project }

-- a machine with pools of 12, 1, 1 and 1 places, and one volume
abbrev pub plan_with : ℕ → ℕ → ℕ → ℕ → ℕ → List ProcessPlan → Plan
plan_with processors frames quota records entries processes = record {
  processors = processors;
  frames = frames;
  pools = 12 ∷ 1 ∷ 1 ∷ 1 ∷ [];
  quota = quota;
  volumes = record { name = codes "alpha"; records = records; entries = entries } ∷ [];
  print = print.All;
  bulks = [];
  fails = [];
  initializer = false;
  processes = processes;
}

-- the row that names anyone
abbrev pub anyone : Row
anyone = record { person = None; project = None }

-- the machine of a script at first
abbrev pub machine_of : Plan → State
machine_of p = booted p (replicate p.frames []) (map (λ v. replicate v.records []) p.volumes)

abbrev pub machine_with : ℕ → ℕ → ℕ → ℕ → ℕ → List ProcessPlan → State
machine_with processors frames quota records entries processes =
    machine_of (plan_with processors frames quota records entries processes)

-- ---- steps

-- a step in which no drive fails, and one whose call of a drive fails
abbrev pub stepped : ℕ → State → State
stepped c s = after s c (action_of s c) (no_call s)

abbrev pub failed : ℕ → State → State
failed c s = after s c (action_of s c) (record { failed = true; faults = s.faults + 1 })

-- a processor makes its steps until the book has so many entries, and so many steps at most
abbrev pub stepped_until : ℕ → ℕ → ℕ → State → State
stepped_until c entries zero s = s
stepped_until c entries (suc most) s =
    if nat_le entries (length s.entries) then s else stepped_until c entries most (stepped c s)

-- the same with room for sixty steps
abbrev pub until : ℕ → ℕ → State → State
until c entries s = stepped_until c entries 60 s

-- one processor after another, each until the book has so many entries
abbrev pub ran : List (ℕ × ℕ) → State → State
ran [] s = s
ran (turn ∷ turns) s = ran turns (until turn.0 turn.1 s)

-- a processor makes its steps until no process is ready or running, and so many steps at most
abbrev pub finished : ℕ → ℕ → State → State
finished c zero s = s
finished c (suc most) s = if is_over s then s else finished c most (stepped c s)

-- the shutdown visits so many frames, and no drive fails; or the drive fails at the next one
abbrev pub visited : ℕ → State → State
visited zero s = s
visited (suc frames) s = visited frames (after_visit s (no_call s))

abbrev pub visit_failed : State → State
visit_failed s = after_visit s (record { failed = true; faults = s.faults + 1 })

-- what commands were answered
abbrev pub replies_in : List Entry → List Reply
replies_in [] = []
replies_in (entry.Do k place cpu frame r ∷ es) = r ∷ replies_in es
replies_in (e ∷ es) = replies_in es

-- The entries of a book. A row unfolds this name, and computes what its line names.
unfoldable pub book_of : State → List Entry
unfolding action_of after refusal_of outside_refusal room_refusal move_to reply_of store_after store_from after_entry
    boot after_command reply_to_reference after_reference make_reply after_make delete_reply after_delete
    initiate_reply after_initiate terminate_reply after_terminate status_reply acl_reply after_acl move_reply
    after_move length_reply after_length truncate_reply after_truncate node_at is_zero_page with_stored without_stored
    access_of over_in used_by taken_on entries_on passed_over leaf_below place_of table_for no_records first_out rehomed
book_of s = s.entries

-- the same of the replies alone
abbrev pub replies_of : State → List Reply
replies_of s = replies_in (book_of s)
