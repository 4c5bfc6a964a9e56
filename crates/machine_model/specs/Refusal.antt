-- What the owner of the supervisor answers its process at once: what the flat store after the book refuses the next
-- command; and where a segment moves to before a page of it is stored (Bensoussan, Clingen and Daley 1972; Organick
-- 1972).
use Rattle.std.specs.Prelude.{ℕ, Bool, List, Option, Result, Ok, Err, None, if◌then◌else◌}
use Rattle.script.specs.declared.commands.Command.{Command}
use Rattle.script.specs.declared.commands.Command.TheVariants as command
use Rattle.script.specs.declared.commands.Reference.{Reference}
use Rattle.book.specs.declared.replies.Reply.{Reply}
use Rattle.tree_model.specs.Tree.{Node, volume_in}
use Rattle.known_segs.specs.Known.{uid_of}
use Rattle.flat_model.specs.Branches.{node_at}
use Rattle.flat_model.specs.Commands.{reply_to_tree_command}
use Rattle.flat_model.specs.References.{reply_to_reference, is_volume_full}
use Rattle.flat_model.specs.Rooms.{room_for}
use Rattle.seg_control.specs.Control.{kst_at}
use Rattle.storage_ops.specs.References as references
use Rattle.storage_ops.specs.Shown.{refusal}
use Rattle.machine_model.specs.State.{State, Storage}
use Rattle.machine_model.specs.Reads.{flat_of, or_zero}

-- a reply that passes a test; the refusals of a reference that come before its page is looked at; and those of a page
-- that can't be made
abbrev pub only : (Reply → Bool) → Reply → Option Reply
only test r = references.only test r

abbrev pub is_outside : Reply → Bool
is_outside r = references.is_outside r

abbrev pub is_of_room : Reply → Bool
is_of_room r = references.is_of_room r

unfoldable pub outside_refusal : State → ℕ → Reference → Option Reply
outside_refusal s k r = only is_outside (reply_to_reference s.plan (flat_of s) k r)

unfoldable pub room_refusal : State → ℕ → Reference → Option Reply
room_refusal s k r = only is_of_room (reply_to_reference s.plan (flat_of s) k r)

-- the volume that a segment moves to before a page more of it is stored: the first that has room for it, where all
-- records of its own are taken
unfoldable pub move_to : State → ℕ → Option ℕ
move_to s uid =
    if is_volume_full s.plan (flat_of s) (volume_in (flat_of s).nodes uid) then room_for s.plan (flat_of s) uid
    else None

-- the refusal of a tree command, where one holds
unfoldable pub refusal_of : State → ℕ → Command → Option Reply
refusal_of s k c = refusal (reply_to_tree_command s.plan (flat_of s) k c)

-- what a tree command is answered where it takes effect
unfoldable pub reply_of : State → ℕ → Command → Reply
reply_of s k c = reply_to_tree_command s.plan (flat_of s) k c

-- ---- which segment or directory a command is about, and 0 where it is about none

abbrev pub uid_of_node : Result Node Reply → ℕ
uid_of_node (Ok n) = n.uid
uid_of_node (Err r) = 0

abbrev pub uid_at_path : Storage → List (List ℕ) → ℕ
uid_at_path st path = uid_of_node (node_at st.accounts.nodes path)

-- what a number of a process stands for
abbrev pub uid_of_number : Storage → ℕ → ℕ → ℕ
uid_of_number st k n = or_zero (uid_of (kst_at st.links.known k) n)

abbrev pub uid_of_command : Storage → ℕ → Command → ℕ
uid_of_command st k (command.Initiate path) = uid_at_path st path
uid_of_command st k (command.Terminate n) = uid_of_number st k n
uid_of_command st k (command.Acl path row m) = uid_at_path st path
uid_of_command st k (command.Length path pages) = uid_at_path st path
uid_of_command st k (command.Truncate path words) = uid_at_path st path
uid_of_command st k (command.Delete path) = uid_at_path st path
uid_of_command st k (command.Move path amount) = uid_at_path st path
uid_of_command st k (command.Status path) = uid_at_path st path
uid_of_command st k _ = 0
