-- What refuses a reference to a word of a segment: by the flat store that is shown, and by the tables (Bensoussan,
-- Clingen and Daley 1972; quota and records are those of Organick 1972).
use Rattle.std.specs.Prelude.{ℕ, ◌*◌, ◌/◌, Bool, true, false, not, ◌&&◌, ◌==◌, nat_le, if◌then◌else◌, List, Option, Some, None, is_none, Result, Ok, Err}
use Rattle.mnames.specs.declared.modes.Mode.{Mode}
use Rattle.mnames.specs.declared.principals.Who.{Who}
use Rattle.script.specs.Plans.{Plan}
use Rattle.script.specs.declared.commands.RefKind.{RefKind}
use Rattle.script.specs.declared.commands.Reference.{Reference}
use Rattle.book.specs.declared.replies.Reply.{Reply}
use Rattle.book.specs.declared.replies.Reply.TheVariants as reply
use Rattle.tree_model.specs.Access.{access_of}
use Rattle.tree_model.specs.Tree.{Node, account_of, node_in, quota_in, used_by}
use Rattle.known_segs.specs.Known.{uid_of}
use Rattle.script.specs.References.{alters, new_word, permits}
use Rattle.flat_model.specs.References.{reply_to_reference}
use Rattle.flat_model.specs.Store.{Store}
use Rattle.page_control.specs.Counts.{is_full}
use Rattle.seg_control.specs.Control.{kst_at}
use Rattle.storage_ops.specs.Rooms.{room_of}
use Rattle.storage_ops.specs.Shown.{Storage, is_filed, who_at}

-- ---- by the flat store

-- a reply that passes a test
abbrev pub only : (Reply → Bool) → Reply → Option Reply
only test r = if test r then Some r else None

-- the refusals of a reference that come before its page is looked at
abbrev pub is_outside : Reply → Bool
is_outside reply.Unknown = true
is_outside reply.Gone = true
is_outside reply.NoAccess = true
is_outside reply.Length = true
is_outside _ = false

-- those of a page that can't be made: the account has used up its quota, or the volume's records are all in use and no
-- other has room for the segment
abbrev pub is_of_room : Reply → Bool
is_of_room reply.Quota = true
is_of_room reply.NoRecord = true
is_of_room _ = false

unfoldable pub outside_refusal : Plan → Store → ℕ → Reference → Option Reply
outside_refusal p s k r = only is_outside (reply_to_reference p s k r)

unfoldable pub room_refusal : Plan → Store → ℕ → Reference → Option Reply
room_refusal p s k r = only is_of_room (reply_to_reference p s k r)

-- ---- by the tables

-- noaccess where a mode of access to a segment of so many pages doesn't permit a reference to it; length where the
-- offset is at or past its end
abbrev pub refusal_by : Mode → ℕ → Reference → Option Reply
refusal_by mode pages r =
    if not (permits mode r.kind) then Some reply.NoAccess
    else if nat_le (1024 * pages) r.offset then Some reply.Length
    else None

-- so by the access control list of a segment, and its length
abbrev pub refusal_in : Who → Reference → Node → Option Reply
refusal_in who r n = refusal_by (access_of who n.rows) n.pages r

abbrev pub unless : Option Reply → Node → Result Node Reply
unless None n = Ok n
unless (Some e) n = Err e

-- gone where the segment isn't in the tree any more
abbrev pub target_at : Who → Reference → Option Node → Result Node Reply
target_at who r None = Err reply.Gone
target_at who r (Some n) = unless (refusal_in who r n) n

-- unknown where the number stands for nothing
abbrev pub target_of : List Node → Who → Reference → Option ℕ → Result Node Reply
target_of nodes who r None = Err reply.Unknown
target_of nodes who r (Some uid) = target_at who r (node_in nodes uid)

-- the segment that a reference of a process goes to, or what refuses it before its page is looked at
unfoldable pub target : {D : Type 0} → Storage D → ℕ → Reference → Result Node Reply
target t k r = target_of t.accounts.nodes (who_at t.whos k) r (uid_of (kst_at t.segs.links.known k) r.number)

-- a reference brings a word other than 0 into a page of zeros
abbrev pub brings_word : RefKind → Bool
brings_word how = alters how && not (new_word 0 how == 0)

-- The account of a segment has used up its quota, where these are the stored pages.
abbrev pub is_spent : List Node → List (ℕ × ℕ) → ℕ → Bool
is_spent nodes stored uid = used_by nodes stored (account_of nodes uid) == quota_in nodes (account_of nodes uid)

-- all records of a segment's volume are in use, and no other volume has room for the segment
abbrev pub is_out_of_room : {D : Type 0} → Storage D → Node → Bool
is_out_of_room t n = is_full t.segs.pages.volumes.records n.volume && is_none (room_of t n.uid)

-- why a page more of a segment can't be stored: quota, then norecord
abbrev pub want_of_room : {D : Type 0} → Storage D → List (ℕ × ℕ) → Node → Option Reply
want_of_room t stored n =
    if is_spent t.accounts.nodes stored n.uid then Some reply.Quota
    else if is_out_of_room t n then Some reply.NoRecord
    else None

-- of a reference that stores a page more of its segment
abbrev pub room_in : {D : Type 0} → Storage D → List (ℕ × ℕ) → Reference → Node → Option Reply
room_in t stored r n =
    if brings_word r.kind && not (is_filed t.accounts t.segs.pages.volumes.vtocs n.uid (r.offset / 1024))
    then want_of_room t stored n
    else None

abbrev pub outside_by : Result Node Reply → Option Reply
outside_by (Ok n) = None
outside_by (Err e) = Some e

abbrev pub room_by : {D : Type 0} → Storage D → List (ℕ × ℕ) → Reference → Result Node Reply → Option Reply
room_by t stored r (Ok n) = room_in t stored r n
room_by t stored r (Err e) = None

abbrev pub refused_by : {D : Type 0} → Storage D → List (ℕ × ℕ) → Reference → Result Node Reply → Option Reply
refused_by t stored r (Ok n) = room_in t stored r n
refused_by t stored r (Err e) = Some e
