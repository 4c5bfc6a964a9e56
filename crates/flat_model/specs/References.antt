-- What a reference to a word is answered, and what it changes (Bensoussan, Clingen and Daley 1972; quota and records
-- are those of Organick 1972).
use Rattle.std.specs.Prelude.{ℕ, ◌*◌, ◌/◌, Bool, not, ◌&&◌, ◌==◌, nat_le, if◌then◌else◌, is_none, Option, Some, None}
use Rattle.script.specs.Plans.{Plan, who_of}
use Rattle.script.specs.References.{alters, new_word, permits}
use Rattle.script.specs.declared.commands.RefKind.{RefKind}
use Rattle.script.specs.declared.commands.RefKind.TheVariants as kind
use Rattle.script.specs.declared.commands.Reference.{Reference}
use Rattle.book.specs.declared.replies.Reply.{Reply}
use Rattle.book.specs.declared.replies.Reply.TheVariants as reply
use Rattle.tree_model.specs.Access.{access_of}
use Rattle.tree_model.specs.Tree.{Node, node_in, quota_in, account_of, used_by, taken_on}
use Rattle.flat_model.specs.Pages.{is_stored, with_stored, with_word}
use Rattle.flat_model.specs.Rooms.{room_for}
use Rattle.flat_model.specs.Store.{Store, records_of, known_uid}

-- a word other than 0 comes into a page that isn't stored
abbrev pub stores_page : Store → ℕ → ℕ → RefKind → Bool
stores_page s uid offset k = alters k && (not (new_word (s.words uid offset) k == 0)
    && not (is_stored s.stored uid (offset / 1024)))

-- the account that a segment is charged to has used up its quota
abbrev pub is_used_up : Store → ℕ → Bool
is_used_up s uid = used_by s.nodes s.stored (account_of s.nodes uid) == quota_in s.nodes (account_of s.nodes uid)

-- all records of a volume are taken
abbrev pub is_volume_full : Plan → Store → ℕ → Bool
is_volume_full p s volume = taken_on s.nodes s.stored volume == records_of p volume

-- all records of a segment's volume are taken, and no other volume has room for the segment
abbrev pub is_out_of_room : Plan → Store → Node → Bool
is_out_of_room p s n = is_volume_full p s n.volume && is_none (room_for p s n.uid)

-- where there is no room for a page more of a segment: quota, then norecord; else another reply
abbrev pub room_reply : Plan → Store → Node → Reply → Reply
room_reply p s n otherwise = if is_used_up s n.uid then reply.Quota
    else if is_out_of_room p s n then reply.NoRecord else otherwise

-- a read is answered with the word, an addition with the new one
abbrev pub word_reply : ℕ → RefKind → Reply
word_reply old kind.Read = reply.Word old
word_reply old (kind.Write w) = reply.Done
word_reply old (kind.Add w) = reply.Word (new_word old (kind.Add w))

-- Of a segment that is there: noaccess where its access control list doesn't permit it; length where the offset is at
-- or past 1024 times its length in pages; quota or norecord where there is no room for the page; else the word, or
-- done.
abbrev pub reply_in : Plan → Store → ℕ → ℕ → RefKind → Node → Reply
reply_in p s k offset how n =
    if not (permits (access_of (who_of p k) n.rows) how) then reply.NoAccess
    else if nat_le (1024 * n.pages) offset then reply.Length
    else if stores_page s n.uid offset how then room_reply p s n (word_reply (s.words n.uid offset) how)
    else word_reply (s.words n.uid offset) how

-- gone where the segment isn't in the tree any more
abbrev pub reply_at : Plan → Store → ℕ → ℕ → RefKind → Option Node → Reply
reply_at p s k offset how None = reply.Gone
reply_at p s k offset how (Some n) = reply_in p s k offset how n

-- unknown where the number stands for nothing
abbrev pub reply_of : Plan → Store → ℕ → ℕ → RefKind → Option ℕ → Reply
reply_of p s k offset how None = reply.Unknown
reply_of p s k offset how (Some uid) = reply_at p s k offset how (node_in s.nodes uid)

unfoldable pub reply_to_reference : Plan → Store → ℕ → Reference → Reply
reply_to_reference p s k r = reply_of p s k r.offset r.kind (known_uid s k r.number)

-- a word is written; a page that gets a word other than 0 is stored from then on
abbrev pub written : Store → ℕ → ℕ → ℕ → Store
written s uid offset w = record s {
  words = with_word s.words uid offset w;
  stored = if w == 0 then s.stored else with_stored s.stored uid (offset / 1024);
}

abbrev pub written_by : Store → ℕ → RefKind → Option ℕ → Store
written_by s offset how None = s
written_by s offset how (Some uid) = if alters how then written s uid offset (new_word (s.words uid offset) how) else s

-- the store once a reference took effect
unfoldable pub after_reference : Store → ℕ → Reference → Store
after_reference s k r = written_by s r.offset r.kind (known_uid s k r.number)
