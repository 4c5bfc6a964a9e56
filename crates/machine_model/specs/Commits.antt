-- What each tree command changes in the store, and which entries its step has (Bensoussan, Clingen and Daley 1972;
-- Organick 1972).
use Rattle.std.specs.Prelude.{ℕ, ℤ, ◌+◌, ◌-◌, ◌*◌, ◌/◌, ◌%◌, Bool, true, false, not, ◌&&◌, ◌==◌, nat_lt, if◌then◌else◌, length, map, List, [], ◌∷◌, ◌++◌, Option, Some, None}
use Rattle.std.specs.List.{range_with_len}
use Rattle.mnames.specs.declared.modes.Mode.{Mode}
use Rattle.mnames.specs.declared.rows.Row.{Row as Named}
use Rattle.script.specs.declared.commands.Command.{Command}
use Rattle.script.specs.declared.commands.Command.TheVariants as command
use Rattle.book.specs.declared.entries.Entry.{Entry}
use Rattle.book.specs.declared.entries.Entry.TheVariants as entry
use Rattle.tree_model.specs.Access.{Row}
use Rattle.tree_model.specs.Tree.{Node, with_node, without_node}
use Rattle.accounts.specs.Maps.{AccountMaps, with_row_in}
use Rattle.quota_cells.specs.Accounts.{with_beside, without_beside}
use Rattle.known_segs.specs.Known.{number_for}
use Rattle.flat_model.specs.Branches.{parts_of}
use Rattle.flat_model.specs.Making.{new_branch, owner_row}
use Rattle.flat_model.specs.Rights.{nodes_moved, row_with}
use Rattle.core_map.specs.declared.Frame.TheVariants as frame
use Rattle.page_table.specs.declared.Ptw.{Ptw}
use Rattle.page_table.specs.declared.Ptw.TheVariants as ptw
use Rattle.page_control.specs.Plain.{Plain, vtoc_of, words_in}
use Rattle.page_control.specs.Effects.{allocated, cut, dropped, erased, framed}
use Rattle.vtoc.specs.Vtoc.{least_free_entry}
use Rattle.seg_control.specs.Control.{Links, kst_at, table_of, word_of}
use Rattle.seg_control.specs.Effects.{forgotten, made_known}
use Rattle.storage_ops.specs.Shown.{who_at}
use Rattle.machine_model.specs.declared.CutDescriptor.{CutDescriptor}
use Rattle.machine_model.specs.State.{State, Storage}
use Rattle.machine_model.specs.Reads.{or_zero, frames_of_owner, cut_of_owner, process_at, home_in, is_active}
use Rattle.machine_model.specs.Refusal.{reply_of, uid_at_path, uid_of_command}
use Rattle.machine_model.specs.Steps.{booked, with_owner, with_store, with_pages, with_word, left_at, told}
use Rattle.machine_model.specs.Jobs.{are_zeros, credited, page_in, with_here, with_inactive}

-- ---- directories and segments are made

-- a node more, with its VTOC entry; a segment has a count of its stored pages
abbrev pub gained : AccountMaps → Node → ℕ → AccountMaps
gained a n entry = record {
  nodes = n ∷ a.nodes;
  entries = entry ∷ a.entries;
  next = a.next + 1;
  segments = if n.directory then a.segments else with_beside a.segments a.segments n.uid n.uid;
  counts = if n.directory then a.counts else with_beside a.segments a.counts n.uid 0;
}

-- a branch of this name in a directory, without quota
abbrev pub branch_of : Storage → ℕ → List ℕ → Bool → ℕ → ℕ → List Row → Node
branch_of st superior name directory volume pages rows =
    new_branch st.accounts.next superior name directory volume pages rows

-- the least free entry of the volume is its home
abbrev pub with_branch : Storage → Node → Storage
with_branch st n =
    let e = or_zero (least_free_entry (vtoc_of st.pages n.volume)) in
    record st { accounts = gained st.accounts n e; pages = allocated st.pages n.volume e n.uid }

abbrev pub with_made : Storage → Bool → ℕ → ℕ → List Row → Option (List (List ℕ) × List ℕ) → Storage
with_made st directory pages volume rows None = st
with_made st directory pages volume rows (Some parts) =
    with_branch st (branch_of st (uid_at_path st parts.0) parts.1 directory volume pages rows)

-- ---- the tree and the numbers

abbrev pub with_nodes : Storage → List Node → Storage
with_nodes st nodes = record st { accounts = record st.accounts { nodes = nodes } }

abbrev pub with_row : Storage → ℕ → Named → Mode → Storage
with_row st uid row m = with_nodes st (with_row_in st.accounts.nodes uid (row_with row m))

abbrev pub with_length : Storage → ℕ → ℕ → Storage
with_length st uid pages = with_nodes st (with_node st.accounts.nodes uid (λ n. record n { pages = pages }))

abbrev pub with_quota_moved : Storage → ℕ → ℤ → Storage
with_quota_moved st uid amount = with_nodes st (nodes_moved st.accounts.nodes uid amount)

abbrev pub with_links : Storage → Links → Storage
with_links st links = record st { links = links }

-- ---- pages are cut off

-- a page that the word names is stored no more, and in no frame; one that isn't stored is as before
abbrev pub without_page : Storage → ℕ → ℕ → Ptw → Storage
without_page st uid p ptw.Null = st
without_page st uid p w =
    let now = with_pages st (dropped st.pages (home_in st uid) p w) in
    record (with_word now uid p ptw.Null) { accounts = credited st.accounts uid 1 }

abbrev pub without_pages : Storage → ℕ → List ℕ → Storage
without_pages st uid [] = st
without_pages st uid (p ∷ ps) = without_pages (without_page st uid p (word_of st.ast uid p)) uid ps

-- the page that is cut, in its frame: it is stored no more where it is all zeros then, and here again where it isn't
abbrev pub with_cut_in : Storage → ℕ → ℕ → ℕ → ℕ → Storage
with_cut_in st uid p at f =
    let now = with_pages st (cut st.pages f at) in
    if are_zeros (words_in now.pages f) then without_page now uid p (ptw.Leaving f) else with_here now f

abbrev pub with_cut : Storage → ℕ → ℕ → ℕ → Ptw → Storage
with_cut st uid p at (ptw.Leaving f) = with_cut_in st uid p at f
with_cut st uid p at _ = st

-- the first page that is wholly past so many words, and the pages from there on that the table has
abbrev pub first_past : ℕ → ℕ
first_past words = (words + 1023) / 1024

abbrev pub pages_past : Storage → ℕ → ℕ → List ℕ
pages_past st uid words = range_with_len (first_past words) (length (table_of st.ast uid) - first_past words)

abbrev pub with_truncated : Storage → ℕ → ℕ → Storage
with_truncated st uid words =
    let p = words / 1024 in
    let now = if words % 1024 == 0 then st else with_cut st uid p (words % 1024) (word_of st.ast uid p) in
    without_pages now uid (pages_past st uid words)

-- ---- a node is deleted

abbrev pub frames_freed : Plain → List ℕ → Plain
frames_freed pages [] = pages
frames_freed pages (f ∷ fs) = frames_freed (framed pages f frame.Free) fs

-- a node less, with its count
abbrev pub lost : AccountMaps → ℕ → AccountMaps
lost a uid = record {
  nodes = without_node a.nodes uid;
  entries = without_beside (map (λ n. n.uid) a.nodes) a.entries uid;
  next = a.next;
  segments = without_beside a.segments a.segments uid;
  counts = without_beside a.segments a.counts uid;
}

abbrev pub inactive_if : Storage → ℕ → Storage
inactive_if st uid = if is_active st.ast uid then with_inactive st uid else st

-- the frames that were taken are free, the records are given back with the VTOC entry, and the node is gone
abbrev pub with_deleted : Storage → ℕ → List ℕ → Storage
with_deleted st uid frames =
    let now = with_pages st (erased (frames_freed st.pages frames) (home_in st uid)) in
    record (inactive_if now uid) { accounts = lost st.accounts uid }

-- ---- each command

-- the store once a command of a process takes effect, for which these frames were taken
abbrev pub with_effect : Storage → ℕ → ℕ → List ℕ → Command → Storage
with_effect st k uid frames (command.MkDir path volume) = with_made st true 0 volume [] (parts_of path)
with_effect st k uid frames (command.MkSeg path pages volume) =
    with_made st false pages volume (owner_row (who_at st.whos k) ∷ []) (parts_of path)
with_effect st k uid frames (command.Initiate path) =
    with_links st (made_known st.links k uid (number_for (kst_at st.links.known k) uid))
with_effect st k uid frames (command.Terminate n) = with_links st (forgotten st.links k n)
with_effect st k uid frames (command.Acl path row m) = with_row st uid row m
with_effect st k uid frames (command.Length path pages) = with_length st uid pages
with_effect st k uid frames (command.Truncate path words) = with_truncated st uid words
with_effect st k uid frames (command.Delete path) = with_deleted st uid frames
with_effect st k uid frames (command.Move path amount) = with_quota_moved st uid amount
with_effect st k uid frames _ = st

-- ---- the entries of the step

-- whether the page in a frame is the one that the words cut, and keeps a word other than 0
abbrev pub stays : Storage → ℕ → ℕ → Bool
stays st words f =
    let page = page_in st f in
    nat_lt (1024 * page.1) words && not (are_zeros (words_in (cut st.pages f (words % 1024)) f))

abbrev pub frame_entry : Storage → Command → ℕ → Entry
frame_entry st (command.Truncate path words) f = if stays st words f then entry.BackPage f else entry.GonePage f
frame_entry st _ f = entry.GonePage f

abbrev pub cut_entry : CutDescriptor → Entry
cut_entry d = entry.GoneSeg d.process d.number

abbrev pub inactive_entries : Storage → ℕ → Command → List Entry
inactive_entries st uid (command.Delete path) = if is_active st.ast uid then entry.Deactivate uid ∷ [] else []
inactive_entries st uid _ = []

-- what was taken goes, in the order in which it was taken; then a deleted node that is active is so no more
abbrev pub gone_entries : State → ℕ → Command → List Entry
gone_entries s uid c =
    map (frame_entry s.store c) (frames_of_owner s.owner)
    ++ (map cut_entry (cut_of_owner s.owner) ++ inactive_entries s.store uid c)

-- after an `end` the processor has no process any more
abbrev pub left_after : State → ℕ → Command → State
left_after s c command.End = left_at s c
left_after s c _ = s

abbrev pub committed : State → ℕ → ℕ → Command → State
committed s c k command =
    let uid = uid_of_command s.store k command in
    let st = with_effect s.store k uid (frames_of_owner s.owner) command in
    let now = booked (with_store s st) (gone_entries s uid command) in
    with_owner (left_after (told now c None (reply_of s k command)) c command) None

abbrev pub committed_at : State → ℕ → Option Command → State
committed_at s c None = s
committed_at s c (Some command) = committed s c (process_at s c) command
