-- What the commands of one process are answered.
use Rattle.machine_model.proofs.Prelude.{◌≡◌, ℕ, List, [], ◌∷◌, refl, codes, pos, negsuc, Command, Reply, book_of, finished, machine_with, process_for, replies_of, Command as command, Reply as reply, Some, None, ProcessPlan, State, until, Entry as entry, What as what, visited, visit_failed, row_for, ran, stepped, Mode as mode, true, machine_of, plan_with, anyone, action_of, Waits, ForClear}

-- of a machine with this quota, and a volume with so many records and entries
abbrev answers : ℕ → ℕ → ℕ → List Command → List Reply
answers quota records entries commands =
    replies_of (finished 0 200 (machine_with 1 4 quota records entries (process_for (codes "Smith") commands ∷ [])))

-- an offset past the last page of a segment
pub past_the_end : answers 4 8 4 (
    command.MkSeg (codes "s" ∷ []) 256 0 ∷ command.Initiate (codes "s" ∷ []) ∷ command.Write 0 262143 1 ∷
    command.Write 0 262144 1 ∷ command.Read 0 262144 ∷ command.End ∷ []) ≡
    reply.Made 2 ∷ reply.Known 0 ∷ reply.Done ∷ reply.Length ∷ reply.Length ∷ reply.Done ∷ []
unfolding book_of
past_the_end = refl

-- a sum that passes the greatest word
pub sums_are_of_36_bits : answers 4 8 4 (
    command.MkSeg (codes "s" ∷ []) 1 0 ∷ command.Initiate (codes "s" ∷ []) ∷ command.Write 0 0 68719476735 ∷
    command.Read 0 0 ∷ command.Add 0 0 1 ∷ command.Read 0 0 ∷ command.End ∷ []) ≡
    reply.Made 2 ∷ reply.Known 0 ∷ reply.Done ∷ reply.Word 68719476735 ∷ reply.Word 0 ∷ reply.Word 0 ∷ reply.Done ∷ []
unfolding book_of
sums_are_of_36_bits = refl

-- a word that was never written; no page is stored for it
pub zeros_cost_nothing : answers 4 8 4 (
    command.MkSeg (codes "s" ∷ []) 1 0 ∷ command.Initiate (codes "s" ∷ []) ∷ command.Read 0 9 ∷
    command.Status (codes "s" ∷ []) ∷ command.End ∷ []) ≡
    reply.Made 2 ∷ reply.Known 0 ∷ reply.Word 0 ∷ reply.SegIs 2 1 0 ∷ reply.Done ∷ []
unfolding book_of
zeros_cost_nothing = refl

-- a second page, where the quota is one: zeros may be written, another word may not
pub quota_is_used_up : answers 1 8 4 (
    command.MkSeg (codes "s" ∷ []) 2 0 ∷ command.Initiate (codes "s" ∷ []) ∷ command.Write 0 0 1 ∷
    command.Write 0 1024 0 ∷ command.Write 0 1024 1 ∷ command.Status (codes "s" ∷ []) ∷ command.End ∷ []) ≡
    reply.Made 2 ∷ reply.Known 0 ∷ reply.Done ∷ reply.Done ∷ reply.Quota ∷ reply.SegIs 2 2 1 ∷ reply.Done ∷ []
unfolding book_of
quota_is_used_up = refl

-- a third page, where the quota is two; a stored page is written again
pub stored_pages_stay : answers 2 8 4 (
    command.MkSeg (codes "s" ∷ []) 3 0 ∷ command.Initiate (codes "s" ∷ []) ∷ command.Write 0 0 1 ∷
    command.Write 0 1024 1 ∷ command.Write 0 2048 1 ∷ command.Write 0 1025 1 ∷ command.End ∷ []) ≡
    reply.Made 2 ∷ reply.Known 0 ∷ reply.Done ∷ reply.Done ∷ reply.Quota ∷ reply.Done ∷ reply.Done ∷ []
unfolding book_of
stored_pages_stay = refl

-- three pages are written
abbrev three_pages : List Command
three_pages = command.MkSeg (codes "s" ∷ []) 3 0 ∷ command.Initiate (codes "s" ∷ []) ∷ command.Write 0 0 1 ∷
    command.Write 0 1024 1 ∷ command.Write 0 2048 1 ∷ command.End ∷ []

-- a third page, where the volume has two records
pub records_are_used_up : answers 9 2 4 three_pages ≡
    reply.Made 2 ∷ reply.Known 0 ∷ reply.Done ∷ reply.Done ∷ reply.NoRecord ∷ reply.Done ∷ []
unfolding book_of
records_are_used_up = refl

-- the same where the quota is two besides
pub quota_comes_first : answers 2 2 4 three_pages ≡
    reply.Made 2 ∷ reply.Known 0 ∷ reply.Done ∷ reply.Done ∷ reply.Quota ∷ reply.Done ∷ []
unfolding book_of
quota_comes_first = refl

-- quota moves down to a directory, and back while it is not used
pub quota_moves : answers 4 8 4 (
    command.MkDir (codes "a" ∷ []) 0 ∷ command.MkSeg (codes "a" ∷ codes "s" ∷ []) 2 0 ∷
    command.Initiate (codes "a" ∷ codes "s" ∷ []) ∷ command.Write 0 0 1 ∷ command.Write 0 1024 1 ∷ command.Status [] ∷
    command.Move (codes "a" ∷ []) (pos 5) ∷ command.Move (codes "a" ∷ []) (pos 3) ∷ command.Status [] ∷
    command.Status (codes "a" ∷ []) ∷ command.Move (codes "a" ∷ []) (negsuc 1) ∷
    command.Move (codes "a" ∷ []) (negsuc 2) ∷ command.Status [] ∷ command.Status (codes "a" ∷ []) ∷ command.End ∷ []) ≡
    reply.Made 2 ∷ reply.Made 3 ∷ reply.Known 0 ∷ reply.Done ∷ reply.Done ∷ reply.DirIs 1 4 2 ∷ reply.TooLittle ∷
    reply.Done ∷ reply.DirIs 1 1 0 ∷ reply.DirIs 2 3 2 ∷ reply.Over 2 ∷ reply.Done ∷ reply.DirIs 1 4 2 ∷
    reply.DirIs 2 0 0 ∷ reply.Done ∷ []
unfolding book_of
quota_moves = refl

-- paths that can not be followed, and what they lead to
pub paths_are_followed : answers 4 8 4 (
    command.MkSeg (codes "s" ∷ []) 1 0 ∷ command.MkDir (codes "s" ∷ codes "t" ∷ []) 0 ∷
    command.MkSeg (codes "s" ∷ []) 1 0 ∷ command.Initiate [] ∷ command.Move (codes "s" ∷ []) (pos 1) ∷
    command.Terminate 3 ∷ command.End ∷ []) ≡
    reply.Made 2 ∷ reply.NotDir ∷ reply.Exists ∷ reply.IsDir ∷ reply.IsSeg ∷ reply.Unknown ∷ reply.Done ∷ []
unfolding book_of
paths_are_followed = refl

-- a segment is not shortened past a stored page
pub shortened_after_truncation : answers 4 8 4 (
    command.MkSeg (codes "s" ∷ []) 2 0 ∷ command.Initiate (codes "s" ∷ []) ∷ command.Write 0 1024 1 ∷
    command.Length (codes "s" ∷ []) 1 ∷ command.Truncate (codes "s" ∷ []) 0 ∷ command.Length (codes "s" ∷ []) 1 ∷
    command.End ∷ []) ≡
    reply.Made 2 ∷ reply.Known 0 ∷ reply.Done ∷ reply.Beyond ∷ reply.Done ∷ reply.Done ∷ reply.Done ∷ []
unfolding book_of
shortened_after_truncation = refl

-- the second segment, where the volume has an entry for one
pub entries_are_used_up : answers 4 8 2 (
    command.MkSeg (codes "s" ∷ []) 1 0 ∷ command.MkSeg (codes "t" ∷ []) 1 0 ∷ command.End ∷ []) ≡
    reply.Made 2 ∷ reply.NoEntry ∷ reply.Done ∷ []
unfolding book_of
entries_are_used_up = refl

-- a name that is there is told before the want of an entry
pub name_comes_first : answers 4 8 2 (
    command.MkSeg (codes "s" ∷ []) 1 0 ∷ command.MkSeg (codes "s" ∷ []) 1 0 ∷ command.MkSeg (codes "t" ∷ []) 1 0 ∷
    command.Initiate (codes "t" ∷ []) ∷ command.End ∷ []) ≡
    reply.Made 2 ∷ reply.Exists ∷ reply.NoEntry ∷ reply.NoPath ∷ reply.Done ∷ []
unfolding book_of
name_comes_first = refl

-- a page of zeros leaves its frame: another one takes its place in the quota
pub released_page_counts_no_more : answers 5 16 4 (
    command.MkSeg (codes "s" ∷ []) 6 0 ∷ command.Initiate (codes "s" ∷ []) ∷ command.Write 0 0 1 ∷
    command.Write 0 0 0 ∷ command.Write 0 1024 1 ∷ command.Write 0 2048 1 ∷ command.Write 0 3072 1 ∷
    command.Write 0 4096 1 ∷ command.Write 0 5120 1 ∷ command.Write 0 0 1 ∷ command.End ∷ []) ≡
    reply.Made 2 ∷ reply.Known 0 ∷ reply.Done ∷ reply.Done ∷ reply.Done ∷ reply.Done ∷ reply.Done ∷ reply.Done ∷
    reply.Done ∷ reply.Quota ∷ reply.Done ∷ []
unfolding book_of
released_page_counts_no_more = refl

-- the quota is asked before a frame is freed, so a page of zeros that would go still counts
pub quota_before_eviction : answers 4 16 4 (
    command.MkSeg (codes "s" ∷ []) 6 0 ∷ command.Initiate (codes "s" ∷ []) ∷ command.Write 0 0 1 ∷
    command.Write 0 1024 1 ∷ command.Write 0 2048 1 ∷ command.Write 0 3072 1 ∷ command.Write 0 0 0 ∷
    command.Read 0 1024 ∷ command.Read 0 2048 ∷ command.Read 0 3072 ∷ command.Write 0 4096 1 ∷ command.End ∷ []) ≡
    reply.Made 2 ∷ reply.Known 0 ∷ reply.Done ∷ reply.Done ∷ reply.Done ∷ reply.Done ∷ reply.Done ∷ reply.Word 1 ∷
    reply.Word 1 ∷ reply.Word 1 ∷ reply.Quota ∷ reply.Done ∷ []
unfolding book_of
quota_before_eviction = refl

-- ---- A directory with a quota of its own, and one below the root: each page is charged where it belongs, and a page
-- of zeros is given back as it leaves its frame.

abbrev script : ProcessPlan
script = process_for (codes "Smith") (
    command.MkDir (codes "a" ∷ []) 0 ∷ command.Move (codes "a" ∷ []) (pos 2) ∷
    command.MkSeg (codes "a" ∷ codes "s" ∷ []) 3 0 ∷ command.MkSeg (codes "t" ∷ []) 4 0 ∷
    command.Initiate (codes "a" ∷ codes "s" ∷ []) ∷ command.Initiate (codes "t" ∷ []) ∷ command.Write 0 0 1 ∷
    command.Write 0 1024 1 ∷ command.Write 0 2048 1 ∷ command.Write 0 1024 0 ∷ command.Write 1 0 1 ∷
    command.Write 1 1024 1 ∷ command.Write 1 2048 1 ∷ command.Write 1 3072 1 ∷ command.Write 0 2048 1 ∷ command.End ∷
    [])

-- the whole book, up to the shutdown
pub pages_are_charged : book_of (until 0 50 (machine_with 1 4 10 16 8 (script ∷ []))) ≡
    entry.Online 0 ∷ entry.Load 0 0 ∷ entry.Do 0 0 0 None (reply.Made 2) ∷ entry.Do 0 1 0 None reply.Done ∷
    entry.Do 0 2 0 None (reply.Made 3) ∷ entry.Do 0 3 0 None (reply.Made 4) ∷ entry.Do 0 4 0 None (reply.Known 0) ∷
    entry.Do 0 5 0 None (reply.Known 1) ∷ entry.Activate 1 ∷ entry.Activate 2 ∷ entry.Activate 3 ∷
    entry.Connect 0 0 3 ∷ entry.Here 0 3 0 ∷ entry.Do 0 6 0 None reply.Done ∷ entry.FillSeg 0 0 ∷ entry.Here 1 3 1 ∷
    entry.Do 0 7 0 None reply.Done ∷ entry.Do 0 8 0 None reply.Quota ∷ entry.FillPage 0 1 ∷
    entry.Do 0 9 0 (Some 1) reply.Done ∷ entry.Activate 4 ∷ entry.Connect 0 1 4 ∷ entry.Here 2 4 0 ∷
    entry.Do 0 10 0 None reply.Done ∷ entry.FillSeg 0 1 ∷ entry.Here 3 4 1 ∷ entry.Do 0 11 0 None reply.Done ∷
    entry.Take 0 ∷ entry.Signal 0 (what.Page 0) ∷ entry.GonePage 0 ∷ entry.Here 0 4 2 ∷
    entry.Do 0 12 0 None reply.Done ∷ entry.Take 1 ∷ entry.Signal 0 (what.Page 1) ∷ entry.GonePage 1 ∷
    entry.Release 3 1 ∷ entry.Here 1 4 3 ∷ entry.Do 0 13 0 None reply.Done ∷ entry.Take 2 ∷
    entry.Signal 0 (what.Page 2) ∷ entry.GonePage 2 ∷ entry.Here 2 3 2 ∷ entry.Do 0 14 0 None reply.Done ∷
    entry.Cut 0 0 ∷ entry.Cut 0 1 ∷ entry.Signal 0 what.All ∷ entry.GoneSeg 0 0 ∷ entry.GoneSeg 0 1 ∷
    entry.Do 0 15 0 None reply.Done ∷ entry.Leave 0 ∷ []
unfolding book_of
pages_are_charged = refl

-- ---- Directories and segments are deleted, and what they were is told afterwards.

abbrev deletions_script : ProcessPlan
deletions_script = process_for (codes "Smith") (
    command.MkDir (codes "d" ∷ []) 0 ∷ command.Move (codes "d" ∷ []) (pos 1) ∷ command.Delete (codes "d" ∷ []) ∷
    command.MkSeg (codes "d" ∷ codes "s" ∷ []) 1 0 ∷ command.Delete (codes "d" ∷ []) ∷
    command.Initiate (codes "d" ∷ codes "s" ∷ []) ∷ command.Write 0 0 1 ∷
    command.Delete (codes "d" ∷ codes "s" ∷ []) ∷ command.Read 0 0 ∷ command.Move (codes "d" ∷ []) (negsuc 0) ∷
    command.Delete (codes "d" ∷ []) ∷ command.Delete [] ∷ command.Initiate (codes "d" ∷ []) ∷ command.End ∷ [])

-- the whole book, up to the shutdown
pub deleted_is_gone : book_of (until 0 29 (machine_with 1 4 4 8 4 (deletions_script ∷ []))) ≡
    entry.Online 0 ∷ entry.Load 0 0 ∷ entry.Do 0 0 0 None (reply.Made 2) ∷ entry.Do 0 1 0 None reply.Done ∷
    entry.Do 0 2 0 None reply.HasQuota ∷ entry.Do 0 3 0 None (reply.Made 3) ∷ entry.Do 0 4 0 None reply.NotEmpty ∷
    entry.Do 0 5 0 None (reply.Known 0) ∷ entry.Activate 1 ∷ entry.Activate 2 ∷ entry.Activate 3 ∷
    entry.Connect 0 0 3 ∷ entry.Here 0 3 0 ∷ entry.Do 0 6 0 None reply.Done ∷ entry.Take 0 ∷ entry.Cut 0 0 ∷
    entry.Signal 0 (what.Seg 3) ∷ entry.GonePage 0 ∷ entry.GoneSeg 0 0 ∷ entry.Deactivate 3 ∷
    entry.Do 0 7 0 None reply.Done ∷ entry.Do 0 8 0 None reply.Gone ∷ entry.Do 0 9 0 None reply.Done ∷
    entry.Deactivate 2 ∷ entry.Do 0 10 0 None reply.Done ∷ entry.Do 0 11 0 None reply.Root ∷
    entry.Do 0 12 0 None reply.NoPath ∷ entry.Do 0 13 0 None reply.Done ∷ entry.Leave 0 ∷ []
unfolding book_of
deleted_is_gone = refl

-- ---- The shutdown writes what is left in the frames: a page whose write fails stays, and a page of zeros is given
-- back without a write.

abbrev failed_shutdown_script : ProcessPlan
failed_shutdown_script = process_for (codes "Smith") (
    command.MkSeg (codes "s" ∷ []) 2 0 ∷ command.Initiate (codes "s" ∷ []) ∷ command.Write 0 0 1 ∷
    command.Write 0 1024 1 ∷ command.Write 0 1024 0 ∷ command.End ∷ [])

-- the whole book
pub page_stays : book_of (visited 3 (visit_failed (until 0 19 (machine_with 1 4 9 16 4 (failed_shutdown_script ∷ [])))))
    ≡
    entry.Online 0 ∷ entry.Load 0 0 ∷ entry.Do 0 0 0 None (reply.Made 2) ∷ entry.Do 0 1 0 None (reply.Known 0) ∷
    entry.Activate 1 ∷ entry.Activate 2 ∷ entry.Connect 0 0 2 ∷ entry.Here 0 2 0 ∷ entry.Do 0 2 0 None reply.Done ∷
    entry.FillSeg 0 0 ∷ entry.Here 1 2 1 ∷ entry.Do 0 3 0 None reply.Done ∷ entry.FillPage 0 1 ∷
    entry.Do 0 4 0 (Some 1) reply.Done ∷ entry.Cut 0 0 ∷ entry.Signal 0 what.All ∷ entry.GoneSeg 0 0 ∷
    entry.Do 0 5 0 None reply.Done ∷ entry.Leave 0 ∷ entry.Take 0 ∷ entry.Fault None ∷ entry.BackPage 0 ∷
    entry.Take 1 ∷ entry.GonePage 1 ∷ entry.Release 2 1 ∷ []
unfolding book_of
page_stays = refl

-- ---- A word is written through an entry of a page that is on its way out: the page is tested for zeros only after the
-- last clear, so the word is kept.

abbrev smith : ProcessPlan
smith = process_for (codes "Smith") (
    command.MkSeg (codes "s" ∷ []) 1 0 ∷ command.Acl (codes "s" ∷ []) (row_for (codes "Jones")) mode.Both ∷
    command.Initiate (codes "s" ∷ []) ∷ command.Write 0 0 1 ∷ command.Write 0 0 0 ∷
    command.MkSeg (codes "t" ∷ []) 4 0 ∷ command.Initiate (codes "t" ∷ []) ∷ command.Write 1 0 1 ∷
    command.Write 1 1024 1 ∷ command.Write 1 2048 1 ∷ command.Write 1 3072 1 ∷ command.End ∷ [])

abbrev jones : ProcessPlan
jones = process_for (codes "Jones") (
    command.Initiate (codes "s" ∷ []) ∷ command.Read 0 0 ∷ command.Write 0 5 7 ∷ command.Read 0 5 ∷ command.End ∷ [])

-- the page of zeros is taken
abbrev is_taken : State
is_taken = ran ((0, 13) ∷ (1, 20) ∷ (0, 32) ∷ []) (machine_with 2 4 9 16 8 (smith ∷ jones ∷ []))

-- a word is written into it by the other processor; after its clear the page has left its frame
abbrev is_gone : State
is_gone = ran ((0, 38) ∷ []) (stepped 1 (ran ((0, 34) ∷ []) (stepped 1 is_taken)))

-- the page is read in again for the other process, which takes in its descriptor just once
pub late_word_is_kept : book_of (ran ((1, 46) ∷ []) (stepped 0 (ran ((1, 40) ∷ []) is_gone))) ≡
    entry.Online 0 ∷ entry.Load 0 0 ∷ entry.Do 0 0 0 None (reply.Made 2) ∷ entry.Do 0 1 0 None reply.Done ∷
    entry.Do 0 2 0 None (reply.Known 0) ∷ entry.Activate 1 ∷ entry.Activate 2 ∷ entry.Connect 0 0 2 ∷
    entry.Here 0 2 0 ∷ entry.Do 0 3 0 None reply.Done ∷ entry.FillSeg 0 0 ∷ entry.FillPage 0 0 ∷
    entry.Do 0 4 0 (Some 0) reply.Done ∷ entry.Online 1 ∷ entry.Load 1 1 ∷ entry.Do 1 0 1 None (reply.Known 0) ∷
    entry.Connect 1 0 2 ∷ entry.FillSeg 1 0 ∷ entry.FillPage 1 0 ∷ entry.Do 1 1 1 (Some 0) (reply.Word 0) ∷
    entry.Do 0 5 0 None (reply.Made 3) ∷ entry.Do 0 6 0 None (reply.Known 1) ∷ entry.Activate 3 ∷
    entry.Connect 0 1 3 ∷ entry.Here 1 3 0 ∷ entry.Do 0 7 0 None reply.Done ∷ entry.FillSeg 0 1 ∷ entry.Here 2 3 1 ∷
    entry.Do 0 8 0 None reply.Done ∷ entry.Here 3 3 2 ∷ entry.Do 0 9 0 None reply.Done ∷ entry.Take 0 ∷
    entry.Do 1 2 1 (Some 0) reply.Done ∷ entry.Signal 0 (what.Page 0) ∷ entry.Clear 1 (what.Page 0) ∷
    entry.GonePage 0 ∷ entry.Here 0 3 3 ∷ entry.Do 0 10 0 None reply.Done ∷ entry.Take 1 ∷
    entry.Signal 1 (what.Page 1) ∷ entry.Clear 0 (what.Page 1) ∷ entry.GonePage 1 ∷ entry.Start 1 2 0 ∷
    entry.Here 1 2 0 ∷ entry.FillPage 1 1 ∷ entry.Do 1 3 1 (Some 1) (reply.Word 7) ∷ []
unfolding book_of
late_word_is_kept = refl

-- ---- Two processes share a segment in four frames: they add to its words, wait for one, and take their turns.

abbrev shared_smith : ProcessPlan
shared_smith = process_for (codes "Smith") (
    command.MkSeg (codes "s" ∷ []) 6 0 ∷ command.Acl (codes "s" ∷ []) (row_for (codes "Jones")) mode.Both ∷
    command.Initiate (codes "s" ∷ []) ∷ command.Write 0 0 1 ∷ command.Write 0 1024 1 ∷ command.Write 0 2048 1 ∷
    command.Write 0 3072 1 ∷ command.Write 0 4096 1 ∷ command.Write 0 0 0 ∷ command.Read 0 5120 ∷
    command.Acl (codes "s" ∷ []) (row_for (codes "Jones")) mode.Null ∷ command.End ∷ [])

abbrev shared_jones : ProcessPlan
shared_jones = process_for (codes "Jones") (
    command.Initiate (codes "s" ∷ []) ∷ command.Read 0 0 ∷ command.Add 0 1024 2 ∷ command.Await 0 0 1 3 ∷
    command.Read 0 4096 ∷ command.End ∷ [])

-- the page that the one process reads is a page of zeros, so it gives the supervisor up
abbrev gave_up : State
gave_up = stepped 0 (ran (
    (1, 2) ∷ (0, 3) ∷ (1, 6) ∷ (0, 11) ∷ []) (machine_with 2 4 9 16 8 (shared_smith ∷ shared_jones ∷ [])))

-- the whole book; the shutdown gives a page of zeros back
pub shares_a_segment : book_of (visited 4 (ran (
    (1, 14) ∷ (0, 15) ∷ (1, 18) ∷ (0, 22) ∷ (1, 24) ∷ (0, 25) ∷ (1, 27) ∷ (0, 30) ∷ (1, 31) ∷ (0, 34) ∷
    (1, 37) ∷ (0, 38) ∷ (1, 43) ∷ (0, 44) ∷ (1, 52) ∷ (0, 53) ∷ (1, 57) ∷ []) gave_up)) ≡
    entry.Online 1 ∷ entry.Load 1 0 ∷ entry.Online 0 ∷ entry.Do 0 0 1 None (reply.Made 2) ∷
    entry.Do 0 1 1 None reply.Done ∷ entry.Do 0 2 1 None (reply.Known 0) ∷ entry.Load 0 1 ∷
    entry.Do 1 0 0 None (reply.Known 0) ∷ entry.Activate 1 ∷ entry.Activate 2 ∷ entry.Connect 1 0 2 ∷
    entry.Connect 0 0 2 ∷ entry.Here 0 2 0 ∷ entry.Do 0 3 1 None reply.Done ∷ entry.FillSeg 0 0 ∷ entry.FillSeg 1 0 ∷
    entry.Here 1 2 1 ∷ entry.Do 0 4 1 None reply.Done ∷ entry.FillPage 0 0 ∷ entry.Do 1 1 0 (Some 0) (reply.Word 1) ∷
    entry.FillPage 0 1 ∷ entry.Do 1 2 0 (Some 1) (reply.Word 3) ∷ entry.Here 2 2 2 ∷ entry.Do 0 5 1 None reply.Done ∷
    entry.Do 1 3 0 (Some 0) (reply.Word 1) ∷ entry.Here 3 2 3 ∷ entry.Do 0 6 1 None reply.Done ∷
    entry.Do 1 4 0 None (reply.Word 0) ∷ entry.Cut 1 0 ∷ entry.Signal 0 what.All ∷ entry.Clear 1 what.All ∷
    entry.GoneSeg 1 0 ∷ entry.Do 1 5 0 None reply.Done ∷ entry.Leave 0 ∷ entry.FillSeg 1 0 ∷ entry.Take 0 ∷
    entry.Signal 1 (what.Page 0) ∷ entry.Clear 0 (what.Page 0) ∷ entry.GonePage 0 ∷ entry.Here 0 2 4 ∷
    entry.Do 0 7 1 None reply.Done ∷ entry.Take 1 ∷ entry.Signal 1 (what.Page 1) ∷ entry.Clear 0 (what.Page 1) ∷
    entry.GonePage 1 ∷ entry.Start 1 2 0 ∷ entry.Here 1 2 0 ∷ entry.FillPage 1 1 ∷
    entry.Do 0 8 1 (Some 1) reply.Done ∷ entry.Do 0 9 1 None (reply.Word 0) ∷ entry.Cut 0 0 ∷
    entry.Signal 1 (what.Seg 2) ∷ entry.Clear 0 (what.Seg 2) ∷ entry.GoneSeg 0 0 ∷ entry.Do 0 10 1 None reply.Done ∷
    entry.Do 0 11 1 None reply.Done ∷ entry.Leave 1 ∷ entry.Take 0 ∷ entry.GonePage 0 ∷ entry.Take 1 ∷
    entry.GonePage 1 ∷ entry.Release 2 0 ∷ entry.Take 2 ∷ entry.GonePage 2 ∷ entry.Take 3 ∷ entry.GonePage 3 ∷ []
unfolding book_of
shares_a_segment = refl

-- ---- An initializer makes two segments, which share the one place of their pool. Then one is truncated, shortened and
-- forgotten by one process, and the other deleted by another, which reads it once more.

abbrev initializer : ProcessPlan
initializer = process_for (codes "Initializer") (
    command.MkDir (codes "d" ∷ []) 0 ∷ command.Move (codes "d" ∷ []) (pos 4) ∷
    command.MkSeg (codes "d" ∷ codes "s" ∷ []) 5 0 ∷ command.MkSeg (codes "d" ∷ codes "t" ∷ []) 5 0 ∷
    command.Acl (codes "d" ∷ codes "s" ∷ []) anyone mode.Both ∷
    command.Acl (codes "d" ∷ codes "t" ∷ []) anyone mode.Both ∷ command.End ∷ [])

abbrev changes_smith : ProcessPlan
changes_smith = process_for (codes "Smith") (
    command.Initiate (codes "d" ∷ codes "s" ∷ []) ∷ command.Initiate (codes "d" ∷ codes "t" ∷ []) ∷
    command.Write 0 0 1 ∷ command.Write 1 0 2 ∷ command.Truncate (codes "d" ∷ codes "s" ∷ []) 0 ∷
    command.Length (codes "d" ∷ codes "s" ∷ []) 2 ∷ command.Terminate 0 ∷ command.End ∷ [])

abbrev changes_jones : ProcessPlan
changes_jones = process_for (codes "Jones") (
    command.Initiate (codes "d" ∷ codes "s" ∷ []) ∷ command.Initiate (codes "d" ∷ codes "t" ∷ []) ∷
    command.Write 0 1024 3 ∷ command.Read 1 0 ∷ command.Delete (codes "d" ∷ codes "t" ∷ []) ∷ command.Read 1 0 ∷
    command.End ∷ [])

abbrev changes_machine : State
changes_machine =
    machine_of (record (plan_with 3 8 9 16 8 (initializer ∷ changes_smith ∷ changes_jones ∷ [])) { initializer = true })

-- the whole book, up to the shutdown
pub changes_under_use : book_of (ran (
    (1, 2) ∷ (0, 3) ∷ (2, 4) ∷ (1, 12) ∷ (2, 13) ∷ (0, 14) ∷ (2, 16) ∷ (0, 17) ∷ (2, 26) ∷ (1, 27) ∷ (0, 28) ∷
    (2, 35) ∷ (0, 36) ∷ (2, 39) ∷ (1, 40) ∷ (0, 41) ∷ (2, 48) ∷ (0, 52) ∷ (2, 53) ∷ (0, 60) ∷ (2, 62) ∷
    (0, 65) ∷ (2, 66) ∷ (1, 67) ∷ (0, 74) ∷ (2, 75) ∷ (1, 76) ∷ (0, 79) ∷ [])
    changes_machine) ≡
    entry.Online 1 ∷ entry.Load 1 0 ∷ entry.Online 0 ∷ entry.Online 2 ∷ entry.Do 0 0 1 None (reply.Made 2) ∷
    entry.Do 0 1 1 None reply.Done ∷ entry.Do 0 2 1 None (reply.Made 3) ∷ entry.Do 0 3 1 None (reply.Made 4) ∷
    entry.Do 0 4 1 None reply.Done ∷ entry.Do 0 5 1 None reply.Done ∷ entry.Do 0 6 1 None reply.Done ∷ entry.Leave 1 ∷
    entry.Load 2 1 ∷ entry.Load 0 2 ∷ entry.Do 1 0 2 None (reply.Known 0) ∷ entry.Do 1 1 2 None (reply.Known 1) ∷
    entry.Do 2 0 0 None (reply.Known 0) ∷ entry.Activate 1 ∷ entry.Activate 2 ∷ entry.Activate 3 ∷
    entry.Connect 1 0 3 ∷ entry.Here 0 3 0 ∷ entry.Do 1 2 2 None reply.Done ∷ entry.Take 0 ∷ entry.Cut 1 0 ∷
    entry.Signal 2 (what.Seg 3) ∷ entry.Clear 1 (what.Seg 3) ∷ entry.Clear 0 (what.Seg 3) ∷ entry.GonePage 0 ∷
    entry.GoneSeg 1 0 ∷ entry.Deactivate 3 ∷ entry.Activate 4 ∷ entry.Connect 1 1 4 ∷ entry.Here 0 4 0 ∷
    entry.Do 1 3 2 None reply.Done ∷ entry.Do 2 1 0 None (reply.Known 1) ∷ entry.Take 0 ∷ entry.Cut 1 1 ∷
    entry.Signal 2 (what.Seg 4) ∷ entry.Clear 1 (what.Seg 4) ∷ entry.Clear 0 (what.Seg 4) ∷ entry.GonePage 0 ∷
    entry.GoneSeg 1 1 ∷ entry.Deactivate 4 ∷ entry.Activate 3 ∷ entry.Do 1 4 2 None reply.Done ∷ entry.Deactivate 3 ∷
    entry.Do 1 5 2 None reply.Done ∷ entry.Activate 3 ∷ entry.Connect 2 0 3 ∷ entry.Here 0 3 1 ∷
    entry.Do 2 2 0 None reply.Done ∷ entry.Do 1 6 2 None reply.Done ∷ entry.Activate 4 ∷ entry.Connect 2 1 4 ∷
    entry.Start 1 4 0 ∷ entry.Here 1 4 0 ∷ entry.FillSeg 0 1 ∷ entry.FillPage 0 1 ∷
    entry.Do 2 3 0 (Some 1) (reply.Word 2) ∷ entry.Do 1 7 2 None reply.Done ∷ entry.Leave 2 ∷ entry.Take 1 ∷
    entry.Cut 2 1 ∷ entry.Signal 0 (what.Seg 4) ∷ entry.Clear 2 (what.Seg 4) ∷ entry.Clear 1 (what.Seg 4) ∷
    entry.GonePage 1 ∷ entry.GoneSeg 2 1 ∷ entry.Deactivate 4 ∷ entry.Do 2 4 0 None reply.Done ∷
    entry.Do 2 5 0 None reply.Gone ∷ entry.Cut 2 0 ∷ entry.Signal 0 what.All ∷ entry.Clear 2 what.All ∷
    entry.Clear 1 what.All ∷ entry.GoneSeg 2 0 ∷ entry.Do 2 6 0 None reply.Done ∷ entry.Leave 0 ∷ []
unfolding book_of
changes_under_use = refl

-- ---- The access to a segment is taken away while another processor holds its descriptor: until that has cleared, the
-- process reads on, and the command that takes the access away waits.

abbrev access_smith : ProcessPlan
access_smith = process_for (codes "Smith") (
    command.MkSeg (codes "s" ∷ []) 1 0 ∷ command.Acl (codes "s" ∷ []) (row_for (codes "Jones")) mode.Read ∷
    command.Initiate (codes "s" ∷ []) ∷ command.Write 0 0 5 ∷
    command.Acl (codes "s" ∷ []) (row_for (codes "Jones")) mode.Null ∷ command.End ∷ [])

abbrev access_jones : ProcessPlan
access_jones = process_for (codes "Jones") (
    command.Initiate (codes "s" ∷ []) ∷ command.Read 0 0 ∷ command.Read 0 0 ∷ command.Read 0 0 ∷ command.End ∷ [])

-- the descriptors are cut
abbrev is_cut : State
is_cut = ran ((0, 10) ∷ (1, 17) ∷ (0, 19) ∷ []) (machine_with 2 4 4 8 4 (access_smith ∷ access_jones ∷ []))

-- the other process reads through its entries once more; then the signal is given
abbrev is_signalled : State
is_signalled = stepped 0 (stepped 1 is_cut)

pub waits_for_the_clear : action_of is_signalled 0 ≡ Waits (ForClear 1)
unfolding book_of
waits_for_the_clear = refl

-- after the clear the access is changed, and the next read is refused; the whole book, up to the shutdown
pub reads_until_the_clear : book_of (ran ((0, 25) ∷ (1, 26) ∷ (0, 28) ∷ (1, 30) ∷ []) (stepped 1 is_signalled)) ≡
    entry.Online 0 ∷ entry.Load 0 0 ∷ entry.Do 0 0 0 None (reply.Made 2) ∷ entry.Do 0 1 0 None reply.Done ∷
    entry.Do 0 2 0 None (reply.Known 0) ∷ entry.Activate 1 ∷ entry.Activate 2 ∷ entry.Connect 0 0 2 ∷
    entry.Here 0 2 0 ∷ entry.Do 0 3 0 None reply.Done ∷ entry.Online 1 ∷ entry.Load 1 1 ∷
    entry.Do 1 0 1 None (reply.Known 0) ∷ entry.Connect 1 0 2 ∷ entry.FillSeg 1 0 ∷ entry.FillPage 1 0 ∷
    entry.Do 1 1 1 (Some 0) (reply.Word 5) ∷ entry.Cut 0 0 ∷ entry.Cut 1 0 ∷ entry.Do 1 2 1 (Some 0) (reply.Word 5) ∷
    entry.Signal 0 (what.Seg 2) ∷ entry.Clear 1 (what.Seg 2) ∷ entry.GoneSeg 0 0 ∷ entry.GoneSeg 1 0 ∷
    entry.Do 0 4 0 None reply.Done ∷ entry.Do 1 3 1 None reply.NoAccess ∷ entry.Do 0 5 0 None reply.Done ∷
    entry.Leave 0 ∷ entry.Do 1 4 1 None reply.Done ∷ entry.Leave 1 ∷ []
unfolding book_of
reads_until_the_clear = refl
