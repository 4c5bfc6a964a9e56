-- What several examples of a machine's book share: scripts, and the entries with which their books begin.
use Rattle.machine_model.proofs.Prelude.{ℕ, List, [], ◌∷◌, None, codes, ProcessPlan, Command, Entry, process_for, row_for, Mode as mode, Command as command, Entry as entry, Reply as reply, What as what, ◌≡◌, refl, true, State, action_of, HasEnded, IsStopped, Online, Load, TakeSupervisor, Waits, WhileIdle, ForOwner, book_of, finished, machine_with, stepped, Some, until, failed, ran, ForTransfer, machine_of, plan_with}

-- ---- scripts

-- a segment of one page: a word is written and read
abbrev pub one_page : ProcessPlan
one_page = process_for (codes "Smith") (
    command.MkSeg (codes "s" ∷ []) 1 0 ∷ command.Initiate (codes "s" ∷ []) ∷ command.Write 0 0 5 ∷ command.Read 0 0 ∷
    command.End ∷ [])

-- a segment of six pages: a word is written into each of the first four, and then more is done
abbrev pub four_pages : List Command → ProcessPlan
four_pages more = process_for (codes "Smith") (
    command.MkSeg (codes "s" ∷ []) 6 0 ∷ command.Initiate (codes "s" ∷ []) ∷ command.Write 0 0 1 ∷
    command.Write 0 1024 1 ∷ command.Write 0 2048 1 ∷ command.Write 0 3072 1 ∷ more)

-- the same with a word written into all six
abbrev pub six_pages : List Command → ProcessPlan
six_pages more = four_pages (command.Write 0 4096 1 ∷ command.Write 0 5120 1 ∷ more)

-- two segments of five pages: a word is written into each, and one of them is read
abbrev pub two_segments : ProcessPlan
two_segments = process_for (codes "Smith") (
    command.MkSeg (codes "s" ∷ []) 5 0 ∷ command.MkSeg (codes "t" ∷ []) 5 0 ∷ command.Initiate (codes "s" ∷ []) ∷
    command.Initiate (codes "t" ∷ []) ∷ command.Write 0 0 1 ∷ command.Write 1 0 2 ∷ command.Read 0 0 ∷ command.End ∷
    [])

-- Smith fills a segment of six pages, which Jones may read, and reads a word of it
abbrev pub smith : ℕ → ProcessPlan
smith word = process_for (codes "Smith") (
    command.MkSeg (codes "s" ∷ []) 6 0 ∷ command.Acl (codes "s" ∷ []) (row_for (codes "Jones")) mode.Read ∷
    command.Initiate (codes "s" ∷ []) ∷ command.Write 0 0 1 ∷ command.Write 0 1024 1 ∷ command.Write 0 2048 1 ∷
    command.Write 0 3072 1 ∷ command.Write 0 4096 1 ∷ command.Write 0 5120 1 ∷ command.Read 0 word ∷ command.End ∷ [])

abbrev pub jones : ProcessPlan
jones = process_for (codes "Jones") (
    command.Initiate (codes "s" ∷ []) ∷ command.Read 0 0 ∷ command.End ∷ [])

-- ---- how their books begin

-- the first word is written
abbrev pub one_written : List Entry → List Entry
one_written more =
    entry.Online 0 ∷ entry.Load 0 0 ∷ entry.Do 0 0 0 None (reply.Made 2) ∷ entry.Do 0 1 0 None (reply.Known 0) ∷
    entry.Activate 1 ∷ entry.Activate 2 ∷ entry.Connect 0 0 2 ∷ entry.Here 0 2 0 ∷ entry.Do 0 2 0 None reply.Done ∷
    more

-- four pages are written, each in a frame of its own
abbrev pub four_written : List Entry → List Entry
four_written more = one_written (
    entry.FillSeg 0 0 ∷ entry.Here 1 2 1 ∷ entry.Do 0 3 0 None reply.Done ∷ entry.Here 2 2 2 ∷
    entry.Do 0 4 0 None reply.Done ∷ entry.Here 3 2 3 ∷ entry.Do 0 5 0 None reply.Done ∷ more)

-- then two more in four frames, and the first is to be read again
abbrev pub six_written : List Entry → List Entry
six_written more = four_written (
    entry.Take 0 ∷ entry.Signal 0 (what.Page 0) ∷ entry.GonePage 0 ∷ entry.Here 0 2 4 ∷
    entry.Do 0 6 0 None reply.Done ∷ entry.Take 1 ∷ entry.Signal 0 (what.Page 1) ∷ entry.GonePage 1 ∷
    entry.Here 1 2 5 ∷ entry.Do 0 7 0 None reply.Done ∷ entry.Take 2 ∷ entry.Signal 0 (what.Page 2) ∷
    entry.GonePage 2 ∷ entry.Start 2 2 0 ∷ more)

-- two segments are known, and the first has to make room for the other
abbrev pub room_wanted : List Entry → List Entry
room_wanted more =
    entry.Online 0 ∷ entry.Load 0 0 ∷ entry.Do 0 0 0 None (reply.Made 2) ∷ entry.Do 0 1 0 None (reply.Made 3) ∷
    entry.Do 0 2 0 None (reply.Known 0) ∷ entry.Do 0 3 0 None (reply.Known 1) ∷ entry.Activate 1 ∷ entry.Activate 2 ∷
    entry.Connect 0 0 2 ∷ entry.Here 0 2 0 ∷ entry.Do 0 4 0 None reply.Done ∷ entry.Take 0 ∷ entry.Cut 0 0 ∷
    entry.Signal 0 (what.Seg 2) ∷ more

-- Smith has filled his segment, and a page of it is read into a frame for Jones
abbrev pub read_begun : List Entry → List Entry
read_begun more =
    entry.Online 0 ∷ entry.Load 0 0 ∷ entry.Do 0 0 0 None (reply.Made 2) ∷ entry.Do 0 1 0 None reply.Done ∷
    entry.Do 0 2 0 None (reply.Known 0) ∷ entry.Activate 1 ∷ entry.Activate 2 ∷ entry.Connect 0 0 2 ∷
    entry.Here 0 2 0 ∷ entry.Do 0 3 0 None reply.Done ∷ entry.FillSeg 0 0 ∷ entry.Here 1 2 1 ∷
    entry.Do 0 4 0 None reply.Done ∷ entry.Here 2 2 2 ∷ entry.Do 0 5 0 None reply.Done ∷ entry.Here 3 2 3 ∷
    entry.Do 0 6 0 None reply.Done ∷ entry.Take 0 ∷ entry.Signal 0 (what.Page 0) ∷ entry.GonePage 0 ∷
    entry.Here 0 2 4 ∷ entry.Do 0 7 0 None reply.Done ∷ entry.Take 1 ∷ entry.Signal 0 (what.Page 1) ∷
    entry.GonePage 1 ∷ entry.Here 1 2 5 ∷ entry.Do 0 8 0 None reply.Done ∷ entry.Online 1 ∷ entry.Load 1 1 ∷
    entry.Do 1 0 1 None (reply.Known 0) ∷ entry.Connect 1 0 2 ∷ entry.Take 2 ∷ entry.Signal 1 (what.Page 2) ∷
    entry.Clear 0 (what.Page 2) ∷ entry.GonePage 2 ∷ entry.Start 2 2 0 ∷ more

-- ---- Two processors and one process, then two: the second processor waits for work, or for the supervisor.

abbrev one : State
one = machine_with 2 4 4 8 4 (one_page ∷ [])

abbrev two : State
two = machine_with 2 4 4 8 4 (one_page ∷ one_page ∷ [])

-- a processor comes online, then loads what is ready
pub comes_online : action_of one 0 ≡ Online
unfolding book_of
comes_online = refl

pub loads_the_first : action_of (stepped 0 one) 0 ≡ Load 0
unfolding book_of
loads_the_first = refl

-- where nothing is ready, it waits, and is told how many processors have a process
pub waits_while_idle : action_of (stepped 1 (stepped 0 (stepped 0 one))) 1 ≡ Waits (WhileIdle 1)
unfolding book_of
waits_while_idle = refl

-- each of two processors loads a process
abbrev both_run : State
both_run = stepped 1 (stepped 1 (stepped 0 (stepped 0 two)))

-- the first comes to a tree command and takes the supervisor; the other waits for it
pub takes_the_supervisor : action_of both_run 0 ≡ TakeSupervisor
unfolding book_of
takes_the_supervisor = refl

pub waits_for_the_owner : action_of (stepped 0 both_run) 1 ≡ Waits (ForOwner 0)
unfolding book_of
waits_for_the_owner = refl

-- once the process has ended nothing is left to do, and a machine that was stopped does nothing
pub has_ended : action_of (finished 0 200 one) 1 ≡ HasEnded
unfolding book_of
has_ended = refl

pub is_stopped : action_of (record one { stopped = true }) 0 ≡ IsStopped
unfolding book_of
is_stopped = refl

-- ---- A process makes a segment, writes a word into it and reads it, and ends.

-- the whole book, up to the shutdown
pub runs_to_its_end : book_of (until 0 17 (machine_with 1 4 4 8 4 (one_page ∷ []))) ≡ one_written (
    entry.FillSeg 0 0 ∷ entry.FillPage 0 0 ∷ entry.Do 0 3 0 (Some 0) (reply.Word 5) ∷ entry.Cut 0 0 ∷
    entry.Signal 0 what.All ∷ entry.GoneSeg 0 0 ∷ entry.Do 0 4 0 None reply.Done ∷ entry.Leave 0 ∷ [])
unfolding book_of
runs_to_its_end = refl

-- ---- A segment of six pages in four frames: pages take turns in the frames, and one is read in again.

-- the first page is read, and then more is done
abbrev paged : List Command → State
paged more = machine_with 1 4 9 16 4 (six_pages (command.Read 0 0 ∷ more) ∷ [])

-- the whole book, up to the shutdown
pub pages_take_turns : book_of (until 0 38 (paged (command.End ∷ []))) ≡ six_written (
    entry.Here 2 2 0 ∷ entry.FillPage 0 2 ∷ entry.Do 0 8 0 (Some 2) (reply.Word 1) ∷
    entry.Cut 0 0 ∷ entry.Signal 0 what.All ∷ entry.GoneSeg 0 0 ∷ entry.Do 0 9 0 None reply.Done ∷ entry.Leave 0 ∷ [])
unfolding book_of
pages_take_turns = refl

-- ---- The read of a page into a frame fails: the frame is free again, and the process is told. The next read of the
-- page ends well.

-- the whole book, up to the shutdown
pub frame_is_free_again :
    book_of (until 0 42 (failed 0 (until 0 30 (paged (command.Read 0 0 ∷ command.End ∷ []))))) ≡ six_written (
    entry.Lose 2 ∷ entry.Fault (Some 0) ∷ entry.Do 0 8 0 None reply.Device ∷ entry.Start 2 2 0 ∷
    entry.Here 2 2 0 ∷ entry.FillPage 0 2 ∷ entry.Do 0 9 0 (Some 2) (reply.Word 1) ∷ entry.Cut 0 0 ∷
    entry.Signal 0 what.All ∷ entry.GoneSeg 0 0 ∷ entry.Do 0 10 0 None reply.Done ∷ entry.Leave 0 ∷ [])
unfolding book_of
frame_is_free_again = refl

-- ---- The write of a page that has to leave its frame fails: the page comes back, and the process is told. The next
-- one goes.

abbrev script : ProcessPlan
script = four_pages (
    command.Write 0 4096 1 ∷ command.Write 0 4096 1 ∷ command.Read 0 0 ∷ command.End ∷ [])

-- the whole book, up to the shutdown
pub page_comes_back : book_of (until 0 33 (failed 0 (until 0 18 (machine_with 1 4 9 16 4 (script ∷ []))))) ≡
    four_written (
    entry.Take 0 ∷
    entry.Signal 0 (what.Page 0) ∷ entry.Fault (Some 0) ∷ entry.BackPage 0 ∷ entry.Do 0 6 0 None reply.Device ∷
    entry.Take 1 ∷ entry.Signal 0 (what.Page 1) ∷ entry.GonePage 1 ∷ entry.Here 1 2 4 ∷
    entry.Do 0 7 0 None reply.Done ∷ entry.FillPage 0 0 ∷ entry.Do 0 8 0 (Some 0) (reply.Word 1) ∷ entry.Cut 0 0 ∷
    entry.Signal 0 what.All ∷ entry.GoneSeg 0 0 ∷ entry.Do 0 9 0 None reply.Done ∷ entry.Leave 0 ∷ [])
unfolding book_of
page_comes_back = refl

-- ---- A segment is truncated, then deleted: what was taken goes in the order in which it was taken, and the cut page
-- stays.

abbrev truncation_script : ProcessPlan
truncation_script = four_pages (
    command.Truncate (codes "s" ∷ []) 1025 ∷ command.Delete (codes "s" ∷ []) ∷ command.End ∷ [])

-- the whole book, up to the shutdown
pub goes_in_order : book_of (until 0 35 (machine_with 1 8 9 16 8 (truncation_script ∷ []))) ≡ four_written (
    entry.Take 1 ∷ entry.Take 2 ∷
    entry.Take 3 ∷ entry.Signal 0 (what.Seg 2) ∷ entry.BackPage 1 ∷ entry.GonePage 2 ∷ entry.GonePage 3 ∷
    entry.Do 0 6 0 None reply.Done ∷ entry.Take 0 ∷ entry.Take 1 ∷ entry.Cut 0 0 ∷ entry.Signal 0 (what.Seg 2) ∷
    entry.GonePage 0 ∷ entry.GonePage 1 ∷ entry.GoneSeg 0 0 ∷ entry.Deactivate 2 ∷ entry.Do 0 7 0 None reply.Done ∷
    entry.Do 0 8 0 None reply.Done ∷ entry.Leave 0 ∷ [])
unfolding book_of
goes_in_order = refl

-- ---- A segment is truncated in the middle of a page, twice: the cut page comes back while it keeps a word, and is
-- stored no more once it is all zeros.

abbrev cut_pages_script : ProcessPlan
cut_pages_script = process_for (codes "Smith") (
    command.MkSeg (codes "s" ∷ []) 3 0 ∷ command.Initiate (codes "s" ∷ []) ∷ command.Write 0 0 1 ∷
    command.Write 0 1499 2 ∷ command.Write 0 1500 3 ∷ command.Write 0 2048 4 ∷
    command.Truncate (codes "s" ∷ []) 1500 ∷ command.Read 0 1499 ∷ command.Read 0 1500 ∷ command.Read 0 2048 ∷
    command.Status (codes "s" ∷ []) ∷ command.Truncate (codes "s" ∷ []) 1499 ∷ command.Status (codes "s" ∷ []) ∷
    command.End ∷ [])

-- the whole book, up to the shutdown
pub cut_page_comes_back : book_of (until 0 38 (machine_with 1 4 4 8 4 (cut_pages_script ∷ []))) ≡ one_written (
    entry.FillSeg 0 0 ∷ entry.Here 1 2 1 ∷ entry.Do 0 3 0 None reply.Done ∷ entry.FillPage 0 1 ∷
    entry.Do 0 4 0 (Some 1) reply.Done ∷ entry.Here 2 2 2 ∷ entry.Do 0 5 0 None reply.Done ∷ entry.Take 1 ∷
    entry.Take 2 ∷ entry.Signal 0 (what.Seg 2) ∷ entry.BackPage 1 ∷ entry.GonePage 2 ∷
    entry.Do 0 6 0 None reply.Done ∷ entry.FillSeg 0 0 ∷ entry.FillPage 0 1 ∷ entry.Do 0 7 0 (Some 1) (reply.Word 2) ∷
    entry.Do 0 8 0 (Some 1) (reply.Word 0) ∷ entry.Do 0 9 0 None (reply.Word 0) ∷
    entry.Do 0 10 0 None (reply.SegIs 2 3 2) ∷ entry.Take 1 ∷ entry.Signal 0 (what.Seg 2) ∷ entry.GonePage 1 ∷
    entry.Do 0 11 0 None reply.Done ∷ entry.Do 0 12 0 None (reply.SegIs 2 3 1) ∷ entry.Cut 0 0 ∷
    entry.Signal 0 what.All ∷ entry.GoneSeg 0 0 ∷ entry.Do 0 13 0 None reply.Done ∷ entry.Leave 0 ∷ [])
unfolding book_of
cut_page_comes_back = refl

-- ---- Two segments share the one place of their pool: each is emptied for the other.

-- the whole book, up to the shutdown
pub segments_take_turns : book_of (until 0 39 (machine_with 1 8 9 16 8 (two_segments ∷ []))) ≡ room_wanted (
    entry.GonePage 0 ∷ entry.GoneSeg 0 0 ∷ entry.Deactivate 2 ∷ entry.Activate 3 ∷
    entry.Connect 0 1 3 ∷ entry.Here 0 3 0 ∷ entry.Do 0 5 0 None reply.Done ∷ entry.Take 0 ∷ entry.Cut 0 1 ∷
    entry.Signal 0 (what.Seg 3) ∷ entry.GonePage 0 ∷ entry.GoneSeg 0 1 ∷ entry.Deactivate 3 ∷ entry.Activate 2 ∷
    entry.Connect 0 0 2 ∷ entry.Start 0 2 0 ∷ entry.Here 0 2 0 ∷ entry.FillSeg 0 0 ∷ entry.FillPage 0 0 ∷
    entry.Do 0 6 0 (Some 0) (reply.Word 1) ∷ entry.Cut 0 0 ∷ entry.Signal 0 what.All ∷ entry.GoneSeg 0 0 ∷
    entry.Do 0 7 0 None reply.Done ∷ entry.Leave 0 ∷ [])
unfolding book_of
segments_take_turns = refl

-- ---- The write of a page of a segment that has to make room in its pool fails: the page and the descriptor come back,
-- and the process is told. The segment is used through both.

-- the whole book, up to the shutdown
pub all_comes_back : book_of (until 0 26 (failed 0 (until 0 14 (machine_with 1 8 9 16 8 (two_segments ∷ []))))) ≡
    room_wanted (
    entry.Fault (Some 0) ∷ entry.BackPage 0 ∷ entry.BackSeg 0 0 ∷
    entry.Do 0 5 0 None reply.Device ∷ entry.FillSeg 0 0 ∷ entry.FillPage 0 0 ∷
    entry.Do 0 6 0 (Some 0) (reply.Word 1) ∷ entry.Cut 0 0 ∷ entry.Signal 0 what.All ∷ entry.GoneSeg 0 0 ∷
    entry.Do 0 7 0 None reply.Done ∷ entry.Leave 0 ∷ [])
unfolding book_of
all_comes_back = refl

-- ---- Two processors read pages into two frames at once.

-- a page is being read into frame 2; then one into frame 3
abbrev is_started : ℕ → State
is_started word = ran ((1, 36) ∷ [])
    (stepped 0 (ran ((0, 27) ∷ (1, 33) ∷ []) (machine_with 2 4 9 16 8 (smith word ∷ jones ∷ []))))

abbrev are_started : State
are_started = ran ((0, 41) ∷ []) (stepped 1 (ran ((0, 38) ∷ []) (is_started 1024)))

pub both_end : book_of (ran ((1, 42) ∷ (0, 44) ∷ []) are_started) ≡ read_begun (
    entry.Take 3 ∷ entry.Signal 0 (what.Page 3) ∷
    entry.Clear 1 (what.Page 3) ∷ entry.GonePage 3 ∷ entry.Start 3 2 1 ∷ entry.Here 2 2 0 ∷ entry.Here 3 2 1 ∷
    entry.FillPage 0 3 ∷ [])
unfolding book_of
both_end = refl

-- ---- A process needs a page that another processor is reading into a frame: it waits for that transfer.

pub waits_for_the_transfer : action_of (stepped 0 (is_started 0)) 0 ≡ Waits (ForTransfer 2)
unfolding book_of
waits_for_the_transfer = refl

-- once the page is there, it is read through that frame
pub reads_after_the_transfer : book_of (ran ((1, 37) ∷ (0, 39) ∷ []) (stepped 0 (is_started 0))) ≡ read_begun (
    entry.Here 2 2 0 ∷ entry.FillPage 0 2 ∷ entry.Do 0 9 0 (Some 2) (reply.Word 1) ∷ [])
unfolding book_of
reads_after_the_transfer = refl

-- ---- A segment of six pages on a volume of five records moves to another volume when its sixth page is written, with
-- the page that isn't in a frame; unless a drive fails, or the other volume has too few records too.

-- the second volume has so many records
abbrev machine : ℕ → List Command → State
machine records more = machine_of (record (plan_with 1 4 9 5 4 (six_pages more ∷ [])) {
  volumes = record { name = codes "alpha"; records = 5; entries = 4 }
      ∷ record { name = codes "beta"; records = records; entries = 4 } ∷ [];
})

-- the first volume is full
abbrev five_written : List Entry → List Entry
five_written more = four_written (
    entry.Take 0 ∷ entry.Signal 0 (what.Page 0) ∷ entry.GonePage 0 ∷ entry.Here 0 2 4 ∷
    entry.Do 0 6 0 None reply.Done ∷ more)

-- the whole book, up to the shutdown: the page that was copied is read on the other volume
pub segment_moves : book_of (until 0 39 (machine 8 (command.Read 0 0 ∷ command.End ∷ []))) ≡ five_written (
    entry.Moved 0 2 1 ∷
    entry.Take 1 ∷ entry.Signal 0 (what.Page 1) ∷ entry.GonePage 1 ∷ entry.Here 1 2 5 ∷
    entry.Do 0 7 0 None reply.Done ∷ entry.Take 2 ∷ entry.Signal 0 (what.Page 2) ∷ entry.GonePage 2 ∷
    entry.Start 2 2 0 ∷ entry.Here 2 2 0 ∷ entry.FillPage 0 2 ∷ entry.Do 0 8 0 (Some 2) (reply.Word 1) ∷
    entry.Cut 0 0 ∷ entry.Signal 0 what.All ∷ entry.GoneSeg 0 0 ∷ entry.Do 0 9 0 None reply.Done ∷ entry.Leave 0 ∷ [])
unfolding book_of
segment_moves = refl

-- a copy fails: the move is given up, and the process is told; the next write moves the segment
pub move_is_given_up : book_of (until 0 34 (failed 0 (stepped 0 (stepped 0 (until 0 21
    (machine 8 (command.Write 0 5120 2 ∷ command.End ∷ []))))))) ≡ five_written (
    entry.Fault (Some 0) ∷ entry.Do 0 7 0 None reply.Device ∷ entry.Moved 0 2 1 ∷
    entry.Take 1 ∷ entry.Signal 0 (what.Page 1) ∷ entry.GonePage 1 ∷ entry.Here 1 2 5 ∷
    entry.Do 0 8 0 None reply.Done ∷ entry.Cut 0 0 ∷ entry.Signal 0 what.All ∷ entry.GoneSeg 0 0 ∷
    entry.Do 0 9 0 None reply.Done ∷ entry.Leave 0 ∷ [])
unfolding book_of
move_is_given_up = refl

-- the other volume has records for as many pages as are stored, but not for one more
pub no_volume_has_room : book_of (until 0 27 (machine 5 (command.End ∷ []))) ≡ five_written (
    entry.Do 0 7 0 None reply.NoRecord ∷ entry.Cut 0 0 ∷ entry.Signal 0 what.All ∷ entry.GoneSeg 0 0 ∷
    entry.Do 0 8 0 None reply.Done ∷ entry.Leave 0 ∷ [])
unfolding book_of
no_volume_has_room = refl
