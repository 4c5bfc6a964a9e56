-- What the steps without the supervisor, and the looks that end at once, change: each function has the effect of one
-- entry, or of one change that has none (Bensoussan, Clingen and Daley 1972; Corbató 1968).
use Rattle.std.specs.Prelude.{ℕ, ◌+◌, ◌-◌, ◌/◌, ◌%◌, Bool, true, false, if◌then◌else◌, length, slice_index_or, slice_set, List, [], ◌∷◌, ◌++◌, drop, Option, Some, None}
use Rattle.mnames.specs.declared.modes.Mode.TheVariants as mode
use Rattle.script.specs.declared.commands.Command.{Command}
use Rattle.script.specs.declared.commands.Reference.{Reference}
use Rattle.book.specs.declared.entries.Entry.{Entry}
use Rattle.book.specs.declared.entries.Entry.TheVariants as entry
use Rattle.book.specs.declared.replies.Reply.{Reply}
use Rattle.book.specs.declared.replies.Reply.TheVariants as reply
use Rattle.assoc_mem.specs.declared.What.{What}
use Rattle.assoc_mem.specs.declared.HeldSeg.{HeldSeg}
use Rattle.assoc_mem.specs.declared.HeldPage.{HeldPage}
use Rattle.assoc_mem.specs.Held.{cleared, nothing_held, seg_of, with_page, with_seg}
use Rattle.tree_model.specs.Tree.{node_in}
use Rattle.accounts.specs.Maps.{AccountMaps, count_of}
use Rattle.quota_cells.specs.Accounts.{with_value}
use Rattle.flat_model.specs.Commands.{is_end, tries_on}
use Rattle.script.specs.References.{alters, new_word}
use Rattle.flat_model.specs.References.{word_reply}
use Rattle.flat_model.specs.Store.{Progress}
use Rattle.custody_model.specs.Next.{released_by}
use Rattle.core_map.specs.declared.Frame.TheVariants as frame
use Rattle.page_table.specs.declared.Ptw.{Ptw}
use Rattle.page_table.specs.declared.Ptw.TheVariants as ptw
use Rattle.page_control.specs.Plain.{Plain, record_of, words_in}
use Rattle.page_control.specs.Effects.{brought_in, created, framed, next_record, referred, word_put}
use Rattle.page_control.specs.Tied.{map_at}
use Rattle.active_segs.specs.Active.{uid_at}
use Rattle.descriptor_seg.specs.declared.Sdw.{Sdw}
use Rattle.descriptor_seg.specs.declared.Sdw.TheVariants as sdw
use Rattle.seg_control.specs.Control.{place_of}
use Rattle.seg_control.specs.Effects.{linked, worded}
use Rattle.seg_control.specs.Next.{made_active, table_for, words_in as words_of_pool}
use Rattle.processor.specs.declared.Cpu.{Cpu}
use Rattle.processor.specs.declared.Transfer.{Transfer}
use Rattle.machine_model.specs.declared.Phase.TheVariants as phase
use Rattle.machine_model.specs.declared.Processor.{Processor}
use Rattle.machine_model.specs.declared.Run.{Run}
use Rattle.machine_model.specs.State.{State, Storage, Owner}
use Rattle.machine_model.specs.Reads.{or_zero, processor_at, cpu_at, run_at, process_at, next_command, home_in, length_in, mode_in, superior_of_node, descriptor_of}
use Rattle.machine_model.specs.Actions.{pool_of_node}

-- ---- parts that change

-- entries stand in the book, in room that was there
abbrev pub booked : State → List Entry → State
booked s es = record s { entries = s.entries ++ es; spare = s.spare - length es }

abbrev pub with_processor : State → ℕ → Processor → State
with_processor s c p = record s { processors = slice_set s.processors c p }

abbrev pub with_cpu : State → ℕ → Cpu → State
with_cpu s c cpu = with_processor s c (record (processor_at s.processors c) { cpu = cpu })

abbrev pub with_owner : State → Option Owner → State
with_owner s owner = record s { owner = owner }

abbrev pub with_store : State → Storage → State
with_store s st = record s { store = st }

abbrev pub with_pages : Storage → Plain → Storage
with_pages st pages = record st { pages = pages }

-- the word of page p of an active segment becomes w
abbrev pub with_word : Storage → ℕ → ℕ → Ptw → Storage
with_word st uid p w = record st { ast = worded st.ast uid p w }

abbrev pub with_faults : State → ℕ → State
with_faults s faults = record s { faults = faults }

-- ---- a command is answered

-- how far a process has come, as the flat store says it of one that no drive's failure was told of
abbrev pub progress_of_run : Run → Progress
progress_of_run run = record { place = run.place; tries = run.tries; ended = run.ended; faulted = false }

-- whether a command was a try that doesn't end its `await`
abbrev pub goes_on : Run → Option Command → Reply → Bool
goes_on run None r = false
goes_on run (Some c) r = tries_on (progress_of_run run) c r

abbrev pub is_its_end : Option Command → Bool
is_its_end None = false
is_its_end (Some c) = is_end c

-- how far a process has come once a command was answered
abbrev pub run_after : Run → Option Command → Reply → Run
run_after run c r =
    if goes_on run c r then record run { tries = run.tries + 1 }
    else record { place = run.place + 1; tries = 0; ended = is_its_end c }

-- The next command of a process is answered at a processor, through a frame or without one. At the end of the
-- initializer the other processes are ready.
abbrev pub told_by : State → ℕ → ℕ → Option ℕ → Reply → State
told_by s c k f r =
    let run = run_at s.runs k in
    let command = next_command s k in
    let p = processor_at s.processors c in
    booked (record s {
      runs = slice_set s.runs k (run_after run command r);
      ready = s.ready ++ released_by s.plan k command;
      processors = slice_set s.processors c (record p { count = p.count + 1; tried = goes_on run command r });
    }) (entry.Do k run.place c f r ∷ [])

abbrev pub told : State → ℕ → Option ℕ → Reply → State
told s c f r = told_by s c (process_at s c) f r

-- ---- processors

abbrev pub came_online : State → ℕ → State
came_online s c = booked (with_cpu s c (record (cpu_at s.processors c) { online = true })) (entry.Online c ∷ [])

-- a processor drops what it was to drop
abbrev pub cleared_at : State → ℕ → What → State
cleared_at s c w =
    let cpu = cpu_at s.processors c in
    booked (with_cpu s c (record cpu { due = None; assoc = cleared cpu.assoc w })) (entry.Clear c w ∷ [])

-- the front of the ready list is loaded, and nothing is held
abbrev pub loaded : State → ℕ → ℕ → State
loaded s c k =
    let cpu = cpu_at s.processors c in
    booked (record s {
      ready = drop 1 s.ready;
      processors = slice_set s.processors c (record {
        cpu = record cpu { process = Some k; assoc = nothing_held };
        count = 0;
        tried = false;
      });
    }) (entry.Load c k ∷ [])

-- a process that hasn't ended goes to the back of the ready list
abbrev pub queued : Run → List ℕ → ℕ → List ℕ
queued run ready k = if run.ended then ready else ready ++ k ∷ []

-- a processor gives its process up, and holds nothing
abbrev pub left_at : State → ℕ → State
left_at s c =
    let cpu = cpu_at s.processors c in
    let k = process_at s c in
    booked (record (with_cpu s c (record cpu { process = None; assoc = nothing_held })) {
      ready = queued (run_at s.runs k) s.ready k;
    }) (entry.Leave c ∷ [])

-- ---- associative memories

-- what is taken in of a descriptor
abbrev pub held_seg : Storage → ℕ → Sdw → HeldSeg
held_seg st n sdw.Fault = record { number = n; uid = 0; mode = mode.Null; pages = 0 }
held_seg st n (sdw.Present aste m pages) =
    record { number = n; uid = or_zero (uid_at st.ast.entries aste); mode = m; pages = pages }

abbrev pub seg_filled : State → ℕ → ℕ → State
seg_filled s c n =
    let cpu = cpu_at s.processors c in
    let e = held_seg s.store n (descriptor_of s.store.links (process_at s c) n) in
    booked (with_cpu s c (record cpu { assoc = with_seg cpu.assoc e })) (entry.FillSeg c n ∷ [])

-- the segment of a held descriptor
abbrev pub uid_of_held : Option HeldSeg → ℕ
uid_of_held None = 0
uid_of_held (Some e) = e.uid

-- what is taken in of the page table word of a reference's page
abbrev pub held_page : Cpu → ℕ → Reference → HeldPage
held_page cpu f r = record { uid = uid_of_held (seg_of cpu.assoc r.number); page = r.offset / 1024; frame = f }

abbrev pub page_filled : State → ℕ → ℕ → Reference → State
page_filled s c f r =
    let cpu = cpu_at s.processors c in
    booked (with_cpu s c (record cpu { assoc = with_page cpu.assoc (held_page cpu f r) })) (entry.FillPage c f ∷ [])

-- ---- words

-- the word that a reference finds in a frame
abbrev pub old_word : Plain → ℕ → Reference → ℕ
old_word pages f r = slice_index_or (words_in pages f) (r.offset % 1024) 0

-- a reference through a frame: the word is written, or read, and the marks are set
abbrev pub pages_after : Plain → ℕ → Reference → Plain
pages_after pages f r =
    if alters r.kind then word_put pages f (r.offset % 1024) (new_word (old_word pages f r) r.kind)
    else referred pages f false

abbrev pub went_through : State → ℕ → ℕ → Reference → State
went_through s c f r =
    told (with_store s (with_pages s.store (pages_after s.store.pages f r))) c (Some f)
    (word_reply (old_word s.store.pages f r) r.kind)

-- ---- the end of a transfer

abbrev pub without_transfer : State → ℕ → State
without_transfer s c = with_cpu s c (record (cpu_at s.processors c) { transfer = None })

-- the page is in its frame, as its record has it
abbrev pub brought : Storage → Transfer → Storage
brought st t =
    let home = home_in st t.uid in
    with_word (with_pages st (brought_in st.pages t.uid t.page home.volume (record_of st.pages home t.page) t.frame))
    t.uid t.page (ptw.Here t.frame)

abbrev pub transferred : State → ℕ → Transfer → State
transferred s c t =
    booked (with_store (without_transfer s c) (brought s.store t)) (entry.Here t.frame t.uid t.page ∷ [])

-- a drive's failure is told, of a process or, at shutdown, of none; the drives have counted it
abbrev pub fault_told : State → Option ℕ → ℕ → State
fault_told s k faults = booked (with_faults s faults) (entry.Fault k ∷ [])

-- the frame is free again
abbrev pub frame_lost : State → ℕ → Transfer → State
frame_lost s c t =
    booked (with_store (without_transfer s c) (with_pages s.store (framed s.store.pages t.frame frame.Free)))
    (entry.Lose t.frame ∷ [])

abbrev pub transfer_failed : State → ℕ → Transfer → ℕ → State
transfer_failed s c t faults = told (fault_told (frame_lost s c t) (Some (process_at s c)) faults) c None reply.Device

-- ---- looks that take nothing

-- a processor owns the supervisor, and looks
abbrev pub looking : ℕ → Owner
looking c = record { cpu = c; phase = phase.Looking; frames = []; cut = [] }

-- a reply gives the supervisor up
abbrev pub answered : State → ℕ → Reply → State
answered s c r = with_owner (told s c None r) None

-- a segment is active in a place below its superior, with the page table that its file map tells
abbrev pub with_active : Storage → ℕ → ℕ → Storage
with_active st uid place =
    let node = node_in st.accounts.nodes uid in record st {
      ast = made_active st.ast place uid (superior_of_node node)
          (table_for (map_at st.pages.vtocs (home_in st uid)) (words_of_pool (pool_of_node node)));
    }

abbrev pub activated_at : State → ℕ → ℕ → State
activated_at s uid place = booked (with_store s (with_active s.store uid place)) (entry.Activate uid ∷ [])

-- a number of a process leads to an active segment, with the mode of the process's access and the segment's length
abbrev pub with_link : Storage → ℕ → ℕ → ℕ → Storage
with_link st k n uid = record st {
  links = linked st.links k n (place_of st.ast.entries uid) (mode_in st k uid) (length_in st uid);
}

abbrev pub connected_to : State → ℕ → ℕ → ℕ → State
connected_to s c n uid =
    let k = process_at s c in booked (with_store s (with_link s.store k n uid)) (entry.Connect k n uid ∷ [])

-- a page is being read into a frame by a processor, which gives the supervisor up
abbrev pub started : State → ℕ → ℕ → ℕ → ℕ → State
started s c f uid p =
    let now = with_store s (with_pages s.store (framed s.store.pages f (frame.Started uid p))) in
    let cpu = record (cpu_at s.processors c) { transfer = Some (record { frame = f; uid = uid; page = p }) } in
    booked (with_owner (with_cpu now c cpu) None) (entry.Start f uid p ∷ [])

-- a page more of a segment is charged
abbrev pub charged : AccountMaps → ℕ → AccountMaps
charged a uid = record a { counts = with_value a.segments a.counts uid (count_of a uid + 1) }

-- a page is made in a frame: it has a record, and is all zeros but one word
abbrev pub with_created : Storage → ℕ → ℕ → ℕ → ℕ → ℕ → Storage
with_created st f uid p at w =
    let home = home_in st uid in
    let now = with_pages st (created st.pages uid p home (next_record st.pages home) f at w) in
    record (with_word now uid p (ptw.Here f)) { accounts = charged st.accounts uid }

abbrev pub page_made : State → ℕ → ℕ → ℕ → Reference → State
page_made s f uid p r =
    booked (with_store s (with_created s.store f uid p (r.offset % 1024) (new_word 0 r.kind))) (entry.Here f uid p ∷ [])

abbrev pub page_created : State → ℕ → ℕ → ℕ → ℕ → Reference → State
page_created s c f uid p r = answered (page_made s f uid p r) c (word_reply 0 r.kind)
