-- What the phases of a job change: pages and descriptors are taken, the other processors are told, and once they have
-- cleared what was taken goes, or comes back where a drive failed (Bensoussan, Clingen and Daley 1972). Each function
-- has the effect of one entry, or of a list of such.
use Rattle.std.specs.Prelude.{ℕ, ◌+◌, ◌-◌, Bool, ◌==◌, if◌then◌else◌, List, [], ◌∷◌, ◌++◌, Option, Some, None}
use Rattle.std.specs.List.{list_all}
use Rattle.mnames.specs.declared.modes.Mode.TheVariants as mode
use Rattle.book.specs.declared.entries.Entry.{Entry}
use Rattle.book.specs.declared.entries.Entry.TheVariants as entry
use Rattle.book.specs.declared.replies.Reply.TheVariants as reply
use Rattle.assoc_mem.specs.declared.What.{What}
use Rattle.assoc_mem.specs.declared.What.TheVariants as what
use Rattle.assoc_mem.specs.Held.{cleared}
use Rattle.accounts.specs.Maps.{AccountMaps, count_of}
use Rattle.quota_cells.specs.Accounts.{with_value}
use Rattle.core_map.specs.CoreMap.{bound_page}
use Rattle.core_map.specs.Clock.{after_choice}
use Rattle.page_table.specs.declared.Ptw.TheVariants as ptw
use Rattle.page_control.specs.declared.Left.{Left}
use Rattle.page_control.specs.declared.Left.TheVariants as left
use Rattle.page_control.specs.Plain.{frame_in, record_of, words_in}
use Rattle.page_control.specs.Effects.{evicted, word_of_left}
use Rattle.active_segs.specs.Active.{deactivated, uid_at}
use Rattle.active_segs.specs.Victim.{hand_moved}
use Rattle.descriptor_seg.specs.declared.Sdw.{Sdw}
use Rattle.descriptor_seg.specs.declared.Sdw.TheVariants as sdw
use Rattle.seg_control.specs.Control.{place_of}
use Rattle.seg_control.specs.Effects.{cut_one as descriptor_cut, linked}
use Rattle.machine_model.specs.declared.Aim.{Aim}
use Rattle.machine_model.specs.declared.Aim.TheVariants as aim
use Rattle.machine_model.specs.declared.Phase.{Phase}
use Rattle.machine_model.specs.declared.Phase.TheVariants as phase
use Rattle.machine_model.specs.declared.Processor.{Processor}
use Rattle.machine_model.specs.declared.CutDescriptor.{CutDescriptor}
use Rattle.machine_model.specs.State.{State, Storage, Owner}
use Rattle.machine_model.specs.Reads.{or_zero, frames_of_owner, cut_of_owner, process_at, home_in, frames_from, trailers_in, descriptor_of}
use Rattle.machine_model.specs.Steps.{booked, with_owner, with_store, with_pages, with_word, fault_told, looking, told}

-- ---- what is taken

-- the page that is in a frame; page 0 of segment 0 where none is
abbrev pub page_or_zero : Option (ℕ × ℕ) → ℕ × ℕ
page_or_zero None = (0, 0)
page_or_zero (Some page) = page

abbrev pub page_in : Storage → ℕ → ℕ × ℕ
page_in st f = page_or_zero (bound_page (frame_in st.pages f))

-- the page of a frame is on its way out
abbrev pub leaving_if : Storage → ℕ → Option (ℕ × ℕ) → Storage
leaving_if st f None = st
leaving_if st f (Some page) = with_word st page.0 page.1 (ptw.Leaving f)

abbrev pub with_leaving : Storage → ℕ → Storage
with_leaving st f = leaving_if st f (bound_page (frame_in st.pages f))

-- the page of a frame is here again
abbrev pub here_if : Storage → ℕ → Option (ℕ × ℕ) → Storage
here_if st f None = st
here_if st f (Some page) = with_word st page.0 page.1 (ptw.Here f)

abbrev pub with_here : Storage → ℕ → Storage
with_here st f = here_if st f (bound_page (frame_in st.pages f))

-- what is remembered of a descriptor that is cut
abbrev pub note_of : Storage → ℕ → ℕ → Sdw → CutDescriptor
note_of st k n sdw.Fault = record { process = k; number = n; uid = 0; mode = mode.Null; pages = 0 }
note_of st k n (sdw.Present aste m pages) =
    record { process = k; number = n; uid = or_zero (uid_at st.ast.entries aste); mode = m; pages = pages }

-- one frame more, and one descriptor more, is taken
abbrev pub take_one : State → ℕ → Aim → What → ℕ → State
take_one s c a w f = booked (record s {
  store = with_leaving s.store f;
  owner = Some (record {
    cpu = c;
    phase = phase.Taken a w;
    frames = frames_of_owner s.owner ++ f ∷ [];
    cut = cut_of_owner s.owner;
  });
}) (entry.Take f ∷ [])

abbrev pub cut_one : State → ℕ → Aim → What → ℕ × ℕ → State
cut_one s c a w pair = booked (record s {
  store = record s.store { links = descriptor_cut s.store.links pair.0 pair.1 };
  owner = Some (record {
    cpu = c;
    phase = phase.Taken a w;
    frames = frames_of_owner s.owner;
    cut = cut_of_owner s.owner ++ note_of s.store pair.0 pair.1 (descriptor_of s.store.links pair.0 pair.1) ∷ [];
  });
}) (entry.Cut pair.0 pair.1 ∷ [])

abbrev pub take_all : State → ℕ → Aim → What → List ℕ → State
take_all s c a w [] = s
take_all s c a w (f ∷ fs) = take_all (take_one s c a w f) c a w fs

abbrev pub cut_all : State → ℕ → Aim → What → List (ℕ × ℕ) → State
cut_all s c a w [] = s
cut_all s c a w (pair ∷ pairs) = cut_all (cut_one s c a w pair) c a w pairs

-- frames are taken, then descriptors are cut
abbrev pub took : State → ℕ → Aim → What → List ℕ → List (ℕ × ℕ) → State
took s c a w fs pairs = cut_all (take_all s c a w fs) c a w pairs

-- the clock's choice is taken, with the marks and the hand as the clock leaves them
abbrev pub with_choice : Storage → ℕ → Storage
with_choice st f = with_pages st (record st.pages { core = after_choice st.pages.core f })

abbrev pub eviction_begun : State → ℕ → ℕ → State
eviction_begun s c f = take_one (with_store s (with_choice s.store f)) c aim.Evicting (what.Page f) f

-- ---- the last step of a deactivation

-- a list without its first
abbrev pub rest_of : {A : Type 0} → List A → List A
rest_of [] = []
rest_of (x ∷ xs) = xs

-- an owner without the first descriptor that it cut
abbrev pub without_first_cut : Option Owner → Option Owner
without_first_cut None = None
without_first_cut (Some o) = Some (record o { cut = rest_of o.cut })

-- the first descriptor that was cut is gone
abbrev pub seg_gone : State → CutDescriptor → State
seg_gone s d = booked (with_owner s (without_first_cut s.owner)) (entry.GoneSeg d.process d.number ∷ [])

abbrev pub segs_gone : State → List CutDescriptor → State
segs_gone s [] = s
segs_gone s (d ∷ ds) = segs_gone (seg_gone s d) ds

-- a segment isn't active any more
abbrev pub with_inactive : Storage → ℕ → Storage
with_inactive st uid = record st { ast = deactivated st.ast (place_of st.ast.entries uid) }

abbrev pub deactivated_one : State → ℕ → State
deactivated_one s uid = booked (with_store s (with_inactive s.store uid)) (entry.Deactivate uid ∷ [])

-- the descriptors that were cut are gone, the segment is inactive, and the look is made again
abbrev pub emptied : State → ℕ → ℕ → State
emptied s c uid = with_owner (deactivated_one (segs_gone s (cut_of_owner s.owner)) uid) (Some (looking c))

-- ---- a deactivation begins

-- where there is nothing to take the segment is inactive at once
abbrev pub segment_taken : State → ℕ → ℕ → List ℕ → List (ℕ × ℕ) → State
segment_taken s c uid [] [] = emptied s c uid
segment_taken s c uid fs pairs = took s c (aim.Deactivating uid) (what.Seg uid) fs pairs

abbrev pub deactivation_begun : State → ℕ → ℕ → State
deactivation_begun s c uid = segment_taken s c uid (frames_from s.store.ast uid 0) (trailers_in s.store uid)

-- the hand of the full pool has moved
abbrev pub with_hand_moved : Storage → ℕ → List ℕ → Storage
with_hand_moved st pool chain = record st { ast = hand_moved st.ast pool chain }

abbrev pub victim_taken : State → ℕ → ℕ → List ℕ → ℕ → State
victim_taken s c pool chain uid = deactivation_begun (with_store s (with_hand_moved s.store pool chain)) c uid

-- ---- the signal

-- a processor drops what is named, and every other one that takes part is to drop it
abbrev pub told_at : ℕ → What → ℕ → Processor → Processor
told_at c w d p =
    if d == c then record p { cpu = record p.cpu { assoc = cleared p.cpu.assoc w } }
    else if p.cpu.online then record p { cpu = record p.cpu { due = Some w } }
    else p

abbrev pub told_from : ℕ → What → ℕ → List Processor → List Processor
told_from c w d [] = []
told_from c w d (p ∷ ps) = told_at c w d p ∷ told_from c w (d + 1) ps

abbrev pub phase_signalled : Phase → Phase
phase_signalled phase.Looking = phase.Looking
phase_signalled (phase.Taken a w) = phase.Waiting a w
phase_signalled (phase.Waiting a w) = phase.Waiting a w
phase_signalled (phase.Moving m) = phase.Moving m

abbrev pub owner_signalled : Option Owner → Option Owner
owner_signalled None = None
owner_signalled (Some o) = Some (record o { phase = phase_signalled o.phase })

abbrev pub signalled : State → ℕ → What → State
signalled s c w =
    booked (record s { processors = told_from c w 0 s.processors; owner = owner_signalled s.owner })
    (entry.Signal c w ∷ [])

-- ---- a page leaves its frame

abbrev pub are_zeros : List ℕ → Bool
are_zeros words = list_all (λ w. w == 0) words

-- a page of zeros is released, any other one stays on its record
abbrev pub left_of : List ℕ → Left
left_of words = if are_zeros words then left.Released else left.Kept

-- so many pages less of a segment are charged
abbrev pub credited : AccountMaps → ℕ → ℕ → AccountMaps
credited a uid pages = record a { counts = with_value a.segments a.counts uid (count_of a uid - pages) }

abbrev pub accounts_left : AccountMaps → ℕ → Left → AccountMaps
accounts_left a uid left.Released = credited a uid 1
accounts_left a uid left.Kept = a

abbrev pub with_left : Storage → ℕ → Left → ℕ × ℕ → Storage
with_left st f how page =
    let home = home_in st page.0 in
    let now = with_pages st (evicted st.pages home page.1 f how) in
    let worded = with_word now page.0 page.1 (word_of_left how (record_of st.pages home page.1)) in
    record worded { accounts = accounts_left st.accounts page.0 how }

abbrev pub entries_left : ℕ → Left → ℕ × ℕ → List Entry
entries_left f left.Released page = entry.GonePage f ∷ entry.Release page.0 page.1 ∷ []
entries_left f left.Kept page = entry.GonePage f ∷ []

abbrev pub page_gone : State → ℕ → State
page_gone s f =
    let how = left_of (words_in s.store.pages f) in
    let page = page_in s.store f in
    booked (with_store s (with_left s.store f how page)) (entries_left f how page)

-- an owner without the first frame that it took
abbrev pub without_first_frame : Option Owner → Option Owner
without_first_frame None = None
without_first_frame (Some o) = Some (record o { frames = rest_of o.frames })

-- after an eviction the look is made again; a deactivation goes on with the next page
abbrev pub eviction_done : State → ℕ → ℕ → State
eviction_done s c f = with_owner (page_gone s f) (Some (looking c))

abbrev pub page_done : State → ℕ → State
page_done s f = with_owner (page_gone s f) (without_first_frame s.owner)

-- ---- a write failed

-- the first frame that was taken, and the first descriptor that was cut, is back
abbrev pub page_back : State → ℕ → State
page_back s f =
    booked (record s { store = with_here s.store f; owner = without_first_frame s.owner }) (entry.BackPage f ∷ [])

abbrev pub pages_back : State → List ℕ → State
pages_back s [] = s
pages_back s (f ∷ fs) = pages_back (page_back s f) fs

abbrev pub with_relink : Storage → CutDescriptor → Storage
with_relink st d = record st {
  links = linked st.links d.process d.number (place_of st.ast.entries d.uid) d.mode d.pages;
}

abbrev pub seg_back : State → CutDescriptor → State
seg_back s d =
    booked (record s { store = with_relink s.store d; owner = without_first_cut s.owner })
    (entry.BackSeg d.process d.number ∷ [])

abbrev pub segs_back : State → List CutDescriptor → State
segs_back s [] = s
segs_back s (d ∷ ds) = segs_back (seg_back s d) ds

-- all that is still going comes back, the process is told, and the supervisor is given up
abbrev pub write_failed : State → ℕ → ℕ → State
write_failed s c faults =
    let told_of = fault_told s (Some (process_at s c)) faults in
    let back = segs_back (pages_back told_of (frames_of_owner s.owner)) (cut_of_owner s.owner) in
    with_owner (told back c None reply.Device) None
