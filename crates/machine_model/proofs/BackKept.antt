-- The machine keeps its promise where a write failed: all that was still going comes back, and the process is told.
use Rattle.machine_model.proofs.Laws.{◌≡◌, ◌≤◌, ℕ, zero, suc, count_by, List, [], ◌∷◌, ◌++◌, length, set, get_or, Option, Some, None, refl, sym, subst, ◌∙◌, arith, length-set, ◌^◌, min, Rose, bound_page, frame_in, Sdw, place_of, sdws_at, MayFault, page_at, back, back_seg, KeepsBook, seen, here_if, page_back, pages_back, seg_back, segs_back, with_relink, write_failed, AreThere, Keeps, StoreSays, is_fault, cut_of_owner, flat_of, frames_of_owner, process_at, run_at, CutDescriptor, State, Storage, fault_told, looking, told, with_owner, without_first_cut, without_first_frame, Entry as entry, Reply as reply, ◌+◌, true, inl, inr, ap, eqb_tells, What, Plan, after_entry, store_after, Store, binding_at, read_at, Aim, Phase, dropped, told_at, FitsPhase, IsShaped, is_pending, is_pending_in, says, says_in, eviction_begun, owner_signalled, phase_signalled, signalled, told_from, with_choice, HadRights, IsAtWork, IsConserved, IsFaithful, processor_at, Seen, Processor, Owner, with_store, What as what, Ptw as ptw, Aim as aim, Phase as phase, eqb_self, ◌≢◌, ◌<◌, map, Entry, Left, word_of_left, record_of, words_in, MayRelease, gone, released, is_out, names, entries_left, eviction_done, left_of, page_done, page_gone, page_in, with_left, home_in, booked, with_faults, rest_of, Left as left, active_place, fault_keeps, GoesOn, back_on, first_finish, first_finish_seg, uncut_on, goes_with, back_seg_keeps, CanFinish, back_keeps, finish_with, take_keeps, gone_keeps, in_no_frame, release_keeps, faults_push, quiet_push, flat_still, tell_kept_CanTell as CanTell, told_keeps, back_seen, signal_seen, told_reads, gone_seen, owned_laws_nobody as nobody, IsIdle, job_over, bound_here, idle_names, HasTables, take_one_seen, binding_is, choice_bindings, choice_reads, signal_keeps, HasSaid, map_length, within_by, put_two_here, none_some}
use Rattle.machine_model.proofs.MoveSeen.{back_seg_seen}
use Rattle.machine_model.proofs.TransferKept.{kept_with, quiet_faults}

-- ---- The machine keeps its promise where a page leaves its frame, where a write failed, and where a segment is
-- inactive at last.

append_two : (es : List Entry) (a b : Entry) → es ++ a ∷ b ∷ [] ≡ (es ++ a ∷ []) ++ b ∷ []
append_two [] a b = refl
append_two (e ∷ es) a b = cc (append_two es a b)

gone_quiet : (p : Plan) (t : Store) (f : ℕ) → after_entry p t (entry.GonePage f) ≡ t
unfolding after_entry
gone_quiet p t f = refl

-- a frame that is bound to a page is one of the frames
pub bound_within : (s : State) (f : ℕ) (page : ℕ × ℕ) → (seen s).bound f ≡ Some page
    → f < length s.store.pages.core.frames
bound_within s f page h = rw (← (map_length bound_page s.store.pages.core.frames))
    (within_by (map bound_page s.store.pages.core.frames) f None (λ e. none_some (sym e ∙ h)))

-- a page leaves its frame; one of zeros is released
pub left_keeps : (s : State) {f u p : ℕ} (how : Left) {owner : Option Owner} → HasTables s → KeepsBook (seen s)
    → CanFinish (seen s) f u p owner → (how ≡ left.Released → MayRelease (flat_of s) u p)
    → KeepsBook
    (seen (with_owner (booked (with_store s (with_left s.store f how (u, p))) (entries_left f how (u, p))) owner))
left_keeps s {f} {u} {p} how {owner} tables k can zeros = by how zeros
  where
    within : f < length s.store.pages.core.frames
    within = bound_within s f (u, p) (k.tied.back f u p (ap names can.leaving))

    by : (x : Left) → (x ≡ left.Released → MayRelease (flat_of s) u p)
        → KeepsBook (seen (with_owner (booked (with_store s (with_left s.store f x (u, p)))
        (entries_left f x (u, p))) owner))
    by left.Kept z = subst KeepsBook (sym (gone_seen s f u p left.Kept owner tables k within can.leaving)) (gone_keeps
        (seen s) f u p owner k can (word_of_left left.Kept (record_of s.store.pages (home_in s.store u) p)) refl)
    by left.Released z = subst KeepsBook (sym whole) (release_keeps book
        (rw (flat_still s.plan s.entries (entry.GonePage f) (gone_quiet s.plan (flat_of s) f)) (z refl))
        (in_no_frame u p book (ap names (put_two_here (seen s).words u p ptw.Null)) unread))
      where
        now : Seen
        now = gone (seen s) f u p ptw.Null owner

        book : KeepsBook now
        book = gone_keeps (seen s) f u p owner k can ptw.Null refl

        unread : (g : ℕ) → (seen s).reads g ≢ Some (u, p)
        unread g h = let no = sym (ap is_out can.leaving) ∙ k.tied.out g u p h in cc

        whole : seen (with_owner (booked (with_store s (with_left s.store f left.Released (u, p)))
            (entries_left f left.Released (u, p))) owner) ≡ released now u p
        whole = ap (λ (v : Seen). record v { entries = s.entries ++ entry.GonePage f ∷ entry.Release u p ∷ [] })
            (gone_seen s f u p left.Released owner tables k within can.leaving)
            ∙ (λ i. record now { entries = append_two s.entries (entry.GonePage f) (entry.Release u p) i })

pub left_faults : (es : List Entry) (f : ℕ) (how : Left) (page : ℕ × ℕ)
    → count_by is_fault (es ++ entries_left f how page) ≡ count_by is_fault es
left_faults es f left.Kept page = omega (arith, faults_push es (entry.GonePage f))
left_faults es f left.Released page = let one = faults_push es (entry.GonePage f) in
    let two = faults_push (es ++ entry.GonePage f ∷ []) (entry.Release page.0 page.1) in
    ap (count_by is_fault) (append_two es (entry.GonePage f) (entry.Release page.0 page.1)) ∙ (omega arith)

module _ (s : State) (f u p faults : ℕ) (owner : Option Owner) (k : Keeps s) (can : CanFinish (seen s) f u p owner)
    (rose : s.faults ≤ faults) where
  abbrev how : Left
  how = left_of (words_in s.store.pages f)

  page_is : page_in s.store f ≡ (u, p)
  page_is = cc (binding_is s f, k.book.tied.back f u p (ap names can.leaving))

  -- the page in a frame leaves it, and the owner goes on so
  pub gone_kept : (how ≡ left.Released → MayRelease (flat_of s) u p)
      → StoreSays (with_owner (page_gone (with_faults s faults) f) owner)
      → ((o : Owner) → owner ≡ Some o → IsAtWork (processor_at s.processors o.cpu))
      → Keeps (with_owner (page_gone (with_faults s faults) f) owner)
  gone_kept zeros says works = kept_with (with_owner (page_gone (with_faults s faults) f) owner)
      (rw page_is (left_keeps s how k.store.kept.places k.book can zeros)) says
      (omega (arith, left_faults s.entries f how (page_in s.store f))) k.sizes.processors k.sizes.processes works

-- ---- the owner goes on

-- after an eviction the look is made again
pub eviction_kept : {s : State} {c f u p : ℕ} (faults : ℕ) {o : Owner} → Keeps s → s.owner ≡ Some o → o.cpu ≡ c
    → s.faults ≤ faults → CanFinish (seen s) f u p (Some (looking c))
    → (left_of (words_in s.store.pages f) ≡ left.Released → MayRelease (flat_of s) u p)
    → StoreSays (eviction_done (with_faults s faults) c f) → Keeps (eviction_done (with_faults s faults) c f)
eviction_kept {s} {c} {f} {u} {p} faults {o} k mine same rose can zeros says =
    gone_kept s f u p faults (Some (looking c)) k can rose zeros says
    (λ q h. (rw (same ∙ ap (λ (x : Owner). x.cpu) (let is : looking c ≡ q = cc in is)) at (k.at_work o mine)))

cpu_of_rest : (o q : Owner) → without_first_frame (Some o) ≡ Some q → o.cpu ≡ q.cpu
cpu_of_rest o q h = ap (λ (x : Owner). x.cpu)
    (let is : ◌≡◌ {A = Owner} (record o { frames = rest_of o.frames }) q = cc in is)

-- a deactivation goes on with the next page
pub page_kept : (s : State) (f faults : ℕ) (fs : List ℕ) (ds : List CutDescriptor) (o : Owner) → Keeps s
    → s.owner ≡ Some o → s.faults ≤ faults → GoesOn (seen s) (f ∷ fs) ds
    → (left_of (words_in s.store.pages f) ≡ left.Released
    → MayRelease (flat_of s) (page_at (seen s) f).0 (page_at (seen s) f).1)
    → StoreSays (page_done (with_faults s faults) f) → Keeps (page_done (with_faults s faults) f)
page_kept s f faults fs ds o k mine rose on zeros says =
    gone_kept s f (page_at (seen s) f).0 (page_at (seen s) f).1 faults (without_first_frame s.owner) k
    (first_finish f fs k.book on) rose zeros says (λ q h. (rw (cpu_of_rest o q (cc)) at (k.at_work o mine)))

-- ---- The machine keeps its promise through the phases of a job: a page is evicted, a segment's pages and descriptors
-- are taken, the signal is given, and what was taken goes, or comes back where a drive failed.

-- ---- the clock

-- custody doesn't see the marks and the hand
pub choice_seen : (s : State) (f : ℕ) → seen (with_store s (with_choice s.store f)) ≡ seen s
choice_seen s f = λ i. record (seen s) {
  bound = λ g. binding_at (choice_bindings s.store.pages.core f i) g;
  reads = λ g. read_at (choice_reads s.store.pages.core f i) g;
}

-- ---- an eviction begins

pub evict_kept : {s : State} {c : ℕ} (f u p : ℕ) {o : Owner} → Keeps s → s.owner ≡ Some o → o.cpu ≡ c → IsIdle s.owner
    → (seen s).bound f ≡ Some (u, p) → StoreSays (eviction_begun s c f) → Keeps (eviction_begun s c f)
evict_kept {s} {c} f u p {o} k mine same idle bound says = kept_with (eviction_begun s c f)
    (subst KeepsBook (sym (take_one_seen now c aim.Evicting
    (what.Page f) f u p k.store.kept.places bound_still here_still))
    (take_keeps c aim.Evicting (what.Page f) f u p book (record {
      here = here_still;
      still = idle.waits;
      others = idle_names (what.Page f) book.going_owned idle.frames idle.cut;
      this = eqb_self f;
      aimed = (f, cc, refl, idle.cut);
    }))) says (quiet_faults (entry.Take f) s.faults k refl (omega arith)) k.sizes.processors k.sizes.processes
    (λ q h. rw (← (same ∙ ap (λ (x : Owner). x.cpu) (let is : made ≡ q = cc in is))) (k.at_work o mine))
  where
    now : State
    now = with_store s (with_choice s.store f)

    book : KeepsBook (seen now)
    book = subst KeepsBook (sym (choice_seen s f)) k.book

    bound_still : (seen now).bound f ≡ Some (u, p)
    bound_still = subst (λ (v : Seen). v.bound f ≡ Some (u, p)) (sym (choice_seen s f)) bound

    here_still : (seen now).words u p ≡ ptw.Here f
    here_still = bound_here (seen now) f u p book idle.frames bound_still

    made : Owner
    made = record {
      cpu = c;
      phase = phase.Taken aim.Evicting (what.Page f);
      frames = frames_of_owner s.owner ++ f ∷ [];
      cut = cut_of_owner s.owner;
    }

-- ---- the signal

said : (o : Owner) (a : Aim) (w : What) → o.phase ≡ phase.Taken a w → IsShaped (Some o)
    → HasSaid (Some o) (owner_signalled (Some o)) w
said o a w h shaped = record {
  frames = refl;
  cut = refl;
  waits = cc;
  says = cc;
  shaped = subst (λ (x : Phase). FitsPhase (phase_signalled x) o.frames o.cut) (sym h)
      (subst (λ (x : Phase). FitsPhase x o.frames o.cut) h shaped);
}

signal_quiet : (p : Plan) (t : Store) (d : ℕ) (v : What) → after_entry p t (entry.Signal d v) ≡ t
unfolding after_entry
signal_quiet p t d v = refl

told_length : (c : ℕ) (w : What) (from : ℕ) (ps : List Processor) → length (told_from c w from ps) ≡ length ps
told_length c w from [] = refl
told_length c w from (p ∷ ps) = cc (told_length c w (from + 1) ps)

pub signal_kept : {s : State} {c : ℕ} {o : Owner} (a : Aim) (w : What) → Keeps s → s.owner ≡ Some o → o.cpu ≡ c
    → o.phase ≡ phase.Taken a w → Keeps (signalled s c w)
signal_kept {s} {c} {o} a w k mine same taken_phase = record {
  book = subst KeepsBook (sym (signal_seen s c w (owner_signalled s.owner)))
      (signal_keeps c w (owner_signalled s.owner) k.book (record {
        online = subst (λ (d : ℕ). (processor_at s.processors d).cpu.online ≡ true) same (k.at_work o mine).online;
        says = ap says mine ∙ ap says_in taken_phase;
        said = subst (λ (x : Option Owner). HasSaid x (owner_signalled x) w) (sym mine)
            (said o a w taken_phase (subst IsShaped mine k.book.going_owned.shaped));
        still = ap (λ (x : Option Owner). is_pending (owner_signalled x)) mine
            ∙ ap (λ (x : Phase). is_pending_in (phase_signalled x)) taken_phase;
      }));
  store = k.store;
  faithful = subst (λ (t : Store). IsFaithful s.plan t s.store) (sym flat_same) k.faithful;
  rights = subst (HadRights s.store.accounts.nodes s.store.whos) (cut_same s.owner) k.rights;
  cut = subst (AreThere s.store) (cut_same s.owner) k.cut;
  conserved = subst (IsConserved s.plan) (sym flat_same) k.conserved;
  few_faults = quiet_faults (entry.Signal c w) s.faults k refl (omega arith);
  sizes = assumption (told_length c w 0 s.processors ∙ k.sizes.processors);
  at_work = λ q h. works q (subst (λ (x : Option Owner). owner_signalled x ≡ Some q) mine h);
}
  where
    cut_same : (x : Option Owner) → cut_of_owner x ≡ cut_of_owner (owner_signalled x)
    cut_same None = refl
    cut_same (Some x) = refl

    flat_same : store_after s.plan (s.entries ++ entry.Signal c w ∷ []) ≡ store_after s.plan s.entries
    flat_same = flat_still s.plan s.entries (entry.Signal c w) (signal_quiet s.plan (store_after s.plan s.entries) c w)

    own : (p : Processor) → told_at c w c p ≡ dropped p w
    own p = elim (eqb_tells c c) [ inl e ↦ rw e.0 refl | inr n ↦ absurd (n.1 refl) ]

    dropped_works : (p : Processor) → IsAtWork p → IsAtWork (dropped p w)
    dropped_works p x = record { online = x.online; busy = x.busy; clear = x.clear; idle = x.idle }

    works : (q : Owner) → owner_signalled (Some o) ≡ Some q
        → IsAtWork (processor_at (told_from c w 0 s.processors) q.cpu)
    works q h = rw (← (sym same ∙ cpu_is)) (subst IsAtWork (sym (told_reads c w s.processors 0 c
        ∙ (ap (λ (n : ℕ). told_at c w n (processor_at s.processors c)) plus ∙ own (processor_at s.processors c))))
        (dropped_works (processor_at s.processors c) (subst (λ (d : ℕ). IsAtWork (processor_at s.processors d)) same
        (k.at_work o mine))))
      where
        cpu_is : o.cpu ≡ q.cpu
        cpu_is = let is : ◌≡◌ {A = Owner} (record o { phase = phase_signalled o.phase }) q =
            cc in ap (λ (x : Owner). x.cpu) is

        plus : 0 + c ≡ c
        plus = omega arith

-- ---- pages come back

-- pages that come back change the store, the owner and the book alone
pages_rest : (s : State) (fs : List ℕ) → ((pages_back s fs).processors ≡ s.processors) ×
    ((pages_back s fs).runs ≡ s.runs) × ((pages_back s fs).plan ≡ s.plan) × ((pages_back s fs).faults ≡ s.faults)
pages_rest s [] = (refl, refl, refl, refl)
pages_rest s (f ∷ fs) = pages_rest (page_back s f) fs

pages_count : (s : State) (fs : List ℕ) → count_by is_fault (pages_back s fs).entries ≡ count_by is_fault s.entries
pages_count s [] = refl
pages_count s (f ∷ fs) = pages_count (page_back s f) fs ∙ quiet_push s.entries (entry.BackPage f) refl

here_tables : (st : Storage) (f : ℕ) (o : Option (ℕ × ℕ)) → length st.ast.tables ≡ length st.ast.entries
    → length (here_if st f o).ast.tables ≡ length (here_if st f o).ast.entries
here_tables st f None h = h
here_tables st f (Some page) h = length-set st.ast.tables (place_of st.ast.entries page.0) _ ∙ h

-- what custody sees of pages that come back
record IsBack (s now : State) (ds : List CutDescriptor) : Type 0 where
  pub tables : HasTables now
  pub book : KeepsBook (seen now)
  pub on : GoesOn (seen now) [] ds
  pub there : AreThere now.store ds

here_there : (st : Storage) (f : ℕ) (o : Option (ℕ × ℕ)) (ds : List CutDescriptor) → AreThere st ds
    → AreThere (here_if st f o) ds
here_there st f None ds h = h
here_there st f (Some page) [] h = tt
here_there st f (Some page) (d ∷ ds) h = (h.0, here_there st f (Some page) ds h.1)

pages_are_back : (s : State) (fs : List ℕ) (ds : List CutDescriptor) → HasTables s → KeepsBook (seen s)
    → GoesOn (seen s) fs ds → AreThere s.store ds → IsBack s (pages_back s fs) ds
pages_are_back s [] ds tables k on there = assumption
pages_are_back s (f ∷ fs) ds tables k on there = let rest =
    pages_are_back now fs ds (here_tables s.store f (bound_page (frame_in s.store.pages f)) tables)
    (subst KeepsBook (sym one) (back_keeps (seen s) f u p (without_first_frame s.owner) k can)) (rw one
    (back_on (seen s) f fs ds on))
    (here_there s.store f (bound_page (frame_in s.store.pages f)) ds there) in
    assumption
  where
    now : State
    now = page_back s f

    u : ℕ
    u = (page_at (seen s) f).0

    p : ℕ
    p = (page_at (seen s) f).1

    can : CanFinish (seen s) f u p (without_first_frame s.owner)
    can = first_finish f fs k on

    one : seen now ≡ back (seen s) f u p (without_first_frame s.owner)
    one = back_seen s f u p (without_first_frame s.owner) tables k can.leaving

-- ---- descriptors come back

segs_rest : (s : State) (ds : List CutDescriptor) → ((segs_back s ds).processors ≡ s.processors)
    × ((segs_back s ds).runs ≡ s.runs) × ((segs_back s ds).plan ≡ s.plan) × ((segs_back s ds).faults ≡ s.faults)
segs_rest s [] = (refl, refl, refl, refl)
segs_rest s (d ∷ ds) = segs_rest (seg_back s d) ds

segs_count : (s : State) (ds : List CutDescriptor)
    → count_by is_fault (segs_back s ds).entries ≡ count_by is_fault s.entries
segs_count s [] = refl
segs_count s (d ∷ ds) = segs_count (seg_back s d) ds ∙ quiet_push s.entries (entry.BackSeg d.process d.number) refl

-- the lists of descriptors are as long as they were
sdws_length : (dss : List (List Sdw)) (k : ℕ) (x : List Sdw) (j : ℕ) → length x ≡ length (get_or dss k [])
    → length (get_or (set dss k x) j []) ≡ length (get_or dss j [])
sdws_length (y ∷ ys) zero x zero same = same
sdws_length (y ∷ ys) (suc k) x (suc j) same = sdws_length ys k x j same
sdws_length _ _ x _ same = refl

pub relink_there : (st : Storage) (c : CutDescriptor) (ds : List CutDescriptor) → AreThere st ds
    → AreThere (with_relink st c) ds
relink_there st c [] h = tt
relink_there st c (d ∷ ds) h = (
  (
    rw (length-set st.links.descriptors c.process _) h.0.0,
    rw (sdws_length st.links.descriptors c.process _ d.process (length-set (sdws_at st.links.descriptors c.process)
        c.number _)) h.0.1,
    h.0.2,
  ),
  relink_there st c ds h.1,
)

segs_are_back : (s : State) (ds : List CutDescriptor) → HasTables s → KeepsBook (seen s) → GoesOn (seen s) [] ds
    → AreThere s.store ds → IsBack s (segs_back s ds) []
segs_are_back s [] tables k on there = assumption
segs_are_back s (d ∷ ds) tables k on there = let rest = segs_are_back now ds tables (subst KeepsBook (sym one)
    (back_seg_keeps (seen s) d (without_first_cut s.owner) k (first_finish_seg d ds on)))
    (rw one still) (relink_there s.store d ds there.1) in
    assumption
  where
    now : State
    now = seg_back s d

    one : seen now ≡ back_seg (seen s) d (without_first_cut s.owner)
    one = back_seg_seen s d (without_first_cut s.owner) there.0.0 there.0.1 (active_place s.store.ast d.uid there.0.2).1

    still : GoesOn (back_seg (seen s) d (without_first_cut s.owner)) [] ds
    still = uncut_on (back_seg (seen s) d (without_first_cut s.owner)) d ds on on.none refl

-- ---- the process is told

-- the machine once these frames and descriptors are back, before the process is told
abbrev pub all_back : State → ℕ → ℕ → List ℕ → List CutDescriptor → State
all_back s c faults fs ds = segs_back (pages_back (fault_told s (Some (process_at s c)) faults) fs) ds

module _ (s : State) (c faults : ℕ) (fs : List ℕ) (ds : List CutDescriptor) (k : Keeps s) (rose : Rose s.faults faults)
    (may : MayFault (flat_of s) (Some (process_at s c))) where
  abbrev told_of : State
  told_of = fault_told s (Some (process_at s c)) faults

  told_book : KeepsBook (seen told_of)
  told_book = fault_keeps (seen s) (Some (process_at s c)) k.book may

  -- what is left of a failed write once its owner has given up
  failed_with : (now : State) → now ≡ all_back s c faults fs ds → KeepsBook (seen (with_owner now None))
      → CanTell (with_owner now None) c (process_at now c) None reply.Device
      → StoreSays (with_owner (told now c None reply.Device) None)
      → Keeps (with_owner (told now c None reply.Device) None)
  failed_with now is book can says = kept_with (with_owner (told now c None reply.Device) None) (told_keeps book can)
      says few (cc (length-set now.processors c _, same_processors, k.sizes.processors, same_plan))
      (cc (length-set now.runs (process_at now c) _, same_runs, k.sizes.processes, same_plan)) (λ o h. cc)
    where
      pages : State
      pages = pages_back told_of fs

      same_processors : now.processors ≡ s.processors
      same_processors = cc ((segs_rest pages ds).0, (pages_rest told_of fs).0)

      same_runs : now.runs ≡ s.runs
      same_runs = cc ((segs_rest pages ds).1, (pages_rest told_of fs).1)

      same_plan : now.plan ≡ s.plan
      same_plan = cc ((segs_rest pages ds).2, (pages_rest told_of fs).2)

      same_faults : now.faults ≡ faults
      same_faults = cc ((segs_rest pages ds).3, (pages_rest told_of fs).3)

      count : count_by is_fault now.entries ≡ count_by is_fault (s.entries ++ entry.Fault (Some (process_at s c)) ∷ [])
      count = cc (segs_count pages ds, pages_count told_of fs)

      few : min (count_by is_fault (now.entries ++ entry.Do (process_at now c)
          (run_at now.runs (process_at now c)).place c None reply.Device ∷ [])) (2 ^ 63) ≤ now.faults
      few = omega (
        arith,
        faults_push s.entries (entry.Fault (Some (process_at s c))),
        faults_push now.entries
            (entry.Do (process_at now c) (run_at now.runs (process_at now c)).place c None reply.Device),
        rose,
        count,
        same_faults,
        k.few_faults,
      )

  -- a deactivation, or what a command takes away, comes back
  pub all_failed_kept : frames_of_owner s.owner ≡ fs → cut_of_owner s.owner ≡ ds → GoesOn (seen s) fs ds
      → CanTell (with_owner (all_back s c faults fs ds) None) c
      (process_at (all_back s c faults fs ds) c) None reply.Device
      → StoreSays (write_failed s c faults) → Keeps (write_failed s c faults)
  all_failed_kept frames cut on can says = subst Keeps (sym same)
      (failed_with now refl over can (subst StoreSays same says))
    where
      now : State
      now = all_back s c faults fs ds

      same : write_failed s c faults ≡ with_owner (told now c None reply.Device) None
      same = λ i. with_owner (told (segs_back (pages_back told_of (frames i)) (cut i)) c None reply.Device) None

      pages : IsBack told_of (pages_back told_of fs) ds
      pages = pages_are_back told_of fs ds k.store.kept.places told_book (goes_with refl on.none on) (rw (← cut) k.cut)

      segs : IsBack (pages_back told_of fs) now []
      segs = segs_are_back (pages_back told_of fs) ds pages.tables pages.book pages.on pages.there

      over : KeepsBook (seen (with_owner now None))
      over = job_over (seen now) None segs.book segs.on.frames segs.on.cut segs.on.none segs.on.still nobody refl

  -- an evicted page comes back
  pub eviction_failed_kept : {f u p : ℕ} → frames_of_owner s.owner ≡ f ∷ [] → cut_of_owner s.owner ≡ [] → fs ≡ f ∷ []
      → ds ≡ [] → CanFinish (seen s) f u p (Some (looking c))
      → CanTell (with_owner (all_back s c faults (f ∷ []) []) None) c (process_at (all_back s c faults (f ∷ []) []) c)
      None reply.Device → StoreSays (write_failed s c faults) → Keeps (write_failed s c faults)
  eviction_failed_kept {f} {u} {p} frames cut fs_is ds_is can tell says = subst Keeps (sym same)
      (failed_with now (λ i. all_back s c faults (sym fs_is i) (sym ds_is i))
      (job_over (seen looks) None book refl refl can.none refl nobody refl) tell (subst StoreSays same says))
    where
      now : State
      now = page_back told_of f

      same : write_failed s c faults ≡ with_owner (told now c None reply.Device) None
      same = λ i. with_owner (told (segs_back (pages_back told_of (frames i)) (cut i)) c None reply.Device) None

      looks : State
      looks = with_owner now (Some (looking c))

      book : KeepsBook (seen looks)
      book = subst KeepsBook (sym (back_seen told_of f u p
          (Some (looking c)) k.store.kept.places told_book can.leaving))
          (back_keeps (seen told_of) f u p (Some (looking c)) told_book (finish_with refl refl can.none can))
