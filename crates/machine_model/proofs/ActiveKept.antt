-- The machine keeps its promise where a segment becomes active, is connected, or is active no more, where a page is
-- made, and where a word is reached through a frame.
use Rattle.machine_model.proofs.Laws.{◌≡◌, ◌≢◌, ◌<◌, ℕ, ◌%◌, Bool, true, false, cond, count_by, List, [], ◌∷◌, ◌++◌, length, Option, Some, None, refl, sym, ap, subst, ◌∙◌, arith, length-set, Plan, Reference, binding_at, frame_in, referred, word_put, Frame, after_reference, bound_page, started_page, IsOneToOne, entry_at, uid_at, leads_at, place_of, sdws_at, table_of, read_at, alters, new_word, word_reply, MayActivate, MayDeactivate, NoneDue, gone_seg, KeepsBook, is_pending, seen, deactivated_one, emptied, seg_gone, segs_gone, IsAtWork, Keeps, StoreSays, is_fault, cut_of_owner, flat_of, frames_of_owner, process_at, processor_at, run_at, shown, CutDescriptor, Owner, State, Storage, activated_at, connected_to, looking, old_word, page_created, page_made, pages_after, went_through, with_owner, with_pages, with_store, without_first_cut, map_kept, Entry as entry, Frame as frame, page_referred, activate_keeps, deactivate_keeps, activate_seen, blank_less, deactivate_seen, inactive_blank, names_table, words_less, words_more, words_new, owner_keeps, GoesOn, first_finish_seg, uncut_on, CanConnect, connect_keeps, gone_seg_keeps, faults_push, quiet_push, tell_kept_CanTell as CanTell, told_keeps, works_counted, IsIdle, owned_laws_nobody as nobody, job_over}
use Rattle.machine_model.proofs.TransferKept.{CanMake, here_keeps, kept_with, quiet_faults}
use Rattle.machine_model.proofs.MoveSeen.{connect_seen, made_seen}

-- ---- a segment becomes active

pub activate_kept : {s : State} {u : ℕ} (place : ℕ) → Keeps s → MayActivate s.plan (flat_of s) (shown (seen s)) u
    → entry_at s.store.ast.entries place ≡ None → place < length s.store.ast.entries
    → StoreSays (activated_at s u place) → Keeps (activated_at s u place)
activate_kept {s} {u} place k may free within says = kept_with (activated_at s u place)
    (subst KeepsBook (sym (activate_seen s u place _ _ free within tables may.inactive live))
    (activate_keeps u _ k.book (record {
      may = may;
      blank = inactive_blank s.store.ast u tables may.inactive;
      others = λ w q n. words_more s.store.ast u place _ _ free within tables may.inactive w q n;
      nowhere = words_new s.store.ast u place _ _ free within tables may.inactive (names_table _ _);
    }))) says (quiet_faults (entry.Activate u) s.faults k refl
    (omega arith)) k.sizes.processors k.sizes.processes k.at_work
  where
    tables : length s.store.ast.tables ≡ length s.store.ast.entries
    tables = k.store.kept.places

    live : (j n aste : ℕ) → leads_at s.store.links.descriptors j n ≡ Some aste
        → (x : ℕ) × (uid_at s.store.ast.entries aste ≡ Some x)
    live j n aste h = let known = k.store.kept.linked.known j n aste h in (known.uid, known.active)

-- ---- a descriptor is connected

pub connect_kept : {s : State} (c : ℕ) {n u : ℕ} → Keeps s → CanConnect (seen s) (process_at s c) n u
    → process_at s c < length s.store.links.descriptors
    → n < length (sdws_at s.store.links.descriptors (process_at s c))
    → uid_at s.store.ast.entries (place_of s.store.ast.entries u) ≡ Some u → StoreSays (connected_to s c n u)
    → Keeps (connected_to s c n u)
connect_kept {s} c {n} {u} k can outer inner active says = kept_with (connected_to s c n u)
    (subst KeepsBook (sym (connect_seen s (process_at s c) n u _ _ outer inner active)) (connect_keeps k.book can)) says
    (quiet_faults (entry.Connect (process_at s c) n u) s.faults k refl (omega arith)) k.sizes.processors
    k.sizes.processes k.at_work

-- ---- a segment is active no more

pub segs_gone_rest : (s : State) (ds : List CutDescriptor)
    → ((segs_gone s ds).processors ≡ s.processors) × ((segs_gone s ds).runs ≡ s.runs)
    × ((segs_gone s ds).plan ≡ s.plan) × ((segs_gone s ds).faults ≡ s.faults) × ((segs_gone s ds).store ≡ s.store)
segs_gone_rest s [] = (refl, refl, refl, refl, refl)
segs_gone_rest s (d ∷ ds) = segs_gone_rest (seg_gone s d) ds

segs_gone_count : (s : State) (ds : List CutDescriptor)
    → count_by is_fault (segs_gone s ds).entries ≡ count_by is_fault s.entries
segs_gone_count s [] = refl
segs_gone_count s (d ∷ ds) = segs_gone_count (seg_gone s d) ds
    ∙ quiet_push s.entries (entry.GoneSeg d.process d.number) refl

-- all that the job has taken is gone or back, and every processor has cleared
pub record IsOver (s : State) : Type 0 where
  pub book : KeepsBook (seen s)
  pub frames : frames_of_owner s.owner ≡ []
  pub cut : cut_of_owner s.owner ≡ []
  pub none : NoneDue (shown (seen s))
  pub still : is_pending s.owner ≡ false

pub segs_are_gone : (s : State) (ds : List CutDescriptor) → KeepsBook (seen s) → GoesOn (seen s) [] ds
    → IsOver (segs_gone s ds)
segs_are_gone s [] k on = assumption
segs_are_gone s (d ∷ ds) k on = segs_are_gone (seg_gone s d) ds (subst KeepsBook (sym one)
    (gone_seg_keeps (seen s) d (without_first_cut s.owner) k (first_finish_seg d ds on))) (rw one
    (uncut_on (gone_seg (seen s) d (without_first_cut s.owner)) d ds on on.none refl))
  where
    one : seen (seg_gone s d) ≡ gone_seg (seen s) d (without_first_cut s.owner)
    one = refl

-- an owner that looks
pub looks_idle : (c : ℕ) → IsIdle (Some (looking c))
looks_idle c = assumption ((refl, refl))

pub deactivate_over : {s : State} {u : ℕ} {owner : Option Owner} → IsOver s
    → length s.store.ast.tables ≡ length s.store.ast.entries → IsOneToOne s.store.ast.entries
    → MayDeactivate (flat_of s) (shown (seen s)) u → IsIdle owner → is_pending owner ≡ false
    → KeepsBook (seen (with_owner (deactivated_one s u) owner))
deactivate_over {s} {u} {owner} over tables once may idle quiet =
    job_over (seen (deactivated_one s u)) owner book over.frames over.cut over.none over.still idle quiet
  where
    none : (j n : ℕ) → (seen s).linked j n ≢ Some u
    none j n h = may.descriptors j n (rw (h))

    book : KeepsBook (seen (deactivated_one s u))
    book = subst KeepsBook (sym (deactivate_seen s u may.active once tables none))
        (deactivate_keeps u _ over.book (record {
          may = may;
          others = λ w q n. words_less s.store.ast u may.active once tables w q n;
          blank = blank_less s.store.ast u may.active once tables;
        }))

pub emptied_kept : {s : State} {c u : ℕ} {o : Owner} → Keeps s → s.owner ≡ Some o → o.cpu ≡ c
    → IsOver (segs_gone s (cut_of_owner s.owner))
    → MayDeactivate (flat_of (segs_gone s (cut_of_owner s.owner))) (shown (seen (segs_gone s (cut_of_owner s.owner)))) u
    → StoreSays (emptied s c u) → Keeps (emptied s c u)
emptied_kept {s} {c} {u} {o} k mine same over may says = kept_with (emptied s c u)
    (deactivate_over over (rw rest.4 k.store.kept.places)
    (subst (λ (st : Storage). IsOneToOne st.ast.entries) (sym rest.4) k.store.kept.tree.once) may
    (looks_idle c) refl) says (let two = faults_push now.entries (entry.Deactivate u) in
    let few = k.few_faults in
    let three = rest.3 in omega (arith, (segs_gone_count s (cut_of_owner s.owner)), two, few, three))
    (ap length rest.0 ∙ (k.sizes.processors ∙ ap (λ (p : Plan). p.processors) (sym rest.2)))
    (ap length rest.1 ∙ (k.sizes.processes ∙ ap (λ (p : Plan). length p.processes) (sym rest.2)))
    (λ q h. (rw rest.0 (subst (λ (d : ℕ). IsAtWork (processor_at s.processors d)) (same
    ∙ ap (λ (x : Owner). x.cpu) (let is : looking c ≡ q = cc in is)) (k.at_work o mine))))
  where
    now : State
    now = segs_gone s (cut_of_owner s.owner)

    rest : ((segs_gone s (cut_of_owner s.owner)).processors ≡ s.processors) ×
        ((segs_gone s (cut_of_owner s.owner)).runs ≡ s.runs) × ((segs_gone s (cut_of_owner s.owner)).plan ≡ s.plan) ×
        ((segs_gone s (cut_of_owner s.owner)).faults ≡ s.faults)
        × ((segs_gone s (cut_of_owner s.owner)).store ≡ s.store)
    rest = segs_gone_rest s (cut_of_owner s.owner)

-- ---- a page is made

pub created_kept : {s : State} {c : ℕ} (f u p : ℕ) (r : Reference) → Keeps s → CanMake (seen s) f u p
    → f < length s.store.pages.core.frames → place_of s.store.ast.entries u < length s.store.ast.entries
    → p < length (table_of s.store.ast u) → IsIdle s.owner → is_pending s.owner ≡ false
    → CanTell (page_made s f u p r) c (process_at s c) None (word_reply 0 r.kind) → StoreSays (page_created s c f u p r)
    → Keeps (page_created s c f u p r)
created_kept {s} {c} f u p r k can within active inner idle quiet tell says = kept_with (page_created s c f u p r)
    (owner_keeps
    (told_keeps book tell) idle nobody quiet) says (omega (
      arith,
      faults_push s.entries (entry.Here f u p),
      faults_push (s.entries ++ entry.Here f u p ∷ [])
          (entry.Do (process_at s c) (run_at s.runs (process_at s c)).place c None (word_reply 0 r.kind)),
    )) (length-set s.processors c _ ∙ k.sizes.processors) (length-set s.runs (process_at s c) _ ∙ k.sizes.processes)
    (λ o h. cc)
  where
    now : State
    now = page_made s f u p r

    book : KeepsBook (seen now)
    book = subst KeepsBook (sym (made_seen s f u p (r.offset % 1024) (new_word 0 r.kind) within active
        (rw k.store.kept.places active) inner)) (here_keeps k.book can)

-- ---- a word is reached through a frame

pub started_after : (x : Frame) (b : Bool) → started_page (after_reference x b) ≡ started_page x
started_after frame.Free b = refl
started_after _ b = refl

-- custody doesn't see the marks of a reference, nor the words
pub through_seen : (s : State) (f : ℕ) (r : Reference)
    → seen (with_store s (with_pages s.store (pages_after s.store.pages f r))) ≡ seen s
through_seen s f r = by (alters r.kind)
  where
    marked : (b : Bool) → seen (with_store s (with_pages s.store (referred s.store.pages f b))) ≡ seen s
    marked b = λ i. record (seen s) {
      bound = λ g. binding_at (map_kept bound_page s.store.pages.core.frames f frame.Free
          (after_reference (frame_in s.store.pages f) b) (page_referred (frame_in s.store.pages f) b) i) g;
      reads = λ g. read_at (map_kept started_page s.store.pages.core.frames f frame.Free
          (after_reference (frame_in s.store.pages f) b) (started_after (frame_in s.store.pages f) b) i) g;
    }

    by : (b : Bool) → seen (with_store s (with_pages s.store (cond b
        (word_put s.store.pages f (r.offset % 1024) (new_word (old_word s.store.pages f r) r.kind))
        (referred s.store.pages f false)))) ≡ seen s
    by true = marked true
    by false = marked false

pub through_kept : {s : State} {c : ℕ} (f : ℕ) (r : Reference) → Keeps s
    → CanTell (with_store s (with_pages s.store (pages_after s.store.pages f r))) c (process_at s c) (Some f)
    (word_reply (old_word s.store.pages f r) r.kind) → StoreSays (went_through s c f r) → Keeps (went_through s c f r)
through_kept {s} {c} f r k can says = kept_with (went_through s c f r)
    (told_keeps (subst KeepsBook (sym (through_seen s f r)) k.book) can) says
    (omega (
      arith,
      faults_push s.entries (entry.Do (process_at s c) (run_at s.runs (process_at s c)).place c (Some f)
          (word_reply (old_word s.store.pages f r) r.kind)),
    )) (length-set s.processors c _ ∙ k.sizes.processors) (length-set s.runs (process_at s c) _ ∙ k.sizes.processes)
    (λ o h. works_counted s.processors c _ o.cpu can.there (k.at_work o h))
