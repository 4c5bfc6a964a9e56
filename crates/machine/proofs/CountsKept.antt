-- There are as many places and drives after each action, and after a visit of the shutdown, as before; and the drives
-- have counted as many failures, but for a call that tells them.
use Rattle.machine.proofs.Prelude.{set, Aim, Bool, Command, CutDescriptor, Home, Left, List, None, Option, Outcome, Reference, Some, State, Storage, What, after, after_visit, alters, ap, bound_page, calls_drive, committed_at, cond, copy_failed, cut_all, cut_of_owner, cut_one, eviction_done, false, fault_told, first_off_chain, frame_in, frames_from, frames_of_owner, get_or, hand_past, home_in, is_modified, leaving_if, left_after, left_of, length, length-set, new_word, next_command, old_word, page_back, page_copied, page_done, page_gone, page_in, page_taken, pages_after, pages_back, place_of, process_at, record_of, referred, refl, seg_back, seg_gone, segment_emptied, segment_taken, segs_back, segs_gone, take_all, take_one, trailers_in, transfer_failed, transferred, true, uid_of_command, visited_if, with_choice, with_faults, with_hand_moved, with_inactive, with_left, with_pages, with_store, word_put, words_in, write_failed, ℕ, ◌%◌, ◌∙◌, ◌∷◌, ◌≡◌, took, [], Command as command, What as what, Left as left, Aim as aim, Action, Action as act}
use Rattle.machine.proofs.CommitStays.{counts, effect, here}

-- how many places and drives there are, and how many failures the drives have counted
abbrev pub tally : State → (ℕ × ℕ) × ℕ
tally s = (counts s.store, s.faults)

-- a change of the store that leaves its counts
stored : {x y : ℕ × ℕ} (n : ℕ) → x ≡ y → ◌≡◌ {A = (ℕ × ℕ) × ℕ} (x, n) (y, n)
stored n e = cc

either : {n : (ℕ × ℕ) × ℕ} (b : Bool) (x y : State) → tally x ≡ n → tally y ≡ n → tally (cond b y x) ≡ n
either true x y a b = b
either false x y a b = a

-- ---- pages are taken, and are back

is_leaving : (st : Storage) (f : ℕ) (x : Option (ℕ × ℕ)) → counts (leaving_if st f x) ≡ counts st
is_leaving st f None = refl
is_leaving st f (Some page) = refl

is_inactive : (st : Storage) (u : ℕ) → counts (with_inactive st u) ≡ counts st
is_inactive st u = cc (length-set st.ast.entries (place_of st.ast.entries u) None)

has_moved : (st : Storage) (pool : ℕ) (x : Option ℕ) → counts (record st { ast = hand_past st.ast pool x }) ≡ counts st
has_moved st pool None = refl
has_moved st pool (Some place) = refl

taken : (s : State) (c : ℕ) (a : Aim) (w : What) (fs : List ℕ) → tally (take_all s c a w fs) ≡ tally s
taken s c a w [] = refl
taken s c a w (f ∷ fs) = taken (take_one s c a w f) c a w fs
    ∙ stored s.faults (is_leaving s.store f (bound_page (frame_in s.store.pages f)))

all_cut : (s : State) (c : ℕ) (a : Aim) (w : What) (pairs : List (ℕ × ℕ)) → tally (cut_all s c a w pairs) ≡ tally s
all_cut s c a w [] = refl
all_cut s c a w (x ∷ xs) = all_cut (cut_one s c a w x) c a w xs

all_taken : (s : State) (c : ℕ) (a : Aim) (w : What) (fs : List ℕ) (pairs : List (ℕ × ℕ))
    → tally (took s c a w fs pairs) ≡ tally s
all_taken s c a w fs pairs = all_cut (take_all s c a w fs) c a w pairs ∙ taken s c a w fs

all_gone : (s : State) (ds : List CutDescriptor) → tally (segs_gone s ds) ≡ tally s
all_gone s [] = refl
all_gone s (d ∷ ds) = all_gone (seg_gone s d) ds

segment_gone : (s : State) (c u : ℕ) → tally (segment_emptied s c u) ≡ tally s
segment_gone s c u = stored (segs_gone s (cut_of_owner s.owner)).faults
    (is_inactive (segs_gone s (cut_of_owner s.owner)).store u) ∙ all_gone s (cut_of_owner s.owner)

segment : (s : State) (c u : ℕ) (fs : List ℕ) (pairs : List (ℕ × ℕ)) → tally (segment_taken s c u fs pairs) ≡ tally s
segment s c u [] [] = segment_gone s c u
segment s c u [] (x ∷ xs) = all_taken s c (aim.Deactivating u) (what.Seg u) [] (x ∷ xs)
segment s c u (f ∷ fs) pairs = all_taken s c (aim.Deactivating u) (what.Seg u) (f ∷ fs) pairs

all_pages_back : (s : State) (fs : List ℕ) → tally (pages_back s fs) ≡ tally s
all_pages_back s [] = refl
all_pages_back s (f ∷ fs) = all_pages_back (page_back s f) fs ∙ stored s.faults (here s.store f)

all_segs_back : (s : State) (ds : List CutDescriptor) → tally (segs_back s ds) ≡ tally s
all_segs_back s [] = refl
all_segs_back s (d ∷ ds) = all_segs_back (seg_back s d) ds

failed : (s : State) (c faults : ℕ) → tally (write_failed s c faults) ≡ tally (with_faults s faults)
failed s c faults = all_segs_back (pages_back told (frames_of_owner s.owner)) (cut_of_owner s.owner)
    ∙ all_pages_back told (frames_of_owner s.owner)
  where
    told : State
    told = fault_told s (Some (process_at s c)) faults

-- a page that leaves its frame is written at the most
left_frame : (st : Storage) (f : ℕ) (how : Left) (page : ℕ × ℕ) → counts (with_left st f how page) ≡ counts st
left_frame st f left.Released page = refl
left_frame st f left.Kept page = ap (λ (n : ℕ). (length st.ast.entries, n)) (by (is_modified (frame_in st.pages f)))
  where
    home : Home
    home = home_in st page.0

    written : List (List ℕ)
    written = set (get_or st.pages.disks home.volume []) (record_of st.pages home page.1) (words_in st.pages f)

    by : (b : Bool) → length (cond b (set st.pages.disks home.volume written) st.pages.disks) ≡ length st.pages.disks
    by true = length-set st.pages.disks home.volume written
    by false = refl

gone : (s : State) (f : ℕ) → tally (page_gone s f) ≡ tally s
gone s f = stored s.faults (left_frame s.store f (left_of (words_in s.store.pages f)) (page_in s.store f))

-- ---- a command takes effect, or a reference is made

left_alone : (s : State) (c : ℕ) (x : Command) → tally (left_after s c x) ≡ tally s
left_alone s c command.End = refl
left_alone s c _ = refl

commits : (s : State) (c : ℕ) (x : Option Command) → tally (committed_at s c x) ≡ tally s
commits s c None = refl
commits s c (Some x) = left_alone _ c x ∙ stored s.faults
    (effect s.store (process_at s c) (uid_of_command s.store (process_at s c) x) (frames_of_owner s.owner) x)

referred_to : (st : Storage) (f : ℕ) (r : Reference) → counts (with_pages st (pages_after st.pages f r)) ≡ counts st
referred_to st f r = by (alters r.kind)
  where
    by : (b : Bool) → counts (with_pages st
        (cond b (word_put st.pages f (r.offset % 1024) (new_word (old_word st.pages f r) r.kind))
        (referred st.pages f false))) ≡ counts st
    by true = refl
    by false = refl

-- ---- each action

-- where a drive was called it has counted what the call tells
abbrev pub called : State → Action → Outcome → State
called s a o = cond (calls_drive a) (with_faults s o.faults) s

pub tally_kept : (s : State) (c : ℕ) (a : Action) (o : Outcome) → tally (after s c a o) ≡ tally (called s a o)
unfolding after
tally_kept s c (act.EndTransfer t) o = either o.failed (transferred (with_faults s o.faults) c t)
    (transfer_failed s c t o.faults) refl refl
tally_kept s c (act.Through f r) o = stored s.faults (referred_to s.store f r)
tally_kept s c (act.Activate u place) o = ap (λ (n : ℕ). ((n, length s.store.pages.disks), s.faults))
    (length-set s.store.ast.entries place _)
tally_kept s c (act.Evict f) o = taken (with_store s (with_choice s.store f)) c aim.Evicting (what.Page f) (f ∷ [])
tally_kept s c (act.Empty u) o = segment s c u (frames_from s.store.ast u 0) (trailers_in s.store u)
tally_kept s c (act.EmptyVictim pool chain u) o =
    let now = with_store s (with_hand_moved s.store pool chain) in
    segment now c u (frames_from now.store.ast u 0) (trailers_in now.store u)
    ∙ stored s.faults (has_moved s.store pool (first_off_chain s.store.ast pool chain))
tally_kept s c (act.TakeAway fs pairs w) o = all_taken s c aim.Committing w fs pairs
tally_kept s c (act.FinishEviction f) o = either o.failed (eviction_done (with_faults s o.faults) c f)
    (write_failed s c o.faults) (gone (with_faults s o.faults) f) (failed s c o.faults)
tally_kept s c (act.FinishPage f) o = either o.failed (page_done (with_faults s o.faults) f)
    (write_failed s c o.faults) (gone (with_faults s o.faults) f) (failed s c o.faults)
tally_kept s c (act.CopyPage m p) o = either o.failed (page_copied (with_faults s o.faults) c m p)
    (copy_failed s c o.faults) (ap (λ (n : ℕ). ((length s.store.ast.entries, n), o.faults))
    (length-set s.store.pages.disks m.to.0 _)) refl
tally_kept s c (act.Deactivate u) o = segment_gone s c u
tally_kept s c act.Commit o = commits s c (next_command s (process_at s c))
tally_kept s c _ o = refl

-- so the places and the drives stay
pub counts_kept : (s : State) (c : ℕ) (a : Action) (o : Outcome) → counts (after s c a o).store ≡ counts s.store
counts_kept s c a o = ap (λ (n : (ℕ × ℕ) × ℕ). n.0) (tally_kept s c a o) ∙ by (calls_drive a)
  where
    by : (b : Bool) → counts (cond b (with_faults s o.faults) s).store ≡ counts s.store
    by true = refl
    by false = refl

-- ---- a visit

pub visit_counts : (s : State) (o : Outcome) → counts (after_visit s o).store ≡ counts s.store
visit_counts s o = by (bound_page (frame_in s.store.pages s.visited))
  where
    out : State
    out = page_taken s s.visited

    is_out : counts out.store ≡ counts s.store
    is_out = is_leaving s.store s.visited (bound_page (frame_in s.store.pages s.visited))

    by : (x : Option (ℕ × ℕ)) → counts (visited_if s s.visited o x).store ≡ counts s.store
    by None = refl
    by (Some page) = ap (λ (n : (ℕ × ℕ) × ℕ). n.0) (either o.failed (page_gone (with_faults out o.faults) s.visited)
        (page_back (fault_told out None o.faults) s.visited) (gone (with_faults out o.faults) s.visited)
        (stored o.faults (here out.store s.visited))) ∙ is_out
