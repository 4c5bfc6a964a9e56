-- The machine keeps its promise where a `delete` takes effect: the pages of the node have left their frames, its
-- descriptors are gone, and it is active no more.
use Rattle.machine_model.proofs.Kept.{not_both, cond_both, [], ◌≡◌, ◌≢◌, ◌<◌, ℕ, Bool, not, not-true, and_parts, list_all, Command, frame_entry, inactive_entries, told, true, false, cond, if◌then◌else◌, count_by, List, ◌∷◌, ◌++◌, map, length, Option, Some, None, refl, sym, ap, subst, ◌∙◌, arith, length-set, Path, Entry, reads_of, Ptw, erased, framed, Plain, binding_at, bindings, word_of, read_at, MayDeactivate, has, at_put, gone_segs, gones, page_at, page_or_zero, no_more_active, gone, gone_seg, committed, cut_entry, frames_freed, gone_entries, AreDistinct, KeepsBook, is_pending, names, seen, with_inactive, Keeps, StoreSays, is_fault, cut_of_owner, frames_of_owner, home_in, is_active, process_at, run_at, reply_of, uid_of_command, Seen, flat, shown, CutDescriptor, State, Storage, booked, with_owner, with_pages, with_store, without_first_cut, without_first_frame, append-nil, append_assoc, Core, has_head, has_tail, Command as command, Entry as entry, Frame as frame, Ptw as ptw, commits_lost as lost, list_all-append, core_map_with_frame as with_frame, deactivate_keeps, active_less, blank_less, deactivate_seen, words_less, GoesOn, IsDone, gone_done, idle_done, going_word, gone_segs_keep, gones_keep, LeavesRest, frame_entry_has, faults_push, quiet_push, tell_kept_CanTell as CanTell, told_keeps, unread_put, IsIdle, owned_laws_nobody as nobody, job_over, by_place, by_places, bound_put, reads_put, kept_with, effected, bound_within}

-- ---- frames that are freed

-- a function of frames, once each of some frames has None
abbrev pub freed : (ℕ → Option (ℕ × ℕ)) → List ℕ → ℕ → Option (ℕ × ℕ)
freed b [] = b
freed b (f ∷ fs) = freed (at_put b f None) fs

pub freed_length : (pages : Plain) (fs : List ℕ) → length (frames_freed pages fs).core.frames ≡ length pages.core.frames
freed_length pages [] = refl
freed_length pages (f ∷ fs) = freed_length (framed pages f frame.Free) fs ∙ length-set pages.core.frames f frame.Free

-- so are the pages of frames that are freed
freed_at : (see : Core → ℕ → Option (ℕ × ℕ)) → ((core : Core) (f : ℕ) → f < length core.frames → (g : ℕ)
    → see (with_frame core f frame.Free) g ≡ at_put (see core) f None g)
    → (pages : Plain) (fs : List ℕ) → ((f : ℕ) → has fs f ≡ true → f < length pages.core.frames) → (g : ℕ)
    → see (frames_freed pages fs).core g ≡ freed (see pages.core) fs g
freed_at see put pages [] within g = refl
freed_at see put pages (f ∷ fs) within g = freed_at see put (framed pages f frame.Free) fs
    (λ h e. rw (length-set pages.core.frames f frame.Free) (within h (has_tail f fs h e))) g
    ∙ (λ i. freed (λ h. put pages.core f (within f (has_head f fs)) h i) fs g)

pub freed_bound : (pages : Plain) (fs : List ℕ) → ((f : ℕ) → has fs f ≡ true → f < length pages.core.frames) → (g : ℕ)
    → binding_at (bindings (frames_freed pages fs).core) g ≡ freed (λ h. binding_at (bindings pages.core) h) fs g
freed_bound pages fs within g = freed_at (λ core h. binding_at (bindings core) h)
    (λ core f there h. bound_put core f frame.Free there h) pages fs within g

pub freed_reads : (pages : Plain) (fs : List ℕ) → ((f : ℕ) → has fs f ≡ true → f < length pages.core.frames) → (g : ℕ)
    → read_at (reads_of (frames_freed pages fs).core) g ≡ freed (λ h. read_at (reads_of pages.core) h) fs g
freed_reads pages fs within g = freed_at (λ core h. read_at (reads_of core) h)
    (λ core f there h. reads_put core f frame.Free there h) pages fs within g

-- where each of them had None already, nothing changes
freed_none : (b : ℕ → Option (ℕ × ℕ)) (fs : List ℕ) → ((f : ℕ) → has fs f ≡ true → b f ≡ None) → (g : ℕ)
    → freed b fs g ≡ b g
freed_none b [] none g = refl
freed_none b (f ∷ fs) none g = (λ i. freed (λ h. unread_put b f (none f (has_head f fs)) h i) fs g)
    ∙ freed_none b fs (λ h e. none h (has_tail f fs h e)) g

-- ---- the chain, as custody sees it

pub gones_bound : (v : Seen) (fs : List ℕ) → (gones v fs).bound ≡ freed v.bound fs
gones_bound v [] = refl
gones_bound v (f ∷ fs) =
    gones_bound (gone v f (page_at v f).0 (page_at v f).1 ptw.Null (without_first_frame v.owner)) fs

pub gones_leave : (v : Seen) (fs : List ℕ) → LeavesRest v (gones v fs)
gones_leave v [] = refl
gones_leave v (f ∷ fs) =
    gones_leave (gone v f (page_at v f).0 (page_at v f).1 ptw.Null (without_first_frame v.owner)) fs

pub segs_leave : (v : Seen) (ds : List CutDescriptor) → LeavesRest v (gone_segs v ds)
segs_leave v [] = refl
segs_leave v (d ∷ ds) = segs_leave (gone_seg v d (without_first_cut v.owner)) ds

-- so does a chain of both
pub chain_leaves : (v : Seen) (fs : List ℕ) (ds : List CutDescriptor) → LeavesRest v (gone_segs (gones v fs) ds)
chain_leaves v fs ds = segs_leave (gones v fs) ds ∙ (λ i. record (gones_leave v fs i) {
  entries = (gone_segs (gones v fs) ds).entries;
  bound = (gone_segs (gones v fs) ds).bound;
  words = (gone_segs (gones v fs) ds).words;
  owner = (gone_segs (gones v fs) ds).owner;
})

pub segs_bound : (v : Seen) (ds : List CutDescriptor) → (gone_segs v ds).bound ≡ v.bound
segs_bound v [] = refl
segs_bound v (d ∷ ds) = segs_bound (gone_seg v d (without_first_cut v.owner)) ds

segs_words : (v : Seen) (ds : List CutDescriptor) → (gone_segs v ds).words ≡ v.words
segs_words v [] = refl
segs_words v (d ∷ ds) = segs_words (gone_seg v d (without_first_cut v.owner)) ds

abbrev pub gone_entry : ℕ → Entry
gone_entry f = entry.GonePage f

pub gones_entries : (v : Seen) (fs : List ℕ) → (gones v fs).entries ≡ v.entries ++ map gone_entry fs
gones_entries v [] = sym (append-nil v.entries)
gones_entries v (f ∷ fs) =
    gones_entries (gone v f (page_at v f).0 (page_at v f).1 ptw.Null (without_first_frame v.owner)) fs
    ∙ append_assoc v.entries (entry.GonePage f ∷ []) (map gone_entry fs)

pub segs_entries : (v : Seen) (ds : List CutDescriptor) → (gone_segs v ds).entries ≡ v.entries ++ map cut_entry ds
segs_entries v [] = sym (append-nil v.entries)
segs_entries v (d ∷ ds) = segs_entries (gone_seg v d (without_first_cut v.owner)) ds
    ∙ append_assoc v.entries (cut_entry d ∷ []) (map cut_entry ds)

-- a segment keeps its words where no page of it leaves a frame
gones_words : (v : Seen) (fs : List ℕ) (u : ℕ) → AreDistinct fs → ((f : ℕ) → has fs f ≡ true → (page_at v f).0 ≡ u)
    → (w q : ℕ) → w ≢ u → (gones v fs).words w q ≡ v.words w q
gones_words v [] u once its w q n = refl
gones_words v (f ∷ fs) u once its w q n = gones_words now fs u once.1 still w q n
    ∙ by_places (λ (x : Ptw). x ≡ v.words w q) v.words (page_at v f).0 (page_at v f).1 ptw.Null w q
    (λ a b. absurd (n (a ∙ its f (has_head f fs)))) (λ m. refl)
  where
    now : Seen
    now = gone v f (page_at v f).0 (page_at v f).1 ptw.Null (without_first_frame v.owner)

    still : (g : ℕ) → has fs g ≡ true → (page_at now g).0 ≡ u
    still g h = by_place (λ (x : Option (ℕ × ℕ)). (page_or_zero x).0 ≡ u) v.bound f None g
        (λ e. absurd (not_both (rw (← e) h) once.0)) (λ m. its g (has_tail f fs g h))

-- ---- the entries of what goes

-- a test that entries of these kinds pass is passed by all the entries of what goes
pub gone_pass : (test : Entry → Bool) → ((f : ℕ) → test (entry.BackPage f) ≡ true)
    → ((f : ℕ) → test (entry.GonePage f) ≡ true) → ((k n : ℕ) → test (entry.GoneSeg k n) ≡ true)
    → ((u : ℕ) → test (entry.Deactivate u) ≡ true) → (s : State) (u : ℕ) (c : Command)
    → list_all test (gone_entries s u c) ≡ true
gone_pass test back page seg inactive s u c = cc (
  list_all-append test (map (frame_entry s.store c) (frames_of_owner s.owner))
      (map cut_entry (cut_of_owner s.owner) ++ inactive_entries s.store u c),
  list_all-append test (map cut_entry (cut_of_owner s.owner)) (inactive_entries s.store u c),
  frames (frames_of_owner s.owner),
  cuts (cut_of_owner s.owner),
  last c,
)
  where
    frames : (fs : List ℕ) → list_all test (map (frame_entry s.store c) fs) ≡ true
    frames [] = refl
    frames (f ∷ fs) = cc (frame_entry_has (λ e. test e ≡ true) s.store c f (back f) (page f), frames fs)

    cuts : (ds : List CutDescriptor) → list_all test (map cut_entry ds) ≡ true
    cuts [] = refl
    cuts (d ∷ ds) = cc (seg d.process d.number, cuts ds)

    last : (cmd : Command) → list_all test (inactive_entries s.store u cmd) ≡ true
    last (command.Delete path) = cond_both (is_active s.store.ast u) (entry.Deactivate u ∷ []) []
        (λ es. list_all test es ≡ true) (λ h. cc (inactive u)) (λ h. refl)
    last _ = refl

-- entries that tell no drive's failure
no_faults : (es more : List Entry) → list_all (λ e. not (is_fault e)) more ≡ true
    → count_by is_fault (es ++ more) ≡ count_by is_fault es
no_faults es [] h = cc (append-nil es)
no_faults es (e ∷ more) h = let both = and_parts (not (is_fault e)) (list_all (λ x. not (is_fault x)) more) h in cc (
  append_assoc es (e ∷ []) more,
  no_faults (es ++ e ∷ []) more both.1,
  quiet_push es e (not-true (is_fault e) both.0),
)

-- A command is told, and the supervisor given up, where the book keeps custody once what was taken is gone.
pub told_commit : {s : State} {c : ℕ} (k : ℕ) (cmd : Command) → Keeps s
    → KeepsBook (seen (with_owner (effected s k cmd) None))
    → CanTell (with_owner (effected s k cmd) None) c (process_at s c) None (reply_of s k cmd)
    → StoreSays (with_owner (told (effected s k cmd) c None (reply_of s k cmd)) None)
    → Keeps (with_owner (told (effected s k cmd) c None (reply_of s k cmd)) None)
told_commit {s} {c} k cmd keeps book tell says =
    kept_with (with_owner (told (effected s k cmd) c None (reply_of s k cmd)) None) (told_keeps book tell) says
    (let one = faults_push (effected s k cmd).entries
    (entry.Do (process_at s c) (run_at s.runs (process_at s c)).place c None (reply_of s k cmd)) in
    let quiet = no_faults s.entries (gone_entries s (uid_of_command s.store k cmd) cmd)
    (gone_pass (λ e. not (is_fault e)) (λ f. refl) (λ f. refl) (λ j n. refl) (λ u. refl) s
    (uid_of_command s.store k cmd) cmd) in
    omega arith) (length-set s.processors c _ ∙ keeps.sizes.processors)
    (length-set s.runs (process_at s c) _ ∙ keeps.sizes.processes) (λ o h. cc)

-- ---- the frames that a job took

-- such a frame has a page, whose word names it
pub taken_word : {s : State} → Keeps s → (f : ℕ) → has (frames_of_owner s.owner) f ≡ true
    → (seen s).words (page_at (seen s) f).0 (page_at (seen s) f).1 ≡ ptw.Leaving f
taken_word {s} k f h = going_word f k.book (k.book.going_owned.frames f ∙ h)

pub taken_bound : {s : State} → Keeps s → (f : ℕ) → has (frames_of_owner s.owner) f ≡ true
    → (seen s).bound f ≡ Some (page_at (seen s) f)
taken_bound {s} k f h = k.book.tied.back f (page_at (seen s) f).0 (page_at (seen s) f).1 (ap names (taken_word k f h))

-- a frame with a page isn't being read into
pub bound_unread : {s : State} → Keeps s → (f : ℕ) {page : ℕ × ℕ} → (seen s).bound f ≡ Some page
    → (seen s).reads f ≡ None
bound_unread {s} k f h = by ((seen s).reads f) refl
  where
    by : (x : Option (ℕ × ℕ)) → (seen s).reads f ≡ x → x ≡ None
    by None e = refl
    by (Some p) e = cc (k.book.tied.unbound f p.0 p.1 e)

-- ---- the command

-- a job that took pages and descriptors, or nothing, is done once they are gone
pub gones_done : (s : State) → KeepsBook (seen s) → GoesOn (seen s) (frames_of_owner s.owner) (cut_of_owner s.owner)
    → IsDone (gone_segs (gones (seen s) (frames_of_owner s.owner)) (cut_of_owner s.owner))
gones_done s k on = let first = gones_keep (seen s) (frames_of_owner s.owner) k on in
    gone_done (gone_segs (gones (seen s) (frames_of_owner s.owner)) (cut_of_owner s.owner))
    (gone_segs_keep (gones (seen s) (frames_of_owner s.owner)) [] (cut_of_owner s.owner) first.book first.on)

pub gones_idle : (s : State) → KeepsBook (seen s) → IsIdle s.owner → is_pending s.owner ≡ false
    → IsDone (gone_segs (gones (seen s) (frames_of_owner s.owner)) (cut_of_owner s.owner))
gones_idle s k idle still = subst IsDone (λ i. gone_segs (gones (seen s) (sym idle.frames i)) (sym idle.cut i))
    (idle_done k idle still)

module _ (s : State) (c k : ℕ) (path : Path) where
  abbrev pub node : ℕ
  node = uid_of_command s.store k (command.Delete path)

  abbrev pub fs : List ℕ
  fs = frames_of_owner s.owner

  abbrev pub ds : List CutDescriptor
  ds = cut_of_owner s.owner

  -- what was taken is gone
  abbrev pub all_gone : Seen
  all_gone = gone_segs (gones (seen s) fs) ds

  -- The node is active, its pages alone were taken, and no page and no descriptor of it is left.
  pub record GoesWhole : Type 0 where
    pub active : is_active s.store.ast node ≡ true
    pub its : (f : ℕ) → has fs f ≡ true → (page_at (seen s) f).0 ≡ node
    pub may : MayDeactivate (flat all_gone) (shown all_gone) node

  -- the store, by whether the node is active, and the frames that were taken
  abbrev deleted_store : Bool → List ℕ → Storage
  deleted_store b gs = record (if b then with_inactive
      (with_pages s.store (erased (frames_freed s.store.pages gs) (home_in s.store node))) node
      else with_pages s.store (erased (frames_freed s.store.pages gs) (home_in s.store node))) {
        accounts = lost s.store.accounts node;
      }

  -- A deletion of an active node: the job has taken it whole.
  module _ (keeps : Keeps s) (whole : GoesWhole) (done : IsDone all_gone) where
    abbrev words : ℕ → ℕ → Ptw
    words = λ v q. word_of (with_inactive s.store node).ast v q

    rest : LeavesRest (seen s) all_gone
    rest = chain_leaves (seen s) fs ds

    others : (w q : ℕ) → w ≢ node → words w q ≡ all_gone.words w q
    others w q n = cc (
      words_less s.store.ast node whole.active keeps.store.kept.tree.once keeps.store.kept.places w q n,
      segs_words (gones (seen s) fs) ds,
      gones_words (seen s) fs node keeps.book.going_owned.once whole.its w q n,
    )

    inactive : KeepsBook (no_more_active all_gone node words)
    inactive = deactivate_keeps node words done.book (record {
      may = whole.may;
      others = others;
      blank = blank_less s.store.ast node whole.active keeps.store.kept.tree.once keeps.store.kept.places;
    })

    over : KeepsBook (record (no_more_active all_gone node words) { owner = None })
    over = job_over (no_more_active all_gone node words) None inactive done.frames done.cut done.none
        done.still nobody refl

    within : (f : ℕ) → has fs f ≡ true → f < length s.store.pages.core.frames
    within f h = bound_within s f (page_at (seen s) f) (taken_bound keeps f h)

    unread : (f : ℕ) → has fs f ≡ true → (seen s).reads f ≡ None
    unread f h = bound_unread keeps f (taken_bound keeps f h)

    unlinked : (j n : ℕ) → (seen s).linked j n ≢ Some node
    unlinked j n h = whole.may.descriptors j n (cc rest)

    entries_are : s.entries ++ gone_entries s node (command.Delete path)
        ≡ all_gone.entries ++ entry.Deactivate node ∷ []
    entries_are = cc (
      append_assoc s.entries (map gone_entry fs) (map cut_entry ds ++ entry.Deactivate node ∷ []),
      append_assoc (s.entries ++ map gone_entry fs) (map cut_entry ds) (entry.Deactivate node ∷ []),
      segs_entries (gones (seen s) fs) ds,
      gones_entries (seen s) fs,
    )

    deleted_seen : seen (with_owner (effected s k (command.Delete path)) None)
        ≡ record (no_more_active all_gone node words) { owner = None }
    deleted_seen = ap (λ (b : Bool). seen (with_owner
        (booked (with_store s (deleted_store b fs)) (gone_entries s node (command.Delete path))) None)) whole.active
        ∙ (λ i. record {
          plan = (sym rest i).plan;
          entries = entries_are i;
          bound = λ g. (freed_bound s.store.pages fs within g ∙ ap (λ (x : ℕ → Option (ℕ × ℕ)). x g)
              (sym (segs_bound (gones (seen s) fs) ds ∙ gones_bound (seen s) fs))) i;
          reads = λ g. (freed_reads s.store.pages fs within g ∙ (freed_none (seen s).reads fs unread g
              ∙ ap (λ (x : Seen). x.reads g) (sym rest))) i;
          words = words;
          active = λ v. (active_less s.store.ast node whole.active keeps.store.kept.tree.once keeps.store.kept.places v
              ∙ ap (λ (x : Seen). at_put x.active node false v) (sym rest)) i;
          linked = λ j n. (ap (λ (v : Seen). v.linked j n)
              (deactivate_seen s node whole.active keeps.store.kept.tree.once keeps.store.kept.places unlinked)
              ∙ ap (λ (x : Seen). x.linked j n) (sym rest)) i;
          ready = (sym rest i).ready;
          processors = (sym rest i).processors;
          owner = None;
          runs = (sym rest i).runs;
        })

    pub delete_kept : CanTell (with_owner (effected s k (command.Delete path)) None) c (process_at s c) None
        (reply_of s k (command.Delete path))
        → StoreSays (committed s c k (command.Delete path)) → Keeps (committed s c k (command.Delete path))
    delete_kept tell says = told_commit k (command.Delete path) keeps (subst KeepsBook (sym deleted_seen) over) tell
        says

  -- ---- a node that isn't active

  -- Where the node isn't active the job has taken nothing.
  pub record TookNothing : Type 0 where
    pub inactive : is_active s.store.ast node ≡ false
    pub frames : frames_of_owner s.owner ≡ []
    pub cut : cut_of_owner s.owner ≡ []

  pub delete_inactive_kept : Keeps s → TookNothing → IsDone (seen s)
      → CanTell (with_owner (effected s k (command.Delete path)) None) c (process_at s c) None
      (reply_of s k (command.Delete path))
      → StoreSays (committed s c k (command.Delete path)) → Keeps (committed s c k (command.Delete path))
  delete_inactive_kept keeps none done tell says = told_commit k (command.Delete path) keeps (subst KeepsBook
      (sym seen_is) (job_over (seen s) None keeps.book none.frames none.cut done.none done.still nobody refl)) tell says
    where
      entries_are : s.entries ++ gone_entries s node (command.Delete path) ≡ s.entries
      entries_are = (λ i. s.entries ++ (map gone_entry (none.frames i) ++
          (map cut_entry (none.cut i) ++ cond (none.inactive i) (entry.Deactivate node ∷ []) [])))
          ∙ append-nil s.entries

      seen_is : seen (with_owner (effected s k (command.Delete path)) None) ≡ record (seen s) { owner = None }
      seen_is = (λ i. seen (with_owner (booked (with_store s (deleted_store (none.inactive i) (none.frames i)))
          (gone_entries s node (command.Delete path))) None))
          ∙ (λ i. record (seen s) { owner = None; entries = entries_are i })
