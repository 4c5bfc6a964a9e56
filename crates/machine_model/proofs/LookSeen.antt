-- A look of the owner finds what its outline asks of its actions.
use Rattle.machine_model.proofs.StepBasics.{passed_there, ◌≡◌, ◌<◌, ℕ, zero, suc, Bool, true, false, not, cond, ◌&&◌, eqb, List, [], ◌∷◌, length, get_or, map, Option, Some, None, Ok, ◌⊎◌, inl, inr, refl, sym, ap, subst, ◌∙◌, arith, ◌/◌, list_any, length-map, new_word, reference_of, Command, Reference, Node, node_in, found_member, chain_of, segment_at, is_free, least_free_frame, Frame, Ptw, store_frame, has_record, entry_at, uid_at, uid_in, off_chain, known_uid, place_of, word_of, has, no_call, is_out, names, AreOf, CanActivate, CanEmpty, CanEvict, CanStart, IsIn, IsWantedPage, is_wanted_here, IsLook, KeepsLink, MayAnswer, MayConnect, MayEmpty, WantsPage, lack_of, seen, deactivation_begun, took, victim_taken, with_hand_moved, Keeps, has_free, is_here, page_fits, want_lack, wanted_chain, Want, Refer, Truncate, Length, Look, runner_at, want_at, around, bare, cut_page, is_linked, outline_of, want_by, want_lengthened, want_truncated, IsMachine, cpu_at, descriptor_of, first_inactive, flat_of, frames_from, is_active, is_connected, next_command, or_zero, process_at, processor_at, trailers_in, outside_refusal, refusal_of, uid_of_command, uid_of_number, shown, Owner, State, with_store, has_head, has_tail, Command as command, Frame as frame, Ptw as ptw, Active as Entry, Aim as aim, Phase as phase, finishing_is_bound as is_bound, finishing_page_of as page_of, outline_frame_in as frame_in, Action, ForTransfer, look_of, Action as act, command_at, What, Sdw, Links, leads, descriptor_cut, unlinked, trailer_gone, Aim, CutDescriptor, seg_gone, segment_taken, segs_gone, reference_in, runner_by, cut_of_owner, run_at, What as what, Sdw as sdw, is_some, started_page, frame_in as core_frame_in, ForeseenIsReading as IsReading, active_place, chain_active, first_there, runs_stay, SameRuns, all_taken, emptying, emptying_victim, LeadsToSegment, length_stands, truncate_stands, choice_bound, free_frame, position_at, position_none, first_idle, bound_outlined, frame_outlined, named_here, not_here, stored_outlined, inside_is, within_by, FindsActive, FindsAll, FindsCut, FindsFull, FindsLink, FindsNoFrame, FindsNoVictim, FindsOut, FindsPage, FindsPlace, FindsVictim, IsAbout, IsInside, LookFinds, look_finds, in_look, at_outline, seen_reading, IsIdle, bound_here, looking_idle, Speaks, none_some, active_at, one_read, frames_from_few, listed_bound, some_there, has_victim, member_contains, victim_is_off, by_places, took_has, descriptors_put, linked_within, or_true}
use Rattle.machine_model.proofs.LookAsks.{about_there, free_is, free_within, known_within, page_active}
use Rattle.machine_model.proofs.WantLaws.{linked_here, refer_wants, want_here}
use Rattle.machine_model.proofs.StepGoes.{may_answer}

-- ---- What a step must find of the machine, as far as it follows from the whole promise alone.

-- what doesn't take part has nothing to drop
pub off_quiet : {s : State} → Keeps s → (d : ℕ) → (cpu_at s.processors d).online ≡ false
    → (cpu_at s.processors d).due ≡ None
off_quiet {s} k d off = by (cpu_at s.processors d).due refl
  where
    by : (x : Option What) → (cpu_at s.processors d).due ≡ x → x ≡ None
    by None e = refl
    by (Some w) e = cc (sym ((k.book.holding_right d).warned w e) ∙ off)

-- a process that is at a processor may be answered
pub has_answer : {s : State} (c : ℕ) → IsMachine s → c < length s.processors
    → is_some (cpu_at s.processors c).process ≡ true → MayAnswer s c
has_answer {s} c m there h = may_answer s c (process_at s c) m there (by (cpu_at s.processors c).process h)
  where
    by : (x : Option ℕ) → is_some x ≡ true → x ≡ Some (or_zero x)
    by None e = cc
    by (Some n) e = refl

-- a look has taken nothing yet
pub looks_empty : {s : State} → Keeps s → (o : Owner) → s.owner ≡ Some o → o.phase ≡ phase.Looking → o.frames ≡ []
looks_empty {s} k o mine looks = (looking_idle (shown (seen s)) o (rw (← mine) k.book.going_owned) looks).frames

-- a transfer that a look waits for is under way
pub waits_reading : (s : State) (k : ℕ) (cmd : Command) (f : ℕ) → LookFinds s k cmd (act.Waits (ForTransfer f))
    → IsReading s f
waits_reading s k cmd f h = by (core_frame_in s.store.pages f) refl h
  where
    by : (x : Frame) → core_frame_in s.store.pages f ≡ x → is_some (started_page x) ≡ true → IsReading s f
    by (frame.Started u p) e i = record { uid = u; page = p; started = e }
    by _ e i = cc

-- ---- Whether the descriptor of a processor's next command is connected, while a job takes pages and descriptors.

-- a descriptor that faults goes on doing so
abbrev pub StillFaults : Links → Links → Type 0
StillFaults old now = (k n : ℕ) → descriptor_of old k n ≡ sdw.Fault → descriptor_of now k n ≡ sdw.Fault

cut_faults : (links : Links) (k n : ℕ) → StillFaults links (descriptor_cut links k n)
cut_faults links k n i j h = by (descriptor_of links k n) refl
  where
    by : (x : Sdw) → descriptor_of links k n ≡ x → descriptor_of (unlinked links k n (leads x)) i j ≡ sdw.Fault
    by sdw.Fault e = h
    by (sdw.Present aste m pages) e = let within = linked_within links k n (λ f. none_some (sym (ap leads f)
        ∙ ap leads e)) in
        descriptors_put links (trailer_gone links.trailers aste k n) k n sdw.Fault within.0 within.1 i j
        ∙ by_places (λ y. y ≡ sdw.Fault) (λ a b. descriptor_of links a b) k n sdw.Fault i j (λ a b. refl) (λ m. h)

took_faults : (s : State) (c : ℕ) (a : Aim) (w : What) (fs : List ℕ) (pairs : List (ℕ × ℕ))
    → StillFaults s.store.links (took s c a w fs pairs).store.links
took_faults s c a w fs pairs k n h = took_has (λ st. descriptor_of st.links k n ≡ sdw.Fault) (λ st f u p e. e)
    (λ st i j e. cut_faults st.links i j k n e) c a w s fs pairs h

gone_faults : (s : State) (ds : List CutDescriptor) → StillFaults s.store.links (segs_gone s ds).store.links
gone_faults s [] k n h = h
gone_faults s (d ∷ ds) k n h = gone_faults (seg_gone s d) ds k n h

pub segment_faults : (s : State) (c u : ℕ) (fs : List ℕ) (pairs : List (ℕ × ℕ))
    → StillFaults s.store.links (segment_taken s c u fs pairs).store.links
segment_faults s c u [] [] k n h = gone_faults s (cut_of_owner s.owner) k n h
segment_faults s c u [] (x ∷ xs) k n h = took_faults s c (aim.Deactivating u) (what.Seg u) [] (x ∷ xs) k n h
segment_faults s c u (f ∷ fs) pairs k n h = took_faults s c (aim.Deactivating u) (what.Seg u) (f ∷ fs) pairs k n h

-- ---- the next command's

module _ {s t : State} (c : ℕ) {k : ℕ} (its : (cpu_at s.processors c).process ≡ Some k) (same : SameRuns s t) where
  same_next : next_command t k ≡ next_command s k
  same_next = λ i. command_at (same.plan i) k (run_at (same.runs i) k).place

  link_of : (u : State) → (next_command u k ≡ next_command s k)
      → (runner_by (around u) (processor_at s.processors c) (cpu_at s.processors c).process).linked
      ≡ is_linked (around u) k (reference_in (next_command s k))
  link_of u next = cc

  -- of a command without a reference none is
  pub tree_link : {cmd : Command} → next_command s k ≡ Some cmd → reference_of cmd ≡ None → KeepsLink s t c
  tree_link next none = (link_of t same_next ∙ off t) ∙ sym (link_of s refl ∙ off s)
    where
      off : (u : State) → is_linked (around u) k (reference_in (next_command s k)) ≡ false
      off u = cc

  -- one that faults does so still
  pub fault_link : {cmd : Command} {r : Reference} → next_command s k ≡ Some cmd → reference_of cmd ≡ Some r
      → descriptor_of s.store.links k r.number ≡ sdw.Fault → descriptor_of t.store.links k r.number ≡ sdw.Fault
      → KeepsLink s t c
  fault_link next is was now = cc (link_of t same_next, link_of s refl)

-- ---- frames

bare_free : (x : Frame) → is_free (bare x) ≡ is_free x
bare_free frame.Free = refl
bare_free _ = refl

none_free : (fs : List Frame) → ((i : ℕ) → is_free (get_or fs i (frame.Started 0 0)) ≡ false)
    → list_any is_free (map bare fs) ≡ false
none_free [] h = refl
none_free (x ∷ xs) h = cc (bare_free x, h zero, none_free xs (λ i. h (suc i)))

pub long_frames : (s : State) → length (outline_of s).frames ≡ length s.store.pages.core.frames
unfolding outline_of
long_frames s = length-map s.store.pages.core.frames bare

pub full_outlined : (s : State) → least_free_frame s.store.pages.core ≡ None → has_free (outline_of s).frames ≡ false
unfolding has_free outline_of
full_outlined s h = none_free s.store.pages.core.frames
    (λ i. position_none is_free s.store.pages.core.frames (frame.Started 0 0) i h refl)

page_bound : (x : Frame) (page : ℕ × ℕ) → page_of x ≡ Some page → is_bound x ≡ true
page_bound (frame.Bound u p used modified) page h = refl
page_bound _ page h = cc

module _ (s : State) (k : Keeps s) where
  -- a bound frame
  pub bound_within : (f : ℕ) (page : ℕ × ℕ) → (seen s).bound f ≡ Some page → f < length (outline_of s).frames
  bound_within f page h = within_by (outline_of s).frames f frame.Free (λ e. none_some (sym (ap page_of e)
      ∙ (bound_outlined s f ∙ h)))

  pub bound_there : (f : ℕ) {page : ℕ × ℕ} → (seen s).bound f ≡ Some page
      → is_bound (frame_in (outline_of s).frames f) ≡ true
  bound_there f {page} h = page_bound (frame_in (outline_of s).frames f) page (bound_outlined s f ∙ h)

  place_is : (u : ℕ) → is_active s.store.ast u ≡ true
      → uid_in (entry_at (outline_of s).entries (place_of s.store.ast.entries u)) ≡ Some u
  unfolding outline_of
  place_is u active = (active_place s.store.ast u active).1

  -- the frames of the pages of an active segment
  pub are_of : (u : ℕ) → is_active s.store.ast u ≡ true → (fs : List ℕ)
      → ((f : ℕ) → has fs f ≡ true → has (frames_from s.store.ast u 0) f ≡ true)
      → AreOf (outline_of s) (place_of s.store.ast.entries u) fs
  are_of u active [] h = tt
  are_of u active (f ∷ fs) h = let at = listed_bound u 0 k f (h f (has_head f fs)) in (
    (bound_within f (u, at.0) at.1, bound_there f at.1, cc (bound_outlined s f, place_is u active)),
    are_of u active fs (λ g i. h g (has_tail f fs g i)),
  )

-- ---- what the owner wants

module _ (s : State) (c : ℕ) (m : IsMachine s) (cmd : Command) (sp : Speaks s c (process_at s c) cmd)
    (q : Owner) (mine : s.owner ≡ Some q) (looks : q.phase ≡ phase.Looking) (same : q.cpu ≡ c) where
  abbrev k : ℕ
  k = process_at s c

  abbrev keeps : Keeps s
  keeps = m.keeps

  abbrev nodes : List Node
  nodes = s.store.accounts.nodes

  look : IsIn (outline_of s) c Look
  look = subst (λ (d : ℕ). IsIn (outline_of s) d Look) same (in_look s mine looks)

  idle : IsIdle s.owner
  idle = subst IsIdle (sym mine) (looking_idle (shown (seen s)) q (rw (← mine) keeps.book.going_owned) looks)

  reading_none : (runner_at (outline_of s).runners c).reading ≡ None
  reading_none = cc (
    at_outline s c,
    seen_reading (around s) (processor_at s.processors c),
    subst (λ (d : ℕ). (cpu_at s.processors d).transfer ≡ None) same (keeps.at_work q mine).idle,
  )

  want_is : want_at (outline_of s) c ≡ want_by (around s) k cmd (reference_of cmd)
  want_is = cc (want_here s c sp.its)

  linked_is : (runner_at (outline_of s).runners c).linked ≡ is_linked (around s) k (reference_of cmd)
  linked_is = cc (linked_here s c sp.its)

  lack_by : {w : Want} (l : Bool) → want_at (outline_of s) c ≡ w → (runner_at (outline_of s).runners c).linked ≡ l
      → lack_of s c ≡ want_lack (outline_of s) w l None
  lack_by l e f = λ i. want_lack (outline_of s) (e i) (f i) (reading_none i)

  -- ---- by the kinds of commands

  makes_of : Reference → Bool
  makes_of r = not (eqb (new_word 0 r.kind) 0)

  refer_want : {r : Reference} → reference_of cmd ≡ Some r → outside_refusal s k r ≡ None → {u : ℕ}
      → uid_of_number s.store k r.number ≡ u
      → want_at (outline_of s) c ≡ Refer (chain_of nodes u) u (r.offset / 1024) (makes_of r)
  unfolding makes_of
  refer_want {r} is inside {u} e = cc (
    want_is,
    is,
    refer_wants s k keeps r u (subst (IsInside s k r) e (inside_is s k r keeps inside)),
  )

  linked_by : (r : Reference) (b : Bool) → reference_of cmd ≡ Some r
      → is_connected (descriptor_of s.store.links k r.number) ≡ b → (runner_at (outline_of s).runners c).linked ≡ b
  linked_by r b is h = cc (linked_is, is, h)

  truncate_leads : (path : List (List ℕ)) (words : ℕ) → cmd ≡ command.Truncate path words → refusal_of s k cmd ≡ None
      → LeadsToSegment s path
  truncate_leads path words is stands = truncate_stands s k keeps path words (rw (← is) stands)

  same_path : (path : List (List ℕ)) (n : Node) → segment_at (flat_of s).nodes path ≡ Ok n
      → segment_at nodes path ≡ Ok n
  same_path path n h = cc

  truncate_want : (path : List (List ℕ)) (words : ℕ) → cmd ≡ command.Truncate path words → refusal_of s k cmd ≡ None
      → {u : ℕ} → uid_of_command s.store k cmd ≡ u
      → want_at (outline_of s) c ≡ Truncate (chain_of nodes u) u (cut_page words)
  truncate_want path words is stands e = let leads = truncate_leads path words is stands in
      want_is ∙ (ap (λ (x : Command). want_by (around s) k x (reference_of x)) is
      ∙ (ap (want_truncated nodes words) (same_path path leads.node leads.found)
      ∙ ap (λ (v : ℕ). Truncate (chain_of nodes v) v (cut_page words)) (cc (leads.uid, is, e))))

  length_want : (path : List (List ℕ)) (pages : ℕ) → cmd ≡ command.Length path pages → refusal_of s k cmd ≡ None
      → {u : ℕ} → uid_of_command s.store k cmd ≡ u → want_at (outline_of s) c ≡ Length u
  length_want path pages is stands e = let leads = length_stands s k keeps path pages (rw (← is) stands) in
      want_is ∙ (ap (λ (x : Command). want_by (around s) k x (reference_of x)) is
      ∙ (ap want_lengthened (same_path path leads.node leads.found)
      ∙ ap (λ (v : ℕ). Length v) (sym leads.uid ∙ (sym (ap (uid_of_command s.store k) is) ∙ e))))

  about_chain : {u : ℕ} → IsAbout s k cmd u → wanted_chain (want_at (outline_of s) c) ≡ chain_of nodes u
  about_chain {u} h = elim h.case [
    | inl x ↦ ap wanted_chain (refer_want x.1 x.3 x.2)
    | inr x ↦ ap wanted_chain (truncate_want x.0 x.1 x.2 x.3 x.4)
  ]

  -- ---- a page that is wanted

  -- it is wanted of an active segment, and its want is this
  record HasWant (u p : ℕ) : Type 0 where
    active : is_active s.store.ast u ≡ true
    wants : IsWantedPage (want_at (outline_of s) c) (runner_at (outline_of s).runners c).linked u p
    here : is_wanted_here (outline_of s).frames (want_at (outline_of s) c) ≡ is_here (outline_of s).frames u p
    lacks : ((makes : Bool) → page_fits (outline_of s) None u p makes ≡ false) → lack_of s c ≡ 1

  page_want : {r : Reference} {u p : ℕ} → FindsPage s k cmd r u p
      → want_at (outline_of s) c ≡ Refer (chain_of nodes u) u p (makes_of r)
  page_want {r} {u} finds = cc (refer_want finds.is finds.inside finds.uid)

  page_linked : {r : Reference} {u p : ℕ} → FindsPage s k cmd r u p → (runner_at (outline_of s).runners c).linked ≡ true
  page_linked {r} finds = linked_by r true finds.is (ap is_connected finds.linked)

  cut_want : {u p : ℕ} → FindsCut s k cmd u p → want_at (outline_of s) c ≡ Truncate (chain_of nodes u) u (Some p)
  cut_want {u} finds = cc (truncate_want finds.path finds.words finds.is finds.stands finds.uid)

  has_want : (u p : ℕ) → ((r : Reference) × FindsPage s k cmd r u p) ⊎ FindsCut s k cmd u p → HasWant u p
  has_want u p (inl x) = record {
    active = page_active s c (no_call s) m idle cmd sp x.1;
    wants = rw (page_want x.1) (page_linked x.1, refl, refl);
    here = cc (page_want x.1);
    lacks = λ h. cc (lack_by true (page_want x.1) (page_linked x.1), h (makes_of x.0));
  }
  has_want u p (inr x) = record {
    active = chain_active nodes keeps.store.accounts.tree s.store.ast u x.chain;
    wants = rw (cut_want x) (refl, refl);
    here = cc (cut_want x);
    lacks = λ h. cc (lack_by (runner_at (outline_of s).runners c).linked (cut_want x) refl, h false);
  }

  out_fits : (u p : ℕ) (makes : Bool) → is_active s.store.ast u ≡ true
      → is_out (word_of s.store.ast u p) ≡ true → page_fits (outline_of s) None u p makes ≡ false
  out_fits u p makes active out = cc (
    not_here s keeps u p (nowhere (word_of s.store.ast u p) out),
    stored_outlined s keeps u p active,
    has_one (word_of s.store.ast u p) out,
  )
    where
      nowhere : (w : Ptw) → is_out w ≡ true → names w ≡ None
      nowhere (ptw.Here f) h = absurd (let none : false ≡ true = h in cc)
      nowhere (ptw.Leaving f) h = absurd (let none : false ≡ true = h in cc)
      nowhere _ h = refl

      has_one : (w : Ptw) → is_out w ≡ true → has_record w ≡ true
      has_one ptw.Null h = absurd (let none : false ≡ true = h in cc)
      has_one _ h = refl

  -- ---- the actions

  start_finds : {f u p : ℕ} → FindsOut s k cmd f u p → CanStart (outline_of s) c f u p
  start_finds {f} {u} {p} finds = record {
    look = look;
    free = frame_outlined s f ∙ ap bare (is_free_is (store_frame s.store.pages f)
        (position_at is_free s.store.pages.core.frames frame.Free f finds.frame).1);
    within = rw (long_frames s) (free_frame s.store.pages.core f finds.frame).0;
    lacks = want.lacks (λ makes. out_fits u p makes want.active finds.out);
    wants = want.wants;
  }
    where
      want : HasWant u p
      want = has_want u p finds.case

      is_free_is : (x : Frame) → is_free x ≡ true → x ≡ frame.Free
      is_free_is frame.Free h = refl
      is_free_is _ h = absurd (let none : false ≡ true = h in cc)

  evict_finds : (f : ℕ) → FindsFull s k cmd f → CanEvict (outline_of s) c f
  evict_finds f finds = record {
    look = look;
    full = full_outlined s finds.full;
    within = bound_within s keeps f bound.0 bound.1;
    bound = bound_there s keeps f bound.1;
    away = (has_want finds.uid finds.page finds.case).here ∙ not_here s keeps finds.uid finds.page
        (nowhere (word_of s.store.ast finds.uid finds.page) refl);
  }
    where
      bound : (page : ℕ × ℕ) × ((seen s).bound f ≡ Some page)
      bound = choice_bound s.store.pages.core f finds.choice

      at : (g : ℕ) → names (word_of s.store.ast finds.uid finds.page) ≡ Some g → ⊥
      at g h = finds.away g (bound_here (seen s) g finds.uid finds.page keeps.book idle.frames
          (keeps.book.tied.back g finds.uid finds.page h))

      nowhere : (w : Ptw) → word_of s.store.ast finds.uid finds.page ≡ w
          → names (word_of s.store.ast finds.uid finds.page) ≡ None
      nowhere (ptw.Here g) e = absurd (at g (ap names e))
      nowhere (ptw.Leaving g) e = absurd (at g (ap names e))
      nowhere _ e = ap names e

  -- all is there for a reference
  all_fits : (h : FindsAll s k cmd) (w : Ptw) → word_of s.store.ast h.uid (h.reference.offset / 1024) ≡ w
      → page_fits (outline_of s) None h.uid (h.reference.offset / 1024) (makes_of h.reference) ≡ true
  unfolding makes_of
  all_fits h ptw.Null e = cc (
    stored_outlined s keeps h.uid (h.reference.offset / 1024) (page_active s c (no_call s) m idle cmd sp h.finds),
    h.kept e,
    or_true (is_here (outline_of s).frames h.uid (h.reference.offset / 1024)),
  )
  all_fits h (ptw.Out n) e = cc
  all_fits h (ptw.Here f) e = rw (named_here s keeps h.uid (h.reference.offset / 1024) f (ap names e))
  all_fits h (ptw.Leaving f) e = rw (named_here s keeps h.uid (h.reference.offset / 1024) f (ap names e))

  all_finds : FindsAll s k cmd → WantsPage s c × (lack_of s c ≡ 0)
  all_finds h = (
    record {
      chain = chain_of nodes h.uid;
      uid = h.uid;
      page = h.reference.offset / 1024;
      makes = makes_of h.reference;
      want = page_want h.finds;
    },
    lack_by true (page_want h.finds) (page_linked h.finds)
        ∙ ap (λ (b : Bool). cond {A = ℕ} (true && b) 0 1) (all_fits h _ refl),
  )

  activate_finds : {u place : ℕ} → FindsPlace s k cmd u place → CanActivate (outline_of s) c place u
  unfolding outline_of
  activate_finds {u} {place} finds = record {
    look = look;
    member = rw (finds.link.chain_is ∙ sym (about_chain finds.link.case)) at (member_contains
        finds.chain u (found_member (λ w. not (is_active s.store.ast w)) finds.chain u finds.link.first));
    idle = first_idle s.store.ast finds.chain u finds.link.first;
    free = free_is s c (no_call s) m idle cmd sp _ place finds.free;
    within = free_within s c (no_call s) m idle cmd sp _ finds.free;
  }

  connect_finds : {n u : ℕ} → FindsLink s k cmd n u → MayConnect s c n
  connect_finds {n} {u} finds = record {
    wants = record {
      chain = chain_of nodes u;
      uid = u;
      page = finds.reference.offset / 1024;
      makes = makes_of finds.reference;
      want = refer_want finds.is finds.inside uid_is;
    };
    reference = finds.reference;
    number = finds.number;
    process = k;
    placed = record { here = sp.its; only = λ d other e. other (m.scheduled.alone d c k e sp.its) };
    next = cc;
    there = record {
      process = rw keeps.store.kept.linked.lists.processes within.0;
      number = rw (keeps.store.kept.linked.lists.words k within.0) within.1;
    };
    within = sp.there;
    off = linked_by finds.reference false finds.is (cc);
  }
    where
      uid_is : uid_of_number s.store k finds.reference.number ≡ u
      uid_is = cc

      inside : IsInside s k finds.reference u
      inside = subst (IsInside s k finds.reference) uid_is (inside_is s k finds.reference keeps finds.inside)

      within : (k < length s.store.links.known) × (n < 256)
      within = known_within s c (no_call s) m idle cmd sp n u
          (cc (subst (λ (x : ℕ). known_uid (flat_of s) k x ≡ Some u) finds.number inside.known))

  -- ---- a segment is emptied

  empty_can : (u : ℕ) → is_active s.store.ast u ≡ true
      → off_chain (wanted_chain (want_at (outline_of s) c)) (entry_at s.store.ast.entries
      (place_of s.store.ast.entries u)) ≡ true → CanEmpty (outline_of s) c (place_of s.store.ast.entries u)
  unfolding outline_of
  empty_can u active off = assumption (look, (active_place s.store.ast u active).0)

  may_empty : (t : State) (u : ℕ) → is_active s.store.ast u ≡ true
      → off_chain (wanted_chain (want_at (outline_of s) c)) (entry_at s.store.ast.entries
      (place_of s.store.ast.entries u)) ≡ true → KeepsLink s t c → MayEmpty s t c u
  may_empty t u active off link = record {
    can = empty_can u active off;
    of_it = are_of s keeps u active (frames_from s.store.ast u 0) (λ f h. h);
    few = frames_from_few s u 0 keeps;
    link = link;
  }

  empty_finds : {u : ℕ} → FindsActive s k cmd u → MayEmpty s (deactivation_begun s c u) c u
  empty_finds {u} finds = may_empty (deactivation_begun s c u) u finds.active (cc (
    length_want finds.path finds.pages finds.is finds.stands finds.uid,
    used (entry_at s.store.ast.entries (place_of s.store.ast.entries u)) (active_place s.store.ast u finds.active).1,
  )) (tree_link c sp.its (runs_stay (emptying s c u)) sp.next (ap reference_of finds.is))
    where
      used : (o : Option Entry) → uid_in o ≡ Some u → off_chain [] o ≡ true
      used None h = cc
      used (Some e) h = refl

  victim_finds : (pool : ℕ) (chain : List ℕ) (u : ℕ) → FindsVictim s k cmd pool chain u
      → MayEmpty s (victim_taken s c pool chain u) c u
  victim_finds pool chain u finds = may_empty (victim_taken s c pool chain u) u active
      (cc (about_chain finds.link.case, place_same, off_there)) link
    where
      off_there : off_chain (chain_of nodes finds.link.about) (entry_at s.store.ast.entries finds.place) ≡ true
      off_there = victim_is_off s keeps finds.link.about pool cc

      link : KeepsLink s (victim_taken s c pool chain u) c
      link = elim finds.link.case.case [
        | inl x ↦ fault_link c sp.its (runs_stay (emptying_victim s c pool chain u)) sp.next x.1 x.4
            (segment_faults (with_store s (with_hand_moved s.store pool chain)) c u
            (frames_from (with_hand_moved s.store pool chain).ast u 0)
            (trailers_in (with_hand_moved s.store pool chain) u) k x.0.number x.4)
        | inr x ↦ tree_link c sp.its (runs_stay (emptying_victim s c pool chain u)) sp.next (ap reference_of x.2)
      ]

      used : (x : Entry) × (entry_at s.store.ast.entries finds.place ≡ Some x)
          × (not (list_any (λ v. eqb v x.uid) (chain_of nodes finds.link.about)) ≡ true)
      used = passed_there (λ (x : Entry). not (list_any (λ v. eqb v x.uid) (chain_of nodes finds.link.about)))
          (entry_at s.store.ast.entries finds.place) off_there

      at : uid_at s.store.ast.entries finds.place ≡ Some u
      at = ap uid_in used.1 ∙ ap (λ (v : ℕ). Some v) (sym (finds.uid ∙ ap or_zero (ap uid_in used.1)))

      active : is_active s.store.ast u ≡ true
      active = active_at s.store.ast finds.place u at

      place_same : place_of s.store.ast.entries u ≡ finds.place
      place_same = keeps.store.kept.tree.once (place_of s.store.ast.entries u) finds.place u
          (active_place s.store.ast u active).1 at

  -- ---- nothing is lacking that could be had

  no_victim : FindsNoVictim s k cmd → ⊥
  no_victim h = let first : first_inactive s.store.ast (chain_of nodes h.link.about) ≡ Some h.wanted = cc in
      let n = some_there (node_in nodes h.wanted) (first_there nodes keeps.store.accounts.tree s.store.ast
      h.link.about h.wanted (about_there s c (no_call s) m idle cmd sp h.link.about h.link.case) first) in
      has_victim s m h.link.about h.wanted first n.0 n.1 (cc) (cc h.link.chain_is)

  no_frame : FindsNoFrame s → ⊥
  no_frame h = one_read s.store.pages.core (omega arith) h.full h.choice h.unread

  -- ---- the whole

  may : MayAnswer s c
  may = has_answer c m sp.there (cc)

  looks_like : (a : Action) → LookFinds s k cmd a → IsLook s c a
  looks_like (act.Waits (ForTransfer f)) h = waits_reading s k cmd f h
  looks_like (act.Answer r) h = may
  looks_like act.GiveUp (inl h) = all_finds h
  looks_like act.GiveUp (inr (inl h)) = absurd (no_frame h)
  looks_like act.GiveUp (inr (inr h)) = absurd (no_victim h)
  looks_like (act.Activate u place) h = activate_finds h
  looks_like (act.Connect n u) h = connect_finds h
  looks_like (act.Create f u p r) h = may
  looks_like (act.Start f u p) h = start_finds h
  looks_like (act.Evict f) h = evict_finds f h
  looks_like (act.Empty u) h = empty_finds h
  looks_like (act.EmptyVictim pool chain u) h = victim_finds pool chain u h
  looks_like (act.TakeAway fs pairs w) h = (
    h.2,
    tree_link c sp.its (runs_stay (all_taken s c aim.Committing w fs pairs)) sp.next h.0.tree,
  )
  looks_like (act.BeginMove u volume) h = tt
  looks_like act.Commit h = may
  looks_like _ h = absurd h

  pub look_seen : IsLook s c (look_of s k (next_command s k))
  look_seen = rw sp.next (looks_like (look_of s k (Some cmd)) (look_finds s k cmd))
