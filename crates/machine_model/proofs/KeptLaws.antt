-- Each step keeps what is true of an outline, where its sizes stay, and where what a command's effect leaves is kept.
use Rattle.machine_model.proofs.Basics.{◌≡◌, ◌≢◌, ◌<◌, ℕ, zero, suc, Bool, true, false, not, cond, eqb, List, [], ◌∷◌, length, Option, Some, None, is_some, set, get_or, Contains, refl, sym, ap, subst, ◌∙◌, inl, inr, arith, list_any, eqb_tells, get_or-set_other, length-set, list_any_at, Frame, entry_at, uid_in, off_chain, IsOffChain, Transfer, Want, Refer, Truncate, Runner, no_runner, Work, EvictFrame, EmptyPlace, CommitCommand, Stage, Look, Taken, Waiting, Copying, Keeper, Outline, Turn, runner_at, want_at, at_stage, is_of, is_here, dues, Comes, Clears, Loads, Leaves, Commands, rule_of, owns, IsIn, JobStep, activates, connects, takes_segment, takes_frame, takes_for_commit, signals, frees_frame, frees_page, empties, empties_at_once, gives_up, starts, answers, begins_move, copies, commits_move, AreAlike, AreOf, CanStart, is_wanted_here, with_link, with_runners, without_owner, now_reading, IsAnswered, Step, comes, clears, reads, loses, works, loads, leaves, fills, replies, faults, enters, IsReplied, IsKept, HasSizes, AreTied, HasJob, FitsStage, FitsWork, AreSpared, EndsChain, is_wanted, is_spared, first_false, not_both, second_false, Frame as frame, Active as Entry, outline_frame_in as frame_in, wanted_chain as chain_of, finishing_is_bound as is_bound, finishing_page_of as page_of, finishing_uid_of as uid_of, OutlineKeptIsAtWork as IsAtWork, false_from_ne_true, eqb_self, ◌⊎◌, cases_eq, get_or-set_same, dues_set, rule_laws_tells as tells, inside, step_laws_none_due as none_due}

-- ---- What ties processors and frames together goes on as they change.

-- two lists of processors in which the same take part, have a process, and read
pub record SameTies (xs ys : List Runner) : Type 0 where
  pub count : length ys ≡ length xs
  pub online : (d : ℕ) → (runner_at xs d).online ≡ true → (runner_at ys d).online ≡ true
  pub running : (d : ℕ) → (runner_at ys d).running ≡ (runner_at xs d).running
  pub reading : (d : ℕ) → (runner_at ys d).reading ≡ (runner_at xs d).reading

pub ties_alike : {xs ys : List Runner} {c : ℕ} → AreAlike xs ys c → SameTies xs ys
ties_alike alike = record {
  count = alike.count;
  online = λ d h. alike.online d ∙ h;
  running = alike.running;
  reading = alike.reading;
}

-- what is at each place once one processor changed: the new one there, the old ones elsewhere
pub at_set : (xs : List Runner) (c : ℕ) (x : Runner) (d : ℕ) → c < length xs → (P : Runner → Type 0) → (d ≡ c → P x)
    → (d ≢ c → P (runner_at xs d)) → P (runner_at (set xs c x) d)
at_set xs c x d lt P here other = elim (cases_eq d c) [
  | inl e ↦ subst P (cc (get_or-set_same xs c x no_runner lt)) (here e)
  | inr n ↦ subst P (sym (get_or-set_other xs c d x no_runner n)) (other n)
]

pub ties_set : {xs : List Runner} (c : ℕ) (x : Runner) → c < length xs
    → ((runner_at xs c).online ≡ true → x.online ≡ true) → x.running ≡ (runner_at xs c).running
    → x.reading ≡ (runner_at xs c).reading → SameTies xs (set xs c x)
ties_set {xs} c x lt online running reading = record {
  count = length-set xs c x;
  online = λ d h. at_set xs c x d lt (λ y. y.online ≡ true) (λ e. online (rw (← e) h)) (λ n. h);
  running = λ d. at_set xs c x d lt (λ y. y.running ≡ (runner_at xs d).running) (λ e. cc) (λ n. refl);
  reading = λ d. at_set xs c x d lt (λ y. y.reading ≡ (runner_at xs d).reading) (λ e. cc) (λ n. refl);
}

pub tied_same : {xs ys : List Runner} {frames : List Frame} → SameTies xs ys → AreTied xs frames → AreTied ys frames
tied_same same tied = record {
  runners_online = λ c h. same.online c (tied.runners_online c (sym (same.running c) ∙ h));
  readers_run = λ c r h. same.running c ∙ tied.readers_run c r (sym (same.reading c) ∙ h);
  started = λ f uid page h. (let x = tied.started f uid page h in
      (x.0, rw same.count x.1, same.reading x.0 ∙ x.2));
  read = λ d r h. tied.read d r (sym (same.reading d) ∙ h);
  one_reader = λ d e r q h i together. tied.one_reader d e r q (sym (same.reading d) ∙ h) (sym (same.reading e) ∙ i)
      together;
}

-- a processor that doesn't read takes up, or gives up, a process
pub tied_quiet : {xs : List Runner} (c : ℕ) (x : Runner) {frames : List Frame} → c < length xs → x.online ≡ true
    → x.reading ≡ None → (runner_at xs c).reading ≡ None → AreTied xs frames → AreTied (set xs c x) frames
tied_quiet {xs} c x lt online reading idle tied = record {
  runners_online = λ d. at_set xs c x d lt (λ y. y.running ≡ true → y.online ≡ true) (λ e h. online)
      (λ n h. tied.runners_online d h);
  readers_run = λ d r h. at_set xs c x d lt (λ y. y.running ≡ true) (λ e. absurd (quiet (runner_at xs d).reading r (cc)
      (before d r h))) (λ n. tied.readers_run d r (before d r h));
  started = λ f uid page h. (let old = tied.started f uid page h in (
    old.0,
    rw (length-set xs c x) old.1,
    same old.0 ∙ old.2,
  ));
  read = λ d r h. tied.read d r (before d r h);
  one_reader = λ d e r q h i together. tied.one_reader d e r q (before d r h) (before e q i) together;
}
  where
    same : (d : ℕ) → (runner_at (set xs c x) d).reading ≡ (runner_at xs d).reading
    same d = at_set xs c x d lt (λ y. y.reading ≡ (runner_at xs d).reading) (λ e. cc) (λ n. refl)

    before : (d : ℕ) (r : Transfer) → (runner_at (set xs c x) d).reading ≡ Some r → (runner_at xs d).reading ≡ Some r
    before d r h = sym (same d) ∙ h

    quiet : (o : Option Transfer) (r : Transfer) → o ≡ None → o ≢ Some r
    quiet o r none h = let no : true ≡ false = sym (cc) ∙ ap (λ (x : Option Transfer). is_some x) none in cc

-- ---- frames

abbrev pub is_started : Frame → Bool
is_started (frame.Started uid page) = true
is_started _ = false

not_started : (x : Frame) (uid page : ℕ) → is_started x ≡ false → x ≢ frame.Started uid page
not_started x uid page out h = let no = sym (ap is_started h) ∙ out in cc

pub frame_at_set : (frames : List Frame) (f : ℕ) (x : Frame) (g : ℕ) → f < length frames → (P : Frame → Type 0)
    → (g ≡ f → P x) → (g ≢ f → P (frame_in frames g)) → P (frame_in (set frames f x) g)
frame_at_set frames f x g lt P here other = elim (cases_eq g f) [
  | inl e ↦ subst P (cc (get_or-set_same frames f x frame.Free lt)) (here e)
  | inr n ↦ subst P (sym (get_or-set_other frames f g x frame.Free n)) (other n)
]

-- a frame that nobody reads into becomes another that nobody reads into
pub tied_frame : {xs : List Runner} {frames : List Frame} (f : ℕ) (x : Frame) → f < length frames
    → is_started (frame_in frames f) ≡ false → is_started x ≡ false → AreTied xs frames → AreTied xs (set frames f x)
tied_frame {xs} {frames} f x lt was now tied = record {
  runners_online = tied.runners_online;
  readers_run = tied.readers_run;
  started = λ g uid page h. tied.started g uid page (before g uid page h);
  read = λ d r h. (let tie = tied.read d r h in (
    frame_at_set frames f x r.frame lt (λ y. y ≡ frame.Started r.uid r.page)
        (λ e. absurd (not_started (frame_in frames f) r.uid r.page was (cc))) (λ n. tie.0),
    rw (length-set frames f x) tie.1,
  ));
  one_reader = tied.one_reader;
}
  where
    before : (g uid page : ℕ) → frame_in (set frames f x) g ≡ frame.Started uid page
        → frame_in frames g ≡ frame.Started uid page
    before g uid page = frame_at_set frames f x g lt
        (λ y. y ≡ frame.Started uid page → frame_in frames g ≡ frame.Started uid page)
        (λ e h. absurd (not_started x uid page now h)) (λ n h. h)

-- ---- a transfer begins

some_same : (r q : Transfer) → Some r ≡ Some q → r ≡ q
some_same r q h = cc
  where
    or_this : Transfer → Option Transfer → Transfer
    or_this d None = d
    or_this d (Some x) = x

started_same : (u q uid page : ℕ) → frame.Started u q ≡ frame.Started uid page → (u ≡ uid) × (q ≡ page)
started_same u q uid page h = (
  cc,
  cc,
)

none_some : (r : Transfer) (o : Option Transfer) → o ≡ None → o ≢ Some r
none_some r o none h = let no : true ≡ false = sym (cc) ∙ ap (λ (x : Option Transfer). is_some x) none in cc

module _ {xs : List Runner} {frames : List Frame} (c f uid page : ℕ) (x : Runner) (within : c < length xs)
    (room : f < length frames) (free : frame_in frames f ≡ frame.Free) (idle : (runner_at xs c).reading ≡ None)
    (online : x.online ≡ true) (running : x.running ≡ true)
    (reading : x.reading ≡ Some (record { frame = f; uid = uid; page = page })) (tied : AreTied xs frames) where
  apart : (d : ℕ) (r : Transfer) → (runner_at xs d).reading ≡ Some r → d ≢ c
  apart d r h e = none_some r (runner_at xs d).reading (cc) h

  other_frame : (d : ℕ) {r : Transfer} → (runner_at xs d).reading ≡ Some r → r.frame ≢ f
  other_frame d {r} h e = not_started (frame_in frames f) r.uid r.page (ap is_started free) (cc ((tied.read d r h).0))

  -- who reads now: the processor into the frame, or another as before
  reads_now : (d : ℕ) (r : Transfer) → (runner_at (set xs c x) d).reading ≡ Some r
      → ((d ≡ c) × (r ≡ record { frame = f; uid = uid; page = page })) ⊎ ((runner_at xs d).reading ≡ Some r)
  reads_now d r = at_set xs c x d within (λ y. y.reading ≡ Some r →
      ((d ≡ c) × (r ≡ record { frame = f; uid = uid; page = page })) ⊎ ((runner_at xs d).reading ≡ Some r))
      (λ e h. inl (e, some_same r (record { frame = f; uid = uid; page = page }) (cc))) (λ n h. inr h)

  pub tied_started : AreTied (set xs c x) (set frames f (frame.Started uid page))
  tied_started = record {
    runners_online = λ d. at_set xs c x d within (λ y. y.running ≡ true → y.online ≡ true) (λ e h. online)
        (λ n h. tied.runners_online d h);
    readers_run = λ d r. at_set xs c x d within (λ y. y.reading ≡ Some r → y.running ≡ true) (λ e h. running)
        (λ n h. tied.readers_run d r h);
    started = λ g u q. frame_at_set frames f (frame.Started uid page) g room
        (λ y. y ≡ frame.Started u q → (d : ℕ) × (d < length (set xs c x))
        × ((runner_at (set xs c x) d).reading ≡ Some (record { frame = g; uid = u; page = q })))
        (λ e h. (let same = started_same uid page u q h in (
          c,
          rw (length-set xs c x) within,
          at_set xs c x c within (λ y. y.reading ≡ Some (record { frame = g; uid = u; page = q }))
              (λ i. reading ∙ rw (e, sym same.0, sym same.1) refl) (λ n. absurd (n refl)),
        ))) (λ n h. (let old = tied.started g u q h in (
          old.0,
          rw (length-set xs c x) old.1,
          at_set xs c x old.0 within (λ y. y.reading ≡ Some (record { frame = g; uid = u; page = q }))
              (λ i. absurd (apart old.0 (record { frame = g; uid = u; page = q }) old.2 i)) (λ i. old.2),
        )));
    read = λ d r h. elim (reads_now d r h) [
      | inl e ↦ (
        frame_at_set frames f (frame.Started uid page) r.frame room (λ y. y ≡ frame.Started r.uid r.page)
            (λ i. rw (e.1) refl) (λ n. absurd (n (cc))),
        rw (length-set frames f (frame.Started uid page), ap (λ (t : Transfer). t.frame) e.1) room,
      )
      | inr i ↦ (
        frame_at_set frames f (frame.Started uid page) r.frame room (λ y. y ≡ frame.Started r.uid r.page)
            (λ e. absurd (other_frame d i e)) (λ n. (tied.read d r i).0),
        rw (length-set frames f (frame.Started uid page)) (tied.read d r i).1,
      )
    ];
    one_reader = λ d e r q h i together. elim (reads_now d r h) [
      | inl a ↦ elim (reads_now e q i) [
        | inl b ↦ a.0 ∙ sym b.0
        | inr b ↦ absurd (other_frame e b (cc))
      ]
      | inr a ↦ elim (reads_now e q i) [
        | inl b ↦ absurd (other_frame d a (cc))
        | inr b ↦ tied.one_reader d e r q a b together
      ]
    ];
  }

-- ---- a transfer ends

module _ (xs : List Runner) (frames : List Frame) (c : ℕ) (r : Transfer) (x : Runner) (y : Frame)
    (within : c < length xs)
    (was : (runner_at xs c).reading ≡ Some r) (online : x.online ≡ true) (reading : x.reading ≡ None)
    (now : is_started y ≡ false) (tied : AreTied xs frames) where
  still : (d : ℕ) (q : Transfer) → (runner_at (set xs c x) d).reading ≡ Some q → (d ≢ c)
      × ((runner_at xs d).reading ≡ Some q)
  still d q = at_set xs c x d within (λ z. z.reading ≡ Some q → (d ≢ c) × ((runner_at xs d).reading ≡ Some q))
      (λ e h. cc) (λ n h. (n, h))

  room : r.frame < length frames
  room = (tied.read c r was).1

  pub tied_ended : AreTied (set xs c x) (set frames r.frame y)
  tied_ended = record {
    runners_online = λ d. at_set xs c x d within (λ z. z.running ≡ true → z.online ≡ true) (λ e h. online)
        (λ n h. tied.runners_online d h);
    readers_run = λ d q h. (let old = still d q h in at_set xs c x d within (λ z. z.running ≡ true)
        (λ e. absurd (old.0 e)) (λ n. tied.readers_run d q old.1));
    started = λ g u q. frame_at_set frames r.frame y g room
        (λ z. z ≡ frame.Started u q → (d : ℕ) × (d < length (set xs c x))
        × ((runner_at (set xs c x) d).reading ≡ Some (record { frame = g; uid = u; page = q })))
        (λ e h. absurd (not_started y u q now h)) (λ n h. (let old = tied.started g u q h in (
          old.0,
          rw (length-set xs c x) old.1,
          at_set xs c x old.0 within (λ z. z.reading ≡ Some (record { frame = g; uid = u; page = q }))
              (λ e. absurd (n (cc (some_same (record { frame = g; uid = u; page = q }) r (cc))))) (λ i. old.2),
        )));
    read = λ d q h. (let old = still d q h in let tie = tied.read d q old.1 in (
      frame_at_set frames r.frame y q.frame room (λ z. z ≡ frame.Started q.uid q.page)
          (λ e. absurd (old.0 (tied.one_reader d c q r old.1 was e))) (λ n. tie.0),
      rw (length-set frames r.frame y) tie.1,
    ));
    one_reader = λ d e q t h i together. tied.one_reader d e q t (still d q h).1 (still e t i).1 together;
  }

-- ---- the owner

abbrev pub keeper_cpu : Option Keeper → ℕ
keeper_cpu None = 0
keeper_cpu (Some o) = o.cpu

abbrev pub keeper_stage : Option Keeper → Stage
keeper_stage None = Look
keeper_stage (Some o) = o.stage

same_cpu : (t : Outline) (c d : ℕ) (a b : Stage) → IsIn t c a → IsIn t d b → c ≡ d
same_cpu t c d a b h i = ap keeper_cpu (sym h ∙ i)

-- a job of one owner in one stage
job_of : {t : Outline} (c : ℕ) (stage : Stage) → IsIn t c stage → IsAtWork t.runners c → FitsStage t (want_at t c) stage
    → HasJob t
job_of {t} c stage owner work fits = record {
  at_work = λ d b h. rw (← (same_cpu t c d stage b owner h)) work;
  fits = λ d b h. rw (← (same_cpu t c d stage b owner h)) (subst (λ (x : Stage). FitsStage t (want_at t c) x)
      (ap keeper_stage (sym owner ∙ h)) fits);
  quiet = λ none. (let no = sym none ∙ owner in absurd cc);
}

-- nobody owns the supervisor, and nothing is due
job_none : {t : Outline} → t.owner ≡ None → dues t.runners ≡ 0 → HasJob t
job_none none quiet = record {
  at_work = λ d b h. (let no = sym none ∙ h in absurd cc);
  fits = λ d b h. (let no = sym none ∙ h in absurd cc);
  quiet = λ n. quiet;
}

work_alike : {xs ys : List Runner} {c : ℕ} → AreAlike xs ys c → IsAtWork xs c → IsAtWork ys c
work_alike {c} alike work = record {
  within = rw alike.count work.within;
  running = cc (alike.running c);
  clear = cc;
  idle = alike.reading c ∙ work.idle;
}

-- ---- frames that were taken

none_of : (frames : List Frame) (f uid page : ℕ) → is_here frames uid page ≡ false
    → is_of uid page (frame_in frames f) ≡ false
unfolding is_here
none_of [] f uid page h = refl
none_of (x ∷ xs) zero uid page h = first_false (is_of uid page x) (list_any (is_of uid page) xs) h
none_of (x ∷ xs) (suc f) uid page h = none_of xs f uid page
    (second_false (is_of uid page x) (list_any (is_of uid page) xs) h)

spared_by : (w : Want) (x : Frame) → is_bound x ≡ true → is_wanted w x ≡ false → is_spared w x ≡ true
spared_by w frame.Free bound out = refl
spared_by w (frame.Started uid page) bound out = let no = bound in absurd cc
spared_by w (frame.Bound uid page used modified) bound out = ap not out

unwanted : (frames : List Frame) (f : ℕ) (w : Want) → is_wanted_here frames w ≡ false
    → is_wanted w (frame_in frames f) ≡ false
unwanted frames f (Refer chain uid page makes) h = none_of frames f uid page h
unwanted frames f (Truncate chain uid (Some page)) h = none_of frames f uid page h
unwanted frames f _ h = refl

-- a segment of the chain isn't at a place that is off it
apart_from : (chain : List ℕ) (o : Option Entry) (uid : ℕ) → Contains chain uid → off_chain chain o ≡ true
    → uid_in o ≢ Some uid
apart_from chain None uid there off h = let no = h in absurd cc
apart_from chain (Some e) uid there off h =
    let at : eqb (get_or chain there.0 uid) e.uid ≡ true = rw (there.2, (ap (λ (o : Option ℕ). or_this e.uid o) h))
    (eqb_self uid) in
    cc (sym (ap not (list_any_at (λ u. eqb u e.uid) chain there.0 uid there.1 at)) ∙ off)
  where
    or_this : ℕ → Option ℕ → ℕ
    or_this d None = d
    or_this d (Some n) = n

of_uid : (x : Frame) (uid page : ℕ) → is_of uid page x ≡ true → uid_of (page_of x) ≡ Some uid
of_uid (frame.Bound u q used modified) uid page h = elim (eqb_tells u uid) [
  | inl e ↦ ap (λ (n : ℕ). Some n) e.1
  | inr n ↦ (let no : false ≡ true = sym (cc) ∙ h in absurd cc)
]
of_uid _ uid page h = let no = h in absurd cc

not_wanted_uid : (x : Frame) (uid page : ℕ) → uid_of (page_of x) ≢ Some uid → is_of uid page x ≡ false
not_wanted_uid x uid page other = false_from_ne_true (is_of uid page x) (λ h. other (of_uid x uid page h))

unwanted_uid : (w : Want) (x : Frame) (o : Option Entry) → EndsChain w → off_chain (chain_of w) o ≡ true
    → uid_of (page_of x) ≡ uid_in o → is_wanted w x ≡ false
unwanted_uid (Refer chain uid page makes) x o there off of_it =
    not_wanted_uid x uid page (λ h. apart_from chain o uid there off (cc))
unwanted_uid (Truncate chain uid (Some page)) x o there off of_it =
    not_wanted_uid x uid page (λ h. apart_from chain o uid there off (cc))
unwanted_uid _ x o there off of_it = refl

-- the frames of a segment off the chain may be taken
spared_all : (s : Outline) (w : Want) (place : ℕ) (frames : List ℕ) → EndsChain w
    → IsOffChain s.entries (chain_of w) place → AreOf s place frames → AreSpared s.frames w frames
spared_all s w place [] there off of_it = tt
spared_all s w place (f ∷ fs) there off of_it = (
  (
    of_it.0.0,
    spared_by w (frame_in s.frames f) of_it.0.1
        (unwanted_uid w (frame_in s.frames f) (entry_at s.entries place) there off of_it.0.2),
  ),
  spared_all s w place fs there off of_it.1,
)

spared_started : (w : Want) (x : Frame) → is_spared w x ≡ true → is_started x ≡ false
spared_started w (frame.Started uid page) h = let no = h in absurd cc
spared_started w _ h = refl

-- frames that were taken stay so while another frame changes to one that may be taken too
spared_set : (frames : List Frame) (w : Want) (fs : List ℕ) (f : ℕ) (x : Frame) → f < length frames
    → is_spared w x ≡ true → AreSpared frames w fs → AreSpared (set frames f x) w fs
spared_set frames w [] f x lt spared h = tt
spared_set frames w (g ∷ gs) f x lt spared h = (
  (
    rw (length-set frames f x) h.0.0,
    frame_at_set frames f x g lt (λ y. is_spared w y ≡ true) (λ e. spared) (λ n. h.0.1),
  ),
  spared_set frames w gs f x lt spared h.1,
)

-- the same where the frame that changes is one that is being read into, and so none of them
spared_started_set : (frames : List Frame) (w : Want) (fs : List ℕ) (f : ℕ) (x : Frame) → f < length frames
    → is_started (frame_in frames f) ≡ true → AreSpared frames w fs → AreSpared (set frames f x) w fs
spared_started_set frames w [] f x lt started h = tt
spared_started_set frames w (g ∷ gs) f x lt started h = (
  (
    rw (length-set frames f x) h.0.0,
    frame_at_set frames f x g lt (λ y. is_spared w y ≡ true)
        (λ e. cc (spared_started w (frame_in frames g) h.0.1)) (λ n. h.0.1),
  ),
  spared_started_set frames w gs f x lt started h.1,
)

-- ---- stages

pub fits_alike : (s t : Outline) (w v : Want) (work : Work) → v ≡ w → t.frames ≡ s.frames → t.entries ≡ s.entries
    → FitsWork s w work → FitsWork t v work
fits_alike s t w v (EvictFrame f) want frames entries h = rw (want, frames) h
fits_alike s t w v (EmptyPlace place rest) want frames entries h = rw (want, frames, entries) h
fits_alike s t w v CommitCommand want frames entries h = tt

-- what the owner took, while a frame that is being read into changes
fits_read_work : (s t : Outline) (w : Want) (work : Work) (f : ℕ) (x : Frame) → f < length s.frames
    → is_started (frame_in s.frames f) ≡ true → t.frames ≡ set s.frames f x → t.entries ≡ s.entries
    → FitsWork s w work → FitsWork t w work
fits_read_work s t w (EvictFrame g) f x lt started frames entries h =
    rw (frames) (spared_started_set s.frames w (g ∷ []) f x lt started h)
fits_read_work s t w (EmptyPlace place rest) f x lt started frames entries h =
    rw (frames, entries) (spared_started_set s.frames w rest f x lt started h.0, h.1, h.2, h.3)
fits_read_work s t w CommitCommand f x lt started frames entries h = tt

fits_read : (s t : Outline) (w : Want) (stage : Stage) (f : ℕ) (x : Frame) → f < length s.frames
    → is_started (frame_in s.frames f) ≡ true → t.frames ≡ set s.frames f x → t.entries ≡ s.entries
    → (dues s.runners ≡ 0 → dues t.runners ≡ 0) → FitsStage s w stage → FitsStage t w stage
fits_read s t w Look f x lt started frames entries due h = due h
fits_read s t w (Taken work) f x lt started frames entries due h =
    fits_read_work s t w work f x lt started frames entries h
fits_read s t w (Waiting work) f x lt started frames entries due h =
    fits_read_work s t w work f x lt started frames entries h
fits_read s t w (Copying left) f x lt started frames entries due h = (due h.0, h.1)

fits_still : (s t : Outline) (w : Want) (stage : Stage) → t.frames ≡ s.frames → t.entries ≡ s.entries
    → (dues s.runners ≡ 0 → dues t.runners ≡ 0) → FitsStage s w stage → FitsStage t w stage
fits_still s t w Look frames entries due h = due h
fits_still s t w (Taken work) frames entries due h = fits_alike s t w w work refl frames entries h
fits_still s t w (Waiting work) frames entries due h = fits_alike s t w w work refl frames entries h
fits_still s t w (Copying left) frames entries due h = (due h.0, h.1)

-- ---- a processor other than the owner changes

job_other : {s : Outline} (t : Outline) (c : ℕ) (x : Runner) → HasJob s → t.owner ≡ s.owner
    → t.runners ≡ set s.runners c x → ((b : Stage) → IsIn s c b → ⊥) → (dues s.runners ≡ 0 → dues t.runners ≡ 0)
    → ((w : Want) (b : Stage) → FitsStage s w b → FitsStage t w b) → HasJob t
job_other {s} t c x job owner runners other due fits = record {
  at_work = λ d b h. (let was = sym owner ∙ h in let work = job.at_work d b was in let same = at d b was in record {
    within = rw (ap (λ (xs : List Runner). length xs) runners ∙ length-set s.runners c x) work.within;
    running = cc;
    clear = cc;
    idle = cc;
  });
  fits = λ d b h. (let was = sym owner ∙ h in
      rw (ap (λ (y : Runner). y.want) (at d b was)) (fits (want_at s d) b (job.fits d b was)));
  quiet = λ none. due (job.quiet (cc));
}
  where
    at : (d : ℕ) (b : Stage) → IsIn s d b → runner_at t.runners d ≡ runner_at s.runners d
    at d b was = cc (get_or-set_other s.runners c d x no_runner (λ e. other b (rw (← e) was)))

-- nothing more is due
due_set : (s : Outline) (c : ℕ) (x : Runner) → c < length s.runners
    → ((runner_at s.runners c).due ≡ false → x.due ≡ false) → dues s.runners ≡ 0 → dues (set s.runners c x) ≡ 0
due_set s c x lt still none =
    let count = dues_set s.runners c x lt in
    omega (arith, ap (λ (b : Bool). cond {A = ℕ} b 1 0) (still (none_due s.runners c lt none)))

-- ---- a step of the owner

kept : {t : Outline} → HasSizes t → AreTied t.runners t.frames → HasJob t → IsKept t
kept sizes tied job = assumption

-- the frames that were taken, without the first, which is free
rest_spared : (frames : List Frame) (w : Want) (f : ℕ) (rest : List ℕ) → AreSpared frames w (f ∷ rest)
    → AreSpared (set frames f frame.Free) w rest
rest_spared frames w f rest h = spared_set frames w rest f frame.Free h.0.0 refl h.1

freed_tied : {s : Outline} (w : Want) (f : ℕ) → IsKept s → f < length s.frames
    → is_spared w (frame_in s.frames f) ≡ true → AreTied s.runners (set s.frames f frame.Free)
freed_tied {s} w f k lt spared =
    tied_frame f frame.Free lt (spared_started w (frame_in s.frames f) spared) refl k.tied

link_kept : {s : Outline} (c : ℕ) → IsKept s → HasSizes (with_link s c) → IsIn s c Look → IsKept (with_link s c)
link_kept {s} c k sizes owner =
    let work = k.job.at_work c Look owner in
    let x : Runner = record (runner_at s.runners c) { linked = true } in
    let same = at_set s.runners c (record (runner_at s.runners c) { linked = true }) c work.within in
    kept sizes (tied_same
    (ties_set c (record (runner_at s.runners c) { linked = true }) work.within (λ h. h) refl refl) k.tied)
    (job_of c Look owner (record {
      within = rw (length-set s.runners c (record (runner_at s.runners c) { linked = true })) work.within;
      running = same (λ y. y.running ≡ true) (λ e. work.running) (λ n. absurd (n refl));
      clear = same (λ y. y.due ≡ false) (λ e. work.clear) (λ n. absurd (n refl));
      idle = same (λ y. y.reading ≡ None) (λ e. work.idle) (λ n. absurd (n refl));
    }) (due_set s c (record (runner_at s.runners c) { linked = true }) work.within (λ h. h) (k.job.fits c Look owner)))

start_kept : {s : Outline} {c f uid page : ℕ} → IsKept s → HasSizes (without_owner (now_reading s c f uid page))
    → CanStart s c f uid page → IsKept (without_owner (now_reading s c f uid page))
start_kept {s} {c} {f} {uid} {page} k sizes can =
    let work = k.job.at_work c Look can.look in
    kept sizes (tied_started c f uid page
    (record (runner_at s.runners c) { reading = Some (record { frame = f; uid = uid; page = page }) }) work.within
    can.within can.free work.idle (k.tied.runners_online c work.running) work.running refl k.tied) (job_none refl
    (due_set s c (record (runner_at s.runners c) { reading = Some (record { frame = f; uid = uid; page = page }) })
    work.within (λ h. h) (k.job.fits c Look can.look)))

job_keeps : {s : Outline} {c : ℕ} {t : Outline} → IsKept s → HasSizes t → (IsAnswered s c t → IsKept t) → JobStep s c t
    → IsKept t
job_keeps {s} {c} k sizes given (activates place uid superior can) = kept sizes k.tied
    (job_of c Look can.look (k.job.at_work c Look can.look) (k.job.fits c Look can.look))
job_keeps {s} {c} k sizes given (connects chain uid page makes owner want off) = link_kept c k sizes owner
job_keeps {s} {c} k sizes given (takes_segment place frames runners can of few alike) =
    let back = sym alike.want in
    kept sizes (tied_same (ties_alike alike) k.tied) (job_of c
    (Taken (EmptyPlace place frames)) refl (work_alike alike (k.job.at_work c Look can.look)) (
      rw (← back) (spared_all s (want_at s c) place frames (k.sizes.chains c) can.off of),
      few,
      can.within,
      rw (← back) can.off,
    ))
job_keeps {s} {c} k sizes given (takes_frame f can) = kept sizes k.tied
    (job_of c (Taken (EvictFrame f)) refl (k.job.at_work c Look can.look) (
      (
        can.within,
        spared_by (want_at s c) (frame_in s.frames f) can.bound (unwanted s.frames f (want_at s c) can.away),
      ),
      tt,
    ))
job_keeps {s} {c} k sizes given (takes_for_commit runners owner alike) = kept sizes
    (tied_same (ties_alike alike) k.tied)
    (job_of c (Taken CommitCommand) refl (work_alike alike (k.job.at_work c Look owner)) tt)
job_keeps {s} {c} k sizes given (signals w runners owner alike) = kept sizes (tied_same (ties_alike alike) k.tied)
    (job_of c (Waiting w) refl (work_alike alike (k.job.at_work c (Taken w) owner))
    (fits_alike s (with_runners (at_stage s c (Waiting w)) runners) (want_at s c) (runner_at runners c).want w
    alike.want refl refl (k.job.fits c (Taken w) owner)))
job_keeps {s} {c} k sizes given (frees_frame f stored full owner due may) =
    let taken = (k.job.fits c (Waiting (EvictFrame f)) owner).0 in
    kept sizes (freed_tied (want_at s c) f k taken.0 taken.1) (job_of c Look refl
    (k.job.at_work c (Waiting (EvictFrame f)) owner) due)
job_keeps {s} {c} k sizes given (frees_page place f rest stored full owner due may) =
    let fits = k.job.fits c (Waiting (EmptyPlace place (f ∷ rest))) owner in
    let few = fits.1 in
    kept sizes (freed_tied (want_at s c) f k fits.0.0.0 fits.0.0.1) (job_of c
    (Waiting (EmptyPlace place rest)) refl (k.job.at_work c (Waiting (EmptyPlace place (f ∷ rest))) owner)
    (rest_spared s.frames (want_at s c) f rest fits.0, omega arith, fits.2, fits.3))
job_keeps {s} {c} k sizes given (empties place runners owner due alike none) = kept sizes
    (tied_same (ties_alike alike) k.tied) (job_of c Look refl
    (work_alike alike (k.job.at_work c (Waiting (EmptyPlace place [])) owner)) none)
job_keeps {s} {c} k sizes given (empties_at_once place can) = kept sizes k.tied
    (job_of c Look can.look (k.job.at_work c Look can.look) (k.job.fits c Look can.look))
job_keeps {s} {c} k sizes given (begins_move left owner few) = kept sizes k.tied
    (job_of c (Copying left) refl (k.job.at_work c Look owner) (k.job.fits c Look owner, few))
job_keeps {s} {c} k sizes given (copies left fewer owner less) =
    let fits = k.job.fits c (Copying left) owner in
    let few = fits.1 in
    kept sizes k.tied (job_of c (Copying fewer) refl (k.job.at_work c (Copying left) owner) (fits.0, omega arith))
job_keeps {s} {c} k sizes given (commits_move left stored full owner has) = kept sizes k.tied
    (job_of c Look refl (k.job.at_work c (Copying left) owner) (k.job.fits c (Copying left) owner).0)
job_keeps {s} {c} k sizes given (gives_up chain uid page makes owner want fits) =
    kept sizes k.tied (job_none refl (k.job.fits c Look owner))
job_keeps {s} {c} k sizes given (starts f uid page can) = start_kept k sizes can
job_keeps k sizes given (answers stage _ owner due answered) = given answered

-- ---- a step of a processor

not_owner : (s : Outline) (c : ℕ) (b : Stage) → owns s.owner c ≡ false → IsIn s c b → ⊥
not_owner s c b out owner = not_both (cc (eqb_self c)) out

read_none : (o : Option Transfer) → is_some o ≡ false → o ≡ None
read_none None h = refl
read_none (Some r) h = let no = h in absurd cc

-- one processor changes that isn't the owner, and keeps what ties it to the frames
one_kept : {s t : Outline} (c : ℕ) (x : Runner) → IsKept s → HasSizes t → c < length s.runners → t.owner ≡ s.owner
    → t.runners ≡ set s.runners c x → t.frames ≡ s.frames → t.entries ≡ s.entries → ((b : Stage) → IsIn s c b → ⊥)
    → ((runner_at s.runners c).due ≡ false → x.due ≡ false) → AreTied (set s.runners c x) s.frames → IsKept t
one_kept {s} {t} c x k sizes lt owner runners frames entries other due tied = kept sizes (rw runners (rw frames tied))
    (job_other t c x k.job owner runners other (λ none. cc (due_set s c x lt due none))
    (λ w b h. fits_still s t w b frames entries (λ none. cc (due_set s c x lt due none)) h))

-- a transfer ends, and its frame changes
ended_kept : {s t : Outline} (c : ℕ) (r : Transfer) (x : Runner) (y : Frame) → IsKept s → HasSizes t
    → (runner_at s.runners c).reading ≡ Some r → t.owner ≡ s.owner → t.runners ≡ set s.runners c x
    → t.frames ≡ set s.frames r.frame y → t.entries ≡ s.entries → x.online ≡ true → x.reading ≡ None
    → x.due ≡ (runner_at s.runners c).due → is_started y ≡ false → IsKept t
ended_kept {s} {t} c r x y k sizes reading owner runners frames entries online over due now =
    let lt = inside s.runners c (k.tied.runners_online c (k.tied.readers_run c r reading)) in
    let tie = k.tied.read c r reading in
    let still : (runner_at s.runners c).due ≡ false → x.due ≡ false = λ h. due ∙ h in
    kept sizes (rw runners (rw frames (tied_ended s.runners s.frames c r x y lt reading online over now k.tied)))
    (job_other t c x k.job owner runners
    (λ b h. not_both (cc) (ap (λ (o : Option Transfer). is_some o) (k.job.at_work c b h).idle))
    (λ none. ap dues runners ∙ due_set s c x lt still none)
    (λ w b h. fits_read s t w b r.frame y tie.1 (ap is_started tie.0) frames entries
    (λ none. ap dues runners ∙ due_set s c x lt still none) h))

look_kept : {s : Outline} (c : ℕ) → IsKept s → HasSizes (at_stage s c Look) → c < length s.runners
    → rule_of s c ≡ Commands → s.owner ≡ None → IsKept (at_stage s c Look)
look_kept {s} c k sizes lt h none =
    let told = tells s c Commands h in
    kept sizes k.tied (job_of c Look refl
    (assumption (read_none (runner_at s.runners c).reading told.1)) (k.job.quiet none))

-- Each step keeps what is true of an outline. That the sizes stay, and that what a command's effect leaves is kept, is
-- the machine's to say.
pub step_keeps : {s : Outline} {c : ℕ} {turn : Turn} {t : Outline} → IsKept s → c < length s.runners → HasSizes t
    → (IsAnswered s c t → IsKept t) → (rule_of s c ≡ Commands → IsReplied s c t → IsKept t) → Step s c turn t → IsKept t
step_keeps {s} {c} k lt sizes given told (comes h) = one_kept c
    (record (runner_at s.runners c) { online = true }) k sizes lt refl refl refl refl
    (λ b i. not_both (k.tied.runners_online c (k.job.at_work c b i).running) (tells s c Comes h)) (λ d. d) (tied_same
    (ties_set c (record (runner_at s.runners c) { online = true }) lt (λ d. refl) refl refl) k.tied)
step_keeps {s} {c} k lt sizes given told (clears x h cleared) = one_kept c x k sizes lt refl refl refl refl
    (λ b i. not_both (tells s c Clears h).1 (k.job.at_work c b i).clear) (λ d. cleared.due) (tied_same
    (ties_set c x lt (λ d. cc) cleared.running cleared.reading) k.tied)
step_keeps {s} {c} k lt sizes given told (reads r used modified h is) =
    ended_kept c r (record (runner_at s.runners c) { reading = None })
    (frame.Bound r.uid r.page used modified) k sizes is refl refl refl refl
    (k.tied.runners_online c (k.tied.readers_run c r is)) refl refl refl
step_keeps {s} {c} k lt sizes given told (loses r x left h is lost fewer) = ended_kept c r x frame.Free k sizes is
    refl refl refl refl (lost.online ∙ k.tied.runners_online c (k.tied.readers_run c r is)) lost.reading lost.due refl
step_keeps {s} {c} {turn} {t} k lt sizes given told (works _ h step) = job_keeps k sizes given step
step_keeps {s} {c} k lt sizes given told (loads x h some loaded) =
    let rule = tells s c Loads h in
    one_kept c x k sizes lt refl refl refl refl (λ b i. not_owner s c b rule.2 i) (λ d. loaded.due)
    (tied_quiet c x lt loaded.online loaded.reading
    (read_none (runner_at s.runners c).reading rule.1) k.tied)
step_keeps {s} {c} k lt sizes given told (leaves x h left) =
    let rule = tells s c Leaves h in
    one_kept c x k sizes lt refl refl refl refl (λ b i. not_owner s c b rule.2 i) (λ d. left.due)
    (tied_quiet c x lt left.online left.reading (read_none (runner_at s.runners c).reading rule.1)
    k.tied)
step_keeps {s} {c} k lt sizes given told (fills x h filled) =
    one_kept c x k sizes lt refl refl refl refl (λ b i. not_owner s c b (tells s c Commands h).2
    i) (λ d. cc) (tied_same (ties_set c x lt (λ d. cc) filled.running filled.reading) k.tied)
step_keeps k lt sizes given told (replies _ h replied) = told h replied
step_keeps {s} {c} k lt sizes given told (faults chain uid page makes h none want lacks) =
    look_kept c k sizes lt h none
step_keeps {s} {c} k lt sizes given told (enters h none want) = look_kept c k sizes lt h none
step_keeps k lt sizes given told _ = k
