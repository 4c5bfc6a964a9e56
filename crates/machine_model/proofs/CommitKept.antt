-- The machine keeps its promise where a tree command takes effect.
use Rattle.machine_model.proofs.Laws.{◌≡◌, ◌<◌, ℕ, Bool, true, false, count_by, List, [], ◌∷◌, ◌++◌, map, length, set, Option, Some, None, inl, refl, sym, ap, subst, ◌∙◌, arith, get_or-set_same, length-set, Command, Entry, Row, parts_of, Store, progress_of, MayLeave, queued_by, gone_segs, counted, gone_seg, left, committed, cut_entry, gone_entries, inactive_entries, left_after, with_effect, with_made, IsRun, KeepsBook, is_pending, seen, Keeps, StoreSays, is_fault, cut_of_owner, flat_of, frames_of_owner, next_command, no_processor, no_run, or_zero, process_at, processor_at, run_at, reply_of, uid_of_command, Seen, shown, Processor, Run, CutDescriptor, Owner, State, Storage, booked, left_at, queued, run_after, told, told_by, with_owner, with_store, without_first_cut, append-nil, append_assoc, Command as command, Entry as entry, changes_emptied as emptied, owner_keeps, GoesOn, gone_segs_keep, faults_push, quiet_push, tell_kept_CanTell as CanTell, told_keeps, IsIdle, owned_laws_nobody as nobody, job_over, leave_keeps, reseated_seen, none_some}
use Rattle.machine_model.proofs.TransferKept.{kept_with}

-- ---- a process leaves its processor

queue_same : (t : Store) {run : Run} (ready : List ℕ) {k : ℕ} {o : Option ℕ} → o ≡ Some k → IsRun (progress_of t k) run
    → queued_by t ready o ≡ queued run ready k
queue_same t ready h is = cc

-- the ready list by the runs is that by the flat store
pub ready_left : (s : State) (c : ℕ) {k : ℕ} → KeepsBook (seen s) → (processor_at s.processors c).cpu.process ≡ Some k
    → queued (run_at s.runs (process_at s c)) s.ready (process_at s c) ≡ queued_by (flat_of s) s.ready
    (processor_at s.processors c).cpu.process
ready_left s c {k} book process = cc (queue_same (flat_of s) s.ready process (book.runs k))

-- what custody sees of a process that leaves its processor
pub left_seen : (s : State) (c : ℕ) {k : ℕ} → KeepsBook (seen s) → c < length s.processors
    → (processor_at s.processors c).cpu.process ≡ Some k → seen (left_at s c) ≡ left (seen s) c
left_seen s c {k} book there process = cc (
  reseated_seen s c (emptied (processor_at s.processors c))
      (queued (run_at s.runs (process_at s c)) s.ready (process_at s c)) (entry.Leave c) there,
  ready_left s c book process,
)

pub left_keeps_book : (s : State) (c : ℕ) {k : ℕ} → KeepsBook (seen s) → c < length s.processors
    → (processor_at s.processors c).cpu.process ≡ Some k → MayLeave (flat_of s) (shown (seen s)) c
    → KeepsBook (seen (left_at s c))
left_keeps_book s c {k} book there process may =
    subst KeepsBook (sym (left_seen s c book there process)) (leave_keeps c book may)

-- ---- descriptors that were cut are gone

-- the book tells of each descriptor that is gone, and nothing else changes but the owner
gone_segs_is : (v : Seen) (ds : List CutDescriptor) (owner : Option Owner)
    → record (gone_segs v ds) { owner = owner } ≡ record v { owner = owner; entries = v.entries ++ map cut_entry ds }
gone_segs_is v [] owner = λ i. record v { owner = owner; entries = sym (append-nil v.entries) i }
gone_segs_is v (d ∷ ds) owner = gone_segs_is (gone_seg v d (without_first_cut v.owner)) ds owner
    ∙ (λ i. record v { owner = owner; entries = append_assoc v.entries (cut_entry d ∷ []) (map cut_entry ds) i })

-- A job has taken descriptors alone, or nothing: they are gone, and it is over.
pub segs_over : (s : State) (ds : List CutDescriptor) → KeepsBook (seen s) → GoesOn (seen s) [] ds
    → KeepsBook (record (seen s) { owner = None; entries = s.entries ++ map cut_entry ds })
segs_over s ds k on = let gone = gone_segs_keep (seen s) [] ds k on in subst KeepsBook (gone_segs_is (seen s) ds None)
    (job_over (gone_segs (seen s) ds) None gone.book gone.on.frames gone.on.cut gone.on.none gone.on.still nobody refl)

pub idle_over : (s : State) → KeepsBook (seen s) → IsIdle s.owner → is_pending s.owner ≡ false
    → KeepsBook (record (seen s) { owner = None; entries = s.entries ++ [] })
idle_over s k idle still = rw (append-nil s.entries) (owner_keeps k idle nobody still)

-- ---- the effect on what custody sees

-- a command that takes no page away
abbrev pub TakesNoPage : Command → Type 0
TakesNoPage (command.Truncate path words) = ⊥
TakesNoPage (command.Delete path) = ⊥
TakesNoPage _ = Unit {0}

made_seen_same : (s : State) (directory : Bool) (pages volume : ℕ) (rows : List Row)
    (o : Option (List (List ℕ) × List ℕ))
    → seen (with_store s (with_made s.store directory pages volume rows o)) ≡ seen s
made_seen_same s directory pages volume rows None = refl
made_seen_same s directory pages volume rows (Some parts) = refl

-- such a command changes the tree, the accounts, the VTOCs and the known numbers alone
pub effect_seen : (s : State) (k u : ℕ) (frames : List ℕ) (c : Command) → TakesNoPage c
    → seen (with_store s (with_effect s.store k u frames c)) ≡ seen s
effect_seen s k u frames (command.MkDir path volume) h = made_seen_same s true 0 volume [] (parts_of path)
effect_seen s k u frames (command.MkSeg path pages volume) h = made_seen_same s false pages volume _ (parts_of path)
effect_seen s k u frames (command.Truncate path words) h = absurd h
effect_seen s k u frames (command.Delete path) h = absurd h
effect_seen s k u frames _ h = refl

no_inactive : (st : Storage) (u : ℕ) (c : Command) → TakesNoPage c → inactive_entries st u c ≡ []
no_inactive st u (command.Delete path) h = absurd h
no_inactive st u _ h = refl

-- the entries of a command that has cut descriptors alone
gone_are : (s : State) (u : ℕ) (c : Command) → TakesNoPage c → frames_of_owner s.owner ≡ []
    → gone_entries s u c ≡ map cut_entry (cut_of_owner s.owner)
gone_are s u c h none = cc (no_inactive s.store u c h, append-nil (map cut_entry (cut_of_owner s.owner)))

pub cut_faults : (es : List Entry) (ds : List CutDescriptor)
    → count_by is_fault (es ++ map cut_entry ds) ≡ count_by is_fault es
cut_faults es [] = cc (append-nil es)
cut_faults es (d ∷ ds) = cc (
  append_assoc es (cut_entry d ∷ []) (map cut_entry ds),
  cut_faults (es ++ cut_entry d ∷ []) ds,
  quiet_push es (cut_entry d) refl,
)

-- ---- the command

-- the machine once the effect is made and what was taken is gone
abbrev pub effected : State → ℕ → Command → State
effected s k c = booked (with_store s (with_effect s.store k (uid_of_command s.store k c) (frames_of_owner s.owner) c))
    (gone_entries s (uid_of_command s.store k c) c)

module _ (s : State) (c k : ℕ) (cmd : Command) (keeps : Keeps s) (pages : TakesNoPage cmd)
    (none : frames_of_owner s.owner ≡ [])
    (over : KeepsBook (record (seen s) { owner = None; entries = s.entries ++ map cut_entry (cut_of_owner s.owner) }))
  where
    abbrev now : State
    now = effected s k cmd

    gone_is : gone_entries s (uid_of_command s.store k cmd) cmd ≡ map cut_entry (cut_of_owner s.owner)
    gone_is = gone_are s (uid_of_command s.store k cmd) cmd pages none

    pub effected_book : KeepsBook (seen (with_owner now None))
    effected_book = subst KeepsBook (sym (ap (λ
        (v : Seen). record v { owner = None; entries = s.entries ++ gone_entries s (uid_of_command s.store k cmd) cmd })
        (effect_seen s k (uid_of_command s.store k cmd) (frames_of_owner s.owner) cmd pages)
        ∙ (λ i. record (seen s) { owner = None; entries = s.entries ++ gone_is i }))) over

    -- the command is done, and the supervisor given up
    pub commit_kept : ((x : State) → left_after x c cmd ≡ x) → process_at s c ≡ k
        → CanTell (with_owner now None) c (process_at s c) None (reply_of s k cmd)
        → StoreSays (committed s c k cmd) → Keeps (committed s c k cmd)
    commit_kept stays its tell says = subst Keeps (sym same)
        (kept_with (with_owner (told now c None (reply_of s k cmd)) None) (told_keeps effected_book tell)
        (subst StoreSays same says) (omega (
          arith,
          faults_push now.entries (entry.Do (process_at s c) (run_at s.runs (process_at s c)).place c None
              (reply_of s k cmd)),
          cut_faults s.entries (cut_of_owner s.owner),
          (ap (λ (es : List Entry). count_by is_fault (s.entries ++ es)) gone_is),
        )) (length-set s.processors c _ ∙ keeps.sizes.processors)
        (length-set s.runs (process_at s c) _ ∙ keeps.sizes.processes) (λ o h. cc))
      where
        same : committed s c k cmd ≡ with_owner (told now c None (reply_of s k cmd)) None
        same = cc (stays (told now c None (reply_of s k cmd)))

-- ---- the end of a process

process_counted : (ps : List Processor) (c : ℕ) (tried : Bool) → c < length ps
    → (processor_at (set ps c (counted (processor_at ps c) tried)) c).cpu.process ≡ (processor_at ps c).cpu.process
process_counted ps c tried there = rw (get_or-set_same ps c (counted (processor_at ps c) tried) no_processor there)

module _ (s : State) (c k : ℕ) (keeps : Keeps s) (none : frames_of_owner s.owner ≡ [])
    (over : KeepsBook (record (seen s) { owner = None; entries = s.entries ++ map cut_entry (cut_of_owner s.owner) }))
    (process : (processor_at s.processors c).cpu.process ≡ Some k) (next : next_command s k ≡ Some command.End) where
  abbrev ending : State
  ending = with_owner (effected s k command.End) None

  abbrev ended : State
  ended = told_by ending c k None (reply_of s k command.End)

  -- the process has ended, and its processor has none any more
  pub end_kept : CanTell ending c k None (reply_of s k command.End) → StoreSays (committed s c k command.End)
      → Keeps (committed s c k command.End)
  end_kept tell says = subst Keeps (sym same) (kept_with (left_at ended c)
      (left_keeps_book ended c book there process_still (rw process_still (inl over_now))) (subst StoreSays same says)
      (let one = faults_push (effected s k command.End).entries
      (entry.Do k (run_at s.runs k).place c None (reply_of s k command.End)) in
      let two = cut_faults s.entries (cut_of_owner s.owner) in
      let four = faults_push ended.entries (entry.Leave c) in
      let few = keeps.few_faults in omega (
        arith,
        one,
        two,
        (ap (λ (es : List Entry). count_by is_fault
            (s.entries ++ es)) (gone_are s (uid_of_command s.store k command.End) command.End tt none)),
        four,
        few,
      )) (length-set ended.processors c _ ∙ (length-set s.processors c _ ∙ keeps.sizes.processors))
      (length-set s.runs k _ ∙ keeps.sizes.processes) (λ o h. absurd (none_some h)))
    where
      same : committed s c k command.End ≡ left_at ended c
      same = ap (λ (j : ℕ). left_at (told_by ending c j None (reply_of s k command.End)) c) (ap or_zero process)

      there : c < length ended.processors
      there = subst (λ (n : ℕ). c < n) (sym (length-set s.processors c _)) tell.there

      process_still : (processor_at ended.processors c).cpu.process ≡ Some k
      process_still = process_counted s.processors c _ tell.there ∙ process

      book : KeepsBook (seen ended)
      book = told_keeps (effected_book s c k command.End keeps tt none over) tell

      over_now : (progress_of (flat_of ended) k).ended ≡ true
      over_now = (book.runs k).ended ∙ (ap (λ (r : Run). r.ended) (get_or-set_same s.runs k
          (run_after (run_at s.runs k) (next_command s k) (reply_of s k command.End)) no_run tell.known) ∙ ap
          (λ (o : Option Command). (run_after (run_at s.runs k) o (reply_of s k command.End)).ended) next)
