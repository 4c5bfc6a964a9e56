-- What a processor reads into a frame is for the next command of its process through every action, until it is read.
use Rattle.machine_model.proofs.StepBasics.{and_parts, cond_both, with_node, Links, with_effect, ◌≡◌, ◌≢◌, ◌<◌, ℕ, ◌+◌, Bool, true, false, cond, eqb, length, List, [], map, set, Option, Some, None, ◌⊎◌, inl, inr, refl, sym, ap, subst, ◌∙◌, arith, ℤ, eqb_tells, get_or-set_other, get_or-set_same, length-set, Plan, command_at, Command, Reference, Reply, What, Row, Node, node_in, IsTree, uid_of, kst_at, word_of, Transfer, parts_of, segment_at, word_reply, node_gone, is_filed, is_there, pages_in, pages_of, Processor, Run, action_of, clear_or, own_or_run, transfer_or, Outcome, after, committed, committed_at, with_made, write_failed, Keeps, without_move, IsMachine, AllRead, IsReadFor, IsReading, Refers, Truncates, Wants, cpu_at, frames_of_owner, is_active, next_command, no_processor, no_run, or_zero, process_at, processor_at, run_at, refusal_of, reply_of, uid_of_command, State, Storage, fault_told, frame_lost, old_word, page_made, pages_after, started, told, transfer_failed, with_pages, with_store, MayFailBy, not_both, Command as command, Reply as reply, Aim as aim, with_links, with_nodes, Action, Action as act, Stays, job_stays_all_back as all_back, all_taken, emptying, job_stays_evicted as evicted, evicting, is_back, is_emptied, page_left, emptying_victim, action_by, by_end, LeadsToSegment, truncate_stands, inside_is, told_reads, told_process, FindsCut, FindsOut, FindsPage, active_there, stored_is, KeepsName, PathsStay, paths_changed, paths_less, paths_more, paths_same, active_at, told_transfer, effected, some_there}
use Rattle.machine_model.proofs.CommitRights.{deleted_names, truncated_names, quota_moves, node_moved}
use Rattle.page_control.proofs.Looks.{stored_out}

-- one node changes
pub with_names : (v : ℕ) (change : Node → Node) → KeepsName change → KeepsName (λ n. cond (eqb n.uid v) (change n) n)
with_names v change same = record {
  uid = λ n. cond_both (eqb n.uid v) (change n) n (λ x. x.uid ≡ n.uid) (λ h. same.uid n) (λ h. refl);
  superior = λ n. cond_both (eqb n.uid v) (change n) n (λ x. x.superior ≡ n.superior) (λ h. same.superior n)
      (λ h. refl);
  name = λ n. cond_both (eqb n.uid v) (change n) n (λ x. x.name ≡ n.name) (λ h. same.name n) (λ h. refl);
  directory = λ n. cond_both (eqb n.uid v) (change n) n (λ x. x.directory ≡ n.directory) (λ h. same.directory n)
      (λ h. refl);
}

-- ---- a processor goes on reading

-- a process that knows by a number what it knew, and a path that leads where it led
wants_still : {ns ms : List Node} (ks ls : List (List (Option ℕ))) (k : ℕ) (t : Transfer) (x : Option Command)
    → kst_at ls k ≡ kst_at ks k → PathsStay ns ms t.uid → Wants ns ks k t x → Wants ms ls k t x
wants_still ks ls k t None numbers paths h = absurd h
wants_still ks ls k t (Some c) numbers paths (inl r) = inl (record {
  reference = r.reference;
  is = r.is;
  stands = cc;
  page = r.page;
})
wants_still ks ls k t (Some c) numbers paths (inr w) = let m = paths.each w.path w.node w.found w.uid in
    inr (record { path = w.path; words = w.words; is = w.is; node = m.0; found = m.1; uid = m.2 })

-- its process comes to the same command
record StillReads (rs us : List Run) (ns ms : List Node) (ks ls : List (List (Option ℕ))) (ps qs : List Processor)
    (d : ℕ) : Type 0 where
  transfer : (cpu_at qs d).transfer ≡ (cpu_at ps d).transfer
  process : (cpu_at qs d).process ≡ (cpu_at ps d).process
  run : (k : ℕ) → (cpu_at ps d).process ≡ Some k → run_at us k ≡ run_at rs k
  numbers : (k : ℕ) → (cpu_at ps d).process ≡ Some k → kst_at ls k ≡ kst_at ks k
  paths : (t : Transfer) → (cpu_at ps d).transfer ≡ Some t → PathsStay ns ms t.uid

module _ {p : Plan} {rs : List Run} {ns : List Node} {ks : List (List (Option ℕ))} {ps : List Processor}
    (h : AllRead p rs ns ks ps) where
  still_reads : {us : List Run} {ms : List Node} {ls : List (List (Option ℕ))} {qs : List Processor} {d : ℕ}
      → StillReads rs us ns ms ks ls ps qs d → (t : Transfer) → (cpu_at qs d).transfer ≡ Some t
      → IsReadFor p us ms ls qs d t
  still_reads {ms = ms} {ls = ls} {d = d} l t e = let was = sym l.transfer ∙ e in let r = h.each d t was in record {
    process = r.process;
    its = cc;
    wants = rw (l.run r.process r.its) (wants_still ks ls r.process t
        (command_at p r.process (run_at rs r.process).place) (l.numbers r.process r.its) (l.paths t was) r.wants);
  }

  -- one processor reads something else, or nothing
  one_read : {us : List Run} {ms : List Node} {ls : List (List (Option ℕ))} {qs : List Processor} (c : ℕ)
      → ((d : ℕ) → d ≢ c → StillReads rs us ns ms ks ls ps qs d)
      → ((t : Transfer) → (cpu_at qs c).transfer ≡ Some t → IsReadFor p us ms ls qs c t) → AllRead p us ms ls qs
  one_read c others own = record {
    each = λ d t e. elim (eqb_tells d c) [
      | inl same ↦ (rw (← same.1) at (own t)) e
      | inr other ↦ still_reads (others d other.1) t e
    ];
  }

  -- one processor is another, which reads the same, or nothing
  set_other : (c d : ℕ) (x : Processor) → d ≢ c → StillReads rs rs ns ns ks ks ps (set ps c x) d
  set_other c d x other = record {
    transfer = cc (get_or-set_other ps c d x no_processor other);
    process = cc (get_or-set_other ps c d x no_processor other);
    run = λ k e. refl;
    numbers = λ k e. refl;
    paths = λ t e. paths_same ns t.uid;
  }

  seat_read : (c : ℕ) (x : Processor) → c < length ps → x.cpu.transfer ≡ (cpu_at ps c).transfer
      → x.cpu.process ≡ (cpu_at ps c).process → AllRead p rs ns ks (set ps c x)
  seat_read c x there transfer process = one_read c (λ d n. set_other c d x n) (still_reads (record {
    transfer = cc (get_or-set_same ps c x no_processor there);
    process = cc (get_or-set_same ps c x no_processor there);
    run = λ k e. refl;
    numbers = λ k e. refl;
    paths = λ t e. paths_same ns t.uid;
  }))

  idle_read : (c : ℕ) (x : Processor) → c < length ps → x.cpu.transfer ≡ None → AllRead p rs ns ks (set ps c x)
  idle_read c x there idle = one_read c (λ d n. set_other c d x n)
      (λ t e. cc (get_or-set_same ps c x no_processor there))

  -- A process is answered whose processor reads nothing; no other processor has it, and the others know by their
  -- numbers what they knew.
  answered_read : {ms : List Node} {ls : List (List (Option ℕ))} {qs : List Processor} (c k : ℕ) (run : Run)
      → ((d : ℕ) → d ≢ c → (cpu_at ps d).process ≡ Some k → ⊥) → ((i : ℕ) → i ≢ k → kst_at ls i ≡ kst_at ks i)
      → ((d : ℕ) (t : Transfer) → d ≢ c → (cpu_at ps d).transfer ≡ Some t → PathsStay ns ms t.uid)
      → ((d : ℕ) → d ≢ c → cpu_at qs d ≡ cpu_at ps d) → (cpu_at qs c).transfer ≡ None
      → AllRead p (set rs k run) ms ls qs
  answered_read c k run elsewhere numbers paths others idle = one_read c (λ d n. record {
    transfer = cc (others d n);
    process = cc (others d n);
    run = λ i e. get_or-set_other rs k i run no_run (apart d n i e);
    numbers = λ i e. numbers i (apart d n i e);
    paths = λ t e. paths d t n e;
  }) (λ t e. cc)
    where
      apart : (d : ℕ) → d ≢ c → (i : ℕ) → (cpu_at ps d).process ≡ Some i → i ≢ k
      apart d n i e same = elsewhere d n (cc)

-- the next command of a processor's process is answered
told_read : (b : State) (c : ℕ) (f : Option ℕ) (r : Reply) → IsReading b → c < length b.processors
    → (cpu_at b.processors c).transfer ≡ None
    → ((d : ℕ) → d ≢ c → (cpu_at b.processors d).process ≡ Some (process_at b c) → ⊥) → IsReading (told b c f r)
told_read b c f r h there idle elsewhere = answered_read h c (process_at b c) _ elsewhere (λ i n. refl)
    (λ d t n e. paths_same b.store.accounts.nodes t.uid)
    (λ d n. ap (λ (y : Processor). y.cpu) (get_or-set_other b.processors c d _ no_processor n))
    (ap (λ (y : Processor). y.cpu.transfer) (get_or-set_same b.processors c _ no_processor there) ∙ idle)

-- where nothing that is read of the machine changes
reads_like : {s now : State} → Stays s now → IsReading s → IsReading now
reads_like same h = rw (same.plan, same.runs, same.nodes, same.known, same.processors) h

-- ---- a failure of the drive may be told

module _ (s : State) (d : ℕ) (t : Transfer) (keeps : Keeps s) (mine : (cpu_at s.processors d).transfer ≡ Some t) where
  read_active : is_active s.store.ast t.uid ≡ true
  read_active = let at = keeps.store.kept.paged.started t.frame t.uid t.page
      (keeps.book.under_way.reading d t mine) in active_at s.store.ast at.place t.uid at.active

  -- a page that is being read is one of its segment
  page_inside : t.page < pages_in s.store.accounts.nodes t.uid
  unfolding is_filed
  page_inside = keeps.store.counted.counted.inside t.uid t.page (active_there s keeps t.uid read_active)
      (and_parts (is_there s.store.accounts.nodes t.uid) _ (sym (keeps.faithful.pages.stored t.uid t.page)
      ∙ (stored_is s keeps t.uid read_active t.page ∙ stored_out (word_of s.store.ast t.uid t.page)
      (keeps.book.tied.out t.frame t.uid t.page (keeps.book.under_way.reading d t mine))))).1

  pub read_fails : (k : ℕ) (x : Option Command) → Wants s.store.accounts.nodes s.store.links.known k t x
      → MayFailBy s.store k x
  read_fails k None h = absurd h
  read_fails k (Some c) (inl r) =
      let n = some_there (node_in s.store.accounts.nodes t.uid) (active_there s keeps t.uid read_active) in inl (
        r.reference,
        r.is,
        record {
          uid = t.uid;
          stands = r.stands;
          node = n.0;
          there = n.1;
          within = (omega (arith, ap pages_of n.1, page_inside, r.page));
        },
      )
  read_fails k (Some c) (inr w) = rw w.is (inr (w.node, w.found))

-- ---- the rules past transfers

-- what a processor does that has no transfer to end
abbrev pub IsPast : State → ℕ → Action → Type 0
IsPast s c act.IsStopped = Unit {0}
IsPast s c act.HasEnded = Unit {0}
IsPast s c (act.Waits why) = Unit {0}
IsPast s c act.Online = Unit {0}
IsPast s c (act.Clear w) = Unit {0}
IsPast s c (act.EndTransfer t) = Unit {0}
IsPast s c _ = (cpu_at s.processors c).transfer ≡ None

past_any : (s : State) (c : ℕ) (a : Action) → (cpu_at s.processors c).transfer ≡ None → IsPast s c a
past_any s c act.IsStopped e = tt
past_any s c act.HasEnded e = tt
past_any s c (act.Waits why) e = tt
past_any s c act.Online e = tt
past_any s c (act.Clear w) e = tt
past_any s c (act.EndTransfer t) e = tt
past_any s c _ e = e

pub is_past : (s : State) (c : ℕ) → IsPast s c (action_of s c)
is_past s c = action_by (IsPast s c) s c tt tt (λ off. tt) (λ on. clear p.cpu.due)
  where
    p : Processor
    p = processor_at s.processors c

    transfer : (x : Option Transfer) → p.cpu.transfer ≡ x → IsPast s c (transfer_or s c p x)
    transfer (Some t) e = tt
    transfer None e = past_any s c (own_or_run s c p s.owner) e

    clear : (x : Option What) → IsPast s c (clear_or s c p x)
    clear (Some w) = tt
    clear None = transfer p.cpu.transfer refl

-- ---- each action

-- a processor that reads nothing has a process
abbrev pub Answers : State → ℕ → Type 0
Answers s c = ((cpu_at s.processors c).transfer ≡ None) × ((cpu_at s.processors c).process ≡ Some (process_at s c))

-- what an action asks: one that answers or gives its process up reads nothing; what a look reads it was asked for
abbrev pub MayRead : State → ℕ → Outcome → Action → Type 0
MayRead s c o (act.EndTransfer t) = (cpu_at s.processors c).transfer ≡ Some t
MayRead s c o (act.Load n) = (cpu_at s.processors c).transfer ≡ None
MayRead s c o act.Leave = (cpu_at s.processors c).transfer ≡ None
MayRead s c o (act.Through f r) = Answers s c
MayRead s c o (act.Plain r) = Answers s c
MayRead s c o (act.Answer r) = Answers s c
MayRead s c o (act.Create f u q r) = Answers s c
MayRead s c o (act.Start f u q) = ((cpu_at s.processors c).process ≡ Some (process_at s c))
    × ((x : Command) × (next_command s (process_at s c) ≡ Some x) × FindsOut s (process_at s c) x f u q)
MayRead s c o (act.FinishEviction f) = Answers s c
MayRead s c o (act.FinishPage f) = Answers s c
MayRead s c o (act.CopyPage m q) = Answers s c
MayRead s c o act.Commit = Answers s c
MayRead s c o _ = Unit {0}

module _ (s : State) (c : ℕ) (o : Outcome) (m : IsMachine s) (there : c < length s.processors) (h : IsReading s) where
  abbrev k : ℕ
  k = process_at s c

  abbrev nodes : List Node
  nodes = s.store.accounts.nodes

  abbrev known : List (List (Option ℕ))
  known = s.store.links.known

  elsewhere : (cpu_at s.processors c).process ≡ Some k → (d : ℕ) → d ≢ c → (cpu_at s.processors d).process ≡ Some k → ⊥
  elsewhere its d n e = n (m.scheduled.alone d c k e its)

  tells : (st : Storage) (f : Option ℕ) (r : Reply) → IsReading (with_store s st) → Answers s c
      → IsReading (told (with_store s st) c f r)
  tells st f r h_now a = told_read (with_store s st) c f r h_now there a.0 (elsewhere a.1)

  -- a transfer failed
  lost_read : (t : Transfer) → (cpu_at s.processors c).process ≡ Some k → IsReading (transfer_failed s c t o.faults)
  lost_read t its = let b = fault_told (frame_lost s c t) (Some k) o.faults in
      let here = get_or-set_same s.processors c _ no_processor there in
      told_read b c None reply.Device (idle_read h c _ there refl)
      (subst (λ (n : ℕ). c < n) (sym (length-set s.processors c _)) there) (ap (λ (x : Processor). x.cpu.transfer) here)
      (λ d n e. elsewhere its d n (sym (ap (λ (x : Processor). x.cpu.process)
      (get_or-set_other s.processors c d _ no_processor n)) ∙ (e ∙ ap (λ (x : Processor). Some (or_zero x.cpu.process))
      here)))

  -- a write failed
  failed_read : Answers s c → IsReading (write_failed s c o.faults)
  failed_read a = told_read (all_back s c o.faults) c None reply.Device (reads_like back h)
      (subst (λ (ps : List Processor). c < length ps) (sym back.processors) there)
      (ap (λ (ps : List Processor). (cpu_at ps c).transfer) back.processors ∙ a.0)
      (λ d n e. elsewhere a.1 d n (cc back.processors))
    where
      back : Stays s (all_back s c o.faults)
      back = is_back s c o.faults

  -- ---- a command takes effect

  module _ (a : Answers s c) where
    ends : IsReading (committed s c k command.End)
    ends = answered_read h c k _ (elsewhere a.1) (λ i n. refl) (λ d t n e. paths_same nodes t.uid)
        (λ d n. ap (λ (y : Processor). y.cpu) (get_or-set_other told_ps c d _ no_processor n
        ∙ get_or-set_other s.processors c d _ no_processor n))
        (ap (λ (y : Processor). y.cpu.transfer) (get_or-set_same told_ps c _ no_processor
        (rw (length-set s.processors c _) there))
        ∙ (ap (λ (y : Processor). y.cpu.transfer) (get_or-set_same s.processors c _ no_processor there) ∙ a.0))
      where
        told_ps : List Processor
        told_ps = (told (effected s k command.End) c None (reply_of s k command.End)).processors

    -- what is being read is of a segment that is there
    read_there : (now : State) (x : Processor) → Keeps now → now.processors ≡ set s.processors c x → (d : ℕ)
        (t : Transfer) → d ≢ c → (cpu_at s.processors d).transfer ≡ Some t
        → is_there now.store.accounts.nodes t.uid ≡ true
    read_there now x kept ps d t n e = active_there now kept t.uid
        (read_active now d t kept (cc (get_or-set_other s.processors c d x no_processor n)))

    moved_names : (u : ℕ) (amount : ℤ) → KeepsName (node_moved nodes u amount)
    moved_names u amount = record {
      uid = λ n. cc (quota_moves nodes u amount n);
      superior = λ n. cc (quota_moves nodes u amount n);
      name = λ n. cc (quota_moves nodes u amount n);
      directory = λ n. cc (quota_moves nodes u amount n);
    }

    -- what a command leaves to the other processes: their numbers, and the paths of what is being read
    record LeavesReads (now : Storage) : Type 0 where
      numbers : (i : ℕ) → i ≢ k → kst_at now.links.known i ≡ kst_at known i
      paths : (d : ℕ) (t : Transfer) → d ≢ c → (cpu_at s.processors d).transfer ≡ Some t
          → PathsStay nodes now.accounts.nodes t.uid

    nodes_change : (change : Node → Node) → KeepsName change → LeavesReads (with_nodes s.store (map change nodes))
    nodes_change change names_kept =
        record { numbers = λ i n. refl; paths = λ d t n e. paths_changed names_kept nodes t.uid }

    one_changes : (u : ℕ) (change : Node → Node) → KeepsName change
        → LeavesReads (with_nodes s.store (with_node nodes u change))
    one_changes u change names_kept = nodes_change _ (with_names u change names_kept)

    numbers_change : (links : Links) → ((i : ℕ) → i ≢ k → kst_at links.known i ≡ kst_at known i)
        → LeavesReads (with_links s.store links)
    numbers_change links numbers = record { numbers = numbers; paths = λ d t n e. paths_same nodes t.uid }

    made : (directory : Bool) (pages volume : ℕ) (rows : List Row) (y : Option (List (List ℕ) × List ℕ))
        → IsTree (with_made s.store directory pages volume rows y).accounts.nodes
        → LeavesReads (with_made s.store directory pages volume rows y)
    made directory pages volume rows None tree = numbers_change s.store.links (λ i n. refl)
    made directory pages volume rows (Some parts) tree =
        record { numbers = λ i n. refl; paths = λ d t n e. paths_more nodes _ t.uid tree }

    leaves : (cmd : Command) → Keeps (committed s c k cmd)
        → LeavesReads (with_effect s.store k (uid_of_command s.store k cmd) (frames_of_owner s.owner) cmd)
    leaves (command.Acl path row v) kept = one_changes _ _
        (record { uid = λ n. refl; superior = λ n. refl; name = λ n. refl; directory = λ n. refl })
    leaves (command.Length path pages) kept = one_changes _ _
        (record { uid = λ n. refl; superior = λ n. refl; name = λ n. refl; directory = λ n. refl })
    leaves (command.Move path amount) kept =
        nodes_change _ (moved_names (uid_of_command s.store k (command.Move path amount)) amount)
    leaves (command.Initiate path) kept = numbers_change _ (λ i n. get_or-set_other known k i _ [] n)
    leaves (command.Terminate number) kept = numbers_change _ (λ i n. get_or-set_other known k i _ [] n)
    leaves (command.MkDir path volume) kept = made true 0 volume [] (parts_of path) kept.store.accounts.tree
    leaves (command.MkSeg path pages volume) kept = made false pages volume _ (parts_of path) kept.store.accounts.tree
    leaves (command.Truncate path words) kept =
        let left = truncated_names s.store (uid_of_command s.store k (command.Truncate path words)) words in record {
          numbers = λ i n. cc;
          paths = λ d t n e. (rw left.nodes (paths_same nodes t.uid));
        }
    leaves (command.Delete path) kept = let u = uid_of_command s.store k (command.Delete path) in
        let left = deleted_names s.store u (frames_of_owner s.owner) in record {
          numbers = λ i n. cc;
          paths = λ d t n e. paths_less u t.uid m.keeps.store.accounts.tree kept.store.accounts.tree (λ same. not_both
              (read_there (committed s c k (command.Delete path)) _ kept refl d t n e) (rw (same, node_gone nodes u)));
        }
    leaves cmd kept = numbers_change s.store.links (λ i n. refl)

    commits : (x : Option Command) → Keeps (committed_at s c x) → IsReading (committed_at s c x)
    commits None kept = h
    commits (Some command.End) kept = ends
    commits (Some cmd) kept = let left = leaves cmd kept in
        answered_read h c k _ (elsewhere a.1) left.numbers left.paths
        (λ d n. ap (λ (y : Processor). y.cpu) (get_or-set_other s.processors c d _ no_processor n))
        (ap (λ (y : Processor). y.cpu.transfer) (get_or-set_same s.processors c _ no_processor there) ∙ a.0)

  -- ---- a transfer begins

  starts : (f u q : ℕ) → (cpu_at s.processors c).process ≡ Some k → (x : Command) → next_command s k ≡ Some x
      → FindsOut s k x f u q → IsReading (started s c f u q)
  starts f u q its x next finds = one_read h c (λ d n. set_other h c d _ n) (λ t e. record {
    process = k;
    its = ap (λ (y : Processor). y.cpu.process) here ∙ its;
    wants = rw next (subst (λ (y : Transfer). Wants nodes known k y (Some x))
        (same_transfer _ t (sym (ap (λ (y : Processor). y.cpu.transfer) here) ∙ e)) (wants finds.case));
  })
    where
      here : processor_at (started s c f u q).processors c ≡ record (processor_at s.processors c) {
        cpu = record (cpu_at s.processors c) { transfer = Some (record { frame = f; uid = u; page = q }) };
      }
      here = get_or-set_same s.processors c _ no_processor there

      same_transfer : (y z : Transfer) → Some y ≡ Some z → y ≡ z
      same_transfer y z e = cc

      wants : ((r : Reference) × FindsPage s k x r u q) ⊎ FindsCut s k x u q
          → Refers known k u q x ⊎ Truncates nodes u x
      wants (inl r) = inl (record {
        reference = r.0;
        is = r.1.is;
        stands = ap (λ (y : List (List (Option ℕ))). uid_of (kst_at y k) r.0.number) (sym m.keeps.faithful.known)
            ∙ ((inside_is s k r.0 m.keeps r.1.inside).known ∙ ap (λ (y : ℕ). Some y) r.1.uid);
        page = r.1.page;
      })
      wants (inr w) = inr (record {
        path = w.path;
        words = w.words;
        is = w.is;
        node = leads.node;
        found = ap (λ (ns : List Node). segment_at ns w.path) (sym m.keeps.faithful.tree.nodes) ∙ leads.found;
        uid = sym leads.uid ∙ (sym (ap (uid_of_command s.store k) w.is) ∙ w.uid);
      })
        where
          leads : LeadsToSegment s w.path
          leads = truncate_stands s k m.keeps w.path w.words
              (subst (λ (y : Command). refusal_of s k y ≡ None) w.is w.stands)

  -- What is read is so for its command after each action.
  pub reading_kept : (a : Action) → MayRead s c o a → Keeps (after s c a o) → IsReading (after s c a o)
  unfolding after
  reading_kept act.Online may kept = seat_read h c _ there refl refl
  reading_kept (act.Clear w) may kept = seat_read h c _ there refl refl
  reading_kept (act.EndTransfer t) may kept = by_end IsReading o _ _
      (λ e. idle_read h c _ there refl) (λ e. lost_read t (let r = h.each c t may in cc))
  reading_kept (act.Load n) may kept = idle_read h c _ there may
  reading_kept act.Leave may kept = idle_read h c _ there may
  reading_kept (act.FillSeg n) may kept = seat_read h c _ there refl refl
  reading_kept (act.FillPage f r) may kept = seat_read h c _ there refl refl
  reading_kept (act.Through f r) may kept = tells (with_pages s.store (pages_after s.store.pages f r)) (Some f)
      (word_reply (old_word s.store.pages f r) r.kind) h may
  reading_kept (act.Plain r) may kept = tells s.store None r h may
  reading_kept (act.Answer r) may kept = tells s.store None r h may
  reading_kept (act.Create f u q r) may kept = told_read (page_made s f u q r) c None (word_reply 0 r.kind) h there
      may.0 (elsewhere may.1)
  reading_kept (act.Start f u q) may kept = starts f u q may.0 may.1.0 may.1.1 may.1.2
  reading_kept (act.Evict f) may kept = reads_like (evicting s c f) h
  reading_kept (act.Empty u) may kept = reads_like (emptying s c u) h
  reading_kept (act.EmptyVictim pool chain u) may kept = reads_like (emptying_victim s c pool chain u) h
  reading_kept (act.TakeAway fs pairs w) may kept = reads_like (all_taken s c aim.Committing w fs pairs) h
  reading_kept (act.CopyPage m q) may kept = by_end IsReading o _ _ (λ e. h)
      (λ e. told_read (fault_told (with_store s (without_move s.store))
      (Some k) o.faults) c None reply.Device h there may.0 (elsewhere may.1))
  reading_kept (act.CommitMove m) may kept = record {
    each = λ d. still_reads h (record {
      transfer = refl;
      process = refl;
      run = λ i x. refl;
      numbers = λ i x. refl;
      paths = λ y x. paths_changed (with_names m.uid _
          (record { uid = λ n. refl; superior = λ n. refl; name = λ n. refl; directory = λ n. refl })) nodes y.uid;
    });
  }
  reading_kept (act.Signal w) may kept = record {
    each = λ d. still_reads h (record {
      transfer = cc (told_reads c w s.processors 0 d, told_transfer c w (0 + d) (processor_at s.processors d));
      process = cc (told_reads c w s.processors 0 d, told_process c w (0 + d) (processor_at s.processors d));
      run = λ i x. refl;
      numbers = λ i x. refl;
      paths = λ y x. paths_same nodes y.uid;
    });
  }
  reading_kept (act.FinishEviction f) may kept =
      by_end IsReading o _ _ (λ e. reads_like (evicted s c f o.faults) h) (λ e. failed_read may)
  reading_kept (act.FinishPage f) may kept =
      by_end IsReading o _ _ (λ e. reads_like (page_left s f o.faults) h) (λ e. failed_read may)
  reading_kept (act.Deactivate u) may kept = reads_like (is_emptied s c u) h
  reading_kept act.Commit may kept = commits may (next_command s k) kept
  reading_kept _ may kept = h
