-- What the rules know where they choose an action: who owns the supervisor, and whose command it is.
use Rattle.machine_model.proofs.StepBasics.{eqb_self, not_both, eqb-true, ◌≡◌, ◌≢◌, ◌<◌, ℕ, true, false, not, ◌&&◌, eqb, List, [], ◌∷◌, length, position, Option, Some, None, inl, inr, refl, sym, ap, subst, ◌∙◌, ◌⊎◌, ◌/◌, cond_both, reference_of, Command, Reference, What, Mover, table_of, next_out, IsMovedFor, IsTakenBy, IsTakenFor, TakenIn, Transfer, Aim, Phase, Processor, action_of, by_move, clear_or, come_to, finish_of, go_on_with, has_had_its_turn, is_empty, load_or_idle, look_of, move_of, once_cleared, own_or_run, refer_or_take, run_process, take_or_wait, transfer_or, copy_or_commit, Outcome, IsMachine, flat_of, is_due, next_command, or_zero, process_at, processor_at, Owner, State, FailsIn, IsWorking, MayFailBy, TakesSome, Reply, is_end, reply_to_command, is_refusal, Move, What as what, Move as move, Aim as aim, Phase as phase, Command as command, Action, ForTransfer, Action as act, zero, suc, Bool, cond, arith, cases_eq, Who, permits, access_of, Node, account_of, node_in, quota_in, volume_in, Counts, is_stored, is_out_of_room, is_used_up, is_volume_full, stores_page, word_reply, first_below, has_room_flat, room_for, Store, uid_of, kst_at, is_spent, Keeps, IsFirstWithRoom, LacksRecord, MovesFor, tables_of, mover_to, is_active, is_of_room, move_to, only, room_refusal, nonzero_alters, found_uid, Reply as reply, ◌+◌, count_by, eqb_tells, sum_by-cons, used_by, action_by, LookFinds, look_finds, FindsActive, FindsFull, FindsOut, FindsTaken, FindsVictim, FindsMove, IsInside, IsIdle, Speaks, speaks, speaks_of, takes_tree, fails_more, IsNoOwner, due_is, inside_is, null_word, stored_is, look_taken, IsLooking, look_idle, process_here, IsMoving, IsMine, page_fails, who_is}
use Rattle.machine_model.proofs.LookAsks.{page_active}
use Rattle.machine_model.proofs.ReadyLaws.{IsOutOfUse}
use Rattle.machine_model.proofs.WorkStep.{IsEmptying, Looks, BeginsMove, moving_rests}
use Rattle.machine_model.proofs.TakeAsks.{takes_none}
use Rattle.machine_model.proofs.RulesKept.{some_again}
use Rattle.machine_model.proofs.EmptyAsks.{unread_any}
use Rattle.machine_model.proofs.WantLaws.{full_is, room_same}

-- ---- What a move rests on holds where a look finds that a segment moves.

-- ---- Where two lists of stored pages have as many pages of each segment, they have as many of any segments.

-- how many stored pages are of segments that pass a test
abbrev pages_of : (ℕ → Bool) → List (ℕ × ℕ) → ℕ
pages_of test xs = count_by (λ x. test x.0) xs

pages_cons : (test : ℕ → Bool) (x : ℕ × ℕ) (xs : List (ℕ × ℕ)) → pages_of test (x ∷ xs)
    ≡ cond {A = ℕ} (test x.0) 1 0 + pages_of test xs
pages_cons test x xs = sum_by-cons (λ (y : ℕ × ℕ). cond (test y.0) 1 0) x xs

-- the list without the first page of a segment
abbrev without_one : ℕ → List (ℕ × ℕ) → List (ℕ × ℕ)
without_one u [] = []
without_one u (x ∷ xs) = cond (eqb x.0 u) xs (x ∷ without_one u xs)

one_less : (test : ℕ → Bool) (u : ℕ) (xs : List (ℕ × ℕ)) → 0 < pages_of (λ n. eqb n u) xs
    → pages_of test xs ≡ cond {A = ℕ} (test u) 1 0 + pages_of test (without_one u xs)
one_less test u [] some = absurd (omega arith)
one_less test u (x ∷ xs) some = elim (eqb_tells x.0 u) [
  | inl same ↦ pages_cons test x xs ∙ (cc)
  | inr other ↦ (let here = pages_cons (λ n. eqb n u) x xs ∙ ap (λ (b : Bool). cond {A = ℕ} b 1 0
      + pages_of (λ n. eqb n u) xs) other.0 in
      let rest = one_less test u xs (omega arith) in
      let left = ap (λ (b : Bool). pages_of test (cond b xs (x ∷ without_one u xs))) other.0
      ∙ pages_cons test x (without_one u xs) in
      omega (arith, (pages_cons test x xs)))
]

own_page : (x : ℕ × ℕ) (xs : List (ℕ × ℕ)) → 0 < pages_of (λ n. eqb n x.0) (x ∷ xs)
own_page x xs = elim (eqb_tells x.0 x.0) [
  | inl same ↦ (omega (
    arith,
    (pages_cons (λ n. eqb n x.0) x xs ∙ ap (λ (b : Bool). cond {A = ℕ} b 1 0 + pages_of (λ n. eqb n x.0) xs) same.0),
  ))
  | inr other ↦ absurd (other.1 refl)
]

as_many : (test : ℕ → Bool) (xs ys : List (ℕ × ℕ))
    → ((u : ℕ) → pages_of (λ n. eqb n u) xs ≡ pages_of (λ n. eqb n u) ys) → pages_of test xs ≡ pages_of test ys
as_many test [] [] same = refl
as_many test [] (y ∷ ys) same = let none = same y.0 in let some = own_page y ys in absurd (omega arith)
as_many test (x ∷ xs) ys same = let some = own_page x xs in let here = same x.0 in
    let there : 0 < pages_of (λ n. eqb n x.0) ys = omega arith in
    let rest = as_many test xs (without_one x.0 ys) (λ u. (let one = pages_cons (λ n. eqb n u) x xs in
    omega (arith, (same u), one_less (λ n. eqb n u) x.0 ys there))) in
    omega (arith, one_less test x.0 ys there, (pages_cons test x xs))

-- each account is charged for as many pages
pub charged_alike : (ns : List Node) (xs ys : List (ℕ × ℕ)) (account : ℕ)
    → ((u : ℕ) → count_by (λ x. eqb x.0 u) xs ≡ count_by (λ x. eqb x.0 u) ys)
    → used_by ns xs account ≡ used_by ns ys account
unfolding used_by
charged_alike ns xs ys account same = as_many (λ n. eqb (account_of ns n) account) xs ys same

-- ---- the first that passes a test

none_below : (test : ℕ → Bool) (n v : ℕ) → first_below test n ≡ None → v < n → test v ≡ false
none_below test zero v none lt = absurd (omega arith)
none_below test (suc n) v none lt = by (first_below test n) refl (none_below test n v)
  where
    past : (b : Bool) → test n ≡ b → cond b (Some n) None ≡ None → (v < n → test v ≡ false) → test v ≡ false
    past true e i rest = cc
    past false e i rest = elim (cases_eq v n) [ inl same ↦ ap test same ∙ e | inr other ↦ rest (omega arith) ]

    by : (x : Option ℕ) → first_below test n ≡ x → (first_below test n ≡ None → v < n → test v ≡ false) → test v ≡ false
    by (Some w) e rest = cc
    by None e rest = past (test n) refl (rw e at none) (rest e)

first_found : (test : ℕ → Bool) (n v : ℕ) → first_below test n ≡ Some v
    → (test v ≡ true) × ((u : ℕ) → u < v → test u ≡ false)
first_found test zero v h = cc
first_found test (suc n) v h = by (first_below test n) refl (first_found test n v)
  where
    last : (b : Bool) → test n ≡ b → first_below test n ≡ None → cond b (Some n) None ≡ Some v
        → (test v ≡ true) × ((u : ℕ) → u < v → test u ≡ false)
    last true e none i = let same : n ≡ v = cc in (cc, λ u lt. none_below test n u none (omega arith))
    last false e none i = cc

    by : (x : Option ℕ) → first_below test n ≡ x
        → (first_below test n ≡ Some v → (test v ≡ true) × ((u : ℕ) → u < v → test u ≡ false))
        → (test v ≡ true) × ((u : ℕ) → u < v → test u ≡ false)
    by (Some w) e rest = rest (e ∙ (rw e at h))
    by None e rest = last (test n) refl e (rw e at h)

module _ (s : State) (k : ℕ) (cmd : Command) (keeps : Keeps s) (u volume : ℕ) (finds : FindsMove s k cmd u volume)
    (active : is_active s.store.ast u ≡ true) where
  abbrev t : Store
  t = flat_of s

  abbrev r : Reference
  r = finds.reference

  inside : IsInside s k r u
  inside = subst (IsInside s k r) finds.finds.uid (inside_is s k r keeps finds.finds.inside)

  -- ---- where it moves

  moves : (b : Bool) → is_volume_full s.plan t (volume_in t.nodes u) ≡ b
      → cond b (room_for s.plan t u) None ≡ Some volume
      → (is_volume_full s.plan t (volume_in t.nodes u) ≡ true) × (room_for s.plan t u ≡ Some volume)
  moves true e i = (e, i)
  moves false e i = cc

  to : (is_volume_full s.plan t (volume_in t.nodes u) ≡ true) × (room_for s.plan t u ≡ Some volume)
  unfolding move_to
  to = moves (is_volume_full s.plan t (volume_in t.nodes u)) refl finds.moves

  first : IsFirstWithRoom (tables_of s.store) u volume
  first = let found = first_found (has_room_flat s.plan t u) (length s.plan.volumes) volume to.1 in record {
    room = room_same s keeps u volume ∙ found.0;
    before = λ v lt. room_same s keeps u v ∙ found.1 v lt;
  }

  -- ---- nothing else refuses it

  unstored : is_stored t.stored u (r.offset / 1024) ≡ false
  unstored = cc (stored_is s keeps u active (r.offset / 1024))

  stores : stores_page t u r.offset r.kind ≡ true
  stores = rw (nonzero_alters r.kind finds.word, null_word s keeps u active r.offset finds.null, finds.word, unstored)
      refl

  unspent : is_used_up t inside.node.uid ≡ false
  unfolding room_refusal
  unspent = by (is_used_up t inside.node.uid) (cc (stores, due_is s k r keeps u inside))
    where
      word : Reply
      word = word_reply (t.words u r.offset) r.kind

      by : (b : Bool) → only is_of_room (cond b reply.Quota (cond (is_out_of_room s.plan t inside.node) reply.NoRecord
          word)) ≡ None → b ≡ false
      by true i = cc
      by false i = refl

  lacks : LacksRecord (tables_of s.store) k u r
  lacks = record {
    stands = ap (λ (x : List (List (Option ℕ))). uid_of (kst_at x k) r.number) (sym keeps.faithful.known)
        ∙ inside.known;
    node = inside.node;
    there = ap (λ (ns : List Node). node_in ns u) (sym keeps.faithful.tree.nodes) ∙ inside.there;
    permitted = ap (λ (w : Who). permits (access_of w inside.node.rows) r.kind) (who_is keeps k) ∙ inside.permitted;
    within = inside.within;
    word = finds.word;
    unstored = sym (keeps.faithful.pages.stored u (r.offset / 1024)) ∙ unstored;
    unspent = λ stored counts. spent stored counts;
    full = full_is s keeps (volume_in s.store.accounts.nodes u)
        ∙ (ap (λ (ns : List Node). is_volume_full s.plan t (volume_in ns u)) (sym keeps.faithful.tree.nodes) ∙ to.0);
  }
    where
      spent : (stored : List (ℕ × ℕ)) → Counts s.store.accounts stored
          → is_spent s.store.accounts.nodes stored u ≡ false
      spent stored counts = ap
          (λ (n : ℕ). eqb n (quota_in s.store.accounts.nodes (account_of s.store.accounts.nodes u))) (charged_alike
          s.store.accounts.nodes stored t.stored (account_of s.store.accounts.nodes u)
          (λ v. sym (counts v) ∙ keeps.faithful.tree.counts v)) ∙ (ap (λ (ns : List Node). is_spent ns t.stored u)
          (sym keeps.faithful.tree.nodes) ∙ (ap (is_used_up t) (sym
          (found_uid t.nodes u inside.node inside.there)) ∙ unspent))

  moves_for : MovesFor (tables_of s.store) k (mover_to s.store u volume) cmd
  moves_for = record { reference = r; is = finds.finds.is; lacks = lacks; first = first; its = refl }

  pub move_found : {x : Option Command} → x ≡ Some cmd → IsMovedFor s.store k (mover_to s.store u volume) x
  move_found next = record {
    moves = rw next moves_for;
    active = active;
    unread = record { none = λ f p. unread_any s.store.pages.core u finds.unread f p };
  }

-- a processor's process comes to a command that isn't its end
pub record AnswersOne (s : State) (c : ℕ) : Type 0 where
  pub command : Command
  pub speaks : Speaks s c (process_at s c) command
  pub more : is_end command ≡ false

-- a processor runs its process by itself
pub record RunsAlone (s : State) (c : ℕ) : Type 0 where
  pub other : IsNoOwner s c
  pub one : AnswersOne s c

-- the owner's process comes to a tree command whose job has taken just what it takes
pub record Commits (s : State) (c : ℕ) : Type 0 where
  pub owner : IsMine s c
  pub command : Command
  pub speaks : Speaks s c (process_at s c) command
  pub tree : reference_of command ≡ None
  pub taken : IsTakenFor s (process_at s c) command
  pub out : IsOutOfUse s (process_at s c) command

-- a look finds that the next command takes these
pub record FindsFor (s : State) (c : ℕ) (fs : List ℕ) (pairs : List (ℕ × ℕ)) : Type 0 where
  pub command : Command
  pub next : next_command s (process_at s c) ≡ Some command
  pub finds : FindsTaken s (process_at s c) command fs pairs

-- the owner copies the next page of the segment that it moves, or there is none any more
pub record CopiesNext (s : State) (c : ℕ) (m : Mover) (p : ℕ) : Type 0 where
  pub moving : IsMoving s c m
  pub one : AnswersOne s c
  pub rests : IsMovedFor s.store (process_at s c) m (next_command s (process_at s c))
  pub next : next_out (table_of s.store.ast m.uid) m.next ≡ Some p

pub record EndsMove (s : State) (c : ℕ) (m : Mover) : Type 0 where
  pub moving : IsMoving s c m
  pub one : AnswersOne s c
  pub rests : IsMovedFor s.store (process_at s c) m (next_command s (process_at s c))
  pub done : next_out (table_of s.store.ast m.uid) m.next ≡ None

abbrev pub Knows : State → ℕ → Action → Type 0
Knows s c (act.Through f r) = RunsAlone s c
Knows s c (act.Plain r) = RunsAlone s c
Knows s c (act.Answer r) = AnswersOne s c
Knows s c (act.Activate u place) = IsLooking s c
Knows s c (act.Connect n u) = IsLooking s c
Knows s c (act.Create f u p r) = AnswersOne s c
Knows s c (act.Start f u q) = (x : Command) × Speaks s c (process_at s c) x × FindsOut s (process_at s c) x f u q
Knows s c (act.Evict f) = Looks s c (λ x. FindsFull s (process_at s c) x f)
Knows s c (act.Empty u) = Looks s c (λ x. FindsActive s (process_at s c) x u)
Knows s c (act.EmptyVictim pool chain u) = Looks s c (λ x. FindsVictim s (process_at s c) x pool chain u)
Knows s c (act.TakeAway fs pairs w) = IsLooking s c × IsIdle s.owner × ((fs ≢ []) ⊎ (pairs ≢ []))
    × TakesSome (next_command s (process_at s c)) × FindsFor s c fs pairs
Knows s c (act.FinishEviction f) = AnswersOne s c
Knows s c (act.FinishPage f) = IsEmptying s c × AnswersOne s c
Knows s c (act.BeginMove u volume) = BeginsMove s c u volume
Knows s c (act.CopyPage m p) = CopiesNext s c m p
Knows s c (act.CommitMove m) = EndsMove s c m
Knows s c act.Commit = Commits s c
Knows s c _ = Unit {0}

-- a command with a reference isn't an end
reference_more : (cmd : Command) {r : Reference} → reference_of cmd ≡ Some r → is_end cmd ≡ false
reference_more command.End h = cc
reference_more cmd h = refl

module _ (s : State) (c : ℕ) (o : Outcome) (m : IsMachine s) (there : c < length s.processors) (working : IsWorking s)
  where
    abbrev p : Processor
    p = processor_at s.processors c

    abbrev k : ℕ
    k = process_at s c

    -- an end isn't refused
    refused_more : (cmd : Command) (r : Reply) → r ≡ reply_to_command s.plan (flat_of s) k cmd → is_refusal r ≡ true
        → is_end cmd ≡ false
    refused_more command.End r e h = absurd (let none : false ≡ true = sym (ap is_refusal e) ∙ h in cc)
    refused_more cmd r e h = refl

    -- a command that takes something is one of those that do
    takes_some : (cmd : Command) (fs : List ℕ) (pairs : List (ℕ × ℕ)) → FindsTaken s k cmd fs pairs
        → (fs ≢ []) ⊎ (pairs ≢ []) → TakesSome (Some cmd)
    takes_some (command.Acl path row m) fs pairs h some = tt
    takes_some (command.Terminate n) fs pairs h some = tt
    takes_some (command.Truncate path words) fs pairs h some = tt
    takes_some (command.Delete path) fs pairs h some = tt
    takes_some command.End fs pairs h some = tt
    takes_some _ fs pairs h some = elim some [ inl n ↦ n h.frames | inr n ↦ n h.descriptors ]

    -- the command of the process that is here
    its_command : p.cpu.process ≡ Some k → (x : Command) × Speaks s c k x
    its_command its = speaks s c k m there its

    take_knows : (x : Option Owner) → Knows s c (take_or_wait x)
    take_knows None = tt
    take_knows (Some q) = tt

    move_knows : RunsAlone s c → (r : Reference) (x : Move) → Knows s c (by_move s.owner r x)
    move_knows alone r (move.Through f) = alone
    move_knows alone r (move.Plain answer) = alone
    move_knows alone r (move.Fault) = take_knows s.owner
    move_knows alone r _ = tt

    come_knows : IsNoOwner s c → p.cpu.process ≡ Some k → (x : Option Command) → next_command s k ≡ x
        → Knows s c (come_to s p.cpu k x)
    come_knows other its None e = take_knows s.owner
    come_knows other its (Some cmd) e = by (reference_of cmd) refl
      where
        by : (y : Option Reference) → reference_of cmd ≡ y → Knows s c (refer_or_take s p.cpu k y)
        by None i = take_knows s.owner
        by (Some r) i = move_knows (record {
          other = other;
          one = record { command = cmd; speaks = speaks_of c m there its e; more = reference_more cmd i };
        }) r (move_of s p.cpu k r)

    run_knows : IsNoOwner s c → (x : Option ℕ) → p.cpu.process ≡ x → Knows s c (run_process s p x)
    run_knows other None e = by s.ready
      where
        by : (xs : List ℕ) → Knows s c (load_or_idle s xs)
        by [] = tt
        by (n ∷ ns) = tt
    run_knows other (Some n) e = cond_both (has_had_its_turn p && not (is_empty s.ready)) act.Leave
        (come_to s p.cpu n (next_command s n)) (Knows s c) (λ h. tt)
        (λ h. (rw (ap or_zero e) at (come_knows other (some_again e) (next_command s k) refl)))

    -- ---- the owner looks

    module _ (l : IsLooking s c) (cmd : Command) (sp : Speaks s c k cmd) where
      idle : IsIdle s.owner
      idle = look_idle s c o m.keeps there l

      abbrev looks : {Finds : Command → Type 0} → Finds cmd → Looks s c Finds
      looks h = record { looking = l; idle = idle; command = cmd; next = sp.next; finds = h }

      look_knows : (a : Action) → LookFinds s k cmd a → Knows s c a
      look_knows (act.Answer r) h = record { command = cmd; speaks = sp; more = refused_more cmd r h.reply h.refuses }
      look_knows (act.Activate u place) h = l
      look_knows (act.Connect n u) h = l
      look_knows (act.Create f u q r) h = record { command = cmd; speaks = sp; more = reference_more cmd h.finds.is }
      look_knows (act.Evict f) h = looks h
      look_knows (act.Empty u) h = looks h
      look_knows (act.EmptyVictim pool chain u) h = looks h
      look_knows (act.TakeAway fs pairs w) h = (
        l,
        idle,
        h.2,
        subst TakesSome (sym sp.next) (takes_some cmd fs pairs h.0 h.2),
        record { command = cmd; next = sp.next; finds = h.0 },
      )
      look_knows act.Commit h = record {
        owner = l.owner;
        command = cmd;
        speaks = sp;
        tree = h.tree;
        taken = look_taken c m.keeps idle h (takes_none s k m.keeps idle what.All);
        out = h.inactive;
      }
      look_knows (act.Start f u q) h = (cmd, sp, h)
      look_knows (act.BeginMove u volume) h = record {
        looking = l;
        fails = rw sp.next (page_fails k cmd m.keeps u (h.reference.offset / 1024) (inl (h.reference, h.finds)));
        moves = move_found s k cmd m.keeps u volume h (page_active s c o m idle cmd sp h.finds) sp.next;
      }
      look_knows (act.Waits (ForTransfer f)) h = tt
      look_knows act.GiveUp h = tt
      look_knows _ h = absurd h

    -- ---- what was taken goes

    -- a drive's failure may be told of the owner's command, which is no end
    fails_knows : (q : IsMine s c) → p.cpu.process ≡ Some k
        → MayFailBy s.store (process_at s q.owner.cpu) (next_command s (process_at s q.owner.cpu)) → AnswersOne s c
    fails_knows q its may = let one = its_command its in record {
      command = one.0;
      speaks = one.1;
      more = fails_more s k m.keeps.faithful one.0 (subst (MayFailBy s.store k) one.1.next (rw (← q.same) may));
    }

    finish_knows : (q : IsMine s c) → p.cpu.process ≡ Some k → (a : Aim) (w : What) → q.owner.phase ≡ phase.Waiting a w
        → (fs : List ℕ) → Knows s c (finish_of a fs)
    finish_knows q its aim.Evicting w e (f ∷ fs) = fails_knows q its (rw e at (working.fails q.owner q.mine))
    finish_knows q its (aim.Deactivating u) w e (f ∷ fs) = (
      record { owner = q; uid = u; what = w; waits = e },
      fails_knows q its (rw e at (working.fails q.owner q.mine)),
    )
    finish_knows q its aim.Committing w e fs = let one = its_command its in
        let some : TakesSome (Some one.0) = subst TakesSome one.1.next
        (rw q.same at (subst (λ (y : Phase). FailsIn y s.store (process_at s q.owner.cpu)
        (next_command s (process_at s q.owner.cpu))) e (working.fails q.owner q.mine))) in
        record {
          owner = q;
          command = one.0;
          speaks = one.1;
          tree = takes_tree one.0 some;
          taken = subst (IsTakenBy s k) one.1.next
              (rw q.same at (subst (λ (y : Phase). TakenIn y s (process_at s q.owner.cpu)
              (next_command s (process_at s q.owner.cpu))) e (working.taken q.owner q.mine)));
          out = λ path pages is. absurd (subst TakesSome (ap (λ (x : Command). Some x) is) some);
        }
    finish_knows q its _ w e [] = tt

    phase_knows : (q : IsMine s c) → p.cpu.process ≡ Some k → (x : Phase) → q.owner.phase ≡ x
        → Knows s c (go_on_with s k q.owner x)
    phase_knows q its phase.Looking e = let one = its_command its in
        subst (λ (y : Option Command). Knows s c (look_of s k y)) (sym one.1.next)
        (look_knows (record { owner = q; looks = e }) one.0 one.1 (look_of s k (Some one.0)) (look_finds s k one.0))
    phase_knows q its (phase.Taken a w) e = tt
    phase_knows q its (phase.Waiting a w) e = by (position is_due s.processors)
      where
        by : (x : Option ℕ) → Knows s c (once_cleared x (finish_of a q.owner.frames))
        by None = finish_knows q its a w e q.owner.frames
        by (Some d) = tt
    phase_knows q its (phase.Moving x) e = by (next_out (table_of s.store.ast x.uid) x.next) refl
      where
        moving : IsMoving s c x
        moving = record { owner = q; moves = e }

        one : AnswersOne s c
        one = fails_knows q its (rw e at (working.fails q.owner q.mine))

        by : (y : Option ℕ) → next_out (table_of s.store.ast x.uid) x.next ≡ y → Knows s c (copy_or_commit x y)
        by (Some n) h = record { moving = moving; one = one; rests = moving_rests c o m working moving; next = h }
        by None h = record { moving = moving; one = one; rests = moving_rests c o m working moving; done = h }

    -- ---- the rules in their order

    owner_knows : (x : Option Owner) → s.owner ≡ x → Knows s c (own_or_run s c p x)
    owner_knows None e = run_knows (λ q h. cc) p.cpu.process refl
    owner_knows (Some q) e = cond_both (eqb q.cpu c) (go_on_with s k q q.phase) (run_process s p p.cpu.process)
        (Knows s c) (λ h. mine (eqb-true q.cpu c h)) (λ h. run_knows (others h) p.cpu.process refl)
      where
        others : eqb q.cpu c ≡ false → IsNoOwner s c
        others h x g y = let is : q ≡ x = cc in not_both (rw (ap (λ (z : Owner). z.cpu) is ∙ y) (eqb_self c)) h

        mine : q.cpu ≡ c → Knows s c (go_on_with s k q q.phase)
        mine same = phase_knows (record { owner = q; mine = e; same = same })
            (process_here s c o m.keeps there (record { owner = q; mine = e; same = same })) q.phase refl

    transfer_knows : (x : Option Transfer) → Knows s c (transfer_or s c p x)
    transfer_knows (Some t) = tt
    transfer_knows None = owner_knows s.owner refl

    clear_knows : (x : Option What) → Knows s c (clear_or s c p x)
    clear_knows (Some w) = tt
    clear_knows None = transfer_knows p.cpu.transfer

    -- What the rules know of the action of a step.
    pub step_knows : Knows s c (action_of s c)
    step_knows = action_by (Knows s c) s c tt tt (λ off. tt) (λ on. clear_knows p.cpu.due)
