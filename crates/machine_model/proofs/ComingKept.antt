-- After each action each process that hasn't ended still comes to a command next.
use Rattle.machine_model.proofs.Prelude.{◌≡◌, ◌⊎◌, ◌<◌, ℕ, Bool, true, false, List, length, Option, Some, None, set, refl, ap, ◌∙◌, inl, inr, get_or-set_same, IsPlan, Plan, command_at, commands_of, Command, Reply, word_reply, Processor, Run, State, Transfer, frames_of_owner, next_command, no_processor, or_zero, process_at, run_at, booked, frame_lost, old_word, run_after, told, told_by, transfer_failed, with_store, write_failed, committed, committed_at, gone_entries, left_after, with_effect, reply_of, uid_of_command, Outcome, after, AllCome, MayAnswer, Command as command, Reply as reply, Aim as aim, ForeseenComes as Comes, Action, Action as act}
use Rattle.machine_model.proofs.ActionCases.{by_end}
use Rattle.machine_model.proofs.JobStays.{Stays, all_back, all_taken, emptying, is_back, is_emptied, emptying_victim}
use Rattle.machine_model.proofs.ComingLaws.{told_come}

-- nobody was answered
pub record SameRuns (s t : State) : Type 0 where
  pub plan : t.plan ≡ s.plan
  pub runs : t.runs ≡ s.runs

-- the next command of the processor's process was answered
pub record WasTold (s : State) (c : ℕ) (t : State) : Type 0 where
  pub reply : Reply
  pub process : ℕ
  pub here : c < length s.processors → process ≡ process_at s c
  pub plan : t.plan ≡ s.plan
  pub runs : t.runs ≡ set s.runs process (run_after (run_at s.runs process) (next_command s process) reply)

-- the actions that answer a command, or may do so where a drive fails
abbrev pub tells : Action → Bool
tells (act.EndTransfer t) = true
tells (act.Through f r) = true
tells (act.Plain r) = true
tells (act.Answer r) = true
tells (act.Create f uid p r) = true
tells (act.FinishEviction f) = true
tells (act.FinishPage f) = true
tells (act.CopyPage m p) = true
tells act.Commit = true
tells _ = false

abbrev pub Tale : State → ℕ → Action → State → Type 0
Tale s c a t = SameRuns s t ⊎ ((tells a ≡ true) × WasTold s c t)

abbrev same_runs : {s t : State} → t.plan ≡ s.plan → t.runs ≡ s.runs → SameRuns s t
same_runs plan runs = assumption

pub runs_stay : {s t : State} → Stays s t → SameRuns s t
runs_stay h = assumption

-- ---- answers

-- the process of this processor was answered
abbrev its_own : {s t : State} {c : ℕ} → (r : Reply) → t.plan ≡ s.plan
    → t.runs ≡ set s.runs (process_at s c) (run_after (run_at s.runs (process_at s c))
    (next_command s (process_at s c)) r) → WasTold s c t
its_own {s = s} {t = t} {c = c} r plan runs = record {
  reply = r;
  process = process_at s c;
  here = λ (lt : c < length s.processors). refl;
  plan = plan;
  runs = runs;
}

failed_transfer : (s : State) (c : ℕ) (t : Transfer) (faults : ℕ) → WasTold s c (transfer_failed s c t faults)
failed_transfer s c t faults = record {
  reply = reply.Device;
  process = process_at (frame_lost s c t) c;
  here = λ (lt : c < length s.processors).
      ap (λ (p : Processor). or_zero p.cpu.process) (get_or-set_same s.processors c _ no_processor lt);
  plan = refl;
  runs = refl;
}

failed_write : (s : State) (c faults : ℕ) → WasTold s c (write_failed s c faults)
failed_write s c faults = record {
  reply = reply.Device;
  process = process_at (all_back s c faults) c;
  here = λ (lt : c < length s.processors). cc (back.processors);
  plan = back.plan;
  runs = set_of (all_back s c faults) (runs_stay back);
}
  where
    back : Stays s (all_back s c faults)
    back = is_back s c faults

    set_of : (u : State) → SameRuns s u → set u.runs (process_at (all_back s c faults) c) (run_after
        (run_at u.runs (process_at (all_back s c faults) c))
        (next_command u (process_at (all_back s c faults) c)) reply.Device)
        ≡ set s.runs (process_at (all_back s c faults) c) (run_after (run_at s.runs (process_at
        (all_back s c faults) c)) (next_command s (process_at (all_back s c faults) c)) reply.Device)
    set_of u same = let k = process_at (all_back s c faults) c in
        λ i. set (same.runs i) k (run_after (run_at (same.runs i) k)
        (command_at (same.plan i) k (run_at (same.runs i) k).place) reply.Device)

left_runs : (u : State) (c : ℕ) (command : Command) → SameRuns u (left_after u c command)
left_runs u c command.End = same_runs refl refl
left_runs u c other = same_runs refl refl

abbrev commit_booked : State → ℕ → Command → State
commit_booked s c command = let k = process_at s c in let uid = uid_of_command s.store k command in
    booked (with_store s (with_effect s.store k uid (frames_of_owner s.owner) command)) (gone_entries s uid command)

commits : (s : State) (c : ℕ) (o : Option Command) → Tale s c act.Commit (committed_at s c o)
commits s c None = inl (same_runs refl refl)
commits s c (Some command) = let r = reply_of s (process_at s c) command in
    let left = left_runs (told (commit_booked s c command) c None r) c command in
    inr (refl, its_own {s = s} {t = committed s c (process_at s c) command} {c = c} r left.plan left.runs)

-- ---- each action

pub tale : (s : State) (c : ℕ) (a : Action) (o : Outcome) → Tale s c a (after s c a o)
unfolding after
tale s c (act.EndTransfer t) o = by_end (Tale s c (act.EndTransfer t)) o _ _ (λ e. inl (same_runs refl refl))
    (λ e. inr (refl, failed_transfer s c t o.faults))
tale s c (act.Through f r) o = inr (refl, its_own (word_reply (old_word s.store.pages f r) r.kind) refl refl)
tale s c (act.Plain r) o = inr (refl, its_own r refl refl)
tale s c (act.Answer r) o = inr (refl, its_own r refl refl)
tale s c (act.Create f uid p r) o = inr (refl, its_own (word_reply 0 r.kind) refl refl)
tale s c (act.Empty uid) o = inl (runs_stay (emptying s c uid))
tale s c (act.EmptyVictim pool chain uid) o = inl (runs_stay (emptying_victim s c pool chain uid))
tale s c (act.TakeAway fs pairs w) o = inl (runs_stay (all_taken s c aim.Committing w fs pairs))
tale s c (act.CopyPage m p) o = by_end (Tale s c (act.CopyPage m p)) o _ _ (λ e. inl (same_runs refl refl))
    (λ e. inr (refl, its_own reply.Device refl refl))
tale s c (act.FinishEviction f) o = by_end (Tale s c (act.FinishEviction f)) o _ _ (λ e. inl (same_runs refl refl))
    (λ e. inr (refl, failed_write s c o.faults))
tale s c (act.FinishPage f) o = by_end (Tale s c (act.FinishPage f)) o _ _ (λ e. inl (same_runs refl refl))
    (λ e. inr (refl, failed_write s c o.faults))
tale s c (act.Deactivate uid) o = inl (runs_stay (is_emptied s c uid))
tale s c act.Commit o = commits s c (next_command s (process_at s c))
tale s c _ o = inl (same_runs refl refl)

-- ---- that each process comes to a command

unfoldable AllOf : Plan → List Run → Type 0
AllOf p runs = (k : ℕ) → k < length runs → (run_at runs k).ended ≡ false → Comes (commands_of p k) (run_at runs k)

all_of : (s : State) → AllCome s → AllOf s.plan s.runs
unfolding AllCome AllOf
all_of s come = come

of_all : (s : State) → AllOf s.plan s.runs → AllCome s
unfolding AllCome AllOf
of_all s come = come

pub come_same : (s t : State) → t.plan ≡ s.plan → t.runs ≡ s.runs → AllCome s → AllCome t
come_same s t plan runs come = of_all t (rw plan (rw runs (all_of s come)))

pub all_come : (s : State) (c : ℕ) (a : Action) (o : Outcome) → IsPlan s.plan → AllCome s
    → (tells a ≡ true → MayAnswer s c) → AllCome (after s c a o)
all_come s c a o plan come may = elim (tale s c a o) [
  | inl same ↦ come_same s (after s c a o) same.plan same.runs come
  | inr told ↦ answered_come told.1 (may told.0)
]
  where
    answered_come : WasTold s c (after s c a o) → MayAnswer s c → AllCome (after s c a o)
    answered_come was by = let k = by.process in let same = was.here by.can.within ∙ ap or_zero by.can.process in
        come_same (told_by s c k None was.reply) (after s c a o) was.plan (cc)
        (told_come s c k None was.reply plan come by.can.there by.can.planned by.can.on)
