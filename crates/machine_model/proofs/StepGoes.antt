-- What the rules know of their action gives what the job, the processes and the script ask of it.
use Rattle.machine_model.proofs.StepBasics.{◌≡◌, ◌<◌, ℕ, true, false, length, Some, refl, ap, Transfer, Outcome, after, AllCome, MayAnswer, IsMachine, IsReading, cpu_at, process_at, State, transferred, with_faults, ◌+◌, ◌≤◌, List, arith, Command, Keeps, uid_of_command, Action, Action as act, command_few, FindsTaken, all_come, come_same, tells, reader_no_owner, comes_next, by_end, look_taken, IsAnswering, MaySchedule, CanDo, due_other, empty_other, online_other}
use Rattle.machine_model.proofs.ReadKept.{IsPast, MayRead}
use Rattle.machine_model.proofs.StepAsks.{reads_answering, reads_for}
use Rattle.machine_model.proofs.StepKnows.{AnswersOne, Knows}
use Rattle.machine_model.proofs.WorkStep.{MayWork}

-- a processor that has a process may answer its next command
pub may_answer : (s : State) (c k : ℕ) → IsMachine s → c < length s.processors
    → (cpu_at s.processors c).process ≡ Some k → MayAnswer s c
may_answer s c k m there its = let next = comes_next c m its in record {
  process = k;
  command = next.2.command;
  can = assumption;
}

answering : {s : State} {c : ℕ} → AnswersOne s c → IsAnswering s c
answering {s} {c} a = record { process = process_at s c; its = a.speaks.its; known = a.speaks.known; more = cc }

-- what a look takes is few
pub few_taken : {s : State} {k : ℕ} {cmd : Command} {fs : List ℕ} {pairs : List (ℕ × ℕ)} → Keeps s
    → FindsTaken s k cmd fs pairs → length fs + length pairs ≤ 288
few_taken {s} {k} {cmd} keeps finds = let a = ap (λ (x : List ℕ). length x) finds.frames in omega (
  arith,
  command_few s k (uid_of_command s.store k cmd) cmd keeps,
  (ap (λ (x : List (ℕ × ℕ)). length x) finds.descriptors),
)

module _ (s : State) (c : ℕ) (o : Outcome) (m : IsMachine s) (there : c < length s.processors) (reading : IsReading s)
  where
    pub may_schedule : (a : Action) → CanDo s c o a → Knows s c a → MaySchedule s c o a
    may_schedule (act.EndTransfer t) can knows = λ e. reads_answering m there (reads_for s c t m.keeps reading can.mine)
    may_schedule (act.Load n) can knows = can
    may_schedule act.Leave can knows = (can.process, can.its)
    may_schedule (act.Through f r) can knows = answering knows.one
    may_schedule (act.Plain r) can knows = answering knows.one
    may_schedule (act.Answer r) can knows = answering knows
    may_schedule (act.Create f u p r) can knows = answering knows
    may_schedule (act.CopyPage x p) can knows = λ e. answering knows.one
    may_schedule (act.FinishEviction f) can knows = λ e. answering knows
    may_schedule (act.FinishPage f) can knows = λ e. answering knows.1
    may_schedule act.Commit can knows = (process_at s c, knows.speaks.its, knows.speaks.known)
    may_schedule _ can knows = tt

    pub may_work : (a : Action) → CanDo s c o a → Knows s c a → MayWork s c o a
    may_work act.Online can knows = online_other c m.keeps can
    may_work (act.Clear w) can knows = due_other c m.keeps can
    may_work (act.EndTransfer t) can knows = (
      reader_no_owner s c t m.keeps can.mine,
      can.mine,
      λ e. (reads_for s c t m.keeps reading can.mine).its,
    )
    may_work (act.Load n) can knows = empty_other c m.keeps can.1
    may_work act.Leave can knows = can.other
    may_work (act.FillSeg n) can knows = can.other
    may_work (act.FillPage f r) can knows = can.1
    may_work (act.Through f r) can knows = (knows.other, knows.one.speaks.its)
    may_work (act.Plain r) can knows = (knows.other, knows.one.speaks.its)
    may_work (act.Activate u place) can knows = knows
    may_work (act.Connect n u) can knows = knows
    may_work (act.Evict f) can knows = knows
    may_work (act.Empty u) can knows = knows
    may_work (act.EmptyVictim pool chain u) can knows = knows
    may_work (act.TakeAway fs pairs w) can knows = (
      knows.0,
      knows.1,
      knows.2,
      knows.3,
      can.can.pairs_are,
      rw knows.4.next (look_taken c m.keeps knows.1 knows.4.finds can.can),
      few_taken m.keeps knows.4.finds,
    )
    may_work (act.BeginMove u volume) can knows = knows
    may_work (act.CopyPage x p) can knows = knows.moving
    may_work (act.Signal w) can knows = can.owner
    may_work (act.FinishPage f) can knows = knows.0
    may_work _ can knows = tt

    come_end : (t : Transfer) → (o.failed ≡ true → IsAnswering s c) → AllCome (after s c (act.EndTransfer t) o)
    unfolding after
    come_end t may = by_end AllCome o _ _ (λ e. come_same s (transferred (with_faults s o.faults) c t) refl refl m.come)
        (λ e. all_come s c (act.EndTransfer t) (record { failed = true; faults = o.faults }) m.script m.come
        (λ h. may_answer s c (may e).process m there (may e).its))

    quiet : (a : Action) → tells a ≡ false → AllCome (after s c a o)
    quiet a off = all_come s c a o m.script m.come (λ h. cc)

    -- so each process still comes to a command
    pub comes : (a : Action) → CanDo s c o a → Knows s c a → AllCome (after s c a o)
    comes (act.EndTransfer t) can knows =
        come_end t (λ e. reads_answering m there (reads_for s c t m.keeps reading can.mine))
    comes (act.Through f r) can knows = all_come s c (act.Through f r) o m.script m.come
        (λ h. may_answer s c (process_at s c) m there knows.one.speaks.its)
    comes (act.Plain r) can knows = all_come s c (act.Plain r) o m.script m.come
        (λ h. may_answer s c (process_at s c) m there knows.one.speaks.its)
    comes (act.Answer r) can knows = all_come s c (act.Answer r) o m.script m.come
        (λ h. may_answer s c (process_at s c) m there knows.speaks.its)
    comes (act.Create f u p r) can knows = all_come s c (act.Create f u p r) o m.script m.come
        (λ h. may_answer s c (process_at s c) m there knows.speaks.its)
    comes (act.FinishEviction f) can knows = all_come s c (act.FinishEviction f) o m.script m.come
        (λ h. may_answer s c (process_at s c) m there knows.speaks.its)
    comes (act.FinishPage f) can knows = all_come s c (act.FinishPage f) o m.script m.come
        (λ h. may_answer s c (process_at s c) m there knows.1.speaks.its)
    comes (act.CopyPage x p) can knows = all_come s c (act.CopyPage x p) o m.script m.come
        (λ h. may_answer s c (process_at s c) m there knows.one.speaks.its)
    comes act.Commit can knows = all_come s c act.Commit o m.script m.come
        (λ h. may_answer s c (process_at s c) m there knows.speaks.its)
    comes act.IsStopped can knows = quiet act.IsStopped refl
    comes act.HasEnded can knows = quiet act.HasEnded refl
    comes (act.Waits why) can knows = quiet (act.Waits why) refl
    comes act.Online can knows = quiet act.Online refl
    comes (act.Clear w) can knows = quiet (act.Clear w) refl
    comes (act.Load n) can knows = quiet (act.Load n) refl
    comes act.Leave can knows = quiet act.Leave refl
    comes (act.FillSeg n) can knows = quiet (act.FillSeg n) refl
    comes (act.FillPage f r) can knows = quiet (act.FillPage f r) refl
    comes act.TakeSupervisor can knows = quiet act.TakeSupervisor refl
    comes act.GiveUp can knows = quiet act.GiveUp refl
    comes (act.Activate u place) can knows = quiet (act.Activate u place) refl
    comes (act.Connect n u) can knows = quiet (act.Connect n u) refl
    comes (act.Start f u p) can knows = quiet (act.Start f u p) refl
    comes (act.Evict f) can knows = quiet (act.Evict f) refl
    comes (act.Empty u) can knows = quiet (act.Empty u) refl
    comes (act.EmptyVictim pool chain u) can knows = quiet (act.EmptyVictim pool chain u) refl
    comes (act.TakeAway fs pairs w) can knows = quiet (act.TakeAway fs pairs w) refl
    comes (act.BeginMove u volume) can knows = quiet (act.BeginMove u volume) refl
    comes (act.CommitMove x) can knows = quiet (act.CommitMove x) refl
    comes (act.Signal w) can knows = quiet (act.Signal w) refl
    comes (act.Deactivate u) can knows = quiet (act.Deactivate u) refl

    -- what it reads it was asked for
    pub may_read : (a : Action) → CanDo s c o a → Knows s c a → IsPast s c a → MayRead s c o a
    may_read (act.EndTransfer t) can knows past = can.mine
    may_read (act.Load n) can knows past = past
    may_read act.Leave can knows past = past
    may_read (act.Through f r) can knows past = (past, knows.one.speaks.its)
    may_read (act.Plain r) can knows past = (past, knows.one.speaks.its)
    may_read (act.Answer r) can knows past = (past, knows.speaks.its)
    may_read (act.Create f u p r) can knows past = (past, knows.speaks.its)
    may_read (act.Start f u p) can knows past = (knows.1.its, (knows.0, knows.1.next, knows.2))
    may_read (act.CopyPage x p) can knows past = (past, knows.one.speaks.its)
    may_read (act.FinishEviction f) can knows past = (past, knows.speaks.its)
    may_read (act.FinishPage f) can knows past = (past, knows.1.speaks.its)
    may_read act.Commit can knows past = (past, knows.speaks.its)
    may_read _ can knows past = tt
