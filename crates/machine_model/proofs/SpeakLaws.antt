-- A processor speaks for its process: what the flat store and custody ask of the answer to its next command.
use Rattle.machine_model.proofs.Basics.{◌≡◌, ◌<◌, ℕ, Bool, true, false, not, ◌&&◌, eqb, length, Option, Some, None, inl, inr, refl, sym, ap, ◌∙◌, eqb_tells, command_at, commands_of, reference_of, Command, Reference, Reply, reply_to_command, takes_effect, IsAnswer, is_turn, progress_of, refused_free, is_refusal, MayAnswerBy, is_word_or_done, IsRun, AllCome, seen, IsMachine, flat_of, next_command, processor_at, run_at, HasTurn, MayRun, shown, State, Reply as reply, ForeseenComes as Comes, or_true}
use Rattle.machine_model.proofs.TellKept.{CanTell}

-- A processor has a process that goes on, and this is its next command.
pub record Speaks (s : State) (c k : ℕ) (cmd : Command) : Type 0 where
  pub there : c < length s.processors
  pub known : k < length s.runs
  pub its : (processor_at s.processors c).cpu.process ≡ Some k
  pub next : next_command s k ≡ Some cmd
  pub going : (run_at s.runs k).ended ≡ false
  pub turn : HasTurn s.plan s.runs k
  pub runs : (j : ℕ) → IsRun (progress_of (flat_of s) j) (run_at s.runs j)

-- a process that a processor has may run, and comes to its next command
pub comes_next : {s : State} (c : ℕ) {k : ℕ} → IsMachine s → (processor_at s.processors c).cpu.process ≡ Some k
    → MayRun s.plan s.runs k × (k < length s.runs) × Comes (commands_of s.plan k) (run_at s.runs k)
unfolding AllCome
comes_next {s} c {k} m its = (may, known, m.come k known may.going)
  where
    may : MayRun s.plan s.runs k
    may = m.scheduled.running c k its

    known : k < length s.runs
    known = rw m.keeps.sizes.processes may.planned

-- a processor that has a process speaks for it
pub speaks : (s : State) (c k : ℕ) → IsMachine s → c < length s.processors
    → (processor_at s.processors c).cpu.process ≡ Some k → (cmd : Command) × Speaks s c k cmd
speaks s c k m there its = let next = comes_next c m its in (
  next.2.command,
  assumption (there, next.1, its, next.2.on.next, next.0.going, next.0.turn),
)

-- and the command that comes next is the one that it speaks of
pub speaks_of : {s : State} (c : ℕ) {k : ℕ} {cmd : Command} → IsMachine s → c < length s.processors
    → (processor_at s.processors c).cpu.process ≡ Some k → next_command s k ≡ Some cmd → Speaks s c k cmd
speaks_of {s} c {k} {cmd} m there its next = let one = speaks s c k m there its in
    rw (← (let same = sym one.1.next ∙ next in let is : one.0 ≡ cmd = cc in is)) one.1

-- it speaks so where the processors, the processes and the script are the same, and the flat store goes on with them
pub speaks_like : {s now : State} {c k : ℕ} {cmd : Command} → now.processors ≡ s.processors → now.runs ≡ s.runs
    → now.plan ≡ s.plan → ((j : ℕ) → IsRun (progress_of (flat_of now) j) (run_at now.runs j)) → Speaks s c k cmd
    → Speaks now c k cmd
speaks_like {s = s} {now = now} {c = c} {k = k} processors runs plan go sp = record {
  there = rw processors sp.there;
  known = rw runs sp.known;
  its = cc;
  next = (λ i. command_at (plan i) k (run_at (runs i) k).place) ∙ sp.next;
  going = cc;
  turn = rw (plan, runs) sp.turn;
  runs = go;
}

-- and it is its turn in the flat store
pub turn_is : {s : State} {c k : ℕ} {cmd : Command} → Speaks s c k cmd → is_turn s.plan (flat_of s) k ≡ true
turn_is {s} {c} {k} h = by h.turn
  where
    by : HasTurn s.plan s.runs k → is_turn s.plan (flat_of s) k ≡ true
    by (inl off) = cc
    by (inr (inl first)) = elim (eqb_tells k 0) [
      | inl e ↦ rw e.0 (or_true (not s.plan.initializer))
      | inr n ↦ absurd (n.1 first)
    ]
    by (inr (inr over)) = rw ((h.runs 0).ended ∙ over, or_true (eqb k 0)) (or_true (not s.plan.initializer))

-- so it may be answered, where the flat store and custody allow the answer
pub can_tell : {s : State} {c k : ℕ} {cmd : Command} (f : Option ℕ) (r : Reply) → Speaks s c k cmd
    → IsAnswer s.plan (flat_of s) k (Some cmd) r
    → MayAnswerBy s.plan (flat_of s) (shown (seen s)) c k f cmd r (reference_of cmd) → CanTell s c k f r
can_tell {s} {c} {k} {cmd} f r h answer may = record {
  there = h.there;
  known = h.known;
  command = cmd;
  next = h.next;
  lawful = record {
    turn = turn_is h;
    going = (h.runs k).ended ∙ h.going;
    next = (h.runs k).place;
    answer = rw h.next answer;
  };
  allowed = record {
    process = h.its;
    command = rw (ap (command_at s.plan k) (h.runs k).place ∙ h.next) may;
  };
}

-- ---- refusals

pub refusal_quiet : (r : Reply) → is_refusal r ≡ true → (takes_effect r ≡ false) × (is_word_or_done r ≡ false)
refusal_quiet (reply.Word w) h = cc
refusal_quiet reply.Done h = cc
refusal_quiet (reply.Made u) h = cc
refusal_quiet (reply.Known n) h = cc
refusal_quiet (reply.SegIs u l n) h = cc
refusal_quiet (reply.DirIs u q n) h = cc
refusal_quiet _ h = (refl, refl)

-- what refuses a command may be told at once
pub can_refuse : {s : State} {c k : ℕ} {cmd : Command} {r : Reply} → Speaks s c k cmd
    → r ≡ reply_to_command s.plan (flat_of s) k cmd → is_refusal r ≡ true → CanTell s c k None r
can_refuse {s} {c} {k} {cmd} {r} h is refuses = can_tell None r h
    (inl (assumption (refused_free s.plan (flat_of s) k cmd (cc (is, quiet.0))))) (by (reference_of cmd))
  where
    quiet : (takes_effect r ≡ false) × (is_word_or_done r ≡ false)
    quiet = refusal_quiet r refuses

    no_and : {b : Bool} → b ≡ true → b ≡ false → ⊥
    no_and t e = let none = sym t ∙ e in cc

    and_first : (a b : Bool) → (a && b) ≡ true → a ≡ true
    and_first true b e = refl
    and_first false b e = e

    by : (x : Option Reference) → MayAnswerBy s.plan (flat_of s) (shown (seen s)) c k None cmd r x
    by (Some x) = inl quiet.1
    by None = record {
      without = refl;
      out = λ e. absurd (no_and (and_first (takes_effect (reply_to_command s.plan (flat_of s) k cmd)) _ e)
          (cc (is, quiet.0)));
    }
