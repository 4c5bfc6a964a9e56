-- The promise reads neither how much room the book has nor whether the machine was stopped.
use Rattle.machine.proofs.Prelude.{ℕ, Bool, Option, Some, None, Command, Aim, Phase, IsFitting, AllCome, Keeps, outline_of, IsMachine, KeepsAll, next_command, process_at, refusal_of, State, IsTakenBy, TakenIn, TakenTo, IsWorking, Parts, with_state, IsSound, Aim as aim, Phase as phase}

module _ (s : State) (spare : ℕ) (stopped : Bool) where
  abbrev now : State
  now = record s { spare = spare; stopped = stopped }

  keeps_still : Keeps s → Keeps now
  keeps_still h = record {
    book = h.book;
    store = h.store;
    faithful = h.faithful;
    rights = h.rights;
    cut = h.cut;
    conserved = h.conserved;
    few_faults = h.few_faults;
    sizes = assumption;
    at_work = h.at_work;
  }

  come_still : AllCome s → AllCome now
  unfolding AllCome
  come_still h = h

  machine_still : IsMachine s → IsMachine now
  machine_still h = assumption (keeps_still h.keeps, come_still h.come)

  command_still : (k : ℕ) (c : Option Command) → IsTakenBy s k c → IsTakenBy now k c
  unfolding refusal_of
  command_still k None h = tt
  command_still k (Some c) h = record {
    just = assumption;
    alone = h.alone;
    brought = h.brought;
    stands = h.stands;
  }

  by_aim : (a : Aim) (k : ℕ) (c : Option Command) → TakenTo a s k c → TakenTo a now k c
  by_aim aim.Committing k c h = command_still k c h
  by_aim _ k c h = tt

  taken_still : (p : Phase) (k : ℕ) (c : Option Command) → TakenIn p s k c → TakenIn p now k c
  taken_still (phase.Taken a w) k c h = by_aim a k c h
  taken_still (phase.Waiting a w) k c h = by_aim a k c h
  taken_still _ k c h = tt

  working_still : IsWorking s → IsWorking now
  working_still h = record {
    whole = record { whole = h.whole.whole };
    few = h.few;
    numbered = h.numbered;
    leaf = h.leaf;
    fails = h.fails;
    taken = λ o own. taken_still o.phase (process_at s o.cpu) (next_command s (process_at s o.cpu)) (h.taken o own);
    moves = h.moves;
  }

  fitting_still : IsFitting s → IsFitting now
  unfolding outline_of
  fitting_still h = record { fits = h.fits }

  pub rest_kept : KeepsAll s → KeepsAll now
  rest_kept h = assumption (machine_still h.machine, working_still h.working, fitting_still h.fitting)

-- so a machine keeps its promise
pub rest_sound : {D : Type 0} (t : Parts D) (spare : ℕ) (stopped : Bool) → IsSound t
    → IsSound (with_state t (record t.state { spare = spare; stopped = stopped }))
rest_sound t spare stopped sound = record {
  keeps = rest_kept t.state spare stopped sound.keeps;
  room = sound.room;
  drives = sound.drives;
  visits = assumption;
}
