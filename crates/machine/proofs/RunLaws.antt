-- What processors come to that make their steps one after the other.
use Rattle.machine.proofs.Prelude.{◌≡◌, ◌≤◌, ◌+◌, ℕ, Bool, true, false, length, List, ◌∷◌, ◌++◌, drop, append-nil, ◌<◌, get_or, take, refl, sym, ap, subst, ◌∙◌, arith, ◌↔◌, Result, Ok, Err, IfOk, OnErr, list_any, or_parts, take-append-drop, take_more, action_of, process_at, move_to, outside_refusal, refusal_of, room_refusal, append_assoc, Parts, Grows, HasRun, HasStood, IsRound, is_moved, tally, with_room, would_move, Appends, IsTurn, KeepsParts, TellsFaults, Turn, []}
use Rattle.machine.proofs.CallLaws.{keeps_on, keeps_room}
use Rattle.machine.proofs.TurnLaws.{still_of, told_moves}

-- the rules don't read how much room the book has
same_action : {D : Type 0} (t : Parts D) (spare c : ℕ) → action_of (with_room t spare).state c ≡ action_of t.state c
unfolding action_of refusal_of outside_refusal room_refusal move_to
same_action t spare c = refl

untallied : (b : Bool) → tally b ≡ 0 → b ≡ false
untallied true none = absurd (omega arith)
untallied false none = refl

module _ {D Plan : Type 0} (plan : D → Plan) (places faults : D → ℕ) where
  abbrev Round : Parts D → Parts D → ℕ → ℕ → Type 0
  Round = IsRound plan places faults

  abbrev Run : Parts D → Parts D → List ℕ → ℕ → Type 0
  Run = HasRun plan places faults

  round_moves : (old new : Parts D) (c one : ℕ) → Round old new c one → one ≡ tally (would_move old.state c)
  round_moves old new c one r = grind (arith, told_moves, same_action)

  pub round_few : (old new : Parts D) (c one : ℕ) → Round old new c one → one ≤ 1
  round_few old new c one r = grind arith

  -- a step in which nothing is done changes but the room
  round_still : (old new : Parts D) (c one : ℕ) (r : Round old new c one) → one ≡ 0 → new ≡ with_room old r.spare
  round_still old new c one r none = still_of r.answer (untallied (is_moved r.answer) (cc)) r.turn.still

  -- what would move is told by what there was, where nothing was done
  same_any : (old mid : Parts D) (spare : ℕ) → mid ≡ with_room old spare → (cs : List ℕ)
      → list_any (would_move mid.state) cs ≡ list_any (would_move old.state) cs
  unfolding action_of refusal_of outside_refusal room_refusal move_to
  same_any old mid spare same cs = ap (λ (t : Parts D). list_any (would_move t.state) cs) same

  -- Where none moved, none would have in the machine as it was.
  pub run_none : (old new : Parts D) (cs : List ℕ) (n : ℕ) → Run old new cs n → n ≡ 0
      → list_any (would_move old.state) cs ≡ false
  run_none old new [] n run none = refl
  run_none old new (c ∷ cs) n (mid, one, rest, is, round, more) none = cc (
    untallied (would_move old.state c) (sym (round_moves old mid c one round) ∙ omega (arith, is, none)),
    same_any old mid round.spare (round_still old mid c one round (omega (arith, is, none))) cs,
    run_none mid new cs rest more (omega (arith, is, none)),
  )

  -- Where none would have moved, none did.
  pub run_still : (old new : Parts D) (cs : List ℕ) (n : ℕ) → Run old new cs n
      → list_any (would_move old.state) cs ≡ false → n ≡ 0
  run_still old new [] n run none = run.1
  run_still old new (c ∷ cs) n (mid, one, rest, is, round, more) none =
      let later = run_still mid new cs rest more (same_any old mid round.spare (round_still old mid c one round here) cs
      ∙ parts.1) in omega (arith, is, here, later)
    where
      parts : (would_move old.state c ≡ false) × (list_any (would_move old.state) cs ≡ false)
      parts = or_parts (would_move old.state c) (list_any (would_move old.state) cs) none

      here : one ≡ 0
      here = round_moves old mid c one round ∙ ap tally parts.0

  -- Entries that stood there stand.
  pub run_grows : (old new : Parts D) (cs : List ℕ) (n : ℕ) → Run old new cs n
      → Grows old.state.entries new.state.entries
  run_grows old new [] n (same, none) = record {
    more = [];
    entries = cc (append-nil old.state.entries);
  }
  run_grows old new (c ∷ cs) n (mid, one, rest, is, round, more) =
      let later = run_grows mid new cs rest more in record {
        more = round.entries.more ++ later.more;
        entries = cc (append_assoc old.state.entries round.entries.more later.more);
      }

  pub run_keeps : (old new : Parts D) (cs : List ℕ) (n : ℕ) → Run old new cs n → KeepsParts plan places faults old new
  run_keeps old new [] n (same, none) = keeps_room plan places faults old new _ same
  run_keeps old new (c ∷ cs) n (mid, one, rest, is, round, more) =
      keeps_on plan places faults old mid new round.kept (run_keeps mid new cs rest more)

  -- one list of processors after another
  pub run_append : (old mid new : Parts D) (cs ds : List ℕ) (n m : ℕ) → Run old mid cs n → Run mid new ds m
      → Run old new (cs ++ ds) (n + m)
  run_append old mid new [] ds n m (same, none) more = subst (λ (k : ℕ). Run old new ds k) (omega arith)
      (subst (λ (t : Parts D). Run t new ds m) same more)
  run_append old mid new (c ∷ cs) ds n m (next, one, rest, is, made, run) more = (
    next,
    one,
    rest + m,
    omega arith,
    made,
    run_append next mid new cs ds rest m run more,
  )

  -- one processor more makes its step
  pub run_on : (old mid new : Parts D) (cs : List ℕ) (n c one : ℕ) → Run old mid cs n → Round mid new c one
      → Run old new (cs ++ c ∷ []) (n + one)
  run_on old mid new [] n c one (same, none) round = (
    new,
    one,
    0,
    omega arith,
    rw (← same) round,
    (refl, refl),
  )
  run_on old mid new (d ∷ cs) n c one (next, first, rest, is, made, more) round = (
    next,
    first,
    rest + one,
    omega arith,
    made,
    run_on next mid new cs rest c one more round,
  )

  -- room is made for a step, and it is made
  pub round_made : (old mid new : Parts D) (c one : ℕ) (answer : Turn) → mid ≡ with_room old mid.state.spare
      → IsTurn plan places faults mid new c answer → Appends mid.state.entries new.state.entries 320
      → KeepsParts plan places faults mid new → TellsFaults faults mid new (process_at mid.state c)
      → one ≡ tally (is_moved answer) → Round old new c one
  round_made old mid new c one answer same turn appends keeps told is = grind (arith, keeps_on, keeps_room)

  -- of the first numbers of a list, one more makes its step
  pub run_next : (old mid new : Parts D) (cs : List ℕ) (i n one : ℕ) → Run old mid (take i cs) n → i < length cs
      → Round mid new (get_or cs i 0) one → Run old new (take (i + 1) cs) (n + one)
  run_next old mid new cs i n one run within round = rw (take_more cs i 0 within)
      (run_on old mid new (take i cs) n (get_or cs i 0) one run round)

  -- there was no room for the next one
  pub stood_at : (old last new : Parts D) (cs : List ℕ) (i n : ℕ) → Run old last (take i cs) n
      → new ≡ with_room last new.state.spare → HasStood plan places faults old new cs
  stood_at old last new cs i n run room = record {
    before = take i cs;
    rest = drop i cs;
    cpus_are = sym (take-append-drop i cs);
    last = last;
    moved = n;
    run = run;
    room = room;
  }

  -- the same of a list, up to the number at which there was no room
  pub run_grows_on : (old new : Parts D) (cs : List ℕ) → HasStood plan places faults old new cs
      → Grows old.state.entries new.state.entries
  run_grows_on old new cs stood = let run = run_grows old stood.last stood.before stood.moved stood.run in
      record { more = run.more; entries = ap (λ (t : Parts D). t.state.entries) stood.room ∙ run.entries }

  pub run_keeps_on : (old new : Parts D) (cs : List ℕ) → HasStood plan places faults old new cs
      → KeepsParts plan places faults old new
  run_keeps_on old new cs stood = grind (arith, keeps_on, run_keeps, keeps_room)

  -- however it ended
  pub ran_grows : {E : Type 0} (old new : Parts D) (cs : List ℕ) (r : Result ℕ E) → IfOk r (Run old new cs)
      → OnErr r (HasStood plan places faults old new cs) → Grows old.state.entries new.state.entries
  ran_grows old new cs (Ok n) run stood = run_grows old new cs n run
  ran_grows old new cs (Err e) run stood = run_grows_on old new cs stood

  pub ran_keeps : {E : Type 0} (old new : Parts D) (cs : List ℕ) (r : Result ℕ E) → IfOk r (Run old new cs)
      → OnErr r (HasStood plan places faults old new cs) → KeepsParts plan places faults old new
  ran_keeps old new cs (Ok n) run stood = run_keeps old new cs n run
  ran_keeps old new cs (Err e) run stood = run_keeps_on old new cs stood

  pub ran_zero : {E : Type 0} (old new : Parts D) (cs : List ℕ) (r : Result ℕ E) → IfOk r (Run old new cs)
      → IfOk r (λ n. (n ≡ 0) ↔ (list_any (would_move old.state) cs ≡ false))
  ran_zero old new cs (Ok n) run = (run_none old new cs n run, run_still old new cs n run)
  ran_zero old new cs (Err e) run = tt
