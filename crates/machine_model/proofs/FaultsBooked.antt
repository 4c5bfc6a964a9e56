-- What the entries of a step tell of the drives: one failure at the most, of the processor's process, just where a call
-- failed, and before a process is told of one.
use Rattle.machine_model.proofs.StepBasics.{◌≡◌, ◌≤◌, ◌<◌, ℕ, ◌+◌, Bool, true, false, cond, List, [], ◌∷◌, ◌++◌, count_by, length, Option, Some, None, inl, inr, ◌⊎◌, refl, sym, ap, subst, arith, list_all, sum_by-cons, Entry, action_of, Outcome, after, is_fault, KeepsAll, process_at, State, calls_drive, not_both, and_parts, Entry as entry, Reply as reply}
use Rattle.machine_model.proofs.BookAfter.{AreQuiet, HasBooked, TellsFailure, is_quiet, told_after}

abbrev tally : Bool → ℕ
tally b = cond b 1 0

count_cons : (e : Entry) (es : List Entry) → count_by is_fault (e ∷ es) ≡ tally (is_fault e) + count_by is_fault es
count_cons e es = sum_by-cons (λ x. tally (is_fault x)) e es

pub count_on : (xs ys : List Entry) → count_by is_fault (xs ++ ys) ≡ count_by is_fault xs + count_by is_fault ys
count_on [] ys = omega arith
count_on (x ∷ xs) ys = omega (arith, count_on xs ys, count_cons x (xs ++ ys), count_cons x xs)

quiet_entry : (e : Entry) → is_quiet e ≡ true → is_fault e ≡ false
quiet_entry (entry.Fault process) h = cc
quiet_entry _ h = refl

quiet_none : (es : List Entry) → AreQuiet es → count_by is_fault es ≡ 0
quiet_none [] h = refl
quiet_none (e ∷ es) h = let both = and_parts (is_quiet e) (list_all is_quiet es) h in
    let here = ap tally (quiet_entry e both.0) in omega (arith, quiet_none es both.1, count_cons e es)

abbrev first_or : Entry → List Entry → Entry
first_or d [] = d
first_or d (e ∷ es) = e

-- of whom an entry tells a drive's failure
abbrev process_told : Entry → Option ℕ
process_told (entry.Fault process) = process
process_told _ = None

abbrev rest_of : List Entry → List Entry
rest_of [] = []
rest_of (e ∷ es) = es

-- of entries in which nothing is told, none tells a process of a failure
quiet_untold : {es : List Entry} (xs ys : List Entry) (k place c : ℕ) (f : Option ℕ) → AreQuiet es
    → es ≡ xs ++ entry.Do k place c f reply.Device ∷ ys → ⊥
quiet_untold [] ys k place c f h e = not_both (and_parts false (list_all is_quiet ys) (subst AreQuiet e h)).0 refl
quiet_untold (x ∷ xs) ys k place c f h e = quiet_untold xs ys k place c
    f (and_parts (is_quiet x) _ (subst AreQuiet e h)).1 refl

-- a process is told of a failure after the one that is told
told_later : (before rest xs ys : List Entry) (process : Option ℕ) (k place c : ℕ) (f : Option ℕ) → AreQuiet before
    → before ++ entry.Fault process ∷ rest ≡ xs ++ entry.Do k place c f reply.Device ∷ ys → 1 ≤ count_by is_fault xs
told_later [] rest [] ys process k place c f quiet e = cc
told_later [] rest (x ∷ xs) ys process k place c f quiet e =
    omega (arith, count_cons x xs, ap tally (sym (ap (λ (es : List Entry). is_fault (first_or x es)) e)))
told_later (b ∷ bs) rest [] ys process k place c f quiet e =
    cc ((and_parts (is_quiet b) (list_all is_quiet bs) quiet).0)
told_later (b ∷ bs) rest (x ∷ xs) ys process k place c f quiet e = omega (
  arith,
  told_later bs rest xs ys process k place c f (and_parts (is_quiet b) (list_all is_quiet bs) quiet).1 (ap rest_of e),
  count_cons x xs,
)

-- a failure that is told is counted
told_counts : (more xs ys : List Entry) (process : Option ℕ) → more ≡ xs ++ entry.Fault process ∷ ys
    → 1 ≤ count_by is_fault more
told_counts more xs ys process e = omega (
  arith,
  count_on xs (entry.Fault process ∷ ys),
  count_cons (entry.Fault process) ys,
  (ap (λ (es : List Entry). count_by is_fault es) e),
)

-- where only one failure is told, it is the one that is found
told_once : (before rest xs ys : List Entry) (k : ℕ) (process : Option ℕ) → AreQuiet before → count_by is_fault rest ≡ 0
    → before ++ entry.Fault (Some k) ∷ rest ≡ xs ++ entry.Fault process ∷ ys → process ≡ Some k
told_once [] rest [] ys k process quiet none e = cc
told_once [] rest (x ∷ xs) ys k process quiet none e =
    absurd (omega (arith, told_counts rest xs ys process (ap rest_of e)))
told_once (b ∷ bs) rest [] ys k process quiet none e = cc ((and_parts (is_quiet b) (list_all is_quiet bs) quiet).0)
told_once (b ∷ bs) rest (x ∷ xs) ys k process quiet none e =
    told_once bs rest xs ys k process (and_parts (is_quiet b) (list_all is_quiet bs) quiet).1 none (ap rest_of e)

-- At most one failure is told, of process k: just where a call of a drive failed, if there is one; and a process is
-- told
-- of it afterwards.
pub record ToldRight (k : ℕ) (more : List Entry) (calls failed : Bool) : Type 0 where
  pub few : count_by is_fault more ≤ 1
  pub only : 1 ≤ count_by is_fault more → failed ≡ true
  pub each : calls ≡ true → failed ≡ true → 1 ≤ count_by is_fault more
  pub its : (xs ys : List Entry) (process : Option ℕ) → more ≡ xs ++ entry.Fault process ∷ ys → process ≡ Some k
  pub later : (xs ys : List Entry) (k place c : ℕ) (f : Option ℕ)
      → more ≡ xs ++ entry.Do k place c f reply.Device ∷ ys → 1 ≤ count_by is_fault xs

told_right : (k : ℕ) (more : List Entry) (calls failed : Bool) → (AreQuiet more × (calls ≡ true → failed ≡ false))
    ⊎ ((failed ≡ true) × TellsFailure k more) → ToldRight k more calls failed
told_right k more calls failed (inl both) = let quiet = both.0 in record {
  few = omega (arith, quiet_none more quiet);
  each = λ called did. cc (both.1 called);
  only = λ some. absurd (omega (arith, quiet_none more quiet));
  its = λ xs ys process e. absurd (omega (arith, quiet_none more quiet, told_counts more xs ys process e));
  later = λ xs ys j place c f e. absurd (quiet_untold xs ys j place c f quiet e);
}
told_right k more calls failed (inr told) = record {
  each = λ called did. told_counts more told.1.before (told.1.between ++ told.1.last ∷ []) (Some k) told.1.is;
  few = let all = ap (λ (es : List Entry). count_by is_fault es) told.1.is in omega (
    arith,
    count_on told.1.before (entry.Fault (Some k) ∷ (told.1.between ++ told.1.last ∷ [])),
    count_cons (entry.Fault (Some k)) (told.1.between ++ told.1.last ∷ []),
    count_on told.1.between (told.1.last ∷ []),
    count_cons told.1.last [],
    ap tally told.1.last_is,
    quiet_none told.1.before told.1.quiet_before,
    quiet_none told.1.between told.1.quiet_between,
  );
  only = λ some. told.0;
  its = λ xs ys process e. told_once told.1.before (told.1.between ++ told.1.last ∷ []) xs ys k process
      told.1.quiet_before (omega (
        arith,
        count_on told.1.between (told.1.last ∷ []),
        count_cons told.1.last [],
        ap tally told.1.last_is,
        quiet_none told.1.between told.1.quiet_between,
      )) (cc);
  later = λ xs ys j place c f e. told_later told.1.before (told.1.between ++ told.1.last ∷ []) xs ys (Some k) j
      place c f told.1.quiet_before (cc);
}

-- So do the entries of each step.
pub record HasTold (s now : State) (c : ℕ) (calls failed : Bool) : Type 0 where
  pub booked : HasBooked s now 320
  pub right : ToldRight (process_at s c) booked.more calls failed

pub faults_after : (s : State) (c : ℕ) (o : Outcome) → KeepsAll s → c < length s.processors
    → HasTold s (after s c (action_of s c) o) c (calls_drive (action_of s c)) o.failed
faults_after s c o all there = let told = told_after s c o all there in record {
  booked = told.booked;
  right = told_right (process_at s c) told.booked.more (calls_drive (action_of s c)) o.failed told.tale;
}
