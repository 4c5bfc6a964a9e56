-- What the shutdown tells of drives that fail: at a visit one failure at the most, of no process; and at the end one
-- for each page that is still in a frame.
use Rattle.machine.proofs.Prelude.{◌≡◌, ◌≤◌, ℕ, ◌+◌, ◌++◌, ◌∷◌, Bool, true, false, cond, List, Option, Some, None, inl, inr, refl, sym, ap, ◌∙◌, arith, append-nil, ◌⊎◌, count_by, list_all, and_parts, Entry, bound_page, Left, frame_in, Ptw, page_held, Outcome, entries_left, page_back, page_gone, Keeps, is_fault, frame_use, after_visit, page_taken, visited_if, State, fault_told, with_faults, append_assoc, binding_is, none_some, Parts, AllVisited, AreToldBack, CallsAtVisit, HasVisited, TellsLoss, CallsAs, calls_drive, length, [], Entry as entry, Action, Action as act}
use Rattle.machine.proofs.CallLaws.{are_told}
use Rattle.machine.proofs.VisitNext.{bound_there}

-- ---- the entries of a visit

-- an entry tells no failure of a process
abbrev of_none : Entry → Bool
of_none (entry.Fault (Some k)) = false
of_none _ = true

fault_of_none : (k : Option ℕ) → of_none (entry.Fault k) ≡ true → k ≡ None
fault_of_none None h = refl
fault_of_none (Some k) h = cc

none_at : (xs ys : List Entry) (k : Option ℕ) → list_all of_none (xs ++ entry.Fault k ∷ ys) ≡ true → k ≡ None
none_at [] ys k h = fault_of_none k (and_parts (of_none (entry.Fault k)) (list_all of_none ys) h).0
none_at (x ∷ xs) ys k h = none_at xs ys k (and_parts (of_none x) (list_all of_none (xs ++ entry.Fault k ∷ ys)) h).1

-- what is added tells no failure, or one just where the drive failed, if it was called; none is of a process
pub record Tells (s now : State) (calls failed : Bool) : Type 0 where
  pub more : List Entry
  pub entries : now.entries ≡ s.entries ++ more
  pub told : ((count_by is_fault more ≡ 0) × (calls ≡ true → failed ≡ false))
      ⊎ ((count_by is_fault more ≡ 1) × (failed ≡ true))
  pub quiet : list_all of_none more ≡ true
  pub few : length more ≤ 320

abbrev Told : ℕ → Bool → Bool → Type 0
Told n calls failed = ((n ≡ 0) × (calls ≡ true → failed ≡ false)) ⊎ ((n ≡ 1) × (failed ≡ true))

few_by : (n : ℕ) (calls failed : Bool) → Told n calls failed → n ≤ 1
few_by n calls failed (inl none) = omega arith
few_by n calls failed (inr one) = omega arith

only_by : (n : ℕ) (calls failed : Bool) → Told n calls failed → 1 ≤ n → failed ≡ true
only_by n calls failed (inl none) some = absurd (omega arith)
only_by n calls failed (inr one) some = one.1

each_by : (n : ℕ) (calls failed : Bool) → Told n calls failed → calls ≡ true → failed ≡ true → 1 ≤ n
each_by n calls failed (inl none) called did = cc (none.1 called)
each_by n calls failed (inr one) called did = omega arith

-- what is done of a page that is let go
abbrev pub visit_made : ℕ → Option (ℕ × ℕ) → Action
visit_made f None = act.IsStopped
visit_made f (Some page) = act.FinishPage f

module _ (s : State) (o : Outcome) where
  abbrev f : ℕ
  f = s.visited

  abbrev out : State
  out = page_taken s f

  gone : (how : Left) (page : ℕ × ℕ) (now : State)
      → now.entries ≡ (s.entries ++ entry.Take f ∷ []) ++ entries_left f how page → Tells s now true false
  gone how page now h1 = grind (arith, append_assoc)

  ended : (b : Bool) → Tells s (cond b (page_back (fault_told out None o.faults) f)
      (page_gone (with_faults out o.faults) f)) true b
  ended b = grind (arith, append_assoc)

  pub visit_tells : Tells s (after_visit s o) (calls_drive (visit_made f (bound_page (frame_in s.store.pages f))))
      o.failed
  visit_tells = by (bound_page (frame_in s.store.pages f))
    where
      by : (x : Option (ℕ × ℕ)) → Tells s (record (visited_if s f o x) { visited = f + 1 })
          (calls_drive (visit_made f x)) o.failed
      by None = record {
        more = [];
        entries = sym (append-nil s.entries);
        told = inl (refl, λ called. cc);
        quiet = refl;
        few = omega arith;
      }
      by (Some page) = let now = ended o.failed in
          record { more = now.more; entries = now.entries; told = now.told; quiet = now.quiet; few = now.few }

-- What a visit tells of the drives.
pub visited_tells : {D X : Type 0} {plan : D → X} {places faults : D → ℕ} {old new : Parts D}
    → HasVisited plan places faults old new → TellsLoss faults old new
visited_tells {D} {X} {plan} {places} {faults} {old} {new} h = record {
  more = told.more;
  entries = ap (λ (v : State). v.entries) h.done ∙ told.entries;
  told = are_told old.state made h.outcome.failed calls
      (few_by (count_by is_fault told.more) (calls_drive made) h.outcome.failed told.told)
      (only_by (count_by is_fault told.more) (calls_drive made) h.outcome.failed told.told)
      (each_by (count_by is_fault told.more) (calls_drive made) h.outcome.failed told.told);
  of_none = λ xs ys k e. none_at xs ys k (sym (ap (λ (es : List Entry). list_all of_none es) e) ∙ told.quiet);
}
  where
    page : Option (ℕ × ℕ)
    page = bound_page (frame_in old.state.store.pages old.state.visited)

    made : Action
    made = visit_made old.state.visited page

    calls : CallsAs faults old.state made old.drives new.drives h.outcome.failed
    calls = by page h.calls_are
      where
        by : (x : Option (ℕ × ℕ)) → CallsAtVisit faults old.state x old.drives new.drives h.outcome.failed
            → CallsAs faults old.state (visit_made old.state.visited x) old.drives new.drives h.outcome.failed
        by None a = a
        by (Some p) a = a

    told : Tells old.state (after_visit old.state h.outcome) (calls_drive made) h.outcome.failed
    told = visit_tells old.state h.outcome

-- where nothing is done nothing is told
pub still_tells : {D : Type 0} (faults : D → ℕ) (t : Parts D) → TellsLoss faults t t
still_tells faults t = record {
  more = [];
  entries = sym (append-nil t.state.entries);
  told = record {
    few = omega arith;
    none = λ none. refl;
    one = λ one. absurd (omega arith);
  };
  of_none = λ xs ys k e. none_at xs ys k (cc);
}

-- ---- the pages that are still in frames

-- a frame that is shown with a page in it is bound
shown_bound : (words : ℕ → ℕ → Ptw) (x read : Option (ℕ × ℕ)) (page : ℕ × ℕ)
    → page_held (frame_use words x read) ≡ Some page → (p : ℕ × ℕ) × (x ≡ Some p)
shown_bound words (Some p) read page h = (p, refl)
shown_bound words None None page h = cc
shown_bound words None (Some p) page h = cc

-- Once every frame was visited the book tells why a page is still in its frame.
pub told_back : (s : State) → Keeps s → AllVisited s → AreToldBack s.plan s.entries
told_back s keeps each f page h = grind (arith, shown_bound, binding_is, bound_there, none_some)
