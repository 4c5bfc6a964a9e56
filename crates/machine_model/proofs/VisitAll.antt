-- A visit of the shutdown keeps the whole promise, where the call of the store does what it says; and what holds of the
-- frames that were visited.
use Rattle.machine_model.proofs.StepBasics.{◌≡◌, ◌≤◌, ℕ, ◌+◌, ◌++◌, ◌∷◌, [], Bool, true, false, not, cond, ◌&&◌, Option, Some, None, refl, sym, ap, subst, ◌∙◌, list_any, Rose, bound_page, IsPlan, Plan, Transfer, Store, frame_in, words_in, has_process, is_empty, is_over, Outcome, AllCome, are_zeros, here_if, leaving_if, left_of, page_back, page_gone, page_in, with_here, without_first_frame, IsFaithful, Keeps, StoreKept, StoreSays, mover_of, KeepsAll, cpu_at, cut_of_owner, flat_of, home_in, IsScheduled, left_page, without_left, after_visit, page_taken, visited_if, State, fault_told, with_faults, AreIdle, What as what, Entry as entry, Aim as aim, IsAlike, alike, alike_by, alike_on, fault_alike, one_still, took_like, left_count, left_flat, says_laws_left_nodes as left_nodes, none_rest, says_by, none_some, here_moving, leaving_moving}
use Rattle.machine_model.proofs.OverLaws.{over_bare, over_faults, over_free, over_none, over_unread}
use Rattle.machine_model.proofs.StepAsks.{release_may}
use Rattle.machine_model.proofs.VisitKept.{AsksVisit, visit_keeps, kept_visited}
use Rattle.machine_model.proofs.WorkStep.{none_work}

-- ---- what the call of the store says

-- A frame had a page, which has left it, or stays where the drive failed; then it isn't all zeros.
pub record VisitSays (s : State) (o : Outcome) : Type 0 where
  pub kept : StoreKept (after_visit s o).store
  pub gone : o.failed ≡ false → (page : ℕ × ℕ) → bound_page (frame_in s.store.pages s.visited) ≡ Some page → (t : Store)
      → IsFaithful s.plan t s.store → IsFaithful s.plan (left_page s s.visited t) (after_visit s o).store
  pub stays : o.failed ≡ true → (t : Store) → IsFaithful s.plan t s.store → IsFaithful s.plan t (after_visit s o).store
  pub never_less : s.faults ≤ o.faults
  pub counted : o.failed ≡ true → Rose s.faults o.faults
  pub words : o.failed ≡ true → are_zeros (words_in s.store.pages s.visited) ≡ false

-- ---- what a visit leaves alone

pub record SameSeats (s t : State) : Type 0 where
  pub plan : t.plan ≡ s.plan
  pub runs : t.runs ≡ s.runs
  pub ready : t.ready ≡ s.ready
  pub processors : t.processors ≡ s.processors
  pub sizes : t.store.ast.sizes ≡ s.store.ast.sizes
  pub stopped : t.stopped ≡ s.stopped
  pub moving : t.store.moving ≡ s.store.moving

seated : {s t : State} → t.plan ≡ s.plan → t.runs ≡ s.runs → t.ready ≡ s.ready → t.processors ≡ s.processors
    → t.store.ast.sizes ≡ s.store.ast.sizes → t.stopped ≡ s.stopped → t.store.moving ≡ s.store.moving → SameSeats s t
seated plan runs ready processors sizes stopped moving = assumption

module _ (s : State) (o : Outcome) where
  abbrev f : ℕ
  f = s.visited

  abbrev now : State
  now = after_visit s o

  abbrev taken : State
  taken = page_taken s f

  -- the page is taken: the pages are as before
  taken_pages : taken.store.pages ≡ s.store.pages
  taken_pages = (took_like s 0 aim.Evicting (what.Page f) (f ∷ []) []).pages

  taken_sizes : taken.store.ast.sizes ≡ s.store.ast.sizes
  taken_sizes = by (bound_page (frame_in s.store.pages f))
    where
      by : (x : Option (ℕ × ℕ)) → (leaving_if s.store f x).ast.sizes ≡ s.store.ast.sizes
      by None = refl
      by (Some page) = refl

  taken_moving : taken.store.moving ≡ s.store.moving
  taken_moving = leaving_moving s.store f (bound_page (frame_in s.store.pages f))

  taken_flat : flat_of taken ≡ flat_of s
  taken_flat = one_still s.plan s.entries (entry.Take f) refl

  -- the two ends
  abbrev gone : State
  gone = page_gone (with_faults taken o.faults) f

  abbrev back : State
  back = page_back (fault_told taken None o.faults) f

  back_sizes : (x : Option (ℕ × ℕ)) → (here_if taken.store f x).ast.sizes ≡ taken.store.ast.sizes
  back_sizes None = refl
  back_sizes (Some page) = refl

  back_pages : (with_here taken.store f).pages ≡ taken.store.pages
  back_pages = by (bound_page (frame_in taken.store.pages f))
    where
      by : (x : Option (ℕ × ℕ)) → (here_if taken.store f x).pages ≡ taken.store.pages
      by None = refl
      by (Some page) = refl

  pub same_seats : SameSeats s now
  same_seats = by (bound_page (frame_in s.store.pages f))
    where
      ended : (b : Bool) → SameSeats s (record (cond b back gone) { visited = f + 1 })
      ended true = seated refl refl refl refl (back_sizes (bound_page (frame_in taken.store.pages f)) ∙ taken_sizes)
          refl (here_moving taken.store f ∙ taken_moving)
      ended false = seated refl refl refl refl taken_sizes refl taken_moving

      by : (x : Option (ℕ × ℕ)) → SameSeats s (record (visited_if s f o x) { visited = f + 1 })
      by None = seated refl refl refl refl refl refl refl
      by (Some page) = ended o.failed

-- ---- the whole promise

module _ (s : State) (o : Outcome) (all : KeepsAll s) (over : is_over s ≡ true) (idle : AreIdle s.processors)
    (says : VisitSays s o) where
  abbrev keeps : Keeps s
  keeps = all.machine.keeps

  abbrev place : ℕ
  place = s.visited

  none : s.owner ≡ None
  none = over_free s all over

  abbrev before : State
  before = taken s o

  -- the machine after the visit of a place with a page, by how the call ended
  abbrev left_with : Bool → State
  left_with b = record (cond b (back s o) (gone s o)) { visited = place + 1 }

  is_now : {page : ℕ × ℕ} → bound_page (frame_in s.store.pages place) ≡ Some page → {b : Bool} → o.failed ≡ b
      → after_visit s o ≡ left_with b
  is_now bound e = cc

  -- what left the place, as it was before the page was taken
  how_same : left_of (words_in before.store.pages place) ≡ left_of (words_in s.store.pages place)
  how_same = cc (taken_pages s o)

  page_same : page_in before.store place ≡ page_in s.store place
  page_same = cc (taken_pages s o)

  gone_flat : flat_of (left_with false) ≡ left_page s place (flat_of s)
  gone_flat = left_flat s.plan (s.entries ++ entry.Take place ∷ []) place (left_of (words_in before.store.pages place))
      (page_in before.store place) ∙ ((λ i. without_left (how_same i) (page_same i) (taken_flat s o i)))

  back_alike : IsAlike (flat_of s) (flat_of (left_with true))
  back_alike = alike_by (alike_on (alike_by (alike (flat_of s)) (taken_flat s o))
      (fault_alike s.plan (s.entries ++ entry.Take place ∷ []) None))
      (one_still s.plan ((s.entries ++ entry.Take place ∷ []) ++ entry.Fault None ∷ []) (entry.BackPage place) refl)

  -- the page leaves
  gone_says : {page : ℕ × ℕ} → bound_page (frame_in s.store.pages place) ≡ Some page → o.failed ≡ false
      → StoreSays (left_with false)
  gone_says {page} bound well = says_by (left_with false) keeps
      (subst (λ (x : State). StoreKept x.store) same says.kept)
      (subst (λ (x : State). IsFaithful s.plan (left_page s place (flat_of s)) x.store) same
      (says.gone well page bound (flat_of s) keeps.faithful))
      (alike_by (alike (left_page s place (flat_of s))) gone_flat)
      (cc (left_nodes (left_of (words_in s.store.pages place)) (page_in s.store place) (flat_of s)))
      (none_rest s (left_with false) refl (cc (
        left_count before.store.pages (home_in before.store (page_in before.store place).0)
            (page_in before.store place).1 place (left_of (words_in before.store.pages place)),
        taken_pages s o,
      )) (ap cut_of_owner none))
    where
      same : after_visit s o ≡ left_with false
      same = is_now bound well

  -- the drive failed
  back_says : {page : ℕ × ℕ} → bound_page (frame_in s.store.pages place) ≡ Some page → o.failed ≡ true
      → StoreSays (left_with true)
  back_says {page} bound ill = says_by (left_with true) keeps (subst (λ (x : State). StoreKept x.store) same says.kept)
      (subst (λ (x : State). IsFaithful s.plan (flat_of s) x.store) same (says.stays ill (flat_of s) keeps.faithful))
      back_alike keeps.conserved.total (none_rest s (left_with true) refl (cc (back_pages s o, taken_pages s o))
      (cc (none)))
    where
      same : after_visit s o ≡ left_with true
      same = is_now bound ill

  asks : (page : ℕ × ℕ) → bound_page (frame_in s.store.pages place) ≡ Some page → AsksVisit s o
  asks page bound = record {
    none = none;
    bare = over_bare s all over idle;
    well = λ e x h. (
      says.never_less,
      λ released. (rw (taken_flat s o) (release_may place x.0 x.1 keeps h (cc))),
      gone_says bound e,
    );
    ill = λ e. (says.counted e, rw (taken_flat s o) (over_faults s all over), back_says bound e);
  }

  visit_unbound : bound_page (frame_in s.store.pages place) ≡ None → Keeps (after_visit s o)
  visit_unbound e = rw e (kept_visited (place + 1) keeps)

  visit_kept : Keeps (after_visit s o)
  visit_kept = by (bound_page (frame_in s.store.pages place)) refl
    where
      by : (x : Option (ℕ × ℕ)) → bound_page (frame_in s.store.pages place) ≡ x → Keeps (after_visit s o)
      by (Some page) e = visit_keeps keeps (asks page e)
      by None e = visit_unbound e

  seats : SameSeats s (after_visit s o)
  seats = same_seats s o

  unrun : (d : ℕ) → (cpu_at (after_visit s o).processors d).process ≡ None
  unrun d = cc (seats.processors, over_none s all over d)

  unread : (d : ℕ) (t : Transfer) → (cpu_at (after_visit s o).processors d).transfer ≡ Some t → ⊥
  unread d t h = over_unread s all over d t (cc (seats.processors, h))

  come : AllCome (after_visit s o)
  unfolding AllCome
  come = rw seats.plan (rw seats.runs all.machine.come)

  abbrev now_is : State
  now_is = after_visit s o

  scheduled : IsScheduled (after_visit s o)
  scheduled = rw seats.plan (rw (seats.runs, seats.ready, seats.processors) all.machine.scheduled)

  -- A visit keeps the whole promise.
  pub visit_keeps_all : KeepsAll (after_visit s o)
  visit_keeps_all = record {
    machine = record {
      keeps = visit_kept;
      script = subst IsPlan (sym seats.plan) all.machine.script;
      come = come;
      scheduled = scheduled;
      pools = seats.sizes ∙ (all.machine.pools ∙ ap (λ (p : Plan). p.pools) (sym seats.plan));
      moving = seats.moving ∙ (all.machine.moving ∙ (ap mover_of none ∙ sym (ap mover_of free)));
    };
    entitled = record { each = λ d k h. absurd (none_some (sym (unrun d) ∙ h)) };
    reading = record { each = λ d t h. absurd (unread d t h) };
    working = none_work (after_visit s o) free;
    fitting = record { fits = λ q h. absurd (none_some (sym free ∙ h)) };
  }
    where
      -- nobody owns the supervisor
      free : (after_visit s o).owner ≡ None
      free = by (bound_page (frame_in s.store.pages place))
        where
          ended : (b : Bool) → (left_with b).owner ≡ None
          ended true = ap without_first_frame none
          ended false = none

          by : (x : Option (ℕ × ℕ)) → (record (visited_if s place o x) { visited = place + 1 }).owner ≡ None
          by None = none
          by (Some page) = ended o.failed

  -- and no process is ready or running still
  pub visit_over : is_over (after_visit s o) ≡ true
  visit_over = (λ i. is_empty (seats.ready i) && not (list_any has_process (seats.processors i))) ∙ over
