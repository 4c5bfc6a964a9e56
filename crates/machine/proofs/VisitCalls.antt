-- A visit of the shutdown: what it asks of the tables, and that the machine keeps its promise.
use Rattle.machine.proofs.Prelude.{◌≡◌, ◌<◌, ◌≤◌, ℕ, true, false, length, sum, List, Option, Some, None, refl, sym, ap, subst, ◌∙◌, arith, OnErr, Result, nat_lt, nat_tests, Rose, Plan, Frame, bound_page, frame_at, is_modified, Store, CallsDrive, frame_in, words_in, is_over, Outcome, seen, are_zeros, page_in, IsFaithful, Keeps, mover_of, frames_of_owner, home_in, left_page, after_visit, State, AreVisited, over_free, bound_here, VisitSays, same_seats, visit_keeps_all, Parts, SparesCall, outcome_of, AreHere, shown_visited, IsSound, AllVisited, HasVisited, TellsLoss, Appends, KeepsParts, StoreKept, Frame as frame}
use Rattle.machine.proofs.CallLaws.{outcome_faults, outcome_tells, page_let_go, told_alike}
use Rattle.machine.proofs.CountsKept.{visit_counts}
use Rattle.machine.proofs.LossTold.{visit_tells}
use Rattle.machine.proofs.Steps.{IsStoreOf}
use Rattle.machine.proofs.VisitNext.{visited_next}

-- ---- the flat store that is shown then

shown_gone : (s : State) (f : ℕ) (o : Outcome) (page : ℕ × ℕ) (x : Option (ℕ × ℕ)) (t : Store) → x ≡ Some page
    → o.failed ≡ false → shown_visited s f o x t ≡ left_page s f t
shown_gone s f o page x t bound e = cc

shown_stays : (s : State) (f : ℕ) (o : Outcome) (x : Option (ℕ × ℕ)) (t : Store) → o.failed ≡ true
    → shown_visited s f o x t ≡ t
shown_stays s f o None t e = refl
shown_stays s f o (Some page) t e = cc

-- ---- by how the call ended

-- a frame that has no page isn't modified
unbound_clean : (x : Frame) → bound_page x ≡ None → is_modified x ≡ false
unbound_clean (frame.Bound uid page used modified) e = cc
unbound_clean _ e = refl

module _ {D : Type 0} {t : Parts D} (sound : IsSound t) (over : is_over t.state ≡ true) where
  abbrev s : State
  s = t.state

  abbrev keeps : Keeps s
  keeps = sound.keeps.machine.keeps

  pub over_owner : s.owner ≡ None
  over_owner = over_free s sound.keeps over

  -- no segment moves
  pub over_still : s.store.moving ≡ None
  over_still = sound.keeps.machine.moving ∙ ap mover_of over_owner

  -- no page is on its way out
  pub visit_here : AreHere s.store
  visit_here = record { here = λ f u p e. bound_here (seen s) f u p keeps.book (ap frames_of_owner over_owner) e }

  pub visit_within : s.visited < s.plan.frames → s.visited < length s.store.pages.core.frames
  visit_within more = rw keeps.sizes.frames more

  -- The promise is kept.
  module _ {T E : Type 0} (r : Result T E) (now : Parts D) (more : s.visited < s.plan.frames)
      (state : now.state ≡ after_visit s (outcome_of r now.state.faults))
      (counts : (s.faults ≤ now.state.faults) × OnErr r (Rose s.faults now.state.faults)) where
    abbrev o : Outcome
    o = outcome_of r now.state.faults

    pub visit_sound : ((p : Plan) (x : Store) → IsFaithful p x s.store → IsFaithful p (shown_visited s s.visited
        (outcome_of r now.state.faults) (bound_page (frame_at s.store.pages.core s.visited)) x) now.state.store)
        → OnErr r (are_zeros (words_in s.store.pages s.visited) ≡ false) → now.room ≡ t.room
        → IsStoreOf now.state.store → IsSound now
    visit_sound shown zeros room told = record {
      keeps = rw state (visit_keeps_all s o sound.keeps over sound.visits.idle says);
      room = rw plan (room ∙ sound.room);
      drives = rw plan (ap (λ (v : State). length v.store.pages.disks) state
          ∙ (ap (λ (n : ℕ × ℕ). n.1) (visit_counts s o) ∙ sound.drives));
      visits = rw state (visited_next s o sound.keeps sound.visits over more says);
    }
      where
        plan : now.state.plan ≡ s.plan
        plan = ap (λ (v : State). v.plan) state ∙ (same_seats s o).plan

        kept : StoreKept now.state.store
        kept = record {
          kept = told.kept;
          counted = told.counted;
          accounts = told.accounts;
          places = ap (λ (v : State). length v.store.ast.entries) state
              ∙ (ap (λ (n : ℕ × ℕ). n.0) (visit_counts s o) ∙ (keeps.store.places
              ∙ ap (λ (ns : List ℕ). sum ns) (sym (ap (λ (v : State). v.store.ast.sizes) state
              ∙ (same_seats s o).sizes))));
        }

        says : VisitSays s o
        says = record {
          kept = rw state at kept;
          gone = λ e page bound x h. rw state at (subst (λ (y : Store). IsFaithful s.plan y now.state.store)
              (shown_gone s s.visited o page (bound_page (frame_in s.store.pages s.visited)) x bound e)
              (shown s.plan x h));
          stays = λ e x h. rw state at (subst (λ (y : Store). IsFaithful s.plan y now.state.store)
              (shown_stays s s.visited o (bound_page (frame_in s.store.pages s.visited)) x e) (shown s.plan x h));
          never_less = rw (outcome_faults r now.state.faults) counts.0;
          counted = rw (outcome_faults r now.state.faults) (outcome_tells r now.state.faults counts.1);
          words = outcome_tells r now.state.faults zeros;
        }

    -- what the visit did
    pub visit_done : {X : Type 0} {plan : D → X} {places faults : D → ℕ}
        → CallsDrive plan places faults t.drives now.drives (home_in s.store (page_in s.store s.visited).0).volume r
        → SparesCall s.store.pages s.visited t.drives now.drives r → now.room ≡ t.room
        → HasVisited plan places faults t now
    visit_done {X} {plan} {places} {faults} call spares room = grind (arith, outcome_tells, page_let_go, unbound_clean)

-- ---- what follows

module _ {D X : Type 0} {plan : D → X} {places : D → ℕ} (faults : D → ℕ) {old new : Parts D}
    (h : HasVisited plan places faults old new) where
  pub visited_adds : Appends old.state.entries new.state.entries 320
  visited_adds = let told = visit_tells old.state h.outcome in
      record { more = told.more; entries = ap (λ (v : State). v.entries) h.done ∙ told.entries; few = told.few }

  pub visited_parts : TellsLoss faults old new → KeepsParts plan places faults old new
  visited_parts told = assumption (
    ap (λ (v : State). v.plan) h.done ∙ (same_seats old.state h.outcome).plan,
    told_alike faults old new told.more told.entries h.count told.told,
  )

-- every frame was visited
pub all_visited : (s : State) → AreVisited s → nat_lt s.visited s.plan.frames ≡ false → AllVisited s
all_visited s visits past f lt = visits.each f (let le : s.plan.frames ≤ s.visited = grind (arith, nat_tests) in
    omega arith)
