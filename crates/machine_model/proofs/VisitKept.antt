-- The machine keeps its promise where the shutdown visits a frame.
use Rattle.machine_model.proofs.Kept.{◌≡◌, ◌≤◌, ℕ, ◌+◌, Bool, true, false, cond, count_by, List, [], ◌∷◌, ◌++◌, Option, Some, None, refl, sym, ap, subst, ◌∙◌, arith, Rose, nothing_held, bound_page, Left, frame_in, words_in, MayFault, MayRelease, Custody, has, Fine, Outcome, taken, IsOwned, KeepsBook, has_cut, names, waits_for, seen, left_of, page_back, page_gone, page_in, take_one, without_first_frame, Keeps, StoreSays, is_fault, cut_of_owner, flat_of, frames_of_owner, processor_at, Seen, cut_uid, descriptor_use, shown, after_visit, page_taken, visited_if, CutDescriptor, Owner, State, fault_told, with_faults, with_owner, What as what, Entry as entry, Ptw as ptw, Left as left, Aim as aim, Phase as phase, eqb_self, fault_keeps, CanFinish, back_keeps, take_keeps, finish_with, faults_push, back_seen, bound_here, idle_names, put_two_here, HasTables, binding_is, tables_kept, take_one_seen, none_some, kept_with, left_faults, left_keeps}

-- no processor holds anything, or is to drop anything
pub record AreBare (s : State) : Type 0 where
  pub held : (d : ℕ) → (processor_at s.processors d).cpu.assoc ≡ nothing_held
  pub due : (d : ℕ) → (processor_at s.processors d).cpu.due ≡ None

none_has : (xs : List ℕ) (x : ℕ) → xs ≡ [] → has xs x ≡ true → ⊥
none_has xs x e h = let no : false ≡ true = sym (cc) ∙ h in cc

-- where nothing is held, what is held is fine
bare_fine : (v : Seen) (b : Bool) → ((d : ℕ) → (v.processors d).cpu.assoc ≡ nothing_held) → Fine (shown v) b
bare_fine v b bare = record {
  page = λ d f h. absurd (none_has ((shown v).seat d).pages f (cc (bare d)) h);
  seg = λ d k n its h. absurd (none_has ((shown v).seat d).segs n (cc (bare d)) h);
  idle = λ d off. (cc (bare d), cc (bare d));
}

module _ (s : State) (f u p : ℕ) (k : Keeps s) (none : s.owner ≡ None) (bare : AreBare s)
    (bound : (seen s).bound f ≡ Some (u, p)) where
  -- as if a job took the page
  abbrev taking : State
  taking = take_one s 0 aim.Evicting (what.Page f) f

  -- and every processor had cleared
  abbrev waiting : Owner
  waiting = record { cpu = 0; phase = phase.Waiting aim.Evicting (what.Page f); frames = f ∷ []; cut = [] }

  no_frames : frames_of_owner s.owner ≡ []
  no_frames = ap frames_of_owner none

  no_cut : cut_of_owner s.owner ≡ []
  no_cut = ap cut_of_owner none

  page_here : (seen s).words u p ≡ ptw.Here f
  page_here = bound_here (seen s) f u p k.book no_frames bound

  taking_is : seen taking ≡ taken (seen s) 0 aim.Evicting (what.Page f) f u p
  taking_is = take_one_seen s 0 aim.Evicting (what.Page f) f u p k.store.kept.places bound page_here

  taking_book : KeepsBook (seen taking)
  taking_book = subst KeepsBook (sym taking_is) (take_keeps 0 aim.Evicting (what.Page f) f u p k.book (record {
    here = page_here;
    still = ap waits_for none;
    others = idle_names (what.Page f) k.book.going_owned no_frames no_cut;
    this = eqb_self f;
    aimed = (f, cc, refl, no_cut);
  }))

  abbrev waited : State
  waited = with_owner taking (Some waiting)

  waited_book : KeepsBook (seen waited)
  waited_book = record {
    legal = taking_book.legal;
    clean = taking_book.clean;
    held = sym same ∙ taking_book.held;
    stale_due = bare_fine (seen waited) false bare.held;
    going_owned = subst (λ (c : Custody). IsOwned c (Some waiting)) same (record {
      frames = λ g. taking_book.going_owned.frames g ∙ ap (λ (fs : List ℕ). has (fs ++ f ∷ []) g) no_frames;
      cuts = λ j n. taking_book.going_owned.cuts j n ∙ ap (λ (ds : List CutDescriptor). has_cut ds j n) no_cut;
      once = (refl, tt);
      apart = tt;
      due = λ d w h. absurd (none_some (sym (bare.due d) ∙ h));
      alive = λ d w h. absurd (none_some (sym (bare.due d) ∙ h));
      says = λ w h. absurd (none_some h);
      shaped = (f, refl, refl, refl);
    });
    tied = taking_book.tied;
    holding_right = λ d. (rw same at (taking_book.holding_right d));
    under_way = taking_book.under_way;
    runs = taking_book.runs;
  }
    where
      same : shown (seen taking) ≡ shown (seen waited)
      same = λ i. record (shown (seen taking)) {
        descriptor = λ j n. descriptor_use ((seen taking).linked j n) (cut_uid (no_cut i) j n);
      }

  leaving_now : (seen waited).words u p ≡ ptw.Leaving f
  leaving_now = ap (λ (v : Seen). v.words u p) taking_is ∙ put_two_here (seen s).words u p (ptw.Leaving f)

  -- the page that was taken is all that goes
  can_finish : CanFinish (seen waited) f u p None
  can_finish = record {
    leaving = leaving_now;
    none = bare.due;
    still = refl;
    after = refl;
    first = record { rest = []; first = refl; left = refl; same = refl; says = refl; shaped = tt };
  }

  abbrev after_take : State
  after_take = page_taken s f

  tables_still : HasTables waited
  tables_still = tables_kept s f (bound_page (frame_in s.store.pages f)) k.store.kept.places

  page_still : page_in after_take.store f ≡ (u, p)
  page_still = cc (binding_is waited f, (waited_book.tied.back f u p (ap names leaving_now)))

  taken_faults : count_by is_fault (s.entries ++ entry.Take f ∷ []) ≡ count_by is_fault s.entries
  taken_faults = omega (arith, faults_push s.entries (entry.Take f))

  -- the page leaves the frame
  visit_gone : (faults n : ℕ) → s.faults ≤ faults
      → (left_of (words_in after_take.store.pages f) ≡ left.Released → MayRelease (flat_of after_take) u p)
      → StoreSays (record (page_gone (with_faults after_take faults) f) { visited = n })
      → Keeps (record (page_gone (with_faults after_take faults) f) { visited = n })
  visit_gone faults n rose zeros says = kept_with (record (page_gone (with_faults after_take faults) f) { visited = n })
      (subst (λ (o : Option Owner). KeepsBook (seen (with_owner (page_gone after_take f) o))) (sym none)
      (rw page_still (left_keeps waited how tables_still waited_book can_finish zeros))) says
      (let one = taken_faults in let few = k.few_faults in omega (
        arith,
        (left_faults (s.entries ++ entry.Take f ∷ []) f how (page_in after_take.store f)),
        one,
        few,
        rose,
      )) k.sizes.processors k.sizes.processes (λ o h. absurd (none_some (sym none ∙ h)))
    where
      how : Left
      how = left_of (words_in after_take.store.pages f)

  -- the drive failed, and the page stays
  visit_back : (faults n : ℕ) → Rose s.faults faults → MayFault (flat_of after_take) None
      → StoreSays (record (page_back (fault_told after_take None faults) f) { visited = n })
      → Keeps (record (page_back (fault_told after_take None faults) f) { visited = n })
  visit_back faults n rose may says = kept_with
      (record (page_back (fault_told after_take None faults) f) { visited = n })
      (rw none (subst KeepsBook (sym (back_seen told f u p None tables_still told_book leaving_now))
      (back_keeps (seen told) f u p None told_book (finish_with refl refl bare.due can_finish)))) says (let two =
      faults_push (s.entries ++ entry.Take f ∷ []) (entry.Fault None) in
      let three = faults_push ((s.entries ++ entry.Take f ∷ []) ++ entry.Fault None ∷ []) (entry.BackPage f) in
      let few = k.few_faults in omega (arith, taken_faults, two, three, few, rose))
      k.sizes.processors k.sizes.processes (λ o h. absurd (none_some (sym (ap without_first_frame none) ∙ h)))
    where
      told : State
      told = fault_told waited None faults

      told_book : KeepsBook (seen told)
      told_book = fault_keeps (seen waited) None waited_book may

-- ---- the visit

-- how many frames were visited is no part of the promise
pub kept_visited : {s : State} (n : ℕ) → Keeps s → Keeps (record s { visited = n })
kept_visited n k = assumption

-- What a visit asks: of a frame that has a page, what the store says of the machine then.
pub record AsksVisit (s : State) (o : Outcome) : Type 0 where
  pub none : s.owner ≡ None
  pub bare : AreBare s
  pub well : o.failed ≡ false → (page : ℕ × ℕ) → (seen s).bound s.visited ≡ Some page → (s.faults ≤ o.faults)
      × (left_of (words_in (page_taken s s.visited).store.pages s.visited) ≡ left.Released
      → MayRelease (flat_of (page_taken s s.visited)) page.0 page.1) × StoreSays (record (page_gone (with_faults
      (page_taken s s.visited) o.faults) s.visited) { visited = s.visited + 1 })
  pub ill : o.failed ≡ true → Rose s.faults o.faults × MayFault (flat_of (page_taken s s.visited)) None
      × StoreSays (record (page_back (fault_told
      (page_taken s s.visited) None o.faults) s.visited) { visited = s.visited + 1 })

pub visit_keeps : {s : State} {o : Outcome} → Keeps s → AsksVisit s o → Keeps (after_visit s o)
visit_keeps {s} {o} k asks = by (bound_page (frame_in s.store.pages s.visited)) (binding_is s s.visited)
  where
    ended : (page : ℕ × ℕ) → (seen s).bound s.visited ≡ Some page → (b : Bool) → o.failed ≡ b
        → Keeps (record (cond b (page_back (fault_told (page_taken s s.visited) None o.faults) s.visited)
        (page_gone (with_faults (page_taken s s.visited) o.faults) s.visited)) { visited = s.visited + 1 })
    ended page h true e = let i = asks.ill e in
        visit_back s s.visited page.0 page.1 k asks.none asks.bare h o.faults (s.visited + 1) i.0 i.1 i.2
    ended page h false e = let w = asks.well e page h in
        visit_gone s s.visited page.0 page.1 k asks.none asks.bare h o.faults (s.visited + 1) w.0 w.1 w.2

    by : (x : Option (ℕ × ℕ)) → (seen s).bound s.visited ≡ x
        → Keeps (record (visited_if s s.visited o x) { visited = s.visited + 1 })
    by None h = kept_visited (s.visited + 1) k
    by (Some page) h = ended page h o.failed refl
