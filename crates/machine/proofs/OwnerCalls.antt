-- What the calls of the owner's looks ask, of a page that is read in, of a descriptor that is connected, and of what is
-- taken.
use Rattle.machine.proofs.Prelude.{Action, AreHere, Command, Core, Frame, HasOwner, IsActive, IsEmptied, IsIdle, IsInside, IsLeaf, IsMine, IsNotStarted, LeadsToSegment, List, None, Option, Parts, Ptw, Some, State, Storage, active_place, any_at, any_page, ap, arith, binding_at, bindings, bound_here, bound_page, chain_active, choice_bound, clock_choice, cpu_at, cut_of_owner, descriptors_few, false, flat_of, frame_at, frame_reading, frames_from, frames_of_owner, free_frame, free_is, going_for, inside_is, is_active, is_away, is_bare, is_bound, is_for, is_free, is_out, known_uid, kst_at, leads, leads_at, length, length_stands, list_any, map_list, node_in, none_some, nothing_whole, or_zero, pages_few, place_of, position_at, process_at, refl, refusal_of, segment_inferiors, started_page, subst, superior_in, sym, table_of, trailers_in, true, uid_of, uid_of_command, uid_of_number, unread_any, unread_page, within_by, within_some, word_of, word_within, ℕ, ◌+◌, ◌<◌, ◌∙◌, ◌∷◌, ◌≡◌, ◌≢◌, ◌≤◌, seen, [], Frame as frame, Ptw as ptw, Aim as aim, Action as act}
use Rattle.machine.proofs.Does.{Does, found, keeps_of, still_for}
use Rattle.machine.proofs.EmptiedFacts.{emptied}
use Rattle.machine.proofs.Found.{Looked, Waited}

-- whether a page is on its record alone, said in both ways
out_is : (w : Ptw) → is_away w ≡ true → is_out w ≡ true
out_is (ptw.Out r) h = refl
out_is _ h = cc

-- a segment that is found active is so in its place
pub active_there : (st : Storage) (u : ℕ) → is_active st.ast u ≡ true → IsActive st.ast.entries u
active_there st u h = (place_of st.ast.entries u, (active_place st.ast u h).1)

-- the owner is there
pub owned : {s : State} {c : ℕ} → IsMine s c → HasOwner s.owner
owned m e = none_some (sym e ∙ m.mine)

-- ---- a page is read in

-- a page may be read into a frame
pub record IsReadable (s : State) (c f u p : ℕ) : Type 0 where
  pub still : s.store.moving ≡ None
  pub processor : c < length s.processors
  pub active : IsActive s.store.ast.entries u
  pub page : p < length (table_of s.store.ast u)
  pub out : is_out (word_of s.store.ast u p) ≡ true
  pub within : f < length s.store.pages.core.frames
  pub free : frame_at s.store.pages.core f ≡ frame.Free
  pub first : IsNotStarted s.store.pages.core u p
  pub room : 0 < s.spare

module _ {D : Type 0} {t : Parts D} {c f u p : ℕ} (d : Does t c (act.Start f u p)) where
  pub readable : IsReadable t.state c f u p
  unfolding place_of
  readable = record {
    still = still_for d;
    processor = d.may.there;
    active = active_there t.state.store u (within_some (is_for u) t.state.store.ast.entries
        (rw (← ((keeps_of d).store.kept.places)) within.0));
    page = within.1;
    out = out_is (word_of t.state.store.ast u p) l.finds.out;
    within = (free_frame t.state.store.pages.core f l.finds.frame).0;
    free = free_is (frame_at t.state.store.pages.core f)
        (position_at is_free t.state.store.pages.core.frames frame.Free f l.finds.frame).1;
    first = record {
      none = λ g e. unread_page t.state.store.pages.core u p l.finds.unread g
          (cc (map_list started_page t.state.store.pages.core.frames g frame.Free));
    };
    room = omega arith;
  }
    where
      l : Looked t.state c (act.Start f u p)
      l = found d

      within : (place_of t.state.store.ast.entries u < length t.state.store.ast.tables)
          × (p < length (table_of t.state.store.ast u))
      within = word_within t.state.store.ast u p (λ e. (let no : false ≡ true = sym (ap is_away e) ∙ l.finds.out in cc))

-- ---- a descriptor is connected

-- a number of a process may lead to a segment
pub record IsConnectable (s : State) (c k n u : ℕ) : Type 0 where
  pub process : (cpu_at s.processors c).process ≡ Some k
  pub knows : k < length s.store.links.known
  pub active : IsActive s.store.ast.entries u
  pub known : uid_of (kst_at s.store.links.known k) n ≡ Some u
  pub cut : leads_at s.store.links.descriptors k n ≡ None
  pub room : 0 < s.spare

module _ {D : Type 0} {t : Parts D} {c n u : ℕ} (d : Does t c (act.Connect n u)) where
  abbrev s : State
  s = t.state

  pub connectable : (k : ℕ) → (cpu_at s.processors c).process ≡ Some k → IsConnectable s c k n u
  connectable k its = record {
    process = its;
    knows = within_by s.store.links.known k [] (λ e. none_some (sym (ap (λ (x : List (Option ℕ)). uid_of x n) e)
        ∙ known));
    active = active_there s.store u (chain_active s.store.accounts.nodes (keeps_of d).store.accounts.tree s.store.ast u
        l.finds.chain);
    known = known;
    cut = subst (λ (j : ℕ). leads_at s.store.links.descriptors j n ≡ None) here (ap leads l.finds.fault);
    room = let room = d.may.room in omega (arith, room);
  }
    where
      j : ℕ
      j = process_at s c

      here : j ≡ k
      here = ap or_zero its

      l : Looked s c (act.Connect n u)
      l = found d

      inside : IsInside s j l.finds.reference (uid_of_number s.store j l.finds.reference.number)
      inside = inside_is s j l.finds.reference (keeps_of d) l.finds.inside

      known : uid_of (kst_at s.store.links.known k) n ≡ Some u
      known = subst (λ (i : ℕ). uid_of (kst_at s.store.links.known i) n ≡ Some u) here
          (ap (λ (x : List (List (Option ℕ))). uid_of (kst_at x j) n) (sym (keeps_of d).faithful.known)
          ∙ (ap (known_uid (flat_of s) j) (sym l.finds.number) ∙ (inside.known
          ∙ ap (λ (x : ℕ). Some x) (ap (uid_of_number s.store j) l.finds.number ∙ l.finds.uid))))

-- ---- a segment becomes inactive

module _ {D : Type 0} {t : Parts D} {c u : ℕ} (d : Does t c (act.Deactivate u)) where
  abbrev gone : Waited t.state c (aim.Deactivating u) (λ fs. fs ≡ [])
  gone = found d

  pub inactive_owner : HasOwner t.state.owner
  inactive_owner = owned gone.waited.owner

  pub inactive_emptied : IsEmptied t.state.store u
  inactive_emptied = emptied t.state u (keeps_of d) (d.sound.keeps.working.whole.whole u goes)
      (ap frames_of_owner gone.waited.owner.mine ∙ gone.left) leaf.active leaf.inferiors
    where
      goes : going_for t.state.owner ≡ Some u
      goes = cc (gone.waited.owner.mine, gone.waited.waits)

      leaf : IsLeaf t.state.store u
      leaf = d.sound.keeps.working.leaf u goes

-- ---- the clock's choice goes

-- what an eviction asks: some frame is bound, no page is on its way out, and the owner has taken nothing
pub record IsEvictable (s : State) : Type 0 where
  pub still : s.store.moving ≡ None
  pub bound : list_any is_bound s.store.pages.core.frames ≡ true
  pub here : AreHere s.store
  pub owner : HasOwner s.owner
  pub few : length (frames_of_owner s.owner) < 256
  pub room : 0 < s.spare

module _ {D : Type 0} {t : Parts D} {c f : ℕ} (d : Does t c (act.Evict f)) where
  abbrev core : Core
  core = t.state.store.pages.core

  evicts : Looked t.state c (act.Evict f)
  evicts = found d

  pub evictable : IsEvictable t.state
  evictable = record {
    still = still_for d;
    bound = any_at is_bound core.frames f frame.Free (bound_is (frame_at core f) at.0
        (sym (map_list bound_page core.frames f frame.Free) ∙ at.1)) refl;
    here = record { here = λ g u p e. bound_here (seen t.state) g u p (keeps_of d).book evicts.idle.frames e };
    owner = owned evicts.looking.owner;
    few = omega (arith, ap length evicts.idle.frames);
    room = omega arith;
  }
    where
      at : (page : ℕ × ℕ) × (binding_at (bindings core) f ≡ Some page)
      at = choice_bound core f evicts.finds.choice

      bound_is : (x : Frame) (page : ℕ × ℕ) → bound_page x ≡ Some page → is_bound x ≡ true
      bound_is (frame.Bound u p used modified) page e = refl
      bound_is _ page e = absurd (none_some e)

  -- it is the choice that the call made
  pub evict_is : {g : ℕ} → clock_choice core ≡ Some g → f ≡ g
  evict_is e = cc (evicts.finds.choice, e)

-- ---- a segment is emptied, for its length

-- What the emptying of a segment asks: it is active, and the owner has taken nothing; it takes 256 pages and 32
-- descriptors at the most, and where there is nothing to take the segment may be inactive at once.
pub record IsEmptiable (s : State) (u : ℕ) : Type 0 where
  pub still : s.store.moving ≡ None
  pub active : IsActive s.store.ast.entries u
  pub owner : HasOwner s.owner
  pub pages : length (frames_of_owner s.owner) + length (frames_from s.store.ast u 0) ≤ 256
  pub descriptors : length (cut_of_owner s.owner) + length (trailers_in s.store u) ≤ 256
  pub bare : is_bare (frames_from s.store.ast u 0) (trailers_in s.store u) ≡ true → IsEmptied s.store u
  pub room : length (frames_from s.store.ast u 0)
      + (length (trailers_in s.store u) + (length (cut_of_owner s.owner) + 1)) ≤ s.spare

-- a segment without active inferiors, of which nothing is being read
pub emptiable_by : {D : Type 0} {t : Parts D} {c : ℕ} {a : Action} → Does t c a → (u : ℕ)
    → t.state.store.moving ≡ None → IsIdle t.state.owner → HasOwner t.state.owner
    → is_active t.state.store.ast u ≡ true → frame_reading t.state.store.pages.core u any_page ≡ None
    → ((v : ℕ) → is_active t.state.store.ast v ≡ true → superior_in (node_in (flat_of t.state).nodes v) ≢ Some u)
    → IsEmptiable t.state u
emptiable_by {D} {t} {c} d u still idle owner active unread inferiors = record {
  still = still;
  active = active_there s.store u active;
  owner = owner;
  pages = omega (arith, no_frames, few_pages);
  descriptors = omega (arith, no_cut, few_descriptors);
  bare = λ h. by (frames_from s.store.ast u 0) (trailers_in s.store u) h refl refl;
  room = let room = d.may.room in omega (arith, no_cut, few_pages, few_descriptors, room);
}
  where
    s : State
    s = t.state

    no_frames : length (frames_of_owner s.owner) ≡ 0
    no_frames = ap length idle.frames

    no_cut : length (cut_of_owner s.owner) ≡ 0
    no_cut = ap length idle.cut

    few_pages : length (frames_from s.store.ast u 0) ≤ 256
    few_pages = pages_few s u (keeps_of d) active

    few_descriptors : length (trailers_in s.store u) ≤ 32
    few_descriptors = descriptors_few s u (keeps_of d) active

    below : (v : ℕ) → is_active s.store.ast v ≡ true → superior_in (node_in s.store.accounts.nodes v) ≢ Some u
    below v there h = inferiors v there (cc ((keeps_of d).faithful.tree.nodes))

    by : (fs : List ℕ) (xs : List (ℕ × ℕ)) → is_bare fs xs ≡ true → frames_from s.store.ast u 0 ≡ fs
        → trailers_in s.store u ≡ xs → IsEmptied s.store u
    by [] [] h none none_cut = emptied s u (keeps_of d) (nothing_whole s c u (keeps_of d) idle active
        (unread_any s.store.pages.core u unread) none none_cut) idle.frames active below
    by [] (x ∷ xs) h none none_cut = cc
    by (f ∷ fs) xs h none none_cut = cc

pub emptiable : {D : Type 0} {t : Parts D} {c u : ℕ} → Does t c (act.Empty u) → IsEmptiable t.state u
emptiable {D} {t} {c} {u} d = emptiable_by d u (still_for d) l.idle (owned l.looking.owner)
    l.finds.active l.finds.unread (λ v active. segment_inferiors t.state u leads_there.node (keeps_of d)
    (ap (node_in t.state.store.accounts.nodes) (sym same) ∙ leads_there.there) leads_there.segment v)
  where
    k : ℕ
    k = process_at t.state c

    l : Looked t.state c (act.Empty u)
    l = found d

    leads_there : LeadsToSegment t.state l.finds.path
    leads_there = length_stands t.state k (keeps_of d) l.finds.path l.finds.pages
        (subst (λ (x : Command). refusal_of t.state k x ≡ None) l.finds.is l.finds.stands)

    same : leads_there.node.uid ≡ u
    same = sym leads_there.uid ∙ (sym (ap (uid_of_command t.state.store k) l.finds.is) ∙ l.finds.uid)
