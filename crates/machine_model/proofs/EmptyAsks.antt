-- What a look asks that makes a segment inactive, for its length or as the victim of a pool.
use Rattle.machine_model.proofs.StepBasics.{◌≡◌, ◌≢◌, ℕ, Bool, true, false, List, [], ◌∷◌, Option, Some, None, refl, sym, ap, subst, ◌∙◌, Command, Node, node_in, IsUp, superior_up, superior_found, Core, frame_at, reads_of, started_page, HasNoInferior, uid_at, first_off_chain, hand_past, read_at, MayDeactivate, node_superior, any_page, Outcome, after, is_pending, seen, deactivation_begun, segment_taken, segs_gone, with_hand_moved, IsFaithful, Keeps, StoreKept, StoreSays, cut_of_owner, flat_of, frame_reading, frames_from, is_active, is_page_of, or_zero, trailers_in, Says, shown, State, with_store, refusal_of, uid_of_command, eqb_self, What as what, Frame as frame, Aim as aim, Action as act, superior_in, is_going_descriptor, leads_to, holding, led_to, descriptor_of, frames_of_owner, cut_uid, descriptor_use, CutDescriptor, Storage, IsWhole, TakenWhole, going_for, LeadsToSegment, length_stands, position_none, leaf_inferiors, victim_leaf, map_list, FindsActive, FindsVictim, IsIdle, emptied_says, is_same, same_rest, says_by, none_some, active_at, alike, no_page_left, AsksEmpty, AsksSegment, AsksVictim, nothing_over, hand_kept, trailers_taken, nothing_whole, ArePairs, IsOver, segs_gone_rest, directory_is}
use Rattle.machine_model.proofs.TakeAsks.{took_says}

-- ---- A job that makes a segment inactive takes it whole, and once all that it took is gone the segment may become
-- inactive.

-- ---- once all is gone

abbrev no_link_in : Storage → List CutDescriptor → ℕ → Type 0
no_link_in st ds u = (j n : ℕ) → leads_to (descriptor_use (led_to st.ast.entries (descriptor_of st.links j n))
    (cut_uid ds j n)) ≢ Some u

-- A segment that was taken whole may become inactive once its pages have left and its descriptors are gone.
pub whole_may : (s : State) (u : ℕ) → Keeps s → IsWhole (holding s) u → frames_of_owner s.owner ≡ []
    → IsOver (segs_gone s (cut_of_owner s.owner)) → is_active s.store.ast u ≡ true
    → ((v : ℕ) → is_active s.store.ast v ≡ true
    → superior_in (node_in (flat_of (segs_gone s (cut_of_owner s.owner))).nodes v) ≢ Some u)
    → MayDeactivate (flat_of (segs_gone s (cut_of_owner s.owner))) (shown (seen (segs_gone s (cut_of_owner s.owner)))) u
whole_may s u k whole frames over active inferiors = record {
  active = cc (store, active);
  inferiors = λ v h. inferiors v (cc (store, h));
  pages = rw (← store) at (no_page_left (holding s) s.owner u k.book.going_owned whole frames);
  descriptors = rw over.cut (rw store unlinked);
}
  where
    store : (segs_gone s (cut_of_owner s.owner)).store ≡ s.store
    store = (segs_gone_rest s (cut_of_owner s.owner)).4

    unlinked : no_link_in s.store [] u
    unlinked j n = by ((seen s).linked j n) refl
      where
        by : (x : Option ℕ) → (seen s).linked j n ≡ x → leads_to (descriptor_use x None) ≡ Some u → ⊥
        by None e h = none_some h
        by (Some v) e h = let going = whole.descriptors j n (cc) in
            let no : false ≡ true = sym (ap is_going_descriptor (ap (λ (y : Option ℕ). descriptor_use y
            (cut_uid (cut_of_owner s.owner) j n)) e)) ∙ going in cc

-- So may the segment that the owner makes inactive.
pub may_deactivate : (s : State) (u : ℕ) → Keeps s → TakenWhole s → going_for s.owner ≡ Some u
    → frames_of_owner s.owner ≡ [] → IsOver (segs_gone s (cut_of_owner s.owner)) → is_active s.store.ast u ≡ true
    → ((v : ℕ) → is_active s.store.ast v ≡ true
    → superior_in (node_in (flat_of (segs_gone s (cut_of_owner s.owner))).nodes v) ≢ Some u)
    → MayDeactivate (flat_of (segs_gone s (cut_of_owner s.owner))) (shown (seen (segs_gone s (cut_of_owner s.owner)))) u
may_deactivate s u k whole goes = whole_may s u k (whole.whole u goes)

-- no page of a segment is being read
pub unread_any : (core : Core) (u : ℕ) → frame_reading core u any_page ≡ None → (f p : ℕ)
    → read_at (reads_of core) f ≢ Some (u, p)
unread_any core u h f p e = no_and passes (position_none
    (λ x. is_page_of u any_page (started_page x)) core.frames frame.Free f h refl)
  where
    no_and : {b : Bool} → b ≡ true → b ≡ false → ⊥
    no_and t i = let none = sym t ∙ i in cc

    passes : is_page_of u any_page (started_page (frame_at core f)) ≡ true
    passes = ap (is_page_of u any_page) (sym (map_list started_page core.frames f frame.Free) ∙ e)
        ∙ rw (eqb_self u) refl

-- ---- a segment

module _ {s : State} (c u : ℕ) (k : Keeps s) (idle : IsIdle s.owner) (still : is_pending s.owner ≡ false) where
  segment_asks : (fs : List ℕ) (pairs : List (ℕ × ℕ)) → StoreKept (segment_taken s c u fs pairs).store
      → IsFaithful s.plan (flat_of s) (segment_taken s c u fs pairs).store → ArePairs (seen s).linked (what.Seg u) pairs
      → (fs ≡ [] → pairs ≡ [] → MayDeactivate (flat_of (segs_gone s (cut_of_owner s.owner)))
      (shown (seen (segs_gone s (cut_of_owner s.owner)))) u) → AsksSegment s c u fs pairs
  segment_asks [] [] kept shown_is are may = assumption (may refl refl, emptied_says c u k kept shown_is refl)
  segment_asks [] (x ∷ xs) kept shown_is are may =
      took_says c (aim.Deactivating u) (what.Seg u) [] (x ∷ xs) k are kept shown_is
  segment_asks (f ∷ fs) pairs kept shown_is are may =
      took_says c (aim.Deactivating u) (what.Seg u) (f ∷ fs) pairs k are kept shown_is

  -- where it is active, not being read, and without inferior
  empty_asks : StoreKept (deactivation_begun s c u).store
      → IsFaithful s.plan (flat_of s) (deactivation_begun s c u).store → is_active s.store.ast u ≡ true
      → frame_reading s.store.pages.core u any_page ≡ None
      → ((v : ℕ) → is_active s.store.ast v ≡ true → node_superior (node_in (flat_of s).nodes v) ≢ Some u)
      → AsksEmpty s c u
  empty_asks kept shown_is active unread inferiors = segment_asks (frames_from s.store.ast u 0) (trailers_in s.store u)
      kept shown_is (trailers_taken s (what.Seg u) u k (eqb_self u)) (λ none none_cut. whole_may s u k
      (nothing_whole s c u k idle active (unread_any s.store.pages.core u unread) none none_cut) idle.frames
      (nothing_over k idle still) active (rw idle.cut inferiors))

-- ---- for its length

-- what lies below something lies below a directory
pub segment_inferiors : (s : State) (u : ℕ) (n : Node) → Keeps s → node_in s.store.accounts.nodes u ≡ Some n
    → n.directory ≡ false → (v : ℕ) → node_superior (node_in (flat_of s).nodes v) ≢ Some u
segment_inferiors s u n k at segment v h = by (node_in s.store.accounts.nodes v) refl (cc)
  where
    nodes : List Node
    nodes = s.store.accounts.nodes

    by : (x : Option Node) → node_in nodes v ≡ x → node_superior x ≡ Some u → ⊥
    by None e i = none_some i
    by (Some m) e i = let none : true ≡ false = sym (subst (IsUp nodes v) (superior_found nodes v m e ∙ i)
        (superior_up nodes k.store.accounts.tree v)).1 ∙ (directory_is nodes u n at ∙ segment) in cc

pub length_asks : (s : State) (c : ℕ) (o : Outcome) (j u : ℕ) (cmd : Command) → Keeps s → IsIdle s.owner
    → is_pending s.owner ≡ false → FindsActive s j cmd u → Says s c o (act.Empty u) → AsksEmpty s c u
unfolding after
length_asks s c o j u cmd k idle still finds says = empty_asks c u k idle still says.store
    (says.shown (flat_of s) k.faithful) finds.active finds.unread (λ v active. segment_inferiors s u leads.node k
    (ap (node_in s.store.accounts.nodes) (sym
    (sym leads.uid ∙ (sym (ap (uid_of_command s.store j) finds.is) ∙ finds.uid))) ∙ leads.there) leads.segment v)
  where
    leads : LeadsToSegment s finds.path
    leads = length_stands s j k finds.path finds.pages
        (subst (λ (x : Command). refusal_of s j x ≡ None) finds.is finds.stands)

-- ---- the victim of a pool

-- the hands of the pools are seen by nobody
pub hand_says : {s : State} (pool : ℕ) (chain : List ℕ) → Keeps s
    → StoreSays (with_store s (with_hand_moved s.store pool chain))
hand_says {s} pool chain k = by (first_off_chain s.store.ast pool chain)
  where
    by : (x : Option ℕ) → StoreSays (with_store s (record s.store { ast = hand_past s.store.ast pool x }))
    by None = says_by s k k.store k.faithful (alike (flat_of s)) k.conserved.total
        (same_rest k (is_same refl refl refl refl refl (λ u e. e) refl))
    by (Some place) = says_by now k kept shown_is (alike (flat_of s)) k.conserved.total
        (same_rest k (is_same refl refl refl refl refl (λ u e. e) refl))
      where
        now : State
        now = with_store s (record s.store { ast = hand_past s.store.ast pool (Some place) })

        kept : StoreKept now.store
        kept = assumption

        shown_is : IsFaithful s.plan (flat_of s) now.store
        shown_is = assumption

pub victim_asks : {s : State} {c : ℕ} {o : Outcome} {j pool : ℕ} {chain : List ℕ} {u : ℕ} {cmd : Command} → Keeps s
    → IsIdle s.owner → is_pending s.owner ≡ false → FindsVictim s j cmd pool chain u
    → Says s c o (act.EmptyVictim pool chain u) → AsksVictim s c pool chain u
unfolding after
victim_asks {s} {c} {o} {j} {pool} {chain} {u} k idle still finds says = record {
  says = hand;
  asks = empty_asks c u (hand_kept pool chain k hand) idle still says.store
      (says.shown (flat_of s) k.faithful) (moved_active (first_off_chain s.store.ast pool chain) active) finds.unread
      (λ v h. leaf_inferiors s finds.place u k at leaf.2 v (was_active v (first_off_chain s.store.ast pool chain) h));
}
  where
    now : State
    now = with_store s (with_hand_moved s.store pool chain)

    hand : StoreSays (with_store s (with_hand_moved s.store pool chain))
    hand = hand_says pool chain k

    leaf : (w : ℕ) × (uid_at s.store.ast.entries finds.place ≡ Some w) × HasNoInferior s.store.ast.entries finds.place
    leaf = victim_leaf s.store.ast pool chain finds.place k.store.kept.tree finds.victim

    at : uid_at s.store.ast.entries finds.place ≡ Some u
    at = leaf.1 ∙ ap (λ (x : ℕ). Some x) (sym (finds.uid ∙ ap or_zero leaf.1))

    active : is_active s.store.ast u ≡ true
    active = active_at s.store.ast finds.place u at

    moved_active : (x : Option ℕ) → is_active s.store.ast u ≡ true → is_active (hand_past s.store.ast pool x) u ≡ true
    moved_active None h = h
    moved_active (Some place) h = h

    was_active : (v : ℕ) (x : Option ℕ) → is_active (hand_past s.store.ast pool x) v ≡ true
        → is_active s.store.ast v ≡ true
    was_active v None h = h
    was_active v (Some place) h = h
