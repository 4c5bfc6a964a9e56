-- What a tree command must have out of use is so where it takes effect: its job took just that.
use Rattle.machine_model.proofs.StepBasics.{cases_Bool, or_parts, eqb_self, cond_both, [], ◌≡◌, ◌≢◌, ◌<◌, ℕ, Bool, true, false, ◌||◌, eqb, List, ◌∷◌, ◌++◌, map, length, Option, Some, None, ◌⊎◌, inl, inr, refl, sym, ap, subst, ◌∙◌, Result, Ok, Err, list_all, list_any, eqb_tells, Command, Path, Named, Mode, Entry, Reply, Node, is_inferior, node_in, branch_at, node_at, segment_at, Store, store_after, Ptw, Sdw, reads_of, erased, Plain, binding_at, bindings, read_at, DescriptorUse, FrameUse, MayDeactivate, superior_in, has, is_going_descriptor, is_going_frame, leads_to, page_of, uid_of_page, HasNoDescriptor, HasNoPage, IsOutOfUse, OfNode, at_put, CutDescriptor, gone_segs, gones, page_at, gone, gone_seg, cut_entry, frames_freed, inactive_if, has_cut, led_to, seen, with_inactive, Keeps, cut_of_owner, descriptor_of, flat_of, frames_of_owner, home_in, is_active, process_at, uid_at_path, Seen, bound_use, cut_uid, descriptor_use, flat, frame_use, shown, Owner, State, Storage, with_owner, with_pages, IsTakenFor, rest_of, without_first_cut, without_first_frame, branch_found, only_found, has_head, not_both, some_same, Command as command, Ptw as ptw, Sdw as sdw, DescriptorUse as descriptor, FrameUse as frame, active_less, LeavesRest, all_still, is_still, cut_at_same, by_place, none_some, page_used, active_at, IsOut, Rests, cuts_still, effected, taken_bound, all_gone, chain_leaves, freed, freed_bound, freed_reads, gone_entry, gones_bound, gones_entries, node, segs_bound, segs_entries, bound_within, cut_active, cut_less}

-- ---- what goes

pub going_page : (x : FrameUse) → is_going_frame x ≡ true → (u : ℕ) × (q : ℕ) × (page_of x ≡ Some (u, q))
going_page (frame.Going u q) h = (u, q, refl)
going_page _ h = cc

going_led : (x : DescriptorUse) → is_going_descriptor x ≡ true → (u : ℕ) × (leads_to x ≡ Some u)
going_led (descriptor.Going u) h = (u, refl)
going_led _ h = cc

pub none_listed : (fs : List ℕ) → ((f : ℕ) → has fs f ≡ true → ⊥) → fs ≡ []
none_listed [] none = refl
none_listed (f ∷ fs) none = absurd (none f (has_head f fs))

pub none_cut : (ds : List CutDescriptor) → ((k n : ℕ) → has_cut ds k n ≡ true → ⊥) → ds ≡ []
none_cut [] none = refl
none_cut (d ∷ ds) none = absurd (none d.process d.number (cc (cut_at_same d)))

-- a descriptor that nothing was cut of is free, or leads to its segment
pub led_now : (x : Option ℕ) (u : ℕ) → leads_to (descriptor_use x None) ≡ Some u → x ≡ Some u
led_now None u h = cc
led_now (Some v) u h = h

free_now : (x : Option ℕ) → ((v : ℕ) → x ≡ Some v → ⊥) → descriptor_use x None ≡ descriptor.Free
free_now None none = refl
free_now (Some v) none = absurd (none v refl)

module _ (s : State) (k : ℕ) (cmd : Command) (keeps : Keeps s) (h : IsTakenFor s k cmd) where
  -- a frame that the owner took has a page that the command takes
  frame_page : (f : ℕ) → has (frames_of_owner s.owner) f ≡ true → (u : ℕ) × (q : ℕ)
      × (page_of ((shown (seen s)).frame f) ≡ Some (u, q)) × (is_going_frame ((shown (seen s)).frame f) ≡ true)
  frame_page f listed = let going = keeps.book.going_owned.frames f ∙ listed in
      let at = going_page ((shown (seen s)).frame f) going in (at.0, at.1, at.2, going)

  -- a descriptor that it cut led to a segment
  pub cut_led : (j n : ℕ) → has_cut (cut_of_owner s.owner) j n ≡ true
      → (u : ℕ) × (leads_to ((shown (seen s)).descriptor j n) ≡ Some u)
      × (is_going_descriptor ((shown (seen s)).descriptor j n) ≡ true)
  cut_led j n listed = let going = keeps.book.going_owned.cuts j n ∙ listed in
      let at = going_led ((shown (seen s)).descriptor j n) going in (at.0, at.1, going)

  -- a descriptor that is connected wasn't cut
  pub linked_on : (j n : ℕ) {v : ℕ} → (seen s).linked j n ≡ Some v
      → (leads_to ((shown (seen s)).descriptor j n) ≡ Some v) ×
      (is_going_descriptor ((shown (seen s)).descriptor j n) ≡ false)
  linked_on j n e = (cc, cc)

pub path_uid : {s : State} (path : List (List ℕ)) (n : Node) → Keeps s → node_at (flat_of s).nodes path ≡ Ok n
    → uid_at_path s.store path ≡ n.uid
path_uid path n keeps h = cc keeps.faithful.tree.nodes

-- ---- descriptors alone

module _ (s : State) (c : ℕ) (keeps : Keeps s) where
  abbrev k : ℕ
  k = process_at s c

  -- nothing is taken of a page
  no_frames : (cmd : Command) → IsTakenFor s k cmd → ((f u q : ℕ) → page_of ((shown (seen s)).frame f) ≡ Some (u, q)
      → is_going_frame ((shown (seen s)).frame f) ≡ true → ⊥) → frames_of_owner s.owner ≡ []
  no_frames cmd h none = none_listed (frames_of_owner s.owner)
      (λ f e. (let at = frame_page s k cmd keeps h f e in none f at.0 at.1 at.2 at.3))

  pub acl_rests : (path : List (List ℕ)) (row : Named) (m : Mode) → IsTakenFor s k (command.Acl path row m)
      → Rests s c (command.Acl path row m)
  acl_rests path row m h = record {
    settled = no_frames (command.Acl path row m) h (λ f u q e on. h.just.its_pages f u q e on);
    out = by (segment_at (flat_of s).nodes path) refl;
  }
    where
      by : (x : Result Node Reply) → segment_at (flat_of s).nodes path ≡ x → OfNode (λ n. HasNoDescriptor
          (shown (seen (with_owner (effected s k (command.Acl path row m)) None))) n.uid) x
      by (Err r) e = tt
      by (Ok n) e = λ j i led. (let was = led_now ((seen s).linked j i) n.uid led in
          let at = linked_on s k (command.Acl path row m) keeps h j i was in
          not_both (h.just.descriptors j i n.uid at.0
          (sym (path_uid path n keeps (only_found (node_at (flat_of s).nodes path) n e).0))) at.1)

  pub terminate_rests : (number : ℕ) → IsTakenFor s k (command.Terminate number) → Rests s c (command.Terminate number)
  terminate_rests number h = record {
    settled = no_frames (command.Terminate number) h (λ f u q e on. h.just.its_pages f u q e on);
    out = free_now ((seen s).linked k number)
        (λ v e. (let at = linked_on s k (command.Terminate number) keeps h k number e in
        not_both (h.just.descriptors k number v at.0 (refl, refl)) at.1));
  }

  pub end_rests : IsTakenFor s k command.End → Rests s c command.End
  end_rests h = record {
    settled = no_frames command.End h (λ f u q e on. h.just.its_pages f u q e on);
    out = λ n. free_now ((seen s).linked k n) (λ v e. (let at = linked_on s k command.End keeps h k n e in
        not_both (h.just.descriptors k n v at.0 refl) at.1));
  }

-- ---- a node is deleted

-- what is left of frames once some are freed
freed_was : (b : ℕ → Option (ℕ × ℕ)) (fs : List ℕ) (g : ℕ) {page : ℕ × ℕ} → freed b fs g ≡ Some page
    → (b g ≡ Some page) × (has fs g ≡ false)
freed_was b [] g h = (h, refl)
freed_was b (f ∷ fs) g {page} h = let rest = freed_was (at_put b f None) fs g h in
    by_place (λ (x : Option (ℕ × ℕ)). x ≡ Some page → (b g ≡ Some page) × (has (f ∷ fs) g ≡ false)) b f None g
    (λ e i. cc) (λ n i. (i, other n rest.1)) rest.0
  where
    other : g ≢ f → has fs g ≡ false → has (f ∷ fs) g ≡ false
    other n e = elim (eqb_tells f g) [ inl i ↦ absurd (n (sym i.1)) | inr i ↦ ap (λ (b : Bool). b || has fs g) i.0 ∙ e ]

-- the page of a frame
page_cases : (words : ℕ → ℕ → Ptw) (x y : Option (ℕ × ℕ)) {u : ℕ} → uid_of_page (page_of (frame_use words x y)) ≡ Some u
    → ((q : ℕ) × (x ≡ Some (u, q))) ⊎ ((q : ℕ) × (x ≡ None) × (y ≡ Some (u, q)))
page_cases words None None h = cc
page_cases words None (Some page) {u} h = inr (page.1, refl, (λ i. Some (some_same page.0 u h i, page.1)))
page_cases words (Some page) y {u} h =
    inl (page.1, (λ i. Some (some_same page.0 u (by (words page.0 page.1) h) i, page.1)))
  where
    by : (w : Ptw) → uid_of_page (page_of (bound_use page w)) ≡ Some u → Some page.0 ≡ Some u
    by w e = cc (page_used page w)

-- the use of a frame with a page
pub page_bound : (words : ℕ → ℕ → Ptw) (page : ℕ × ℕ) (y : Option (ℕ × ℕ))
    → page_of (frame_use words (Some page) y) ≡ Some page
page_bound words page y = page_used page (words page.0 page.1)

-- nothing lies in a node that no node lies in
not_above : (ns : List Node) (u v : ℕ) → list_any (is_inferior u) ns ≡ false → superior_in (node_in ns v) ≢ Some u
not_above [] u v h e = none_some e
not_above (n ∷ ns) u v h e = let parts = or_parts (is_inferior u n) (list_any (is_inferior u) ns) h in
    elim (cases_Bool (eqb n.uid v)) [
      | inl is ↦ not_both (up n.superior (rw is at e)) parts.0
      | inr isnt ↦ not_above ns u v parts.1 (rw isnt at e)
    ]
  where
    up : (o : Option ℕ) → o ≡ Some u → is_inferior u (record n { superior = o }) ≡ true
    up None x = cc
    up (Some s) x = rw (some_same s u x) (eqb_self u)

-- the owner's descriptors once they are gone
cut_gone : (v : Seen) (ds : List CutDescriptor) → cut_of_owner v.owner ≡ ds → cut_of_owner (gone_segs v ds).owner ≡ []
cut_gone v [] e = e
cut_gone v (d ∷ ds) e = cut_gone (gone_seg v d (without_first_cut v.owner)) ds (cc (less v.owner))
  where
    less : (o : Option Owner) → cut_of_owner (without_first_cut o) ≡ rest_of (cut_of_owner o)
    less None = refl
    less (Some q) = refl

cut_stays : (v : Seen) (fs : List ℕ) → cut_of_owner (gones v fs).owner ≡ cut_of_owner v.owner
cut_stays v [] = refl
cut_stays v (f ∷ fs) = cut_stays (gone v f (page_at v f).0 (page_at v f).1 ptw.Null (without_first_frame v.owner)) fs
    ∙ cut_less v.owner

gone_all_still : (fs : List ℕ) → list_all is_still (map gone_entry fs) ≡ true
gone_all_still [] = refl
gone_all_still (f ∷ fs) = gone_all_still fs

module _ (s : State) (c : ℕ) (path : Path) (keeps : Keeps s) (h : IsTakenFor s (process_at s c) (command.Delete path))
  where
    abbrev j : ℕ
    j = process_at s c

    abbrev u : ℕ
    u = node s c j path

    abbrev fs : List ℕ
    fs = frames_of_owner s.owner

    abbrev ds : List CutDescriptor
    ds = cut_of_owner s.owner

    within : (f : ℕ) → has fs f ≡ true → f < length s.store.pages.core.frames
    within f e = bound_within s f (page_at (seen s) f) (taken_bound keeps f e)

    -- a page of the node is in a frame that the job took
    bound_taken : (f q : ℕ) → (seen s).bound f ≡ Some (u, q) → has fs f ≡ true
    bound_taken f q e = sym (keeps.book.going_owned.frames f)
        ∙ h.just.pages f u q (cc (page_bound (seen s).words (u, q) ((seen s).reads f))) refl

    -- no page of it is being read
    not_read : (f q : ℕ) → (seen s).reads f ≡ Some (u, q) → ⊥
    not_read f q e = let is : (shown (seen s)).frame f ≡ frame.Started u q = cc (keeps.book.tied.unbound f u q e) in
        not_both (h.just.pages f u q (ap page_of is) refl) (ap is_going_frame is)

    -- so none is left once those frames are freed
    none_left : (words : ℕ → ℕ → Ptw) (f : ℕ)
        → uid_of_page (page_of (frame_use words (freed (seen s).bound fs f) ((seen s).reads f))) ≡ Some u → ⊥
    none_left words f e = elim (page_cases words (freed (seen s).bound fs f) ((seen s).reads f) e) [
      | inl x ↦ (let was = freed_was (seen s).bound fs f x.1 in not_both (bound_taken f x.0 was.0) was.1)
      | inr x ↦ not_read f x.0 x.2
    ]

    its : (f : ℕ) → has fs f ≡ true → (page_at (seen s) f).0 ≡ u
    its f e = h.just.its_pages f (page_at (seen s) f).0 (page_at (seen s) f).1
        (cc (taken_bound keeps f e, page_bound (seen s).words (page_at (seen s) f) ((seen s).reads f)))
        (keeps.book.going_owned.frames f ∙ e)

    -- no descriptor leads to it
    not_linked : (i n : ℕ) → (seen s).linked i n ≡ Some u → ⊥
    not_linked i n e = let at = linked_on s j (command.Delete path) keeps h i n e in
        not_both (h.just.descriptors i n u at.0 refl) at.1

    -- ---- before its table goes

    rest : LeavesRest (seen s) (all_gone s c j path)
    rest = chain_leaves (seen s) fs ds

    nodes_still : (flat (all_gone s c j path)).nodes ≡ s.store.accounts.nodes
    nodes_still = ap (λ (t : Store). t.nodes) ((λ i. store_after (rest i).plan ((segs_entries
        (gones (seen s) fs) ds ∙ ap (λ (es : List Entry). es ++ map cut_entry ds) (gones_entries (seen s) fs)) i))
        ∙ (all_still s.plan (s.entries ++ map gone_entry fs) (map cut_entry ds) (cuts_still ds)
        ∙ all_still s.plan s.entries (map gone_entry fs) (gone_all_still fs))) ∙ keeps.faithful.tree.nodes

    may : is_active s.store.ast u ≡ true → MayDeactivate (flat (all_gone s c j path)) (shown (all_gone s c j path)) u
    may active = record {
      active = cc (rest, active);
      inferiors = λ v on i. not_above s.store.accounts.nodes u v h.alone (cc (nodes_still, i));
      pages = λ f e. none_left (all_gone s c j path).words f ((λ i. uid_of_page (page_of
          (frame_use (all_gone s c j path).words
          (sym (ap (λ (x : ℕ → Option (ℕ × ℕ)). x f) (segs_bound (gones (seen s) fs) ds ∙ gones_bound (seen s) fs)) i)
          (sym (ap (λ (x : Seen). x.reads f) rest) i)))) ∙ e);
      descriptors = λ i n e. not_linked i n (led_now ((seen s).linked i n) u ((λ t. leads_to (descriptor_use
          (sym (ap (λ (x : Seen). x.linked i n) rest) t)
          (cut_uid (sym (cut_gone (gones (seen s) fs) ds (cut_stays (seen s) fs)) t) i n))) ∙ e));
    }

    -- ---- once it is deleted

    abbrev freed_store : Storage
    freed_store = with_pages s.store (erased (frames_freed s.store.pages fs) (home_in s.store u))

    -- it is active no more
    inactive_now : is_active (inactive_if freed_store u).ast u ≡ false
    inactive_now = cond_both (is_active s.store.ast u) (with_inactive freed_store u) freed_store
        (λ x. is_active x.ast u ≡ false) (λ e. active_less s.store.ast u e keeps.store.kept.tree.once
        keeps.store.kept.places u ∙ by_place (λ (x : Bool). x ≡ false) (λ x. is_active s.store.ast x) u false u
        (λ i. refl) (λ n. absurd (n refl))) (λ e. e)

    abbrev now : Seen
    now = seen (with_owner (effected s j (command.Delete path)) None)

    pages_now : (inactive_if freed_store u).pages ≡ freed_store.pages
    pages_now = cond_both (is_active s.store.ast u) (with_inactive freed_store u) freed_store
        (λ x. x.pages ≡ freed_store.pages) (λ e. refl) (λ e. refl)

    no_page_now : HasNoPage (shown now) u
    no_page_now f e = elim (page_cases now.words (freed (seen s).bound fs f) (freed (seen s).reads fs f)
        ((λ i. uid_of_page (page_of (frame_use now.words
        (sym (ap (λ (p : Plain). binding_at (bindings p.core) f) pages_now ∙ freed_bound s.store.pages fs within f) i)
        (sym (ap (λ (p : Plain). read_at (reads_of p.core) f) pages_now ∙ freed_reads s.store.pages fs within f) i))))
        ∙ e)) [
          | inl x ↦ (let was = freed_was (seen s).bound fs f x.1 in not_both (bound_taken f x.0 was.0) was.1)
          | inr x ↦ not_read f x.0 ((freed_was (seen s).reads fs f x.2).0)
        ]

    no_link_now : HasNoDescriptor (shown now) u
    no_link_now i n e = by (descriptor_of (inactive_if freed_store u).links i n) (led_now (now.linked i n) u e)
      where
        by : (x : Sdw) → led_to (inactive_if freed_store u).ast.entries x ≡ Some u → ⊥
        by sdw.Fault y = none_some y
        by (sdw.Present aste mode pages) y = not_both (active_at (inactive_if freed_store u).ast aste u y) inactive_now

    out : IsOut s c (command.Delete path)
    out = by (branch_at (flat_of s).nodes path) refl
      where
        by : (x : Result Node Reply) → branch_at (flat_of s).nodes path ≡ x
            → OfNode (λ n. IsOutOfUse (shown now) n.uid) x
        by (Err r) e = tt
        by (Ok n) e = subst (IsOutOfUse (shown now)) (path_uid path n keeps (branch_found (flat_of s).nodes path n e).0)
            (record { pages = no_page_now; descriptors = no_link_now; inactive = inactive_now })

    -- ---- where it isn't active

    no_frames_left : is_active s.store.ast u ≡ false → fs ≡ []
    no_frames_left off = none_listed fs (λ f e. (let at = keeps.store.kept.paged.bound f u (page_at (seen s) f).1
        (taken_bound keeps f e ∙ ap (λ (x : ℕ). Some (x, (page_at (seen s) f).1)) (its f e)) in
        not_both (active_at s.store.ast at.0 u at.1) off))

    no_cut_left : is_active s.store.ast u ≡ false → ds ≡ []
    no_cut_left off = none_cut ds (λ i n e. (let at = cut_led s j (command.Delete path) keeps h i n e in
        let same = h.just.its_descriptors i n at.0 at.1 at.2 in
        not_both (cc (cut_active s.store ds i n at.0 keeps.cut (cut_is ((seen s).linked i n) (cut_uid ds i n) at.0 at.1
        at.2))) off))
      where
        cut_is : (x y : Option ℕ) (v : ℕ) → leads_to (descriptor_use x y) ≡ Some v
            → is_going_descriptor (descriptor_use x y) ≡ true → y ≡ Some v
        cut_is None None v e i = cc
        cut_is None (Some z) v e i = e
        cut_is (Some z) y v e i = cc

    pub delete_rests : Rests s c (command.Delete path)
    delete_rests = record {
      settled = elim (cases_Bool (is_active s.store.ast u)) [
        | inl e ↦ inl (record { active = e; its = its; may = may e })
        | inr e ↦ inr (record { inactive = e; frames = no_frames_left e; cut = no_cut_left e })
      ];
      out = out;
    }
