-- What a look that takes asks: what a tree command must have out of use, and what is taken of a segment.
use Rattle.machine_model.proofs.StepBasics.{◌≡◌, ◌<◌, ℕ, zero, suc, ◌+◌, Bool, true, false, ◌&&◌, cond, eqb, List, [], ◌∷◌, map, Some, inl, inr, refl, ap, ◌∙◌, arith, ◌/◌, filter, range_with_len, eqb_tells, Command, What, Sdw, leads, IsKnownAt, descriptors_taken, first_taken, frames_taken, what_taken, Outcome, seen, Keeps, descriptor_of, is_connected, or_zero, uid_of_command, uid_of_number, Says, shown, State, and-false, eqb_self, Command as command, What as what, Sdw as sdw, Aim as aim, Action as act, ◌≢◌, ◌++◌, length, get_or, set, Option, None, ◌⊎◌, sym, subst, slice_get, get_or-set_other, get_or-set_same, length-set, Mode, Who, access_of, Node, node_in, bound_page, Plain, frame_in, uid_at, Links, sdws_at, unlinked, HaveRights, who_at, store_after, Aim, CutDescriptor, after, cut_all, cut_one, leaving_if, note_of, take_all, take_one, took, AreThere, HadRights, IsFaithful, StoreKept, StoreSays, cut_of_owner, flat_of, is_active, Storage, Entry as entry, CanTakeAll, FindsTaken, IsIdle, idle_names, AsksTake, pages_bound, pages_taken, trailers_taken, ArePairs, CanTook, has_pair, is_pair, pairs_left, alike, alike_by, one_still, by_places, says_by, there_still, leaving_pages, descriptors_put, led_place, linked_within, active_at, take_linked}

-- ---- What a job has cut had the right mode and length, and the store says so of a job that takes pages and
-- descriptors.

-- ---- lists

push_cases : {A : Type 0} (xs : List A) (x : A) (i : ℕ) (y : A) → slice_get (xs ++ x ∷ []) i ≡ Some y
    → (slice_get xs i ≡ Some y) ⊎ (x ≡ y)
push_cases [] x zero y h = inr (cc)
push_cases [] x (suc i) y h = cc
push_cases (z ∷ zs) x zero y h = inl h
push_cases (z ∷ zs) x (suc i) y h = push_cases zs x i y h

-- what is remembered of a descriptor that leads to a segment is right
pub record IsRightNote (nodes : List Node) (whos : List Who) (d : CutDescriptor) : Type 0 where
  pub mode : (n : Node) → node_in nodes d.uid ≡ Some n → d.mode ≡ access_of (who_at whos d.process) n.rows
  pub pages : (n : Node) → node_in nodes d.uid ≡ Some n → d.pages ≡ n.pages

push_rights : {nodes : List Node} {whos : List Who} {ds : List CutDescriptor} (d : CutDescriptor)
    → HadRights nodes whos ds → IsRightNote nodes whos d → HadRights nodes whos (ds ++ d ∷ [])
push_rights {nodes} {whos} {ds} d h right = record {
  modes = λ i e n at there. elim (push_cases ds d i e at) [
    | inl old ↦ h.modes i e n old there
    | inr new ↦ (rw new at (right.mode n)) there
  ];
  lengths = λ i e n at there. elim (push_cases ds d i e at) [
    | inl old ↦ h.lengths i e n old there
    | inr new ↦ subst (λ (x : CutDescriptor). node_in nodes x.uid ≡ Some n → x.pages ≡ n.pages) new (right.pages n)
        there
  ];
}

abbrev IsThere : Storage → CutDescriptor → Type 0
IsThere st d = (d.process < length st.links.descriptors) × (d.number < length (sdws_at st.links.descriptors d.process))
    × (is_active st.ast d.uid ≡ true)

push_there : (st : Storage) (ds : List CutDescriptor) (d : CutDescriptor) → AreThere st ds → IsThere st d
    → AreThere st (ds ++ d ∷ [])
push_there st [] d h new = (new, tt)
push_there st (x ∷ xs) d h new = (h.0, push_there st xs d h.1 new)

-- ---- one descriptor is cut

inner_length : (xss : List (List Sdw)) (k n i : ℕ) (x : Sdw) → k < length xss
    → length (get_or (set xss k (set (get_or xss k []) n x)) i []) ≡ length (get_or xss i [])
inner_length xss k n i x within = elim (eqb_tells i k) [
  | inl e ↦ ap (λ (j : ℕ). length (get_or (set xss k (set (get_or xss k []) n x)) j [])) e.1
      ∙ (cc (get_or-set_same xss k (set (get_or xss k []) n x) [] within, length-set (get_or xss k []) n x))
  | inr m ↦ ap (λ (ys : List Sdw). length ys) (get_or-set_other xss k i (set (get_or xss k []) n x) [] m.1)
]

module _ (st : Storage) (k n aste pages : ℕ) (m : Mode) (here : descriptor_of st.links k n ≡ sdw.Present aste m pages)
  where
    some_there : descriptor_of st.links k n ≢ sdw.Fault
    some_there e = let no = sym here ∙ e in cc

    within : (k < length st.links.descriptors) × (n < length (sdws_at st.links.descriptors k))
    within = linked_within st.links k n some_there

    abbrev links : Links
    links = unlinked st.links k n (Some aste)

    -- what else leads somewhere did so before
    still_rights : (nodes : List Node) (whos : List Who) → HaveRights nodes st.ast.entries st.links whos
        → HaveRights nodes st.ast.entries links whos
    still_rights nodes whos h = record {
      modes = λ j i place p u mode x at. h.modes j i place p u mode x (was j i place p mode at);
      lengths = λ j i place p u mode x at. h.lengths j i place p u mode x (was j i place p mode at);
    }
      where
        was : (j i place p : ℕ) (mode : Mode) → descriptor_of links j i ≡ sdw.Present place mode p
            → descriptor_of st.links j i ≡ sdw.Present place mode p
        was j i place p mode at = by_places (λ (x : Sdw). x ≡ sdw.Present place mode p
            → descriptor_of st.links j i ≡ sdw.Present place mode p)
            (λ a b. descriptor_of st.links a b) k n sdw.Fault j i (λ a b e. cc) (λ o e. e)
            (sym (descriptors_put st.links links.trailers k n sdw.Fault within.0 within.1 j i) ∙ at)

    still_there : (ds : List CutDescriptor) → AreThere st ds → AreThere (record st { links = links }) ds
    still_there [] h = tt
    still_there (d ∷ ds) h = (
      (
        rw (length-set st.links.descriptors k _) h.0.0,
        rw (inner_length st.links.descriptors k n d.process sdw.Fault within.0) h.0.1,
        h.0.2,
      ),
      still_there ds h.1,
    )

-- the store half of a job that takes pages and descriptors
pub record Cuts (s : State) : Type 0 where
  pub have : HaveRights s.store.accounts.nodes s.store.ast.entries s.store.links s.store.whos
  pub had : HadRights s.store.accounts.nodes s.store.whos (cut_of_owner s.owner)
  pub cut : AreThere s.store (cut_of_owner s.owner)

-- the same once the descriptor of a number of a process is cut, which is this
record Parts (s : State) (k n : ℕ) (x : Sdw) : Type 0 where
  have : HaveRights s.store.accounts.nodes s.store.ast.entries (unlinked s.store.links k n (leads x)) s.store.whos
  had : HadRights s.store.accounts.nodes s.store.whos (cut_of_owner s.owner ++ note_of s.store k n x ∷ [])
  cut : AreThere (record s.store { links = unlinked s.store.links k n (leads x) })
      (cut_of_owner s.owner ++ note_of s.store k n x ∷ [])

module _ {s : State} (k n : ℕ) {u : ℕ} (cuts : Cuts s) (linked : (seen s).linked k n ≡ Some u) where
  parts : (x : Sdw) → descriptor_of s.store.links k n ≡ x → Parts s k n x
  parts sdw.Fault e = absurd (led_place s k n linked e)
  parts (sdw.Present aste m pages) e = record {
    have = still_rights s.store k n aste pages m e s.store.accounts.nodes s.store.whos cuts.have;
    had = push_rights note cuts.had (record {
      mode = λ x at. cuts.have.modes k n aste pages u m x e leads_there (its x at);
      pages = λ x at. cuts.have.lengths k n aste pages u m x e leads_there (its x at);
    });
    cut = push_there (record s.store { links = unlinked s.store.links k n (Some aste) }) (cut_of_owner s.owner) note
        (still_there s.store k n aste pages m e (cut_of_owner s.owner) cuts.cut) (
          rw (length-set s.store.links.descriptors k _) there.0,
          rw (inner_length s.store.links.descriptors k n k sdw.Fault there.0) there.1,
          cc (active_at s.store.ast aste u leads_there),
        );
  }
    where
      note : CutDescriptor
      note = note_of s.store k n (sdw.Present aste m pages)

      there : (k < length s.store.links.descriptors) × (n < length (sdws_at s.store.links.descriptors k))
      there = within s.store k n aste pages m e

      leads_there : uid_at s.store.ast.entries aste ≡ Some u
      leads_there = cc

      its : (x : Node) → node_in s.store.accounts.nodes note.uid ≡ Some x → node_in s.store.accounts.nodes u ≡ Some x
      its x at = ap (node_in s.store.accounts.nodes) (sym (ap or_zero leads_there)) ∙ at

  one_cut : (c : ℕ) (a : Aim) (w : What) → Cuts (cut_one s c a w (k, n))
  one_cut c a w = let p = parts (descriptor_of s.store.links k n) refl in assumption

-- ---- and some

pub all_cut : (s : State) (c : ℕ) (a : Aim) (w : What) (pairs : List (ℕ × ℕ)) → Cuts s
    → ArePairs (seen s).linked w pairs → Cuts (cut_all s c a w pairs)
all_cut s c a w [] cuts are = cuts
all_cut s c a w (x ∷ xs) cuts are = all_cut (cut_one s c a w x) c a w xs (one_cut x.0 x.1 cuts are.0.1 c a w)
    (pairs_left s c a w x xs are)

-- what a job that takes leaves as it is
record IsTaken (s now : State) : Type 0 where
  plan : now.plan ≡ s.plan
  pages : now.store.pages ≡ s.store.pages
  flat : store_after now.plan now.entries ≡ store_after s.plan s.entries

taken_on : {s t u : State} → IsTaken s t → IsTaken t u → IsTaken s u
taken_on a b = assumption (b.plan ∙ a.plan, b.pages ∙ a.pages, b.flat ∙ a.flat)

cut_taken : (s : State) (c : ℕ) (a : Aim) (w : What) (pairs : List (ℕ × ℕ)) → IsTaken s (cut_all s c a w pairs)
cut_taken s c a w [] = assumption
cut_taken s c a w (x ∷ xs) = taken_on (assumption (one_still s.plan s.entries (entry.Cut x.0 x.1) refl))
    (cut_taken (cut_one s c a w x) c a w xs)

page_taken : (s : State) (c : ℕ) (a : Aim) (w : What) (fs : List ℕ) → IsTaken s (take_all s c a w fs)
page_taken s c a w [] = assumption
page_taken s c a w (f ∷ fs) = taken_on (assumption (
  leaving_pages s.store f (bound_page (frame_in s.store.pages f)),
  one_still s.plan s.entries (entry.Take f) refl,
)) (page_taken (take_one s c a w f) c a w fs)

-- pages leave the tree, the descriptors and the places as they are
leaving_cuts : {s : State} (now : State) (f : ℕ) (x : Option (ℕ × ℕ)) → now.store ≡ leaving_if s.store f x
    → cut_of_owner now.owner ≡ cut_of_owner s.owner → (seen now).linked ≡ (seen s).linked → Cuts s → Cuts now
leaving_cuts {s} now f x store cut linked cuts = record {
  have = rw store (by_have x);
  had = rw store (rw cut (by_had x));
  cut = rw store (rw cut (by_cut x));
}
  where
    by_have : (y : Option (ℕ × ℕ)) → HaveRights (leaving_if s.store f y).accounts.nodes
        (leaving_if s.store f y).ast.entries (leaving_if s.store f y).links (leaving_if s.store f y).whos
    by_have None = cuts.have
    by_have (Some page) = cuts.have

    by_had : (y : Option (ℕ × ℕ)) → HadRights (leaving_if s.store f y).accounts.nodes (leaving_if s.store f y).whos
        (cut_of_owner s.owner)
    by_had None = cuts.had
    by_had (Some page) = cuts.had

    by_cut : (y : Option (ℕ × ℕ)) → AreThere (leaving_if s.store f y) (cut_of_owner s.owner)
    by_cut None = cuts.cut
    by_cut (Some page) = there_still s.store (leaving_if s.store f (Some page)) (cut_of_owner s.owner) refl
        (λ u h. h) cuts.cut

take_cuts : (s : State) (c : ℕ) (a : Aim) (w : What) (fs : List ℕ) → Cuts s → Cuts (take_all s c a w fs)
take_cuts s c a w [] cuts = cuts
take_cuts s c a w (f ∷ fs) cuts = take_cuts (take_one s c a w f) c a w fs (leaving_cuts (take_one s c a w f) f
    (bound_page (frame_in s.store.pages f)) refl refl (take_linked s c a w (f ∷ [])) cuts)

-- ---- the store says so

module _ {s : State} (c : ℕ) (a : Aim) (w : What) (fs : List ℕ) (pairs : List (ℕ × ℕ)) (k : Keeps s)
    (are : ArePairs (seen s).linked w pairs) where
  abbrev after_take : State
  after_take = took s c a w fs pairs

  took_cuts : Cuts after_take
  took_cuts = all_cut (take_all s c a w fs) c a w pairs (take_cuts s c a w fs (assumption))
      (rw (take_linked s c a w fs) are)

  took_is : IsTaken s after_take
  took_is = taken_on (page_taken s c a w fs) (cut_taken (take_all s c a w fs) c a w pairs)

  pub took_says : StoreKept after_take.store → IsFaithful s.plan (flat_of s) after_take.store → StoreSays after_take
  took_says kept shown = says_by after_take k kept shown
      (alike_by (alike (flat_of s)) took_is.flat) k.conserved.total (assumption
      (ap (λ (pages : Plain). length pages.core.frames) took_is.pages, took_is.plan, took_cuts.had, took_cuts.cut))

  pub take_away_says : {o : Outcome} → a ≡ aim.Committing → Says s c o (act.TakeAway fs pairs w) → StoreSays after_take
  unfolding after
  take_away_says same says = took_says (rw same says.store) (rw same (says.shown (flat_of s) k.faithful))

module _ (s : State) (k : ℕ) (keeps : Keeps s) (idle : IsIdle s.owner) where
  -- where no page is taken
  pub no_pages : (w : What) → CanTakeAll (seen s) aim.Committing w []
  no_pages w = record {
    here = λ f h. cc;
    once = tt;
    named = λ f h. cc;
    others = idle_names w keeps.book.going_owned idle.frames idle.cut;
    still = idle.waits;
    aimed = λ gs ds. tt;
  }

  -- a job that takes nothing may take it
  pub takes_none : (w : What) → CanTook s aim.Committing w [] []
  takes_none w = record { pages = no_pages w; bound = λ f h. cc; pairs_are = tt }

  -- a descriptor that is connected leads to a segment
  connected_leads : (n : ℕ) → is_connected (descriptor_of s.store.links k n) ≡ true
      → (u : ℕ) × ((seen s).linked k n ≡ Some u) × (uid_of_number s.store k n ≡ u)
  connected_leads n h = by (descriptor_of s.store.links k n) refl h
    where
      by : (x : Sdw) → descriptor_of s.store.links k n ≡ x → is_connected x ≡ true
          → (u : ℕ) × ((seen s).linked k n ≡ Some u) × (uid_of_number s.store k n ≡ u)
      by sdw.Fault e i = cc
      by (sdw.Present aste m pages) e i = (at.uid, cc (e, at.active), ap or_zero at.known_as)
        where
          at : IsKnownAt s.store.ast.entries s.store.links.known k n aste
          at = keeps.store.kept.linked.known k n aste (ap leads e)

  -- the descriptor of a number, if it is connected
  one_taken : (n : ℕ) (b : Bool) → is_connected (descriptor_of s.store.links k n) ≡ b
      → ArePairs (seen s).linked (what.Seg (uid_of_number s.store k n)) (cond b ((k, n) ∷ []) [])
  one_taken n false e = tt
  one_taken n true e = let leads_there = connected_leads n e in (
    (leads_there.0, leads_there.1, cc (eqb_self leads_there.0)),
    refl,
    tt,
  )

  -- all descriptors of the process that are connected
  later_none : (from n j : ℕ) → j < from → has_pair (map (λ i. (k, i)) (filter (λ i.
      is_connected (descriptor_of s.store.links k i)) (range_with_len from n))) k j ≡ false
  later_none from zero j less = refl
  later_none from (suc n) j less = by (is_connected (descriptor_of s.store.links k from))
      (later_none (from + 1) n j (omega arith))
    where
      rest : List (ℕ × ℕ)
      rest = map (λ i. (k, i)) (filter (λ i. is_connected (descriptor_of s.store.links k i)) (range_with_len
          (from + 1) n))

      other : is_pair k j (k, from) ≡ false
      other = elim (eqb_tells from j) [
        | inl e ↦ (let same = e.1 in absurd (omega arith))
        | inr m ↦ ap (λ (b : Bool). eqb k k && b) m.0 ∙ and-false (eqb k k)
      ]

      by : (b : Bool) → has_pair (map (λ i. (k, i)) (filter (λ i. is_connected (descriptor_of s.store.links k i))
          (range_with_len (from + 1) n))) k j ≡ false
          → has_pair (map (λ i. (k, i)) (cond b (from ∷ filter (λ i. is_connected (descriptor_of s.store.links k i))
          (range_with_len (from + 1) n)) (filter (λ i. is_connected (descriptor_of s.store.links k i))
          (range_with_len (from + 1) n)))) k j ≡ false
      by true h = cc (other, h)
      by false h = h

  all_taken : (from n : ℕ) → ArePairs (seen s).linked what.All (map (λ i. (k, i)) (filter (λ i.
      is_connected (descriptor_of s.store.links k i)) (range_with_len from n)))
  all_taken from zero = tt
  all_taken from (suc n) = by (is_connected (descriptor_of s.store.links k from)) refl (all_taken (from + 1) n)
    where
      by : (b : Bool) → is_connected (descriptor_of s.store.links k from) ≡ b
          → ArePairs (seen s).linked what.All (map (λ i. (k, i)) (filter (λ i.
          is_connected (descriptor_of s.store.links k i)) (range_with_len (from + 1) n)))
          → ArePairs (seen s).linked what.All (map (λ i. (k, i)) (cond b (from ∷ filter (λ i.
          is_connected (descriptor_of s.store.links k i)) (range_with_len (from + 1) n)) (filter (λ i.
          is_connected (descriptor_of s.store.links k i)) (range_with_len (from + 1) n))))
      by true e rest = let leads_there = connected_leads from e in
          ((leads_there.0, leads_there.1, refl), later_none (from + 1) n from (omega arith), rest)
      by false e rest = rest

  -- what a command takes
  command_takes : (cmd : Command) → CanTook s aim.Committing (what_taken (uid_of_command s.store k cmd) cmd)
      (frames_taken s.store (uid_of_command s.store k cmd) (first_taken cmd))
      (descriptors_taken s.store k (uid_of_command s.store k cmd) cmd)
  command_takes (command.Acl path row m) = let u = uid_of_command s.store k (command.Acl path row m) in record {
    pages = no_pages (what.Seg u);
    bound = λ f h. cc;
    pairs_are = trailers_taken s (what.Seg u) u keeps (eqb_self u);
  }
  command_takes (command.Delete path) = let u = uid_of_command s.store k (command.Delete path) in record {
    pages = pages_taken aim.Committing (what.Seg u) u 0 keeps idle (eqb_self u) (λ gs ds. tt);
    bound = pages_bound u 0 keeps;
    pairs_are = trailers_taken s (what.Seg u) u keeps (eqb_self u);
  }
  command_takes (command.Truncate path words) = let u = uid_of_command s.store k
      (command.Truncate path words) in record {
        pages = pages_taken aim.Committing (what.Seg u) u (words / 1024) keeps idle (eqb_self u) (λ gs ds. tt);
        bound = pages_bound u (words / 1024) keeps;
        pairs_are = tt;
      }
  command_takes (command.Terminate n) = record {
    pages = no_pages (what.Seg (uid_of_number s.store k n));
    bound = λ f h. cc;
    pairs_are = one_taken n (is_connected (descriptor_of s.store.links k n)) refl;
  }
  command_takes command.End = record { pages = no_pages what.All; bound = λ f h. cc; pairs_are = all_taken 0 256 }
  command_takes cmd = takes_none (what.Seg (uid_of_command s.store k cmd))

  -- A tree command may take what it must have out of use.
  pub take_asks : (c : ℕ) (o : Outcome) (cmd : Command) (w : What) (fs : List ℕ) (pairs : List (ℕ × ℕ))
      → FindsTaken s k cmd fs pairs → w ≡ what_taken (uid_of_command s.store k cmd) cmd
      → Says s c o (act.TakeAway fs pairs w) → AsksTake s c w fs pairs
  take_asks c o cmd w fs pairs finds named says = assumption (
    can,
    take_away_says c aim.Committing w fs pairs keeps can.pairs_are refl says,
  )
    where
      can : CanTook s aim.Committing w fs pairs
      can = rw named (rw (finds.frames, finds.descriptors) (command_takes cmd))
