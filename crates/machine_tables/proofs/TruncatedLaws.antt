-- A segment that is truncated, exactly.
use Rattle.machine_tables.proofs.Prelude.{◌≡◌, ◌≢◌, ◌<◌, ◌≤◌, ◌+◌, ◌-◌, ◌/◌, ◌%◌, ℕ, suc, zero, Bool, true, false, not, cond, eqb, length, map, List, [], ◌∷◌, Option, Some, None, inl, inr, refl, sym, ap, subst, ◌∙◌, arith, Result, Ok, Err, range_with_len, cases_eq, cases_lt, eq-eqb, le-ltb, lt-ltb, ne_eqb, get_or_past, Plan, Reply, Node, node_in, walk_in, PathFault, path_answer, HasColumns, count_of, look, node_at, segment_at, takes_effect, after_truncate, truncate_reply, Store, Free, bound_page, frame_at, is_bound, Ptw, Here, Leaving, Null, Segment, ActiveSegs, IsActive, Home, frame_in, number_in, plain, is_filed_at, frame_of, has_record, is_out, uid_in, IsTied, place_of, table_of, word_of, worded, IsKept, HasParts, CutsPages, IsTakenPast, IsTakenPastAt, KeepsRest, is_here, frame_left, CountsOthers, Paged, cut_at, cut_by, is_cleared, page_cleared, page_cut, paged, pages_cut, IsStore, Shows, Stored, answered, home_of, is_there, pages_in, segment_refuses, first_past, frame_entry, stays, with_effect, with_truncated, IsFaithful, is_active, OwnsFor, OwnsFrom, Storage, active_place, map_list, none_some, active_at, is_kept, left_entry, shown, IsCommittedBut, here_again, uid_found, found_uid, page_is, Command as command, or_right, eqb_self, Entry_Entry as Entry, Custody_has as has}
use Rattle.machine_tables.proofs.ColumnLaws.{columns_same, segments_same}
use Rattle.machine_tables.proofs.CommitLaws.{segment_node, segment_uid}
use Rattle.machine_tables.proofs.DeleteLaws.{IsNamed, page_drops}
use Rattle.machine_tables.proofs.DeletedLaws.{names, node_there}
use Rattle.machine_tables.proofs.OrderLaws.{IsAlone, IsNullFrom, again, cleared_same, cut_first, cut_gone, null_more, some_order}
use Rattle.machine_tables.proofs.RefusalLaws.{shows_of}
use Rattle.machine_tables.proofs.TakeLaws.{bound_parts}
use Rattle.machine_tables.proofs.TruncateLaws.{IsCuttable, KeepsOthers, even_told, odd_told, told_of, truncated_keeps}

-- ---- the page that is cut

-- The page that is cut isn't in use, nor on its record alone; the frame that it is on its way out of has no other page.
pub record IsLeaving (x : Paged) (uid p : ℕ) : Type 0 where
  pub away : is_here (word_of x.ast uid p) ≡ false
  pub inside : is_out (word_of x.ast uid p) ≡ false
  pub alone : (f : ℕ) → word_of x.ast uid p ≡ Leaving f → IsAlone x uid p f

-- a page that was cut, and comes back where it stays
cut_again : (x : Paged) (home : Home) (uid p at : ℕ) (w : Ptw) → word_of x.ast uid p ≡ w → is_here w ≡ false
    → is_out w ≡ false → again (cut_by x home uid p at w) uid p (word_of (cut_by x home uid p at w).ast uid p)
    ≡ cut_first x home uid p at w
cut_again x home uid p at Null word away inside = ap (again x uid p) word
cut_again x home uid p at (Leaving f) word away inside = by (is_cleared x at (Leaving f))
  where
    y : Paged
    y = page_cleared x at (Leaving f)

    gone : Paged
    gone = page_cut y home uid p (Leaving f)

    by : (b : Bool) → again (cond b gone y) uid p (word_of (cond b gone y).ast uid p)
        ≡ cond b gone (again y uid p (Leaving f))
    by true = rw (cut_gone y home uid p (Leaving f) word)
    by false = rw word
cut_again x home uid p at _ word away inside = cc

some_other : (x : Paged) (home : Home) (uid p from n : ℕ) → p < from → IsNamed x home uid
    → word_of (pages_cut x home uid (range_with_len from n)).ast uid p ≡ word_of x.ast uid p
some_other x home uid p from zero lt named = refl
some_other x home uid p from (suc n) lt named =
    let drops = page_drops x home uid from (word_of x.ast uid from) refl named in
    some_other (page_cut x home uid from (word_of x.ast uid from)) home uid p (from + 1) n (omega (arith, lt))
    drops.named ∙ drops.words p (λ e. (omega (arith, lt, e)))

-- how many of the pages that aren't stored are looked at
null_same : (x : Paged) (home : Home) (uid from n m : ℕ) → IsNamed x home uid → IsNullFrom x uid (from + n)
    → IsNullFrom x uid (from + m)
    → pages_cut x home uid (range_with_len from n) ≡ pages_cut x home uid (range_with_len from m)
null_same x home uid from n m named short long = elim (cases_lt n m) [
  | inl lt ↦ (let more : n + (m - n) ≡ m = omega (arith, lt) in
      sym (rw more at (null_more x home uid from n (m - n) named short)))
  | inr le ↦ (let more : m + (n - m) ≡ n = omega (arith, le) in
      rw more at (null_more x home uid from m (n - m) named long))
]

module _ (x : Paged) (home : Home) (uid size words : ℕ) (named : IsNamed x home uid)
    (null : IsNullFrom x uid size) where
  abbrev number : ℕ
  number = words / 1024

  abbrev at : ℕ
  at = words % 1024

  abbrev long : ℕ
  long = length (table_of x.ast uid)

  -- a page past all of them
  past_null : (from : ℕ) → IsNullFrom x uid (from + (size - from))
  past_null from = record { null = λ q le. null.null q (omega (arith, le)) }

  past_table : (from : ℕ) → IsNullFrom x uid (from + (long - from))
  past_table from = record { null = λ q le. get_or_past (table_of x.ast uid) q Null (omega (arith, le)) }

  all_past : (from : ℕ) → pages_cut x home uid (range_with_len from (size - from))
      ≡ pages_cut x home uid (range_with_len from (long - from))
  all_past from = null_same x home uid from (size - from) (long - from) named (past_null from) (past_table from)

  abbrev now : Paged
  now = cut_at x home uid size words

  abbrev past : Paged
  past = pages_cut x home uid (range_with_len (number + 1) (size - (number + 1)))

  -- the cut is at the first word of a page
  pub even_cut : at ≡ 0 → word_of now.ast uid number ≡ Null → again now uid number (word_of now.ast uid number)
      ≡ pages_cut x home uid (range_with_len (first_past words) (long - first_past words))
  even_cut even gone = grind (arith, eq-eqb, all_past)

  -- it is within a page
  pub odd_cut : at ≢ 0 → IsLeaving x uid number → again now uid number (word_of now.ast uid number)
      ≡ pages_cut (cut_first x home uid number at (word_of x.ast uid number)) home uid
      (range_with_len (first_past words) (long - first_past words))
  odd_cut odd leaving = rw (ne_eqb at 0 odd, stays, first)
      (cut_again past home uid number at (word_of x.ast uid number) stays leaving.away leaving.inside
      ∙ by (word_of x.ast uid number) refl)
    where
      first : first_past words ≡ number + 1
      first = omega (arith, odd)

      stays : word_of past.ast uid number ≡ word_of x.ast uid number
      stays = some_other x home uid number (number + 1) (size - (number + 1)) (omega arith) named

      by : (w : Ptw) → word_of x.ast uid number ≡ w → cut_first past home uid number at (word_of x.ast uid number)
          ≡ pages_cut (cut_first x home uid number at (word_of x.ast uid number)) home uid
          (range_with_len (number + 1) (long - (number + 1)))
      by Null e = rw e (all_past (number + 1))
      by (Leaving f) e = rw (e, all_past (number + 1))
          (sym (some_order x home uid number at f (number + 1) (long - (number + 1)) (omega arith) named
          (leaving.alone f e)))
      by _ e = absurd cc

-- ---- what the segment is like before

-- the frame of a page of an active segment is bound to it
pub leaving_bound : (st : Storage) (uid p f : ℕ) → IsKept st.pages st.ast st.links → is_active st.ast uid ≡ true
    → word_of st.ast uid p ≡ Leaving f → bound_page (frame_in st.pages f) ≡ Some (uid, p)
leaving_bound st uid p f kept active e = sym (map_list bound_page st.pages.core.frames f Free)
    ∙ (kept.paged.tables (place_of st.ast.entries uid) uid (active_place st.ast uid active).1).back f p (ap frame_of e)

-- a page that comes back
pub record ComesBack {D : Type 0} (t : Stored D) (uid p f : ℕ) : Type 0 where
  pub bound : is_bound (frame_at t.segs.pages.core f) ≡ true
  pub own : uid_in (frame_at t.segs.pages.core f) ≡ uid
  pub number : number_in (frame_at t.segs.pages.core f) ≡ p
  pub word : word_of t.segs.ast uid p ≡ Leaving f

pub comes_back : {D : Type 0} (drive : D → List (List ℕ)) (t : Stored D) (uid p f : ℕ)
    → IsKept (plain drive t.segs.pages) t.segs.ast t.segs.links → IsActive t.segs.ast.entries uid
    → Some f ≡ frame_left (word_of t.segs.ast uid p) → ComesBack t uid p f
comes_back drive t uid p f kept active left = by (word_of t.segs.ast uid p) refl left
  where
    by : (w : Ptw) → word_of t.segs.ast uid p ≡ w → Some f ≡ frame_left w → ComesBack t uid p f
    by (Leaving g) e i =
        let word : word_of t.segs.ast uid p ≡ Leaving f = cc in
        let parts = bound_parts (frame_at t.segs.pages.core f) uid p (leaving_bound (shown drive t) uid p f kept
        (active_at t.segs.ast active.0 uid active.1) word) in
        record { bound = parts.0; own = parts.1; number = parts.2; word = word }
    by _ e i = cc

pub back_is : (ast : ActiveSegs) (uid p q f : ℕ) (w : Ptw) → w ≡ Leaving f → q ≡ p
    → worded ast uid q (Here f) ≡ here_again ast uid p w
back_is ast uid p q f w is at = cc

module _ (st : Storage) (uid : ℕ) (kept : IsKept st.pages st.ast st.links)
    (counted : IsStore st.pages st.ast st.links st.accounts st.whos) (there : is_there st.accounts.nodes uid ≡ true)
    (active : is_active st.ast uid ≡ true) where
  abbrev home : Home
  home = home_of st.accounts uid

  tie : IsTied st.pages uid home (table_of st.ast uid)
  tie = kept.paged.ties (place_of st.ast.entries uid) uid home (active_place st.ast uid active).1 (record {
    used = counted.housed.homes uid there;
    only = λ other e. counted.housed.only other uid e;
  })

  pub alone_in : (p f : ℕ) → word_of st.ast uid p ≡ Leaving f → IsAlone (told_of st uid) uid p f
  alone_in p f e = record {
    word = e;
    others = λ q ne at. ne (page_is uid q uid p (sym (leaving_bound st uid q f kept active at)
        ∙ leaving_bound st uid p f kept active e)).1;
  }

  is_stored : (q : ℕ) → has_record (word_of st.ast uid q) ≡ true → is_filed_at st.pages.vtocs home q ≡ true
  unfolding is_filed_at
  is_stored q e = tie.map.stored q ∙ e

  pub null_past : IsNullFrom (told_of st uid) uid (pages_in st.accounts.nodes uid)
  null_past = record { null = λ q le. by q le (word_of st.ast uid q) refl }
    where
      not_stored : (q : ℕ) → pages_in st.accounts.nodes uid ≤ q → has_record (word_of st.ast uid q) ≢ true
      not_stored q le e = let lt = counted.counted.inside uid q there (is_stored q e) in omega (arith, le, lt)

      by : (q : ℕ) → pages_in st.accounts.nodes uid ≤ q → (w : Ptw) → word_of st.ast uid q ≡ w
          → word_of st.ast uid q ≡ Null
      by q h1 w h2 = grind (arith, not_stored)

  module _ (p : ℕ) (away : is_here (word_of st.ast uid p) ≡ false) (inside : is_out (word_of st.ast uid p) ≡ false)
    where
      pub leaving_in : IsLeaving (told_of st uid) uid p
      leaving_in = record { away = away; inside = inside; alone = λ f e. alone_in p f e }

      pub cuttable_in : IsCuttable st uid p (word_of st.ast uid p)
      cuttable_in = grind (arith, away, leaving_bound, active)

-- ---- the store

map_same : (g h : ℕ → Entry) (fs : List ℕ) → ((f : ℕ) → has fs f ≡ true → g f ≡ h f) → map g fs ≡ map h fs
map_same g h [] same = refl
map_same g h (f ∷ fs) same = cc (same f (rw (eqb_self f)), map_same g h fs (λ k is. same k (or_right (eqb f k) _ is)))

module _ {D : Type 0} (drive : D → List (List ℕ)) (t m u : Stored D) (n : Node) (words : ℕ)
    (before : HasColumns t.accounts) (after : HasColumns m.accounts)
    (kept : IsKept (plain drive t.segs.pages) t.segs.ast t.segs.links)
    (counted : IsStore (plain drive t.segs.pages) t.segs.ast t.segs.links t.accounts t.whos)
    (parts : HasParts (map drive t.segs.pages.volumes.drives) t.segs.pages.volumes.records t.segs.pages.volumes.vtocs)
    (there : is_there t.accounts.nodes n.uid ≡ true) (taken : IsTakenPast t.segs n.uid words)
    (pages : CutsPages t m n.uid words)
    (exact : paged drive m n.uid ≡ cut_at (paged drive t n.uid) (home_of t.accounts n.uid) n.uid
    (pages_in t.accounts.nodes n.uid) words) (others : CountsOthers t.accounts m.accounts n.uid) (back : u ≡ record m {
      segs = record m.segs {
        ast = here_again m.segs.ast n.uid (words / 1024) (word_of m.segs.ast n.uid (words / 1024));
      };
    }) where
  abbrev st : Storage
  st = shown drive t

  abbrev page : ℕ
  page = words / 1024

  abbrev offset : ℕ
  offset = words % 1024

  abbrev own_home : Home
  own_home = home_of t.accounts n.uid

  abbrev size : ℕ
  size = pages_in t.accounts.nodes n.uid

  abbrev x : Paged
  x = told_of st n.uid

  abbrev target : Storage
  target = with_truncated st n.uid words

  active : is_active st.ast n.uid ≡ true
  active = active_at st.ast taken.active.0 n.uid taken.active.1

  named : IsNamed x own_home n.uid
  named = names st n.uid kept counted parts there (count_of t.accounts n.uid) active

  null : IsNullFrom x n.uid size
  null = null_past st n.uid kept counted there active

  inside : offset ≢ 0 → is_out (word_of st.ast n.uid page) ≡ false
  inside odd = taken.cut (omega (arith, odd))

  away : is_here (word_of st.ast n.uid page) ≡ false
  away = taken.past.taken page (omega arith)

  even_gone : offset ≡ 0 → word_of m.segs.ast n.uid page ≡ Null
  even_gone even = pages.unstores.gone page (pages.past page (omega (arith, even)))

  keeps : KeepsOthers st target n.uid
  keeps = truncated_keeps st n.uid words (λ odd. cuttable_in st n.uid kept counted there active page away (inside odd))

  told : told_of target n.uid ≡ again (paged drive m n.uid) n.uid page (word_of m.segs.ast n.uid page)
  told = elim (cases_eq offset 0) [
    | inl even ↦ even_told st n.uid words even ∙ sym (even_cut x own_home n.uid size words named null even
        (ap (λ (y : Paged). word_of y.ast n.uid page) (sym exact) ∙ even_gone even))
    | inr odd ↦ odd_told st n.uid words odd (cuttable_in st n.uid kept counted there active page away (inside odd))
        ∙ sym (odd_cut x own_home n.uid size words named null odd
        (leaving_in st n.uid kept counted there active page away (inside odd)))
  ] ∙ ap (λ (y : Paged). again y n.uid page (word_of y.ast n.uid page)) (sym exact)

  segments : m.accounts.segments ≡ target.accounts.segments
  segments = segments_same t.accounts m.accounts before after pages.unstores.nodes ∙ sym keeps.segments

  counts : m.accounts.counts ≡ target.accounts.counts
  counts = columns_same t.accounts.segments m.accounts.counts target.accounts.counts before.rising
      (after.counted ∙ ap length same) (keeps.long ∙ before.counted)
      (λ s is. ap (λ (ks : List ℕ). look ks m.accounts.counts s) (sym same)
      ∙ (each s ∙ ap (λ (ks : List ℕ). look ks target.accounts.counts s) keeps.segments))
    where
      same : m.accounts.segments ≡ t.accounts.segments
      same = segments_same t.accounts m.accounts before after pages.unstores.nodes

      each : (s : ℕ) → count_of m.accounts s ≡ count_of target.accounts s
      each s = elim (cases_eq s n.uid) [
        | inl own ↦ rw own (sym (ap (λ (y : Paged). y.stored) told))
        | inr other ↦ others s other ∙ sym (keeps.counts s other)
      ]

  accounts : m.accounts ≡ target.accounts
  accounts = (λ i. record {
    nodes = (pages.unstores.nodes ∙ sym keeps.nodes) i;
    entries = (pages.unstores.entries ∙ sym keeps.entries) i;
    next = (pages.unstores.next ∙ sym keeps.next) i;
    segments = segments i;
    counts = counts i;
  })

  pub truncated_exact : shown drive u ≡ target
  truncated_exact = ap (shown drive) back ∙ (λ i. record {
    accounts = accounts i;
    pages = ap (λ (x : Paged). x.pages) (sym told) i;
    ast = ap (λ (x : Paged). x.ast) (sym told) i;
    links = (pages.unstores.links ∙ sym keeps.links) i;
    whos = (pages.unstores.whos ∙ sym keeps.whos) i;
    moving = (pages.unstores.moving ∙ sym keeps.moving) i;
  })

  -- ---- the frames that were taken

  cut_zeros : (f from k : ℕ) (y : Paged)
      → is_cleared (pages_cut y own_home n.uid (range_with_len from k)) offset (Leaving f)
      ≡ is_cleared y offset (Leaving f)
  cut_zeros f from zero y = refl
  cut_zeros f from (suc k) y = let w = word_of y.ast n.uid from in
      cc (cut_zeros f (from + 1) k (page_cut y own_home n.uid from w), cleared_same y own_home n.uid from offset f w)

  abbrev kept_frame : Option ℕ
  kept_frame = frame_left (word_of m.segs.ast n.uid page)

  -- the page that is cut
  odd_kept : (f : ℕ) → offset ≢ 0 → word_of st.ast n.uid page ≡ Leaving f
      → is_kept kept_frame f ≡ not (is_cleared x offset (Leaving f))
  odd_kept f odd word = ap (λ (y : Paged). is_kept (frame_left (word_of y.ast n.uid page)) f) exact
      ∙ rw (ne_eqb offset 0 odd, stays) (by (is_cleared past offset (Leaving f))
      ∙ ap not (cut_zeros f (page + 1) (size - (page + 1)) x))
    where
      past : Paged
      past = pages_cut x own_home n.uid (range_with_len (page + 1) (size - (page + 1)))

      stays : word_of past.ast n.uid page ≡ Leaving f
      stays = some_other x own_home n.uid page (page + 1) (size - (page + 1)) (omega arith) named ∙ word

      now : Paged
      now = page_cleared past offset (Leaving f)

      by : (b : Bool) → is_kept (frame_left (word_of (cond b (page_cut now own_home n.uid page (Leaving f)) now).ast
          n.uid page)) f ≡ not b
      by true = rw (cut_gone now own_home n.uid page (Leaving f) stays)
      by false = rw (stays, eqb_self f)

  -- a page past it
  past_gone : (f p : ℕ) → page < p → word_of st.ast n.uid p ≡ Leaving f → is_kept kept_frame f ≡ false
  past_gone f p lt word = by (word_of m.segs.ast n.uid page) refl (pages.test page) refl
    where
      by : (w : Ptw) → word_of m.segs.ast n.uid page ≡ w → (b : Bool) → pages.test page ≡ b
          → is_kept (frame_left w) f ≡ false
      by (Leaving g) e true i = cc (pages.unstores.gone page i)
      by (Leaving g) e false i = ne_eqb g f (λ same.
          (let was = leaving_bound st n.uid page g kept active (sym (pages.unstores.kept page i) ∙ e) in
          let its = leaving_bound st n.uid p f kept active word in
          let one = (page_is n.uid page n.uid p (sym was
          ∙ (ap (λ (k : ℕ). bound_page (frame_in st.pages k)) same ∙ its))).1 in omega (arith, lt, one)))
      by _ e b i = refl

  -- each is booked by whether its page stays
  each_kept : (frames : List ℕ) → OwnsFrom st n.uid page frames → (f : ℕ) → has frames f ≡ true
      → is_kept kept_frame f ≡ stays st words f
  each_kept frames owns f there_is = grind (arith, even_gone, le-ltb, odd_kept, lt-ltb, past_gone)

  pub truncated_left : (path : List (List ℕ)) (frames : List ℕ) → OwnsFrom st n.uid page frames
      → map (left_entry kept_frame) frames ≡ map (frame_entry st (command.Truncate path words)) frames
  truncated_left path frames owns = grind (arith, map_same, each_kept)

-- ---- the command

pub not_leaving : (w : Ptw) → ((f : ℕ) → w ≢ Leaving f) → None ≡ frame_left w
not_leaving w h1 = grind arith

found_node : (x : Result Node Reply) (uid : ℕ) → Some uid ≡ uid_found x → (n : Node) × (x ≡ Ok n) × (uid ≡ n.uid)
found_node (Ok n) uid e = (n, refl, cc)
found_node (Err r) uid e = cc

-- the segment that a walk leads to
walked_found : (ns : List Node) (path : List (List ℕ)) (uid : ℕ) (n : Node)
    → Ok uid ≡ path_answer (walk_in ns path) → node_in ns uid ≡ Some n
    → uid_found (segment_at ns path) ≡ cond n.directory None (Some uid)
unfolding node_at
walked_found ns path uid n to found = grind (arith, found_uid)

pub is_segment : (ns : List Node) (path : List (List ℕ)) (uid : ℕ) (n : Node)
    → Ok uid ≡ path_answer (walk_in ns path) → node_in ns uid ≡ Some n → n.directory ≡ false
    → Some uid ≡ uid_found (segment_at ns path)
is_segment ns path uid n to found kind = sym (rw kind at (walked_found ns path uid n to found))

pub is_directory : (ns : List Node) (path : List (List ℕ)) (uid : ℕ) (n : Node)
    → Ok uid ≡ path_answer (walk_in ns path) → node_in ns uid ≡ Some n → n.directory ≡ true
    → None ≡ uid_found (segment_at ns path)
is_directory ns path uid n to found kind = sym (rw kind at (walked_found ns path uid n to found))

pub is_nothing : (ns : List Node) (path : List (List ℕ)) (fault : PathFault)
    → Err fault ≡ path_answer (walk_in ns path) → None ≡ uid_found (segment_at ns path)
unfolding node_at
is_nothing ns path fault to = grind arith

module _ {D : Type 0} (drive : D → List (List ℕ)) (t m : Stored D) (path : List (List ℕ)) (words : ℕ) (r : Reply)
    (answer : (p : Plan) (s : Store) → Shows drive p s t → r ≡ truncate_reply s path)
    (effect : (p : Plan) (s : Store) → Shows drive p s t
    → Shows drive p (answered r s (after_truncate s path words)) m) (rest : KeepsRest t m) where
  abbrev old : Storage
  old = shown drive t

  -- where it takes effect, the path leads to a segment
  takes_at : (p : Plan) (flat : Store) → IsFaithful p flat old → takes_effect r ≡ true
      → (n : Node) × (segment_at t.accounts.nodes path ≡ Ok n)
  unfolding truncate_reply
  takes_at p flat faithful takes = by (segment_at flat.nodes path) refl
    where
      by : (x : Result Node Reply) → segment_at flat.nodes path ≡ x
          → (n : Node) × (segment_at t.accounts.nodes path ≡ Ok n)
      by (Err q) e = cc (answer p flat (shows_of drive p flat t faithful), segment_refuses flat.nodes path q e)
      by (Ok n) e = (n, ap (λ (ns : List Node). segment_at ns path) (sym faithful.tree.nodes) ∙ e)

  -- no segment is there
  pub truncate_refused : None ≡ uid_found (segment_at t.accounts.nodes path) → (k : ℕ) (frames : List ℕ)
      → IsCommittedBut drive t m k frames (command.Truncate path words) r None
  truncate_refused none k frames = record {
    committed = record {
      does = record { answer = answer; effect = effect };
      exact = λ p flat faithful takes. absurd (nowhere p flat faithful takes);
      drives = rest.drives;
    };
    left = λ p flat faithful takes. absurd (nowhere p flat faithful takes);
  }
    where
      nowhere : (p : Plan) (flat : Store) → IsFaithful p flat old → takes_effect r ≡ true → ⊥
      nowhere p flat faithful takes = let at = takes_at p flat faithful takes in
          none_some (none ∙ ap uid_found at.1)

  module _ (u : Stored D) (before : HasColumns t.accounts) (after : HasColumns m.accounts)
      (kept : IsKept (plain drive t.segs.pages) t.segs.ast t.segs.links)
      (counted : IsStore (plain drive t.segs.pages) t.segs.ast t.segs.links t.accounts t.whos)
      (parts : HasParts (map drive t.segs.pages.volumes.drives) t.segs.pages.volumes.records
      t.segs.pages.volumes.vtocs) (taken : IsTakenPastAt t.accounts t.segs path words)
      (pages : (n : Node) → segment_at t.accounts.nodes path ≡ Ok n → CutsPages t m n.uid words)
      (exact : (n : Node) → segment_at t.accounts.nodes path ≡ Ok n → paged drive m n.uid
      ≡ cut_at (paged drive t n.uid) (home_of t.accounts n.uid) n.uid (pages_in t.accounts.nodes n.uid) words)
      (others : (n : Node) → segment_at t.accounts.nodes path ≡ Ok n → CountsOthers t.accounts m.accounts n.uid)
      (uid : ℕ) (found : Some uid ≡ uid_found (segment_at t.accounts.nodes path)) where
    abbrev word : Ptw
    word = word_of m.segs.ast uid (words / 1024)

    its : (n : Node) × (segment_at t.accounts.nodes path ≡ Ok n) × (uid ≡ n.uid)
    its = found_node (segment_at t.accounts.nodes path) uid found

    -- the segment is active still
    pub still_active : IsActive m.segs.ast.entries uid
    still_active = subst (IsActive m.segs.ast.entries) (sym its.2)
        (subst (λ (es : List (Option Segment)). IsActive es its.0.uid) (sym (pages its.0 its.1).unstores.places)
        (taken its.0 its.1).active)

    module _ (back : u ≡ record m {
      segs = record m.segs {
        ast = here_again m.segs.ast uid (words / 1024) (word_of m.segs.ast uid (words / 1024));
      };
    }) (shown_still : (p : Plan) (s : Store) → Shows drive p s m → Shows drive p s u) where
      there : is_there t.accounts.nodes its.0.uid ≡ true
      there = node_there t.accounts.nodes path its.0 (segment_node t.accounts.nodes path its.0 its.1)

      back_at : u ≡ record m {
        segs = record m.segs {
          ast = here_again m.segs.ast its.0.uid (words / 1024) (word_of m.segs.ast its.0.uid (words / 1024));
        };
      }
      back_at = rw its.2 at back

      store_is : shown drive u ≡ with_truncated old its.0.uid words
      store_is = truncated_exact drive t m u its.0 words before after kept counted parts there (taken its.0 its.1)
          (pages its.0 its.1) (exact its.0 its.1) (others its.0 its.1) back_at

      frames_left : (frames : List ℕ) → OwnsFrom old its.0.uid (words / 1024) frames
          → map (left_entry (frame_left word)) frames ≡ map (frame_entry old (command.Truncate path words)) frames
      frames_left frames owns = rw its.2 (truncated_left drive t m u its.0 words before after kept counted parts there
          (taken its.0 its.1) (pages its.0 its.1) (exact its.0 its.1) (others its.0 its.1) back_at path frames owns)

      pub truncate_committed : (k : ℕ) (frames : List ℕ) → OwnsFor old frames (command.Truncate path words)
          → (o : Option ℕ) → o ≡ frame_left word → IsCommittedBut drive t u k frames (command.Truncate path words) r o
      truncate_committed k frames owns o is = record {
        committed = record {
          does = record {
            answer = answer;
            effect = λ p s shows. shown_still p (answered r s (after_truncate s path words)) (effect p s shows);
          };
          exact = λ p flat faithful takes. store_is
              ∙ ap (λ (v : ℕ). with_effect old k v frames (command.Truncate path words))
              (sym (segment_uid t.accounts.nodes path its.0 its.1));
          drives = ap (λ (x : Stored D). x.segs.pages.volumes.drives) back ∙ rest.drives;
        };
        left = λ p flat faithful takes. (rw is (frames_left frames (owns its.0 its.1)));
      }
