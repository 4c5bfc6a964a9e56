-- What is known of a page of an active segment: its home, its page table, and whether the file map names it.
use Rattle.storage_ops.proofs.Prelude.{◌≡◌, ℕ, zero, suc, ◌+◌, ◌^◌, ◌<◌, ◌≤◌, Bool, true, false, cond, eqb, not, List, [], ◌∷◌, length, Option, Some, None, get_or, is_some, refl, sym, ap, ◌∙◌, arith, inl, inr, count_by, cases_Bool, cases_lt, get_or_past, sum_by-cons, Who, AccountMaps, count_of, Node, has_directory, node_in, pool_for, pool_of, has_segment, Ptw, Entry, ActiveSegs, IsActive, table_at, uid_in_place, Plain, is_filed_at, has_record, map_at, Links, place_of, table_of, word_of, IsKept, field_found, IsStore, home_of, is_there, pages_in, pages_of, Active_IsTree as IsTree}
use Rattle.storage_ops.proofs.Homes.{filed_map}
use Rattle.storage_ops.proofs.Lengths.{filed_there}
use Rattle.storage_ops.proofs.NodeLaws.{found_there}
use Rattle.storage_ops.proofs.Paged.{active_place, active_there, word_filed}

-- ---- the place in which a segment is active

pub place_told : (xs : List (Option Entry)) (uid place : ℕ) → IsTree xs → uid_in_place xs place ≡ Some uid
    → place_of xs uid ≡ place
place_told xs uid place tree at = tree.once (place_of xs uid) place uid (active_place xs uid (place, at)) at

-- a table that was found by its place
pub table_told : (ast found : ActiveSegs) (uid place : ℕ) (table : List Ptw) → found ≡ ast → IsTree ast.entries
    → uid_in_place found.entries place ≡ Some uid → table ≡ table_at found.tables place → table ≡ table_of ast uid
table_told ast found uid place table same tree at is =
    cc (is, same, place_told ast.entries uid place tree (rw same at at))

-- ---- what stands in a list

pub within_some : {X : Type 0} (xs : List (Option X)) (i : ℕ) → is_some (get_or xs i None) ≡ true → i < length xs
within_some {X} xs i on = elim (cases_lt i (length xs)) [
  | inl lt ↦ lt
  | inr past ↦ cc (ap is_some (get_or_past xs i None past))
]

pub count_some : {X : Type 0} (xs : List (Option X)) (i : ℕ) → is_some (get_or xs i None) ≡ true
    → 1 ≤ count_by is_some xs
count_some [] i on = cc
count_some {X} (None ∷ xs) zero on = cc
count_some {X} (Some x ∷ xs) zero on = (let first = sum_by-cons (λ (y : Option X). cond {A = ℕ} (is_some y) 1 0)
    (Some x) xs in omega arith)
count_some {X} (o ∷ xs) (suc i) on = (let first = sum_by-cons (λ (y : Option X). cond {A = ℕ} (is_some y) 1 0) o xs in
    omega (arith, count_some xs i on))

-- ---- nodes

pub segment_of : (ns : List Node) (u : ℕ) → is_there ns u ≡ true → has_directory ns u ≡ false → has_segment ns u ≡ true
segment_of [] u t d = cc
segment_of (n ∷ ns) u t d = elim (cases_Bool (eqb n.uid u)) [
  | inl is ↦ (rw is (ap not (rw is at d)))
  | inr isnt ↦ rw isnt (segment_of ns u (rw isnt at t) (rw isnt at d))
]

pub directory_found : (ns : List Node) (u : ℕ) (n : Node) → node_in ns u ≡ Some n → has_directory ns u ≡ n.directory
directory_found ns u n e = sym (field_found (λ ms. has_directory ms u) (λ x. x.directory) u (λ m ms. refl) ns n e)

-- the page tables of the pool for so many pages have as many words
pool_room : (pages : ℕ) → pages ≤ 256 → (pages ≤ 4 ^ (pool_for pages + 1)) × (pool_for pages < 4)
pool_room pages most = grind arith

pub room_of : (n : Node) → n.pages ≤ 256 → (n.directory ≡ true → n.pages ≡ 0)
    → (n.pages ≤ 4 ^ (pool_of n + 1)) × (pool_of n < 4)
room_of n most flat = by n.directory refl
  where
    by : (z : Bool) → n.directory ≡ z
        → (n.pages ≤ 4 ^ (cond z 0 (pool_for n.pages) + 1)) × (cond z 0 (pool_for n.pages) < 4)
    by true e = (let none = flat e in (omega arith, omega arith))
    by false e = pool_room n.pages most

-- ---- an active segment

module _ {now : Plain} {ast : ActiveSegs} {links : Links} {a : AccountMaps} {whos : List Who}
    (kept : IsKept now ast links) (h : IsStore now ast links a whos) {uid : ℕ} (active : IsActive ast.entries uid) where
  table_is : table_of ast uid ≡ table_at ast.tables active.0
  table_is = cc (place_told ast.entries uid active.0 kept.tree active.1)

  there : is_there a.nodes uid ≡ true
  there = active_there kept h active

  -- a page has a record exactly where its word says so
  pub filed_word : (p : ℕ) → is_filed_at now.vtocs (home_of a uid) p ≡ has_record (word_of ast uid p)
  filed_word p = sym (filed_there a now.vtocs uid p there) ∙ word_filed kept h active p

  -- a segment with a stored page is no directory, and has it counted
  module _ (p : ℕ) (on : has_record (word_of ast uid p) ≡ true) where
    pub page_within : p < pages_in a.nodes uid
    page_within = h.counted.inside uid p there (filed_word p ∙ on)

    pub page_segment : has_segment a.nodes uid ≡ true
    page_segment = segment_of a.nodes uid there (elim (cases_Bool (has_directory a.nodes uid)) [
      | inr off ↦ off
      | inl is ↦ (let none = h.counted.flat uid is in let lt = page_within in absurd (omega arith))
    ])

    pub page_counted : 1 ≤ count_of a uid
    page_counted = rw (← h.counted.counts uid there)
        (count_some (map_at now.vtocs (home_of a uid)) p (sym (filed_map now.vtocs (home_of a uid) p)
        ∙ filed_word p ∙ on))

  -- a page below the length is of a segment, and has a word in its page table
  module _ (p : ℕ) (lt : p < pages_in a.nodes uid) where
    pub node_segment : has_segment a.nodes uid ≡ true
    node_segment = grind (arith, segment_of, there)

    pub word_within : p < length (table_of ast uid)
    word_within =
        let found = found_there a.nodes uid there in
        let pages = ap pages_of found.1 in
        let room = room_of found.0 (rw pages at (h.counted.most uid))
        (λ d. sym pages ∙ h.counted.flat uid (directory_found a.nodes uid found.0 found.1 ∙ d)) in
        omega (
          arith,
          ap length table_is ∙ kept.sized (pool_of found.0) active.0 room.1
              (h.active.pools active.0 uid found.0 active.1 found.1),
        )
