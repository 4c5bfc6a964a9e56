-- The move of a segment is committed.
pub use Rattle.seg_control.proofs.Prelude.{ActiveSegs, ArePaged, Bool, HasTable, Home, IsCopied, IsHomeOf, IsKeptAtRest, IsMoving, IsOutAt, IsTableOf, IsTied, KeepsTies, Links, List, Mover, None, Null, Option, Out, Paging, Plain, Ptw, Some, Vols, [], all_modified, ap, arith, at_rest, bindings, cases_eq, cases_lt, cond, count_by, entry_at, false, first_out, get_or, get_or-set_other, given_back, home_at, inl, inr, is_filed_at, is_out, is_some, is_stored, length, map_at, named_here, named_on, next_out, none-some, plain, ptw_at, reads_of, refl, rehomed_word, rules, same_Some, set, suc, sym, table_at, table_of, taken, true, uid_at, uid_homed, uid_in, used, volumes_of, with_table, with_volumes, words_at, zero, ℕ, ◌+◌, ◌-◌, ◌<◌, ◌∙◌, ◌≡◌, ◌≢◌, ◌≤◌}
use Rattle.vtoc.specs.Vtoc.{uid_of}
use Rattle.seg_control.proofs.Totals.{AreAside, IsAside, count_same, filed_less, home_adds, map_same, named_elsewhere, not_free, taken_given, tie_less, tie_more, uid_same, used_given, words_same}
pub use Rattle.seg_control.proofs.Copying.{aside_of, each_set, is_moving, kept_moving, kept_table, tie_here}

-- ---- all is copied

-- no page of so many is on its record alone, where none is found
none_out : (t : List Ptw) (count n : ℕ) → first_out t count n ≡ None → (p : ℕ) → n ≤ p → p < n + count
    → is_out (ptw_at t p) ≡ false
unfolding first_out
none_out t zero n none p le lt = absurd (omega arith)
none_out t (suc count) n none p le lt =
    by_word (is_out (ptw_at t n)) refl none (λ rest less. none_out t count (n + 1) rest p less (omega arith))
  where
    by_word : (b : Bool) → is_out (ptw_at t n) ≡ b → cond b (Some n) (first_out t count (n + 1)) ≡ None
        → (first_out t count (n + 1) ≡ None → n + 1 ≤ p → is_out (ptw_at t p) ≡ false) → is_out (ptw_at t p) ≡ false
    by_word true is found go = cc
    by_word false is found go = elim (cases_eq p n) [
      | inl same ↦ rw same is
      | inr other ↦ go found (omega arith)
    ]

pub all_copied : {s : Plain} {t : List Ptw} {from to : Home} {n : ℕ} → length t ≤ 256 → next_out t n ≡ None
    → IsCopied s t from to n → IsCopied s t from to (length t)
all_copied {s} {t} {from} {to} {n} few none copied = record {
  words = λ p r lt out. elim (cases_lt p n) [
    | inl before ↦ copied.words p r before out
    | inr past ↦ absurd (let off = none_out t (256 - n) n none p past (omega arith) in
        let on : is_out (ptw_at t p) ≡ true = ap is_out out in cc)
  ];
}

-- ---- the call

-- What was called for, and what its two steps left: the segment has its new home, and the old one is given up.
pub record Commits {D : Type 0} (pages : D → List (List ℕ)) (old mid : Paging D) (vols : Vols D) (ast : ActiveSegs)
    (links : Links) (m : Mover) (place : ℕ) (u : List Ptw) : Type 0 where
  pub kept : IsKeptAtRest pages old ast links (Some m)
  pub done : next_out (table_of ast m.uid) m.next ≡ None
  pub at : uid_at ast.entries place ≡ Some m.uid
  pub within : place < length ast.entries
  pub here : table_at ast.tables place ≡ table_of ast m.uid
  pub effect : mid ≡ record old { core = all_modified old.core m.uid }
  pub size : length u ≡ length (table_of ast m.uid)
  pub outs : (p : ℕ) → is_out (ptw_at u p) ≡ is_out (ptw_at (table_of ast m.uid) p)
  pub table : IsTableOf (bindings mid.core) m.uid u
  pub tie : (from : Home) → IsTied (plain pages old) m.uid from (table_of ast m.uid)
      → IsCopied (plain pages old) (table_of ast m.uid) from (home_at m.to) (length (table_of ast m.uid))
      → IsTied (plain pages mid) m.uid (home_at m.to) u
  pub moved : (from : Home) (p : ℕ) → IsTied (plain pages old) m.uid from (table_of ast m.uid)
      → IsCopied (plain pages old) (table_of ast m.uid) from (home_at m.to) (length (table_of ast m.uid))
      → words_at (plain pages mid) m.uid (home_at m.to) p ≡ words_at (plain pages old) m.uid from p
  pub words : words_at (plain pages mid) ≡ words_at (plain pages old)
  pub ties : KeepsTies (plain pages old) (plain pages mid)
  pub bound : bindings mid.core ≡ bindings old.core
  pub reads : reads_of mid.core ≡ reads_of old.core
  pub given : vols ≡ given_back mid.volumes m.from

module _ {D : Type 0} {pages : D → List (List ℕ)} {old mid : Paging D} {vols : Vols D} {ast : ActiveSegs}
    {links : Links} {m : Mover} {place : ℕ} {u : List Ptw} (c : Commits pages old mid vols ast links m place u) where
  abbrev rest : Plain
  rest = plain pages (at_rest old (Some m))

  abbrev new : Plain
  new = plain pages (with_volumes mid vols)

  abbrev t : List Ptw
  t = table_of ast m.uid

  moving : IsMoving (volumes_of (plain pages old)) m
  moving = c.kept.way.moving

  pub apart : home_at m.from ≢ home_at m.to
  apart same = moving.other (ap (λ (home : Home). home.volume) same)

  -- ---- volumes

  vols_same : mid.volumes ≡ old.volumes
  vols_same = rw c.effect

  given_old : vols ≡ given_back old.volumes m.from
  given_old = cc

  -- at rest the new home was aside
  pub was_aside : IsAside rest (plain pages old) (home_at m.to)
  was_aside = aside_of c.kept

  -- and the old one is now
  old_aside : AreAside (given_back old.volumes m.from).records old.volumes.records
      (given_back old.volumes m.from).vtocs old.volumes.vtocs (home_at m.from)
  old_aside =
      let adds = home_adds (volumes_of (plain pages old)) m.from m.uid moving.old_used moving.old_kept in
      assumption (filed_less adds was_aside.tables.more_filed, was_aside.tables.more_filed)

  pub is_aside : IsAside new (plain pages mid) (home_at m.from)
  is_aside = record {
    core = refl;
    frames = refl;
    disks = rw (given_old, vols_same);
    tables = rw (given_old, vols_same) old_aside;
  }

  -- ---- homes

  pub new_free : uid_homed rest.vtocs (home_at m.to) ≡ None
  new_free = ap uid_of was_aside.tables.adds.free

  pub to_used : uid_homed vols.vtocs (home_at m.to) ≡ Some m.uid
  to_used = rw (← uid_same is_aside (home_at m.to) (λ same. apart (sym same)), vols_same) moving.new_used

  pub uid_new : (other : Home) → other ≢ home_at m.from → other ≢ home_at m.to
      → uid_homed vols.vtocs other ≡ uid_homed rest.vtocs other
  uid_new other from to = rw (← uid_same is_aside other from, vols_same) (uid_same was_aside other to)

  pub map_new : (other : Home) → other ≢ home_at m.from → other ≢ home_at m.to
      → map_at vols.vtocs other ≡ map_at rest.vtocs other
  map_new other from to = rw (← map_same is_aside other from, vols_same) (map_same was_aside other to)

  -- a home of another segment is neither the old one nor the new one
  not_from : (uid : ℕ) (home : Home) → uid_homed vols.vtocs home ≡ Some uid → home ≢ home_at m.from
  not_from uid home used = not_free is_aside home uid used

  not_to : (uid : ℕ) (home : Home) → uid ≢ m.uid → uid_homed vols.vtocs home ≡ Some uid → home ≢ home_at m.to
  not_to uid home ne used same = ne (same_Some _ _ (sym used ∙ rw same to_used))

  home_back : {uid : ℕ} {home : Home} → uid ≢ m.uid → IsHomeOf vols.vtocs uid home → IsHomeOf rest.vtocs uid home
  home_back {uid} {home} ne is = record {
    used = cc (uid_new home (not_from uid home is.used) (not_to uid home ne is.used));
    only = λ other used. is.only other (uid_new other (λ same. ne
        (same_Some _ _ (sym used ∙ rw same c.kept.way.home.used))) (not_free was_aside other uid used) ∙ used);
  }

  -- ---- ties

  tie_old : IsTied (plain pages old) m.uid (home_at m.from) t
  tie_old = tie_here c.kept

  copied : IsCopied (plain pages old) t (home_at m.from) (home_at m.to) (length t)
  copied = all_copied tie_old.pages c.done c.kept.way.copied

  tie_new : IsTied new m.uid (home_at m.to) u
  tie_new = tie_less is_aside (λ same. apart (sym same)) (c.tie (home_at m.from) tie_old copied)

  tie_other : {uid : ℕ} {home : Home} {table : List Ptw} → uid_homed vols.vtocs home ≡ Some uid
      → IsTied rest uid home table → IsTied new uid home table
  tie_other {uid} {home} {table} used tie =
      tie_less is_aside (not_from uid home used) (c.ties.ties uid home table (tie_more was_aside tie))

  -- ---- what is kept

  other_uid : (q v : ℕ) → uid_at ast.entries q ≡ Some v → q ≢ place → v ≢ m.uid
  other_uid q v e ne same = ne (c.kept.kept.tree.once q place m.uid (rw same at e) c.at)

  paged : place < length ast.tables → ArePaged new ast.entries (set ast.tables place u)
  paged lt =
      let k = c.kept.kept.paged in
      let its : (v : ℕ) → uid_at ast.entries place ≡ Some v → v ≡ m.uid = λ v e. same_Some _ _ (cc) in
      record {
        tables = λ q v e. each_set ast.tables u [] (λ n those. uid_at ast.entries n ≡ Some v → IsTableOf
            (bindings mid.core) v those) lt (λ at. rw (its v at) c.table) (λ n ne. rw c.bound (k.tables n v)) q e;
        ties = λ q v home e is. each_set ast.tables u [] (λ n those. uid_at ast.entries n ≡ Some v
            → IsTied new v home those) lt (λ at. rw (its v at, ← is.only (home_at m.to) (rw (its v at) to_used))
            tie_new) (λ n ne at. tie_other is.used (k.ties n v home at (home_back (other_uid n v at ne) is))) q e;
        rest = λ v home off is. (let ne : v ≢ m.uid = λ same. off.nowhere place (rw same c.at) in
            let was : HasTable rest v home = k.rest v home off (home_back ne is) in
            record { table = was.table; tie = tie_other is.used was.tie });
        blank = λ q n e. each_set ast.tables u [] (λ p those. entry_at ast.entries p ≡ None → ptw_at those n ≡ Null) lt
            (λ none. absurd (none-some m.uid (sym (ap uid_in none) ∙ c.at))) (λ p ne. k.blank p n) q e;
        bound = rw c.bound k.bound;
        started = λ f v p e. (let was : IsOutAt ast.entries ast.tables v p = k.started f v p (rw c.reads at e) in
            record {
              place = was.place;
              active = was.active;
              out = each_set ast.tables u [] (λ n those. is_out (ptw_at (table_at ast.tables n) p) ≡ true → is_out
                  (ptw_at those p) ≡ true) lt (λ yes. c.outs p ∙ rw c.here at yes) (λ n ne yes. yes) was.place was.out;
            });
        once = rw c.reads k.once;
        filed = is_aside.tables.less_filed;
      }

  pub kept_committed : IsKeptAtRest pages (with_volumes mid vols) (with_table ast place u) links None
  kept_committed = assumption (kept_table place u c.kept.kept c.within (c.size ∙ ap length (sym c.here)) paged)

  -- ---- the picture

  pub words_moved : (p : ℕ) → words_at new m.uid (home_at m.to) p ≡ words_at rest m.uid (home_at m.from) p
  words_moved p = sym (words_same is_aside m.uid (home_at m.to) p (λ same. apart (sym same)))
      ∙ c.moved (home_at m.from) p tie_old copied ∙ words_same was_aside m.uid (home_at m.from) p apart

  pub words_others : (uid : ℕ) (other : Home) (p : ℕ) → other ≢ home_at m.from → other ≢ home_at m.to
      → words_at new uid other p ≡ words_at rest uid other p
  words_others uid other p from to = cc (words_same is_aside uid other p from, words_same was_aside uid other p to)

  -- ---- what is stored, and how much

  map_to : map_at vols.vtocs (home_at m.to) ≡ map_at old.volumes.vtocs (home_at m.to)
  map_to = rw (← map_same is_aside (home_at m.to) (λ same. apart (sym same)), vols_same)

  map_from : map_at old.volumes.vtocs (home_at m.from) ≡ map_at rest.vtocs (home_at m.from)
  map_from = map_same was_aside (home_at m.from) apart

  -- the new file map names the pages that the old one named
  names_same : (p : ℕ) → is_some (get_or (map_at vols.vtocs (home_at m.to)) p None)
      ≡ is_some (get_or (map_at rest.vtocs (home_at m.from)) p None)
  names_same p = rw (map_to, ← map_from) (moving.same p)

  pub stored_moved : (p : ℕ) → is_stored new (home_at m.to) p ≡ is_stored rest (home_at m.from) p
  unfolding is_filed_at
  stored_moved p = names_same p

  pub named_moved : count_by is_some (map_at vols.vtocs (home_at m.to))
      ≡ count_by is_some (map_at rest.vtocs (home_at m.from))
  named_moved = count_same (map_at vols.vtocs (home_at m.to)) (map_at rest.vtocs (home_at m.from)) names_same

  -- the flags of a volume after the old home is given up, and before the new one was taken
  flags_new : (v : ℕ) → v ≢ m.from.0 → taken vols.records v ≡ taken old.volumes.records v
  flags_new v other = rw given_old (cc (old_aside.adds.flags v other))

  flags_was : (v : ℕ) → v ≢ m.to.0 → taken old.volumes.records v ≡ taken rest.records v
  flags_was v other = cc (was_aside.tables.adds.flags v other)

  taken_from : taken vols.records m.from.0 + count_by is_some (map_at rest.vtocs (home_at m.from))
      ≡ taken rest.records m.from.0
  taken_from = rw (given_old, ← map_from) (taken_given old.volumes m.from moving.old_kept
      ∙ flags_was m.from.0 moving.other)

  taken_to : taken rest.records m.to.0 + count_by is_some (map_at vols.vtocs (home_at m.to)) ≡ taken vols.records m.to.0
  taken_to = rw map_to (taken_given old.volumes m.to moving.new_kept
      ∙ sym (flags_new m.to.0 (λ same. moving.other (sym same))))

  pub taken_moved : (v : ℕ) → taken vols.records v + named_on rest.vtocs (home_at m.from) v
      ≡ taken rest.records v + named_on vols.vtocs (home_at m.to) v
  taken_moved v = elim (cases_eq v m.from.0) [
    | inl source ↦ rw (
      source,
      named_here rest.vtocs (home_at m.from),
      named_elsewhere vols.vtocs (home_at m.to) m.from.0 moving.other,
    ) (omega (arith, taken_from))
    | inr other ↦ rw (named_elsewhere rest.vtocs (home_at m.from) v other) (elim (cases_eq v m.to.0) [
      | inl target ↦ rw (target, named_here vols.vtocs (home_at m.to)) (omega (arith, taken_to))
      | inr neither ↦ rw (named_elsewhere vols.vtocs (home_at m.to) v neither)
          (omega (arith, flags_new v other, flags_was v neither))
    ])
  ]

  pub gained : used vols.vtocs m.to.0 ≡ used rest.vtocs m.to.0 + 1
  gained = rw (given_old, get_or-set_other old.volumes.vtocs m.from.0 m.to.0 _ [] (λ same. moving.other (sym same)))
      (sym (used_given old.volumes m.to m.uid moving.new_used))
