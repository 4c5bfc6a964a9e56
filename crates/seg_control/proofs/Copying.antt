-- A page of a segment that moves is copied.
pub use Rattle.seg_control.proofs.Choosing.{first_same, out_from, rules, to_copy_out}
use Rattle.seg_control.proofs.Places.{ActiveSegs, AreCopied, Bool, CanBegin, Err, Home, IfSome, IsCopied, IsKeptAtRest, IsLeastToCopy, IsMoving, IsOnItsWay, IsTied, KeepsHome, KeepsTables, KeepsTies, Links, List, Mover, None, Ok, Option, Paging, Plain, Result, Some, Vols, [], after_copy, ap, at_rest, begun, cases_eq, cases_lt, false, filed, filed_same, flags_in, get_or, get_or-set_other, get_or-set_same, home_at, in_use, inl, inr, is_framed, is_out, is_to_copy, length, length-set, map, moved_on, mover_map, mover_words, next_out, number_or_zero, off_and_on, page_to_copy, place_at, place_is, plain, ptw_at, refl, set, set_past, some_unwrapped, sym, table_of, tie_of_home, true, undone, vols_same, volumes_of, with_page, with_volumes, words_at, words_filed, words_of, words_of_home, words_out, ℕ, ◌&&◌, ◌∙◌, ◌≡◌}
pub use Rattle.seg_control.proofs.Under.{aside_of, each_set, is_moving, kept_moving, kept_paged, kept_table, move_adds, moving_plain, now_is, paged_same, tie_more}

-- ---- the segment that moves

-- it is tied to its old home, with the volumes at rest and as they are
pub tie_moving : {D : Type 0} {pages : D → List (List ℕ)} {s : Paging D} {ast : ActiveSegs} {links : Links}
    {m : Mover} → IsKeptAtRest pages s ast links (Some m)
    → IsTied (plain pages (at_rest s (Some m))) m.uid (home_at m.from) (table_of ast m.uid)
tie_moving {ast} {m} k =
    let active = k.way.active in
    rw (place_is ast.entries m.uid active.0 k.kept.tree active.1)
    (k.kept.paged.ties active.0 m.uid (home_at m.from) active.1 k.way.home)

pub tie_here : {D : Type 0} {pages : D → List (List ℕ)} {s : Paging D} {ast : ActiveSegs} {links : Links} {m : Mover}
    → IsKeptAtRest pages s ast links (Some m) → IsTied (plain pages s) m.uid (home_at m.from) (table_of ast m.uid)
tie_here {pages} {s} {ast} {links} {m} k = tie_more (aside_of k) (tie_moving k)

-- ---- the words of its pages, as the mover tells them and as page control does

filed_as : (disk : List (List ℕ)) (place : Option ℕ) → mover_words disk place ≡ words_filed disk place
filed_as disk None = refl
filed_as disk (Some r) = refl

words_as : {D : Type 0} (pages : D → List (List ℕ)) (s : Paging D) (home : ℕ × ℕ) (p : ℕ)
    → words_of pages s.volumes home p ≡ words_out (plain pages s) (home_at home) p
words_as pages s home p = filed_as (get_or (map pages s.volumes.drives) home.0 []) (place_at s.volumes home p)

-- ---- what is written

-- every record but the one that is written stays
record_kept : (disks : List (List (List ℕ))) (v r : ℕ) (words : List ℕ) (w k : ℕ) → (w ≡ v → k ≡ r → ⊥)
    → get_or (get_or (with_page disks v r words) w []) k [] ≡ get_or (get_or disks w []) k []
record_kept disks v r words w k other = elim (cases_eq w v) [
  | inr ne ↦ rw (get_or-set_other disks v w (set (get_or disks v []) r words) [] ne)
  | inl same ↦ elim (cases_lt v (length disks)) [
    | inr past ↦ rw (set_past disks v (set (get_or disks v []) r words) past)
    | inl lt ↦ rw (
      same,
      get_or-set_same disks v (set (get_or disks v []) r words) [] lt,
      get_or-set_other (get_or disks v []) r k words [] (other same),
    )
  ]
]

named_from : (b c : Bool) → b && c ≡ true → b ≡ true
named_from true c on = refl
named_from false c on = cc

length_after : {T E : Type 0} {D : Type 0} (disks : List (List (List ℕ))) (vols : Vols D) (m : Mover)
    (page : Option ℕ) (result : Result T E) → length (after_copy disks vols m page result) ≡ length disks
length_after disks vols m None result = refl
length_after disks vols m (Some p) (Ok x) = length-set disks m.to.0 _
length_after disks vols m (Some p) (Err e) = refl

-- the mover goes on, and nothing else of it has changed
goes_on : {T E : Type 0} (m : Mover) (page : Option ℕ) (result : Result T E)
    → moved_on m page result ≡ record m { next = (moved_on m page result).next }
goes_on m (Some p) (Ok x) = refl
goes_on m _ _ = refl

-- What was called for, and what it left.
pub record Copies {D E : Type 0} (pages : D → List (List ℕ)) (old : Paging D) (vols : Vols D) (ast : ActiveSegs)
    (links : Links) (m n : Mover) (skip : List Bool) (result : Result Bool E) : Type 0 where
  pub kept : IsKeptAtRest pages old ast links (Some m)
  pub framed : (p : ℕ) → get_or skip p false ≡ is_framed (ptw_at (table_of ast m.uid) p)
  pub mover : n ≡ moved_on m (page_to_copy old.volumes m skip) result
  pub disks : map pages vols.drives ≡ after_copy (map pages old.volumes.drives) old.volumes m
      (page_to_copy old.volumes m skip) result
  pub least : IfSome (page_to_copy old.volumes m skip) (λ p. IsLeastToCopy (mover_map old.volumes m.from) skip m.next p)
  pub tables : KeepsTables old.volumes vols
  pub copied : AreCopied pages old.volumes m skip → AreCopied pages vols n skip
  pub moving : IsMoving vols n

module _ {D E : Type 0} {pages : D → List (List ℕ)} {old : Paging D} {vols : Vols D} {ast : ActiveSegs}
    {links : Links} {m n : Mover} {skip : List Bool} {result : Result Bool E}
    (c : Copies pages old vols ast links m n skip result) where
  abbrev now : Paging D
  now = with_volumes old vols

  abbrev rest : Plain
  rest = plain pages (at_rest old (Some m))

  abbrev next : Plain
  next = plain pages (at_rest now (Some m))

  wanted : (p : ℕ) → is_to_copy (mover_map old.volumes m.from) skip p ≡ is_out (ptw_at (table_of ast m.uid) p)
  wanted p = to_copy_out skip p (tie_here c.kept).map (c.framed p)

  pub page_is : page_to_copy old.volumes m skip ≡ next_out (table_of ast m.uid) m.next
  page_is = first_same (mover_map old.volumes m.from) (table_of ast m.uid) skip _ m.next wanted

  -- ---- at rest

  tables_rest : KeepsTables (at_rest old (Some m)).volumes (at_rest now (Some m)).volumes
  tables_rest = record {
    records = λ i. (undone (record {
      drives = old.volumes.drives;
      records = c.tables.records i;
      vtocs = c.tables.vtocs i;
    }) m).records;
    vtocs = λ i. (undone (record {
      drives = old.volumes.drives;
      records = c.tables.records i;
      vtocs = c.tables.vtocs i;
    }) m).vtocs;
  }

  -- a record that is in use isn't written
  spared : (page : Option ℕ) (done : Result Bool E) → page_to_copy old.volumes m skip ≡ page → (w k : ℕ)
      → in_use (flags_in rest.records w) k ≡ true → get_or (get_or (after_copy (map pages old.volumes.drives)
      old.volumes m page done) w []) k [] ≡ get_or (get_or (map pages old.volumes.drives) w []) k []
  spared None done is w k on = refl
  spared (Some p) (Err e) is w k on = refl
  spared (Some p) (Ok x) is w k on =
      let least = rw is at c.least in
      let moving = c.kept.way.moving in
      let named : place_at old.volumes m.to p ≡ Some (number_or_zero (place_at old.volumes m.to p)) =
      some_unwrapped (place_at old.volumes m.to p) (moving.same p ∙ named_from _ _ least.wanted) in
      record_kept (map pages old.volumes.drives) m.to.0 (number_or_zero (place_at old.volumes m.to p)) _ w k
      (λ volume same. off_and_on (in_use (flags_in rest.records w) k) (ap (λ (v : ℕ). in_use (flags_in rest.records v)
      k) volume ∙ ap (in_use (flags_in rest.records m.to.0)) same ∙ (move_adds moving).adds.fresh p _ named) on)

  -- so every page at rest has the words that it had
  out_rest : (home : Home) (p : ℕ) → words_out next home p ≡ words_out rest home p
  out_rest home p = rw (tables_rest.vtocs, c.disks) (filed_same (get_or rest.disks home.volume []) _ (filed rest home p)
      (λ k named. spared (page_to_copy old.volumes m skip) result refl home.volume k
      (c.kept.kept.paged.filed.used home.volume home.entry p k named)))

  home_kept : (home : Home) → KeepsHome rest next home
  home_kept home = record {
    uid = cc;
    map = cc;
    words = out_rest home;
    volumes = cc (length_after (map pages old.volumes.drives) old.volumes m (page_to_copy old.volumes m skip) result);
    records = rw (tables_rest.records, tables_rest.vtocs) c.kept.kept.paged.filed;
  }

  words_rest : words_at next ≡ words_at rest
  words_rest = λ i. λ u home p. words_of_home rest next u home p refl refl (home_kept home) i

  ties_rest : KeepsTies rest next
  ties_rest = record { ties = λ u home t tie. tie_of_home rest next u home t refl refl (home_kept home) tie }

  -- ---- the move

  are_copied : AreCopied pages old.volumes m skip
  are_copied = record {
    words = λ p lt want. (let out = out_from (ptw_at (table_of ast m.uid) p) (sym (wanted p) ∙ want) in
        words_as pages old m.to p ∙ c.kept.way.copied.words p out.0 lt out.1 ∙ sym (words_as pages old m.from p));
  }

  is_copied : (k : ℕ) → AreCopied pages vols (record m { next = k }) skip
      → IsCopied (plain pages now) (table_of ast m.uid) (home_at m.from) (home_at m.to) k
  is_copied k copied = record {
    words = λ p r lt out. sym (words_as pages now m.to p) ∙ copied.words p lt
        (rw c.tables.vtocs (cc (wanted p))) ∙ words_as pages now m.from p;
  }

  -- the volumes at rest, but for their pages, are those that they were
  abbrev mid : Vols (List (List ℕ))
  mid = record (volumes_of rest) { drives = next.disks }

  mid_is : mid ≡ volumes_of next
  mid_is = vols_same mid (volumes_of next) refl (sym tables_rest.records) (sym tables_rest.vtocs)

  can_mid : CanBegin mid m.uid m.from m.to.0
  can_mid =
      let can = c.kept.way.can in
      let many : length rest.disks ≡ length next.disks = sym (cc (length_after (map pages old.volumes.drives)
      old.volumes m (page_to_copy old.volumes m skip) result)) in
      assumption (rw many at can.source, rw many at can.target, can)

  way_on : (k : ℕ) → IsMoving vols (record m { next = k }) → AreCopied pages vols (record m { next = k }) skip
      → IsOnItsWay next (plain pages now) ast (record m { next = k })
  way_on k moving copied = record {
    active = c.kept.way.active;
    home = rw tables_rest.vtocs c.kept.way.home;
    can = rw mid_is at can_mid;
    begun = vols_same (volumes_of (plain pages now)) (begun (volumes_of next) m.uid m.from m.to.0) refl
        (c.tables.records ∙ ap (λ (v : Vols (List (List ℕ))). v.records) c.kept.way.begun
        ∙ ap (λ (v : Vols (List (List ℕ))). (begun v m.uid m.from m.to.0).records) mid_is)
        (c.tables.vtocs ∙ ap (λ (v : Vols (List (List ℕ))). v.vtocs) c.kept.way.begun
        ∙ ap (λ (v : Vols (List (List ℕ))). (begun v m.uid m.from m.to.0).vtocs) mid_is);
    moving = moving_plain pages now moving;
    unread = c.kept.way.unread;
    copied = is_copied k copied;
  }

  mover_on : n ≡ record m { next = n.next }
  mover_on = cc (goes_on m (page_to_copy old.volumes m skip) result)

  pub kept_copied : IsKeptAtRest pages now ast links (Some n)
  kept_copied = rw mover_on (assumption (
    kept_paged c.kept.kept (paged_same c.kept.kept.paged refl tables_rest.vtocs tables_rest.records ties_rest refl),
    way_on n.next (rw mover_on at c.moving) (rw mover_on at (c.copied are_copied)),
  ))

  pub tables_copied : KeepsTables (at_rest old (Some m)).volumes (at_rest now (Some n)).volumes
  tables_copied = rw mover_on tables_rest

  pub words_copied : words_at (plain pages (at_rest now (Some n))) ≡ words_at rest
  words_copied = rw mover_on words_rest

  -- what the drives hold, by the volumes at rest
  pub disks_copied : map pages vols.drives ≡ after_copy (map pages old.volumes.drives)
      (begun (at_rest old (Some m)).volumes m.uid m.from m.to.0) m (next_out (table_of ast m.uid) m.next) result
  disks_copied = rw (page_is, now_is c.kept) at c.disks
