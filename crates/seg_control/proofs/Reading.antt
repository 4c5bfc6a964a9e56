-- A page comes into its frame, while another segment may move.
use Rattle.seg_control.proofs.Places.{ActiveSegs, Bool, Err, Home, IsActive, IsKeptAtRest, IsOnItsWay, IsTied, IsTree, KeepsCounts, KeepsOthers, KeepsTables, KeepsWords, Links, List, Mover, None, Ok, OnErr, OnOk, Option, Paging, Plain, Ptw, Result, Some, Vols, VtocEntry, [], after_read, ap, at_rest, bindings, bound_now, count_by, get_or-set_other, home_at, inl, inr, is_some, length, map, map_at, place_is, place_of, plain, read_at, reads_of, refl, same_Some, set, sym, table_at, table_of, uid_at, volumes_of, with_table, words_here, ℕ, ◌<◌, ◌∙◌, ◌≡◌, ◌≢◌}
pub use Rattle.seg_control.proofs.Resting.{IsAside, aside_of, aside_stays, if_moves, kept_read, map_same, not_free, out_of, plain_rest, rest_same, table_is_here, tie_less, tie_more, tied_home, uid_same, way_kept, words_same}

-- a segment that is tied to its home at rest is tied to it as the volumes are
pub tied_now : {D : Type 0} {pages : D → List (List ℕ)} {s : Paging D} {ast : ActiveSegs} {links : Links}
    {moving : Option Mover} {uid : ℕ} {home : Home} {t : List Ptw} → IsKeptAtRest pages s ast links moving
    → IsTied (plain pages (at_rest s moving)) uid home t → IsTied (plain pages s) uid home t
tied_now {moving = None} k tie = tie
tied_now {pages} {ast} {links} {moving = Some m} {uid} {home} {t} k tie = tie_more (aside_of k) tie

-- What was called for, and what it left of the volumes as they are.
pub record Reads {D T E : Type 0} (pages : D → List (List ℕ)) (old now : Paging D) (ast : ActiveSegs) (links : Links)
    (moving : Option Mover) (uid p : ℕ) (home : Home) (f : ℕ) (t u : List Ptw) (result : Result T E) : Type 0 where
  pub kept : IsKeptAtRest pages old ast links moving
  pub tie : IsTied (plain pages (at_rest old moving)) uid home t
  pub effect : plain pages now ≡ after_read (plain pages old) uid p home f result
  pub tied : IsTied (plain pages now) uid home u
  pub others : KeepsOthers (plain pages old) (plain pages now) uid home
  pub words : KeepsWords (plain pages old) (plain pages now) uid home
  pub counts : KeepsCounts (plain pages old) (plain pages now)

-- no volume has changed
read_same : {T E : Type 0} (result : Result T E) (old now : Plain) (uid p : ℕ) (home : Home) (f : ℕ)
    → now ≡ after_read old uid p home f result → volumes_of now ≡ volumes_of old
read_same (Ok x) old now uid p home f is = ap volumes_of is
read_same (Err e) old now uid p home f is = ap volumes_of is

module _ {D T E : Type 0} {pages : D → List (List ℕ)} {old now : Paging D} {ast : ActiveSegs} {links : Links}
    {moving : Option Mover} {uid p : ℕ} {home : Home} {f : ℕ} {t u : List Ptw} {result : Result T E}
    (r : Reads pages old now ast links moving uid p home f t u result) where
  pub same : volumes_of (plain pages now) ≡ volumes_of (plain pages old)
  same = read_same result (plain pages old) (plain pages now) uid p home f r.effect

  resting : volumes_of (plain pages (at_rest now moving)) ≡ volumes_of (plain pages (at_rest old moving))
  resting = rest_same pages old now moving same

  vtocs_same : (plain pages (at_rest now moving)).vtocs ≡ (plain pages (at_rest old moving)).vtocs
  vtocs_same = ap (λ (vols : Vols (List (List ℕ))). vols.vtocs) resting

  pub tables_read : KeepsTables (at_rest old moving).volumes (at_rest now moving).volumes
  tables_read = record { records = ap (λ (vols : Vols (List (List ℕ))). vols.records) resting; vtocs = vtocs_same }

  pub counts_read : KeepsCounts (plain pages (at_rest old moving)) (plain pages (at_rest now moving))
  counts_read = assumption (
    ap (map (count_by is_some)) vtocs_same,
    ap (map (length {A = Option VtocEntry})) vtocs_same,
    ap (λ (vols : Vols (List (List ℕ))). map (length {A = Bool}) vols.records) resting,
    ap (λ (vols : Vols (List (List ℕ))). length vols.drives) resting,
  )

-- what is left with the volumes at rest: the page comes from the record that it has there
pub record IsRead {T E : Type 0} (rest now : Plain) (uid p : ℕ) (home : Home) (f : ℕ) (u : List Ptw)
    (result : Result T E) : Type 0 where
  pub tie : IsTied now uid home u
  pub others : KeepsOthers rest now uid home
  pub words : KeepsWords rest now uid home
  pub effect : now ≡ after_read rest uid p home f result

after_rest : {T E : Type 0} (result : Result T E) (s : Plain) (records : List (List Bool)) (vtocs : List
    (List (Option VtocEntry))) (uid p : ℕ) (home : Home) (f : ℕ) → map_at s.vtocs home ≡ map_at vtocs home → record s {
      core = (after_read s uid p home f result).core;
      frames = (after_read s uid p home f result).frames;
      records = records;
      vtocs = vtocs;
    } ≡ after_read (record s { records = records; vtocs = vtocs }) uid p home f result
after_rest (Ok x) s records vtocs uid p home f map = rw map
after_rest (Err e) s records vtocs uid p home f map = refl

module _ {D T E : Type 0} {pages : D → List (List ℕ)} {old now : Paging D} {ast : ActiveSegs} {links : Links}
    {m : Mover} {uid p : ℕ} {home : Home} {f : ℕ} {t u : List Ptw} {result : Result T E}
    (r : Reads pages old now ast links (Some m) uid p home f t u result) where
  -- the home that a move has taken was aside, and is
  was_aside : IsAside (plain pages (at_rest old (Some m))) (plain pages old) (home_at m.to)
  was_aside = aside_of r.kept

  is_aside : IsAside (plain pages (at_rest now (Some m))) (plain pages now) (home_at m.to)
  is_aside = aside_stays pages old now m (same r) was_aside

  apart : home ≢ home_at m.to
  apart = not_free was_aside home uid r.tie.used

  read_moving : IsRead (plain pages (at_rest old (Some m))) (plain pages (at_rest now (Some m))) uid p home f u result
  read_moving = record {
    tie = tie_less is_aside apart r.tied;
    others = record {
      uids = λ other. cc (vtocs_same r);
      maps = λ other n. cc (vtocs_same r);
      tables = r.others.tables;
      ties = λ segment other table n tie. tie_less is_aside (not_free was_aside other segment tie.used)
          (r.others.ties segment other table n (tie_more was_aside tie));
    };
    words = record {
      words = λ v h q homes. (let other = not_free was_aside h v homes.used in
          sym (words_same is_aside v h q other) ∙ r.words.words v h q
          (assumption (uid_same was_aside h other ∙ homes.used)) ∙ words_same was_aside v h q other);
    };
    effect = plain_rest pages old now (Some m) (same r) r.effect
        ∙ after_rest result (plain pages old) _ _ uid p home f (map_same was_aside home apart);
  }

pub is_read : {D T E : Type 0} {pages : D → List (List ℕ)} {old now : Paging D} {ast : ActiveSegs} {links : Links}
    {moving : Option Mover} {uid p : ℕ} {home : Home} {f : ℕ} {t u : List Ptw} {result : Result T E}
    → Reads pages old now ast links moving uid p home f t u result
    → IsRead (plain pages (at_rest old moving)) (plain pages (at_rest now moving)) uid p home f u result
is_read {moving = None} r = assumption
is_read {moving = Some m} r = read_moving r

-- ---- what is kept

-- a segment of which a page was being read isn't the one that moves
not_moving : {rest now : Plain} {ast : ActiveSegs} {m : Mover} (uid p f : ℕ) → IsOnItsWay rest now ast m
    → read_at (reads_of now.core) f ≡ Some (uid, p) → uid ≢ m.uid
not_moving uid p f w started same = w.unread.none f p (cc)

-- so that the page table of the other stays
other_table : (ast : ActiveSegs) (place uid other : ℕ) (u : List Ptw) → IsTree ast.entries → uid_at ast.entries place
    ≡ Some uid → IsActive ast.entries other → uid ≢ other → table_of (with_table ast place u) other ≡ table_of ast other
other_table ast place uid other u tree at active ne =
    get_or-set_other ast.tables place (place_of ast.entries other) u [] (λ same. ne (same_Some _ _ (sym at
    ∙ ap (uid_at ast.entries) (sym same ∙ place_is ast.entries other active.0 tree active.1) ∙ active.1)))

pub kept_at_rest : {D T E : Type 0} {pages : D → List (List ℕ)} {old now : Paging D} {ast : ActiveSegs} {links : Links}
    {moving : Option Mover} {uid p : ℕ} {home : Home} {f : ℕ} {t u : List Ptw} {result : Result T E} (place : ℕ)
    → Reads pages old now ast links moving uid p home f t u result → uid_at ast.entries place ≡ Some uid
    → place < length ast.entries → t ≡ table_at ast.tables place → read_at (reads_of old.core) f ≡ Some (uid, p)
    → u ≡ words_here t p f result → OnOk result (bindings now.core ≡ set (bindings old.core) f (Some (uid, p)))
    → OnErr result (bindings now.core ≡ bindings old.core)
    → reads_of now.core ≡ set (reads_of old.core) f None → IsKeptAtRest pages now (with_table ast place u) links moving
kept_at_rest {pages} {old} {now} {ast} {moving} {uid} {p} {f} {u} {result} place r at within table started word bound
    lost reads = record {
      kept = kept_read result place p f r.kept.kept at within table started (is_read r).tie
          (is_read r).others word bound lost reads;
      way = if_moves moving (λ m is w. way_kept (plain pages (at_rest now moving)) (plain pages now)
          (with_table ast place u) w (resting r) (same r) refl (other_table ast place uid m.uid u r.kept.kept.tree at
          w.active (not_moving uid p f w started)) (λ g q e. still_read m.uid g q e)) r.kept.way;
    }
  where
    still_read : (v g q : ℕ) → read_at (reads_of now.core) g ≡ Some (v, q) → read_at (reads_of old.core) g ≡ Some (v, q)
    still_read v g q e = elim (bound_now (reads_of old.core) f None g (v, q) (rw reads at e))
        [ inl h ↦ cc | inr h ↦ h.1 ]
