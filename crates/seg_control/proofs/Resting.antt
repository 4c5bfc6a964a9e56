-- What is kept of the volumes at rest: where no segment moves, and where the volumes stay while one does.
pub use Rattle.seg_control.proofs.Prelude.{ActiveSegs, All, AreLinked, Bool, FitsIn, Here, Home, IfSome, IsAway, IsHomeOf, IsInactive, IsKept, IsKeptAtRest, IsLeastFree, IsNotRead, IsOnItsWay, IsTree, KeepsTies, Leaving, Links, List, Mover, None, Null, Option, Paging, Plain, Some, Vols, [], ap, at_rest, begun, binding_at, bindings, bound_within, changed_at, changed_page, deactivated, disk_of, false, filed, frame_at, get_or, home_at, is_binding, is_some, kst_at, leads_at, length, map_at, number_in, off_and_on, plain, position, position_there, ptw_at, read_at, reads_of, record_at, record_of, refl, rules, subst, sym, table_at, table_of, trailers_of, true, uid_homed, undone, volumes_of, vtoc_in, with_number, without_number, words_at, words_filed, words_held, words_in, words_marked, words_of_page, words_out, ℕ, ◌<◌, ◌∙◌, ◌≡◌, ◌≤◌}
pub use Rattle.seg_control.proofs.Aside.{AreAside, IsAside, map_same, move_adds, move_aside, not_free, tie_less, tie_more, uid_same, words_same}
pub use Rattle.seg_control.proofs.Calls.{each_set, kept_evicted, kept_paged, kept_read, kept_table, kept_with, lost_bindings, out_of, paged_same, paged_started, table_is_here, table_is_left, table_is_set, tied_home}

-- ---- no segment moves

-- the volumes are at rest as they are
pub kept_still : {D : Type 0} {pages : D → List (List ℕ)} {s : Paging D} {ast : ActiveSegs} {links : Links}
    {moving : Option Mover} → moving ≡ None → IsKeptAtRest pages s ast links moving → IsKept (plain pages s) ast links
kept_still none k = rw none at k.kept

-- what is kept of them is kept at rest
pub still_kept : {D : Type 0} {pages : D → List (List ℕ)} {s : Paging D} {ast : ActiveSegs} {links : Links}
    {moving : Option Mover} → moving ≡ None → IsKept (plain pages s) ast links → IsKeptAtRest pages s ast links moving
still_kept none k = rw none (assumption)

-- ---- a segment moves

-- what is kept, by the mover
pub kept_moving : {D : Type 0} {pages : D → List (List ℕ)} {s : Paging D} {ast : ActiveSegs} {links : Links}
    {moving : Option Mover} {m : Mover} → moving ≡ Some m → IsKeptAtRest pages s ast links moving
    → IsKeptAtRest pages s ast links (Some m)
kept_moving is k = rw is at k

-- ---- the volumes stay

out_same : (new now : Plain) (home : Home) (p : ℕ) → volumes_of new ≡ volumes_of now
    → words_out new home p ≡ words_out now home p
out_same new now home p same = ap (λ (vols : Vols (List (List ℕ))). words_filed (get_or vols.drives home.volume [])
    (record_at (vtoc_in vols.vtocs home.volume) home.entry p)) same

-- a move goes on, where its segment keeps its page table, and no page of it begins to be read
pub way_kept : {rest now : Plain} {ast : ActiveSegs} {m : Mover} (next new : Plain) (those : ActiveSegs)
    → IsOnItsWay rest now ast m → volumes_of next ≡ volumes_of rest → volumes_of new ≡ volumes_of now → those.entries
    ≡ ast.entries → table_of those m.uid ≡ table_of ast m.uid → ((f p : ℕ) → read_at (reads_of new.core) f
    ≡ Some (m.uid, p) → read_at (reads_of now.core) f ≡ Some (m.uid, p)) → IsOnItsWay next new those m
way_kept {now} {m} next new those w resting same entries table reads = record {
  active = rw entries w.active;
  home = subst (λ (vols : Vols (List (List ℕ))). IsHomeOf vols.vtocs m.uid (home_at m.from)) (sym resting) w.home;
  can = rw resting w.can;
  begun = cc;
  moving = rw same w.moving;
  unread = record { none = λ f p at. w.unread.none f p (reads f p at) };
  copied = record {
    words = λ p r lt out. out_same new now (home_at m.to) p same ∙ w.copied.words p r lt (rw table at out)
        ∙ sym (out_same new now (home_at m.from) p same);
  };
}

-- volumes that stay, stay at rest
pub rest_same : {D : Type 0} (pages : D → List (List ℕ)) (old now : Paging D) (moving : Option Mover)
    → volumes_of (plain pages now) ≡ volumes_of (plain pages old)
    → volumes_of (plain pages (at_rest now moving)) ≡ volumes_of (plain pages (at_rest old moving))
rest_same pages old now None same = same
rest_same pages old now (Some m) same = ap (λ (vols : Vols (List (List ℕ))). undone vols m) same

-- what holds of a move, if one is under way, by each that may be
pub if_moves : {P Q : Mover → Type 0} (moving : Option Mover) → ((m : Mover) → moving ≡ Some m → P m → Q m)
    → IfSome moving P → IfSome moving Q
if_moves None next h = tt
if_moves (Some m) next h = next m refl h

-- the home that a move has taken is aside
pub aside_of : {D : Type 0} {pages : D → List (List ℕ)} {s : Paging D} {ast : ActiveSegs} {links : Links} {m : Mover}
    → IsKeptAtRest pages s ast links (Some m)
    → IsAside (plain pages (at_rest s (Some m))) (plain pages s) (home_at m.to)
aside_of k = assumption (move_aside k.way.moving k.kept.paged.filed)

-- so it stays, while the volumes do
pub aside_stays : {D : Type 0} (pages : D → List (List ℕ)) (old now : Paging D) (m : Mover)
    → volumes_of (plain pages now) ≡ volumes_of (plain pages old) → IsAside (plain pages (at_rest old (Some m)))
    (plain pages old) (home_at m.to) → IsAside (plain pages (at_rest now (Some m))) (plain pages now) (home_at m.to)
aside_stays pages old now m same a = assumption (subst (λ (vols : Vols (List (List ℕ))). AreAside (undone vols
    m).records vols.records (undone vols m).vtocs vols.vtocs (home_at m.to)) (sym same) a.tables)

-- what is true of each segment stays true with the volumes at rest, where it does with the volumes as they are
pub ties_rest : {D : Type 0} {pages : D → List (List ℕ)} {old : Paging D} (now : Paging D)
    {ast : ActiveSegs} {links : Links} {moving : Option Mover} → IsKeptAtRest pages old ast links moving
    → volumes_of (plain pages now) ≡ volumes_of (plain pages old) → KeepsTies (plain pages old) (plain pages now)
    → KeepsTies (plain pages (at_rest old moving)) (plain pages (at_rest now moving))
ties_rest now {moving = None} k same ties = ties
ties_rest {pages} {old} now {moving = Some m} k same ties =
    let aside = aside_of k in
    record {
      ties = λ uid home t tie. tie_less (aside_stays pages old now m same aside)
          (not_free aside home uid tie.used) (ties.ties uid home t (tie_more aside tie));
    }

-- marks and words in frames have changed, and no binding
pub kept_rest : {D : Type 0} {pages : D → List (List ℕ)} {old : Paging D} (now : Paging D) {ast : ActiveSegs}
    {links : Links} {moving : Option Mover} → IsKeptAtRest pages old ast links moving → volumes_of (plain pages now)
    ≡ volumes_of (plain pages old) → bindings now.core ≡ bindings old.core → reads_of now.core ≡ reads_of old.core
    → KeepsTies (plain pages old) (plain pages now) → IsKeptAtRest pages now ast links moving
kept_rest {pages} {old} now {ast} {links} {moving} k same bound reads tied =
    let resting = rest_same pages old now moving same in
    let ties = ties_rest now k same tied in
    record {
      kept = kept_paged k.kept (paged_same k.kept.paged bound (ap (λ (vols : Vols (List (List ℕ))). vols.vtocs) resting)
          (ap (λ (vols : Vols (List (List ℕ))). vols.records) resting) ties reads);
      way = if_moves moving (λ m is w. way_kept (plain pages (at_rest now moving)) (plain pages now) ast w resting same
          refl refl (λ f p at. ap (λ (those : List (Option (ℕ × ℕ))). read_at those f) (sym reads) ∙ at)) k.way;
    }

-- links alone have changed
pub kept_linked : {D : Type 0} {pages : D → List (List ℕ)} {s : Paging D} {ast : ActiveSegs} {links those : Links}
    {moving : Option Mover}
    → IsKeptAtRest pages s ast links moving → AreLinked ast.entries those → IsKeptAtRest pages s ast those moving
kept_linked {ast = ast} k linked = assumption (kept_with ast.hands k.kept k.kept.paged linked)

-- ---- frames alone change

-- the words of a page that a frame has, and of one that none has
held_in : (s : Plain) (u : ℕ) (h : Home) (q g : ℕ) → position (is_binding u q) (bindings s.core) ≡ Some g
    → words_at s u h q ≡ get_or s.frames g []
unfolding words_of_page
held_in s u h q g is = cc

held_out : (s : Plain) (u : ℕ) (h : Home) (q : ℕ) → position (is_binding u q) (bindings s.core) ≡ None
    → words_at s u h q ≡ words_out s h q
unfolding words_of_page
held_out s u h q is = cc

-- what changes at one page, at that page and at another
changed_by : (a b : ℕ → ℕ → List ℕ) (uid p : ℕ) (words : List ℕ) (u q : ℕ) → a u q ≡ b u q
    → changed_at a uid p words u q ≡ changed_at b uid p words u q
unfolding changed_at
changed_by a b uid p words u q same = rw same

unchanged : (a : ℕ → ℕ → List ℕ) (uid p : ℕ) (words : List ℕ) (u q : ℕ) → is_binding u q (Some (uid, p)) ≡ false
    → changed_at a uid p words u q ≡ a u q
unfolding changed_at
unchanged a uid p words u q off = rw off

-- a page that no frame has isn't the one that a frame is bound to
not_bound : (bound : List (Option (ℕ × ℕ))) (f uid p u q : ℕ) → binding_at bound f ≡ Some (uid, p)
    → position (is_binding u q) bound ≡ None → is_binding u q (Some (uid, p)) ≡ false
not_bound bound f uid p u q at none = by_test (is_binding u q (Some (uid, p))) refl
  where
    by_test : (b : Bool) → is_binding u q (Some (uid, p)) ≡ b → b ≡ false
    by_test false is = refl
    by_test true is = absurd (let some = position_there (is_binding u q) bound f None
        (bound_within bound f uid p at) (ap (is_binding u q) at ∙ is) in
        off_and_on false refl (cc))

-- what page control is then, with the volumes at rest
pub plain_rest : {D : Type 0} (pages : D → List (List ℕ)) (old now : Paging D) (moving : Option Mover) {s : Plain}
    → volumes_of (plain pages now) ≡ volumes_of (plain pages old) → plain pages now ≡ s
    → plain pages (at_rest now moving) ≡ record (plain pages (at_rest old moving)) { core = s.core; frames = s.frames }
plain_rest pages old now moving same is =
    ap (λ (vols : Vols (List (List ℕ))). with_vols vols (plain pages now)) (rest_same pages old now moving same)
    ∙ ap (with_vols (volumes_of (plain pages (at_rest old moving)))) is
  where
    with_vols : Vols (List (List ℕ)) → Plain → Plain
    with_vols vols x = record x { disks = vols.drives; records = vols.records; vtocs = vols.vtocs }

-- volumes that are as before are so at rest
pub volumes_rest : {D : Type 0} (old now : Paging D) (moving : Option Mover) → now.volumes ≡ old.volumes
    → (at_rest now moving).volumes ≡ (at_rest old moving).volumes
volumes_rest old now moving volumes = rw volumes

-- where bindings and words in frames stay
pub words_rest : {D : Type 0} (pages : D → List (List ℕ)) (old now : Paging D) (moving : Option Mover)
    → volumes_of (plain pages now) ≡ volumes_of (plain pages old) → bindings now.core ≡ bindings old.core → now.frames
    ≡ old.frames → words_at (plain pages (at_rest now moving)) ≡ words_at (plain pages (at_rest old moving))
words_rest pages old now moving same bound frames =
    let resting = rest_same pages old now moving same in
    words_marked (plain pages (at_rest old moving)) (plain pages (at_rest now moving)) bound frames (ap
    (λ (vols : Vols (List (List ℕ))). vols.drives) resting) (ap (λ (vols : Vols (List (List ℕ))). vols.vtocs) resting)

-- where one bound page has other words in its frame
pub words_put : {D : Type 0} (pages : D → List (List ℕ)) (old now : Paging D)
    (moving : Option Mover) (uid p f : ℕ) (words : List ℕ) → volumes_of (plain pages now) ≡ volumes_of (plain pages old)
    → bindings now.core ≡ bindings old.core → binding_at (bindings old.core) f ≡ Some (uid, p)
    → words_at (plain pages now) ≡ changed_page (words_at (plain pages old)) uid p words → words_at
    (plain pages (at_rest now moving)) ≡ changed_page (words_at (plain pages (at_rest old moving))) uid p words
words_put pages old now moving uid p f words same bound at put =
    λ i. λ u h q. point u h q (position (is_binding u q) (bindings old.core)) refl i
  where
    rest : Plain
    rest = plain pages (at_rest old moving)

    next : Plain
    next = plain pages (at_rest now moving)

    moved : (u q : ℕ) (place : Option ℕ) → position (is_binding u q) (bindings old.core) ≡ place
        → position (is_binding u q) (bindings now.core) ≡ place
    moved u q place is = rw bound is

    point : (u : ℕ) (h : Home) (q : ℕ) (place : Option ℕ) → position (is_binding u q) (bindings old.core) ≡ place
        → words_at next u h q ≡ changed_page (words_at rest) uid p words u h q
    point u h q (Some g) is = held_in next u h q g (moved u q (Some g) is) ∙ sym
        (held_in (plain pages now) u h q g (moved u q (Some g) is)) ∙ ap (λ (w : ℕ → Home → ℕ → List ℕ). w u h q) put
        ∙ changed_by (λ v n. words_at (plain pages old) v h n) (λ v n. words_at rest v h n) uid p words u q
        (held_in (plain pages old) u h q g is ∙ sym (held_in rest u h q g is))
    point u h q None is = held_out next u h q (moved u q None is)
        ∙ out_same next rest h q (rest_same pages old now moving same) ∙ sym (held_out rest u h q is)
        ∙ sym (unchanged (λ v n. words_at rest v h n) uid p words u q (not_bound (bindings old.core) f uid p u q at is))
