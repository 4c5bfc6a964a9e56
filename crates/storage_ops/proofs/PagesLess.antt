-- What is shown once a page is stored no more, and once one is cut.
use Rattle.storage_ops.proofs.Prelude.{◌≡◌, ℕ, zero, suc, ◌+◌, ◌-◌, ◌*◌, ◌/◌, ◌%◌, ◌<◌, ◌≤◌, Bool, true, false, cond, eqb, ◌&&◌, ◌++◌, ◌↔◌, IsTrue, List, [], ◌∷◌, get_or, length, take, Option, Some, None, All, replicate, set, refl, sym, ap, subst, ◌∙◌, arith, inl, inr, nat_le, position, cases_Bool, cases_lt, eq-eqb, eqb-true, common_steps, get_or-replicate, get_or_past, length-append, length-replicate, length-take, fails_before_first, same_Some, get_or-map, AreZero, Plan, Who, AccountMaps, Recounts, count_of, has_directory, has_segment, cleared, has_cleared, Store, get_cut, zero_words_told, Core, bound_page, frame_at, is_bound, reads_of, Frame, Bound, Free, VtocEntry, record_at, Home, ActiveSegs, IsActive, cut, dropped, changed_at, changed_page, is_binding, is_filed_at, words_at, words_held, words_of_page, Plain, binding_at, bindings, number_in, plain, words_in, IsTableOf, frame_of, has_record, is_away, is_out, map_at, vtoc_in, Ptw, Leaving, Null, Links, Control, table_of, word_of, worded, IsHomeOf, IsKept, Unstores, is_here, leaves, IsStore, ShowsPages, Shows, Storage, home_of, is_filed, is_there, picture, page_is, used, Tied_uid_in as uid_in, bound_from_page}
use Rattle.storage_ops.proofs.Entries.{one_named}
use Rattle.storage_ops.proofs.Homes.{bound_of, filed_map}
use Rattle.storage_ops.proofs.Lengths.{filed_there}
use Rattle.storage_ops.proofs.Paged.{active_home, active_there, active_tie, picture_absent, picture_there, word_filed}
use Rattle.storage_ops.proofs.Unstored.{bound_dropped, bound_none, none_bound, word_within, worded_here, unstores_still, worded_other, worded_table}
use Rattle.storage_ops.proofs.PageFacts.{segment_of}
use Rattle.page_control.proofs.Calls.{stored_away}

-- ---- the words of a page in a frame

bound_frame : (frame : Frame) (u q : ℕ) → bound_page frame ≡ Some (u, q) → (uid_in frame ≡ u) × (number_in frame ≡ q)
bound_frame (Bound v r used modified) u q e = page_is v r u q e
bound_frame _ u q e = cc

pub frame_bound : (core : Core) (u q f : ℕ) → binding_at (bindings core) f ≡ Some (u, q)
    → (uid_in (frame_at core f) ≡ u) × (number_in (frame_at core f) ≡ q)
frame_bound core u q f e = bound_frame (frame_at core f) u q (sym (get_or-map bound_page core.frames f Free) ∙ e)

is_its_binding : (u q : ℕ) → is_binding u q (Some (u, q)) ≡ true
is_its_binding u q = rw (eq-eqb u u refl, eq-eqb q q refl) refl

-- a page that one frame is bound to has the words there
pub words_bound : (now : Plain) (u q f : ℕ) (home : Home) → binding_at (bindings now.core) f ≡ Some (u, q)
    → ((g : ℕ) → binding_at (bindings now.core) g ≡ Some (u, q) → g ≡ f) → words_at now u home q ≡ words_in now f
unfolding words_of_page
words_bound now u q f home e only = by (position (is_binding u q) (bindings now.core)) refl
  where
    passes : is_binding u q (get_or (bindings now.core) f None) ≡ true
    passes = cc (is_its_binding u q)

    short : f < length (bindings now.core)
    short = elim (cases_lt f (length (bindings now.core))) [
      | inl lt ↦ lt
      | inr past ↦ cc (get_or_past (bindings now.core) f None past)
    ]

    by : (o : Option ℕ) → position (is_binding u q) (bindings now.core) ≡ o
        → words_held now.frames (get_or now.disks home.volume []) (record_at (vtoc_in now.vtocs home.volume)
        home.entry q) o ≡ words_in now f
    by (Some g) is = cc (only g (bound_of (bindings now.core) u q is))
    by None is = cc (
      passes,
      fails_before_first (is_binding u q) (bindings now.core) f None (grind (arith, common_steps, short)),
    )

-- ---- a page is cut

module _ (a : AccountMaps) (vtocs : List (List (Option VtocEntry))) (image next : ℕ → Home → ℕ → List ℕ) (u q at : ℕ)
    (ws : List ℕ) (there : is_there a.nodes u ≡ true) (has : picture a image u q ≡ ws)
    (cut : next ≡ changed_page image u q (take at ws ++ replicate (1024 - at) 0)) where
  next_else : (v : ℕ) {r : ℕ} → (v ≡ u → r ≡ q → ⊥) → picture a next v r ≡ picture a image v r
  unfolding changed_at
  next_else v {r} apart = elim (cases_Bool (is_there a.nodes v)) [
    | inl t ↦ picture_there a next v r t ∙ ap (λ (x : ℕ → Home → ℕ → List ℕ). x v (home_of a v) r) cut
        ∙ by (eqb u v) (eqb q r) refl refl ∙ sym (picture_there a image v r t)
    | inr t ↦ picture_absent a next v r t ∙ sym (picture_absent a image v r t)
  ]
    where
      by : (x y : Bool) → eqb u v ≡ x → eqb q r ≡ y
          → cond (x && y) (take at ws ++ replicate (1024 - at) 0) (image v (home_of a v) r) ≡ image v (home_of a v) r
      by true true e f = absurd (apart (sym (eqb-true u v e)) (sym (eqb-true q r f)))
      by true false e f = refl
      by false y e f = refl

  next_here : picture a next u q ≡ take at ws ++ replicate (1024 - at) 0
  unfolding changed_at
  next_here = picture_there a next u q there ∙ ap (λ (x : ℕ → Home → ℕ → List ℕ). x u (home_of a u) q) cut
      ∙ rw (eq-eqb u u refl, eq-eqb q q refl) refl

  pub pages_cut : (s : Store) → ShowsPages s a vtocs image → ShowsPages (cleared s u q at) a vtocs next
  pages_cut s h = record {
    stored = h.stored;
    once = h.once;
    words = λ v o. words v o (eqb v u) (eqb (o / 1024) q) refl refl;
  }
    where
      words : (v o : ℕ) (x y : Bool) → eqb v u ≡ x → eqb (o / 1024) q ≡ y
          → cond (x && (y && nat_le at (o % 1024))) 0 (s.words v o) ≡ get_or (picture a next v (o / 1024)) (o % 1024) 0
      words v o true true e f =
          cc (h.words v o, eqb-true v u e, eqb-true (o / 1024) q f, get_cut at (o % 1024) (1024 - at) ws, next_here)
      words v o true false e f =
          cc (h.words v o, next_else v {r = o / 1024} (λ same page. cc (eq-eqb (o / 1024) q page)))
      words v o false y e f = cc (h.words v o, next_else v {r = o / 1024} (λ same page. cc (eq-eqb v u same)))

  -- whether the page is all zeros then
  pub cut_told : (s : Store) (r : Bool) → ShowsPages s a vtocs image → is_filed a vtocs u q ≡ true → at ≤ 1024
      → (IsTrue r ↔ All (λ word. word ≡ 0) (take at ws ++ replicate (1024 - at) 0)) → r ≡ has_cleared s u q at
  cut_told s r h on le told = cc (
    zero_words_told (cleared s u q at).words u q (take at ws ++ replicate (1024 - at) 0) r size word told,
    h.stored u q,
  )
    where
      size : length (take at ws ++ replicate (1024 - at) 0) ≤ 1024
      size = (omega (
        arith,
        length-append (take at ws) (replicate (1024 - at) 0),
        length-take at ws,
        length-replicate {A = ℕ} (1024 - at) 0,
      ))

      word : (i : ℕ) → i < 1024
          → (cleared s u q at).words u (1024 * q + i) ≡ get_or (take at ws ++ replicate (1024 - at) 0) i 0
      word i lt =
          let page : (1024 * q + i) / 1024 ≡ q = omega arith in
          let place : (1024 * q + i) % 1024 ≡ i = omega arith in
          cc ((pages_cut s h).words u (1024 * q + i), page, place, next_here)

-- the words of a frame that is cut are zeros where those that it is cut to are
pub zeros_cut : (frames : List (List ℕ)) (f at n : ℕ)
    → AreZero (get_or (set frames f (take at (get_or frames f []) ++ replicate n 0)) f [])
    ↔ AreZero (take at (get_or frames f []) ++ replicate n 0)
zeros_cut [] f at n = (λ h. all_zeros at n, λ h k d lt. absurd (omega arith))
  where
    all_zeros : (at n : ℕ) → AreZero (take at [] ++ replicate n 0)
    all_zeros zero n k d lt = get_or-replicate n k 0 d (rw (← length-replicate {A = ℕ} n 0) lt)
    all_zeros (suc at) n k d lt = get_or-replicate n k 0 d (rw (← length-replicate {A = ℕ} n 0) lt)
zeros_cut (x ∷ frames) zero at n = (λ h. h, λ h. h)
zeros_cut (x ∷ frames) (suc f) at n = zeros_cut frames f at n

-- ---- a page that may be stored no more

pub record MayDrop (now : Plain) (ast : ActiveSegs) (a : AccountMaps) (u q : ℕ) : Type 0 where
  pub within : q < length (table_of ast u)
  pub there : is_there a.nodes u ≡ true
  pub filed : is_filed a now.vtocs u q ≡ true
  pub segment : has_segment a.nodes u ≡ true
  pub some : 1 ≤ count_of a u
  pub home : IsHomeOf now.vtocs u (home_of a u)
  pub table : IsTableOf (bindings now.core) u (table_of ast u)

pub away_isnt_here : (w : Ptw) → is_away w ≡ true → is_here w ≡ false
away_isnt_here w h1 = grind arith

pub may_drop : {now : Plain} {ast : ActiveSegs} {links : Links} {a : AccountMaps} {whos : List Who} {u q : ℕ}
    → IsKept now ast links → IsStore now ast links a whos → IsActive ast.entries u
    → is_away (word_of ast u q) ≡ true → MayDrop now ast a u q
may_drop {now} {ast} {links} {a} {whos} {u} {q} k h active away = record {
  within = word_within (table_of ast u) q record_there;
  there = there;
  filed = filed;
  segment = elim (cases_Bool (has_directory a.nodes u)) [
    | inr off ↦ segment_of a.nodes u there off
    | inl on ↦ (let none = h.counted.flat u on in
        let lt = h.counted.inside u q there filed_at in absurd (omega arith))
  ];
  some = (omega (
    arith,
    one_named (map_at now.vtocs (home_of a u)) q (sym (filed_map now.vtocs (home_of a u) q) ∙ filed_at),
    h.counted.counts u there,
  ));
  home = active_home k h active;
  table = (active_tie k h active).table;
}
  where
    record_there : has_record (word_of ast u q) ≡ true
    record_there = stored_away (word_of ast u q) away

    there : is_there a.nodes u ≡ true
    there = active_there k h active

    filed : is_filed a now.vtocs u q ≡ true
    filed = word_filed k h active q ∙ record_there

    filed_at : is_filed_at now.vtocs (home_of a u) q ≡ true
    filed_at = sym (filed_there a now.vtocs u q there) ∙ filed

pub unstores_one : {D : Type 0} (drive : D → List (List ℕ)) {t n : Storage D} {u q : ℕ} (home : Home)
    → IsActive t.segs.ast.entries u → length t.segs.ast.tables ≡ length t.segs.ast.entries
    → MayDrop (plain drive t.segs.pages) t.segs.ast t.accounts u q → is_away (word_of t.segs.ast u q) ≡ true
    → Recounts t.accounts n.accounts u (count_of t.accounts u - 1) → n.segs.ast ≡ worded t.segs.ast u q Null
    → plain drive n.segs.pages ≡ dropped (plain drive t.segs.pages) home q (word_of t.segs.ast u q)
    → reads_of n.segs.pages.core ≡ reads_of t.segs.pages.core → n.segs.links ≡ t.segs.links
    → n.segs.moving ≡ t.segs.moving → n.whos ≡ t.whos → n.segs.pages.volumes.drives ≡ t.segs.pages.volumes.drives
    → Unstores t n u (λ r. eqb r q)
unstores_one drive {t} {n} {u} {q} home active places may away re word effect reads links moving whos drives = record {
  nodes = re.nodes;
  entries = re.entries;
  next = re.next;
  places = cc;
  sizes = cc;
  hands = cc;
  tables = λ place apart. cc (worded_table t.segs.ast u q Null place active apart);
  kept = λ r off. cc (worded_other t.segs.ast u q Null r (λ same. (let clash = sym (eq-eqb r q same) ∙ off in cc)));
  gone = λ r on. cc (eqb-true r q on, worded_here t.segs.ast u q Null active places may.within);
  bound = bound_dropped (plain drive t.segs.pages) (plain drive n.segs.pages) u q home (table_of t.segs.ast u)
      (word_of t.segs.ast u q) may.table refl (away_isnt_here (word_of t.segs.ast u q) away) effect;
  reads = reads;
  links = links;
  moving = moving;
  whos = whos;
  drives = drives;
}

-- a page that isn't stored is in no frame
pub unstores_null : {D : Type 0} (drive : D → List (List ℕ)) {t : Storage D} {u : ℕ} (q : ℕ)
    → IsTableOf (bindings t.segs.pages.core) u (table_of t.segs.ast u) → word_of t.segs.ast u q ≡ Null
    → Unstores t t u (λ r. eqb r q)
unstores_null drive {t} {u} q table null = unstores_still (λ r on. cc (eqb-true r q on))
    (bound_none t.segs.pages.core u q (table_of t.segs.ast u) table (ap frame_of null))

pub null_of : (w : Ptw) → is_here w ≡ false → is_away w ≡ false → w ≡ Null
null_of Null e f = refl
null_of _ e f = cc

-- ---- a page is cut through its frame

pub shown_cut : {D : Type 0} {drive : D → List (List ℕ)} {p : Plan} {s : Store} {t : Storage D} {segs : Control D}
    (u q f at : ℕ) → segs.links ≡ t.segs.links → segs.pages.volumes ≡ t.segs.pages.volumes
    → is_there t.accounts.nodes u ≡ true
    → picture t.accounts (words_at (plain drive t.segs.pages)) u q ≡ words_in (plain drive t.segs.pages) f
    → words_at (plain drive segs.pages) ≡ changed_page (words_at (plain drive t.segs.pages)) u q
    (take at (words_in (plain drive t.segs.pages) f) ++ replicate (1024 - at) 0)
    → Shows drive p s t → Shows drive p (cleared s u q at) (record t { segs = segs })
shown_cut {drive} {s} {t} {segs} u q f at links volumes there has words h = record {
  tree = assumption h.tree;
  known = cc;
  pages = subst (λ (v : List (List (Option VtocEntry))). ShowsPages (cleared s u q at) t.accounts v
      (words_at (plain drive segs.pages))) (cc) (pages_cut t.accounts t.segs.pages.volumes.vtocs
      (words_at (plain drive t.segs.pages)) (words_at (plain drive segs.pages)) u q at _ there has words s h.pages);
  script = record {
    records = λ v. cc (h.script.records v);
    entries = λ v. cc (h.script.entries v);
    whos = h.script.whos;
  };
}

-- an active segment's page in a frame has the words there
pub leaving_words : {now : Plain} {ast : ActiveSegs} {links : Links} {a : AccountMaps} {whos : List Who}
    → IsKept now ast links → IsStore now ast links a whos → {u : ℕ} (q : ℕ) {f : ℕ} → IsActive ast.entries u
    → word_of ast u q ≡ Leaving f → words_at now u (home_of a u) q ≡ words_in now f
leaving_words {now} {ast} {links} {a} {whos} k h {u} q {f} active word =
    words_bound now u q f (home_of a u) (tie.back f q (ap frame_of word)) (λ g e. same_Some g f (cc (tie.named g q e)))
  where
    tie : IsTableOf (bindings now.core) u (table_of ast u)
    tie = (active_tie k h active).table

pub picture_bound : {now : Plain} {ast : ActiveSegs} {links : Links} {a : AccountMaps} {whos : List Who}
    → IsKept now ast links → IsStore now ast links a whos → {u : ℕ} (q : ℕ) {f : ℕ} → IsActive ast.entries u
    → word_of ast u q ≡ Leaving f → picture a (words_at now) u q ≡ words_in now f
picture_bound {now} {ast} {links} {a} {whos} k h {u} q {f} active word =
    picture_there a (words_at now) u q (active_there k h active) ∙ leaving_words k h q active word

pub leaving_bound : {now : Plain} {ast : ActiveSegs} {links : Links} {a : AccountMaps} {whos : List Who}
    → IsKept now ast links → IsStore now ast links a whos → {u : ℕ} (q : ℕ) {f : ℕ} → IsActive ast.entries u
    → word_of ast u q ≡ Leaving f → binding_at (bindings now.core) f ≡ Some (u, q)
leaving_bound {now} {ast} {links} {a} {whos} k h {u} q {f} active word =
    (active_tie k h active).table.back f q (ap frame_of word)

pub frame_is_bound : (core : Core) (u q f : ℕ) → binding_at (bindings core) f ≡ Some (u, q)
    → is_bound (frame_at core f) ≡ true
frame_is_bound core u q f e = bound_from_page (frame_at core f) u q (sym (get_or-map bound_page core.frames f Free) ∙ e)

-- what is told of a page that is cut through its frame
pub frame_told : (now : Plain) (f at : ℕ) (r : Bool) (next : Plain) → next ≡ cut now f at
    → (IsTrue r ↔ AreZero (words_in next f)) → IsTrue r ↔ AreZero (take at (words_in now f) ++ replicate (1024 - at) 0)
frame_told now f at r next is told =
    let both = zeros_cut now.frames f at (1024 - at) in
    let here = rw is at told in
    (λ t. both.0 (here.0 t), λ z. here.1 (both.1 z))

-- a word that isn't that of a page on its way out
pub not_leaving : (w : Ptw) → is_here w ≡ false → is_out w ≡ false → leaves w ≡ None → w ≡ Null
not_leaving Null e f none = refl
not_leaving _ e f none = cc

pub leaving_is : (w : Ptw) (f : ℕ) → leaves w ≡ Some f → w ≡ Leaving f
leaving_is (Leaving g) f e = ap Leaving (same_Some g f e)
leaving_is _ f e = cc

-- nothing but the words and the marks of a frame is changed
pub unstores_cut : {D : Type 0} {t n : Storage D} {u : ℕ} → n.accounts ≡ t.accounts → n.segs.ast ≡ t.segs.ast
    → bindings n.segs.pages.core ≡ bindings t.segs.pages.core → reads_of n.segs.pages.core ≡ reads_of t.segs.pages.core
    → n.segs.links ≡ t.segs.links → n.segs.moving ≡ t.segs.moving → n.whos ≡ t.whos
    → n.segs.pages.volumes ≡ t.segs.pages.volumes → Unstores t n u (λ q. false)
unstores_cut {t} {u} accounts ast bound reads links moving whos volumes = grind (arith, none_bound)
