-- A segment has another home, on another volume, with what was filed at its old one.
use Rattle.storage_ops.proofs.Prelude.{◌≡◌, ◌≢◌, ℕ, ◌+◌, ◌/◌, true, List, Some, None, is_some, map, refl, sym, ap, ◌∙◌, arith, inl, inr, count_by, cases_eq, eq-eqb, ne_eqb, Who, Plan, AccountMaps, Counts, Rehomes, entry_of, Node, entries_on, has_directory, pool_of, taken_on, volume_in, IsTree, Store, volume_found, ActiveSegs, Home, Plain, plain, map_at, uid_at, entries, named_on, size, taken, used, is_filed_at, words_at, Links, AreCounted, AreHoused, AreTaken, IsStore, Shows, Storage, home_of, is_filed, is_there, named_at, pages_in, picture, nat_tests, cases_Bool, home_cases}
use Rattle.flat_model.specs.Moves.{moved}
use Rattle.storage_ops.proofs.Alike.{active_alike, node_map, rights_alike, there_map}
use Rattle.storage_ops.proofs.Homes.{filed_map}
use Rattle.storage_ops.proofs.NodeLaws.{found_there}
use Rattle.storage_ops.proofs.Still.{tree_still}
use Rattle.storage_ops.proofs.VolumeMoved.{directory_on, entries_moved, on_volume, pages_on, rows_on, superior_on, kind_on, taken_moved, uid_on, volume_else, volume_here}

-- A segment has this home in place of the one `from`: what its old file map named is named there, and the records and
-- entries in use go with it. All other homes are as before, and so are the sizes of the volumes.
pub record HasRehomed (old now : Plain) (a b : AccountMaps) (u : ℕ) (from home : Home) : Type 0 where
  pub there : is_there a.nodes u ≡ true
  pub rehomes : Rehomes a b u home.volume home.entry
  pub here : uid_at now.vtocs home ≡ Some u
  pub gone : uid_at now.vtocs (from) ≡ None
  pub free : uid_at old.vtocs home ≡ None
  pub uids : (other : Home) → other ≢ from → other ≢ home → uid_at now.vtocs other ≡ uid_at old.vtocs other
  pub maps : (other : Home) → other ≢ from → other ≢ home → map_at now.vtocs other ≡ map_at old.vtocs other
  pub filed : (q : ℕ) → is_filed_at now.vtocs home q ≡ is_filed_at old.vtocs (from) q
  pub named : named_at now.vtocs home ≡ named_at old.vtocs (from)
  pub taken_moves : (v : ℕ) → taken now.records v + named_on old.vtocs (from) v ≡ taken old.records v
      + named_on now.vtocs home v
  pub left : used now.vtocs from.volume + 1 ≡ used old.vtocs from.volume
  pub gained : used now.vtocs home.volume ≡ used old.vtocs home.volume + 1
  pub beside : (v : ℕ) → v ≢ from.volume → v ≢ home.volume → used now.vtocs v ≡ used old.vtocs v
  pub words : (q : ℕ) → words_at now u home q ≡ words_at old u (from) q
  pub others : (v : ℕ) (other : Home) (q : ℕ) → other ≢ from → other ≢ home
      → words_at now v other q ≡ words_at old v other q
  pub sizes : (v : ℕ) → size now.records v ≡ size old.records v
  pub places : (v : ℕ) → entries now.vtocs v ≡ entries old.vtocs v

module _ {old now : Plain} {a b : AccountMaps} {u : ℕ} {home : Home} (d : HasRehomed old now a b u (home_of a u) home)
    (housed : AreHoused a old.vtocs) where
  -- ---- the nodes

  nodes_are : b.nodes ≡ map (on_volume u home.volume) a.nodes
  nodes_are = d.rehomes.nodes

  there_is : (v : ℕ) → is_there b.nodes v ≡ is_there a.nodes v
  there_is v = cc (there_map (on_volume u home.volume) (uid_on u home.volume) a.nodes v)

  pages_are : (v : ℕ) → pages_in b.nodes v ≡ pages_in a.nodes v
  pages_are v = grind (arith, nodes_are, node_map, uid_on, pages_on)

  kind_is : (v : ℕ) → has_directory b.nodes v ≡ has_directory a.nodes v
  kind_is v = cc (directory_on u home.volume a.nodes v)

  -- ---- homes

  home_here : home_of b u ≡ home
  home_here = ap (λ (x : ℕ). record { volume = x; entry = entry_of b u })
      (cc (volume_here u home.volume a.nodes d.there)) ∙ ap (λ (x : ℕ). record { volume = home.volume; entry = x })
      (cc (d.rehomes.entries u, eq-eqb u u refl))

  home_else : (v : ℕ) → v ≢ u → home_of b v ≡ home_of a v
  home_else v ne =
      cc (nodes_are, volume_else u home.volume a.nodes v ne, d.rehomes.entries v, ne_eqb u v (λ is. ne (sym is)))

  own : uid_at old.vtocs (home_of a u) ≡ Some u
  own = housed.homes u d.there

  -- the home of another node is neither the old one nor the new one
  apart : (v : ℕ) → v ≢ u → is_there a.nodes v ≡ true → home_of a v ≢ home_of a u
  apart v ne t same = ne (cc (housed.homes v t, own))

  beyond : (v : ℕ) → is_there a.nodes v ≡ true → home_of a v ≢ home
  beyond v t same = cc (d.free, ap (uid_at old.vtocs) same, housed.homes v t)

  -- a home that is used now
  not_old : (at : Home) (v : ℕ) → uid_at now.vtocs at ≡ Some v → at ≢ home_of a u
  not_old at v e same = cc (d.gone, ap (uid_at now.vtocs) same)

  uid_here : (at : Home) (v : ℕ) → uid_at now.vtocs at ≡ Some v → at ≡ home → v ≡ u
  uid_here at v e same = cc (d.here, ap (uid_at now.vtocs) same)

  uid_else : (at : Home) (v : ℕ) → uid_at now.vtocs at ≡ Some v → at ≢ home → uid_at old.vtocs at ≡ Some v
  uid_else at v e ne = sym (d.uids at (not_old at v e) ne) ∙ e

  pub rehomed_housed : AreHoused b now.vtocs
  rehomed_housed = record {
    homes = λ v t. elim (cases_eq v u) [
      | inl is ↦ rw is (cc (home_here, d.here))
      | inr ne ↦ (let was = sym (there_is v) ∙ t in
          cc (home_else v ne, d.uids (home_of a v) (apart v ne was) (beyond v was), housed.homes v was))
    ];
    there = λ at v e. there_is v ∙ elim (home_cases at home) [
      | inl is ↦ ap (is_there a.nodes) (uid_here at v e is) ∙ d.there
      | inr ne ↦ housed.there at v (uid_else at v e ne)
    ];
    only = λ at v e. elim (home_cases at home) [
      | inl is ↦ is ∙ sym home_here ∙ ap (home_of b) (sym (uid_here at v e is))
      | inr ne ↦ housed.only at v (uid_else at v e ne) ∙ sym (home_else v (λ same. not_old at v e
          (housed.only at v (uid_else at v e ne) ∙ ap (home_of a) same)))
    ];
  }

  -- ---- stored pages

  filed_else : (v q : ℕ) → v ≢ u → is_there a.nodes v ≡ true
      → is_filed_at now.vtocs (home_of a v) q ≡ is_filed_at old.vtocs (home_of a v) q
  filed_else v q ne was = cc (
    filed_map now.vtocs (home_of a v) q,
    d.maps (home_of a v) (apart v ne was) (beyond v was),
    filed_map old.vtocs (home_of a v) q,
  )

  filed_at : (v q : ℕ) → is_there a.nodes v ≡ true
      → is_filed_at now.vtocs (home_of b v) q ≡ is_filed_at old.vtocs (home_of a v) q
  filed_at v q was = elim (cases_eq v u) [
    | inl is ↦ rw (is, home_here) (d.filed q)
    | inr ne ↦ ap (λ (x : Home). is_filed_at now.vtocs x q) (home_else v ne) ∙ filed_else v q ne was
  ]

  named_is : (v : ℕ) → is_there a.nodes v ≡ true → named_at now.vtocs (home_of b v) ≡ named_at old.vtocs (home_of a v)
  named_is v was = elim (cases_eq v u) [
    | inl is ↦ rw is (cc (home_here, d.named))
    | inr ne ↦ ap (named_at now.vtocs) (home_else v ne)
        ∙ ap (count_by is_some) (d.maps (home_of a v) (apart v ne was) (beyond v was))
  ]

  pub rehomed_counted : AreCounted a old.vtocs → AreCounted b now.vtocs
  rehomed_counted h = grind (arith, there_is, named_is, pages_are, filed_at, kind_is)

  -- ---- records and entries in use

  records_are : AreCounted a old.vtocs → AreTaken a old.records old.vtocs → (stored : List (ℕ × ℕ)) (v : ℕ)
      → Counts b stored → taken now.records v ≡ taken_on b.nodes stored v
  unfolding named_on
  records_are counted h stored v counts = grind (arith, taken_moved, nodes_are)

  entries_are : IsTree a.nodes → AreTaken a old.records old.vtocs → (v : ℕ) → used now.vtocs v ≡ entries_on b.nodes v
  entries_are tree h v =
      let found = found_there a.nodes u d.there in
      let at = volume_found a.nodes u found.0 found.1 in
      let moves = entries_moved a.nodes tree u home.volume found.1 v in
      let was = h.entries v in
      rw nodes_are (elim (cases_eq v (volume_in a.nodes u)) [
        | inl from ↦ grind (arith, nat_tests)
        | inr apart ↦ grind (arith, nat_tests, d.beside v apart)
      ])

  -- ---- the whole

  pool_is : (n : Node) → pool_of (on_volume u home.volume n) ≡ pool_of n
  pool_is n = cc (kind_on u home.volume n, pages_on u home.volume n)

  pub store_rehomed : {ast next : ActiveSegs} {links : Links} {whos : List Who} → IsTree a.nodes
      → next.entries ≡ ast.entries → next.sizes ≡ ast.sizes → IsStore old ast links a whos
      → IsStore now next links b whos
  store_rehomed {ast} {next} {links} {whos} tree entries_same sizes_same h = record {
    housed = rehomed_housed;
    counted = rehomed_counted h.counted;
    taken = record {
      records = records_are h.counted h.taken;
      entries = entries_are tree h.taken;
      short = λ v. rw (d.sizes v) (h.taken.short v);
    };
    active = tree_still entries_same sizes_same
        (active_alike (on_volume u home.volume) (uid_on u home.volume) a b nodes_are (superior_on u home.volume)
        h.active (λ place v m e found. pool_is m));
    rights = rw entries_same (rights_alike (on_volume u home.volume) (uid_on u home.volume) a b nodes_are h.rights
        (λ process number place pages v mode m w e found. (rows_on u home.volume m, pages_on u home.volume m)));
    known = rw d.rehomes.next h.known;
  }

  filed_same : (v q : ℕ) → is_filed b now.vtocs v q ≡ is_filed a old.vtocs v q
  unfolding is_filed
  filed_same v q = elim (cases_Bool (is_there a.nodes v)) [
    | inl on ↦ cc (there_is v, filed_at v q on)
    | inr off ↦ rw (there_is v, off) refl
  ]

  words_are : (v q : ℕ) → is_there a.nodes v ≡ true → words_at now v (home_of b v) q ≡ words_at old v (home_of a v) q
  words_are v q was = grind (arith, home_here, home_else, apart, beyond)

  picture_same : (v q : ℕ) → picture b (words_at now) v q ≡ picture a (words_at old) v q
  unfolding picture
  picture_same v q = elim (cases_Bool (is_there a.nodes v)) [
    | inl on ↦ cc (there_is v, words_are v q on)
    | inr off ↦ rw (there_is v, off) refl
  ]

-- the flat store has the segment on the other volume
pub shown_rehomed : {D : Type 0} {drive : D → List (List ℕ)} {p : Plan} {s : Store} {t n : Storage D} {u : ℕ}
    {home : Home} → HasRehomed (plain drive t.segs.pages) (plain drive n.segs.pages) t.accounts n.accounts u
    (home_of t.accounts u) home
    → AreHoused t.accounts t.segs.pages.volumes.vtocs → n.segs.links ≡ t.segs.links → n.whos ≡ t.whos
    → Shows drive p s t → Shows drive p (moved s u home.volume) n
shown_rehomed {drive} {t} {n} {u} {home} d housed links whos h = (
    let old = plain drive t.segs.pages in
    let now = plain drive n.segs.pages in
    let a = t.accounts in
    let b = n.accounts in
    record {
      tree = record {
        nodes = cc;
        next = cc;
        counts = λ v. d.rehomes.counts v ∙ h.tree.counts v;
      };
      known = rw links h.known;
      pages = record {
        stored = λ v q. h.pages.stored v q ∙ sym (filed_same d housed v q);
        once = h.pages.once;
        words = λ v o. cc (h.pages.words v o, picture_same d housed v (o / 1024));
      };
      script = record {
        records = λ v. h.script.records v ∙ sym (d.sizes v);
        entries = λ v. h.script.entries v ∙ sym (d.places v);
        whos = cc;
      };
    })
