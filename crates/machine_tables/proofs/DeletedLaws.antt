-- A node that is deleted, exactly.
use Rattle.machine_tables.proofs.Prelude.{◌≡◌, ◌≢◌, ◌<◌, ℕ, ◌-◌, Bool, true, false, not, ◌&&◌, cond, eqb, is_some, length, map, count_by, List, [], ◌∷◌, get_or, Option, Some, None, refl, sym, ap, ◌∙◌, arith, inl, inr, Result, Ok, Err, filter, range_with_len, cases_eq, ne_eqb, eq-eqb, length-map, sum_by-cons, Plan, Reply, HasColumns, count_of, Node, branch_at, node_at, takes_effect, after_delete, delete_reply, deleted, without_stored, Store, Ptw, Null, HasParts, Home, erased, Plain, filed, plain, vtoc_of, has_record, IsTied, is_for, place_of, table_of, word_of, IsKept, Commits, KeepsRest, Erases, paged, pages_cut, pages_from, IsStore, Shows, Stored, home_of, is_there, pages_in, branch_refuses, frames_freed, inactive_if, lost, with_deleted, with_effect, IsFaithful, is_active, uid_at_path, Storage, with_pages, active_place, within_some, active_at, word_within, IsCommitted, shown, OwnsAll, OwnsFor, found_uid, Command as command, cases_Bool, false_from_ne_true, shown_within, IsNodeTree as IsTree, Custody_has as has, VtocEntry as Entry, Vtoc_uid_of as uid_of, Tied_uid_at as uid_at}
use Rattle.machine_tables.proofs.CommitLaws.{branch_node, branch_uid, flat_after}
use Rattle.machine_tables.proofs.DeleteLaws.{IsNamed, IsUsed, cut_erased, cut_inactive, freed_alike, freed_rest, owned_alike}
use Rattle.machine_tables.proofs.GoneLaws.{entry_kept, lost_is}
use Rattle.machine_tables.proofs.RefusalLaws.{shows_of}

-- ---- stored pages of other segments

abbrev tally : Bool → ℕ
tally b = cond b 1 0

count_kept : (s uid : ℕ) → s ≢ uid → (xs : List (ℕ × ℕ))
    → count_by (λ x. eqb x.0 s) (filter (λ x. not (eqb x.0 uid && true)) xs) ≡ count_by (λ x. eqb x.0 s) xs
count_kept s uid ne [] = refl
count_kept s uid ne (x ∷ xs) =
    let rest = count_kept s uid ne xs in
    let all = sum_by-cons (λ (y : ℕ × ℕ). tally (eqb y.0 s)) x xs in
    elim (cases_eq x.0 uid) [
      | inl is ↦ rw (eq-eqb x.0 uid is) (let none = ap tally (ne_eqb x.0 s (λ e. ne (sym e ∙ is))) in omega arith)
      | inr isnt ↦ rw (ne_eqb x.0 uid isnt)
          (let more = sum_by-cons (λ (y : ℕ × ℕ). tally (eqb y.0 s)) x kept in omega arith)
    ]
  where
    kept : List (ℕ × ℕ)
    kept = filter (λ y. not (eqb y.0 uid && true)) xs

-- ---- the home of a node

module _ (st : Storage) (uid : ℕ) (kept : IsKept st.pages st.ast st.links)
    (counted : IsStore st.pages st.ast st.links st.accounts st.whos)
    (parts : HasParts st.pages.disks st.pages.records st.pages.vtocs) (there : is_there st.accounts.nodes uid ≡ true)
  where
    abbrev home : Home
    home = home_of st.accounts uid

    home_used : uid_at st.pages.vtocs home ≡ Some uid
    home_used = counted.housed.homes uid there

    home_within : IsUsed st.pages home
    home_within = by (get_or (vtoc_of st.pages home.volume) home.entry None) refl
      where
        volume : home.volume < length st.pages.vtocs
        volume = shown_within (λ t. uid_of (get_or t home.entry None)) st.pages.vtocs home.volume [] uid refl home_used

        records : home.volume < length st.pages.records
        records =
            let tables = parts.tables in
            let sizes = ap length parts.sizes in
            let flags = length-map st.pages.records (λ (x : List Bool). length x) in
            let drives = length-map st.pages.disks (λ (x : List (List ℕ)). length x) in
            omega (arith, volume, tables, sizes, flags, drives)

        by : (x : Option Entry) → get_or (vtoc_of st.pages home.volume) home.entry None ≡ x → IsUsed st.pages home
        by None e = absurd (cc home_used)
        by (Some entry) e = record {
          volume = volume;
          records = records;
          entry = shown_within uid_of (vtoc_of st.pages home.volume) home.entry None uid refl home_used;
          used = entry;
          is = e;
        }

    pub names : (n : ℕ) → is_active st.ast uid ≡ true
        → IsNamed (record { pages = st.pages; ast = st.ast; stored = n }) home uid
    names n active = record {
      used = home_within;
      named = λ q some. some_is (filed st.pages home q) (tie.map.stored q ∙ has_word (word_of st.ast uid q) some);
    }
      where
        tie : IsTied st.pages uid home (table_of st.ast uid)
        tie = kept.paged.ties (place_of st.ast.entries uid) uid home (active_place st.ast uid active).1
            (record { used = home_used; only = λ other e. counted.housed.only other uid e })

        has_word : (w : Ptw) → w ≢ Null → has_record w ≡ true
        has_word Null ne = absurd (ne refl)
        has_word w ne = refl

        some_is : (o : Option ℕ) → is_some o ≡ true → (r : ℕ) × (o ≡ Some r)
        some_is None h = cc
        some_is (Some r) h = (r, refl)

    -- of a node that isn't active no page is on its way out
    idle_frames : (frames : List ℕ) → is_active st.ast uid ≡ false → OwnsAll st uid frames → (g : ℕ)
        → has frames g ≡ has [] g
    unfolding place_of
    idle_frames frames idle owns g = false_from_ne_true (has frames g) (λ e. (let page = owns.pages g e in
        let within = (word_within st.ast uid page.0 (λ null. cc (page.2))).0 in
        let active = within_some (is_for uid) st.ast.entries (rw kept.places at within) in cc))

-- ---- the store

-- what a path leads to is there
pub node_there : (ns : List Node) (path : List (List ℕ)) (n : Node) → node_at ns path ≡ Ok n → is_there ns n.uid ≡ true
unfolding node_at
node_there ns path n h = grind (arith, found_uid)

module _ {D : Type 0} (drive : D → List (List ℕ)) (t u : Stored D) (path : List (List ℕ)) (r : Reply)
    (before : HasColumns t.accounts) (after : HasColumns u.accounts) (tree : IsTree t.accounts.nodes)
    (now_tree : IsTree u.accounts.nodes) (kept : IsKept (plain drive t.segs.pages) t.segs.ast t.segs.links)
    (counted : IsStore (plain drive t.segs.pages) t.segs.ast t.segs.links t.accounts t.whos)
    (now_counted : IsStore (plain drive u.segs.pages) u.segs.ast u.segs.links u.accounts u.whos)
    (parts : HasParts (map drive t.segs.pages.volumes.drives) t.segs.pages.volumes.records t.segs.pages.volumes.vtocs)
    (rest : KeepsRest t u) where
  abbrev st : Storage
  st = shown drive t

  -- page control and the active segments, and the accounts
  module _ (n : Node) (frames : List ℕ) (owns : OwnsAll st n.uid frames)
      (there : is_there t.accounts.nodes n.uid ≡ true) (erases : Erases drive t u n.uid) where
    abbrev freed : Plain
    freed = erased (frames_freed st.pages frames) (home_of t.accounts n.uid)

    record HasErased : Type 0 where
      pub pages : plain drive u.segs.pages ≡ freed
      pub ast : u.segs.ast ≡ (inactive_if (with_pages st freed) n.uid).ast

    active_erased : is_active st.ast n.uid ≡ true → HasErased
    active_erased active =
        let place = active_place st.ast n.uid active in
        let both = erases.active (place_of st.ast.entries n.uid, place.1) in
        let size = pages_in t.accounts.nodes n.uid in
        let count : size - 0 ≡ size = omega arith in
        record {
          pages = both.0 ∙ (ap (λ (k : ℕ). erased (pages_cut (paged drive t n.uid) (home_of t.accounts n.uid) n.uid
              (range_with_len 0 k)).pages (home_of t.accounts n.uid)) count
              ∙ (cut_erased (paged drive t n.uid) (home_of t.accounts n.uid) n.uid 0 size
              (names st n.uid kept counted parts there (count_of t.accounts n.uid) active)
              ∙ ap (λ (x : Plain). erased x (home_of t.accounts n.uid))
              (sym (freed_alike st.pages frames _ (owned_alike st n.uid frames owns)))));
          ast = cc (cut_inactive (paged drive t n.uid) (home_of t.accounts n.uid) n.uid (pages_from 0 size));
        }

    idle_erased : is_active st.ast n.uid ≡ false → HasErased
    idle_erased idle =
        let both = erases.inactive (record {
          nowhere = λ place at. (cc (active_at st.ast place n.uid at));
        }) in
        record {
          pages = cc (freed_alike st.pages frames [] (idle_frames st n.uid kept counted parts there frames idle owns));
          ast = cc;
        }

    has_erased : HasErased
    has_erased = elim (cases_Bool (is_active st.ast n.uid)) [ inl e ↦ active_erased e | inr e ↦ idle_erased e ]

  -- the accounts, and what leads to segments
  module _ (n : Node) (frames : List ℕ) (p : Plan) (flat : Store) (faithful : IsFaithful p flat st)
      (now : Shows drive p (deleted flat (Ok n)) u) (pages : plain drive u.segs.pages
      ≡ erased (frames_freed (plain drive t.segs.pages) frames) (home_of t.accounts n.uid)) where
    left_counts : (s : ℕ) → s ≢ n.uid → count_of u.accounts s ≡ count_of t.accounts s
    unfolding without_stored
    left_counts s other = now.tree.counts s ∙ (count_kept s n.uid other flat.stored ∙ sym (faithful.tree.counts s))

    vtocs : u.segs.pages.volumes.vtocs ≡ (erased (plain drive t.segs.pages) (home_of t.accounts n.uid)).vtocs
    vtocs = grind (arith, freed_rest)

    accounts_lost : u.accounts ≡ lost t.accounts n.uid
    accounts_lost = grind (arith, lost_is, left_counts, entry_kept, vtocs)

    links_left : u.segs.links ≡ t.segs.links
    links_left = grind arith

  inactive_rest : (x : Storage) (uid : ℕ) → inactive_if x uid ≡ record x { ast = (inactive_if x uid).ast }
  inactive_rest x uid = grind arith

  -- the store once it takes effect
  deleted_exact : (n : Node) (frames : List ℕ) (p : Plan) (flat : Store) → branch_at t.accounts.nodes path ≡ Ok n
      → OwnsAll st n.uid frames → Erases drive t u n.uid → IsFaithful p flat st
      → Shows drive p (deleted flat (Ok n)) u → shown drive u ≡ with_deleted st n.uid frames
  deleted_exact n frames p flat at owns erases faithful now =
      let there = node_there t.accounts.nodes path n (branch_node t.accounts.nodes path n at) in
      let erased_it = has_erased n frames owns there erases in
      let next = with_pages st (erased (frames_freed st.pages frames) (home_of t.accounts n.uid)) in
      (λ i. record {
        accounts = accounts_lost n frames p flat faithful now erased_it.pages i;
        pages = erased_it.pages i;
        ast = erased_it.ast i;
        links = links_left n frames p flat faithful now erased_it.pages i;
        whos = rest.whos i;
        moving = rest.moving i;
      }) ∙ sym (ap (λ (x : Storage). record x { accounts = lost t.accounts n.uid }) (inactive_rest next n.uid))

  pub delete_committed : (k : ℕ) (frames : List ℕ) → OwnsFor st frames (command.Delete path)
      → Commits drive t u k (command.Delete path) r
      → (takes_effect r ≡ true → (n : Node) → branch_at t.accounts.nodes path ≡ Ok n → Erases drive t u n.uid)
      → IsCommitted drive t u k frames (command.Delete path) r
  unfolding after_delete delete_reply
  delete_committed k frames owns does erases = record {
    does = does;
    exact = λ p flat faithful takes. by p flat faithful takes (branch_at flat.nodes path) refl;
    drives = rest.drives;
  }
    where
      by : (p : Plan) (flat : Store) → IsFaithful p flat st → takes_effect r ≡ true → (x : Result Node Reply)
          → branch_at flat.nodes path ≡ x
          → shown drive u ≡ with_effect st k (uid_at_path st path) frames (command.Delete path)
      by p flat faithful takes (Err q) e =
          absurd (cc (does.answer p flat (shows_of drive p flat t faithful), branch_refuses flat.nodes path q e))
      by p flat faithful takes (Ok n) e =
          let at : branch_at t.accounts.nodes path ≡ Ok n =
          ap (λ (ns : List Node). branch_at ns path) (sym faithful.tree.nodes) ∙ e in
          let now = flat_after drive t u p flat (after_delete flat path) r takes
          (does.effect p flat (shows_of drive p flat t faithful)) in
          deleted_exact n frames p flat at (owns n at) (erases takes n at) faithful (rw e at now)
          ∙ ap (λ (v : ℕ). with_effect st k v frames (command.Delete path))
          (sym (branch_uid t.accounts.nodes path n at))
