-- The tables at first: a store of the root alone on volumes of which nothing is in use.
use Rattle.machine_tables.proofs.Prelude.{◌≡◌, ℕ, suc, false, List, [], ◌∷◌, map, length, get_or, set, sum, replicate, Option, Some, None, refl, sym, ap, subst, ◌∙◌, arith, slice_get, length-map, length-replicate, IsPlan, Plan, VolumeLine, root_alone, boot, entries_in, records_in, store_after-nil, VtocEntry, fresh_entry, HasParts, Vols, no_segments, after_asked, Plain, plain, vtoc_in, no_links, IsKept, AreFresh, IsStore, Shows, Stored, empty_frames, booted, first_pages, first_state, first_store, first_vtocs, unused_entries, unused_records, AllCome, AreAccounts, IsFaithful, StoreSays, KeepsAll, State, Storage, none_fits, conserved_by, boot_keeps_all, kept_with, none_work, first_words, shown, Frame as frame, ext_get_or, all_same}

-- ---- lists of nothing

all_blank : {X : Type 0} (xs : List X) (n : ℕ) (d : X) → n ≡ length xs → ((r : ℕ) → get_or xs r d ≡ d)
    → xs ≡ replicate n d
all_blank xs n d long off = ext_get_or d xs (replicate n d) (cc (length-replicate n d))
    (λ i lt. off i ∙ sym (all_same n i d))

-- as many lists as volumes, each as long as its volume says
all_are : {X : Type 0} (d : X) (count : Option VolumeLine → ℕ) (vs : List VolumeLine) (xs : List (List X))
    → length xs ≡ length vs → ((v : ℕ) → count (slice_get vs v) ≡ length (get_or xs v []))
    → ((v r : ℕ) → get_or (get_or xs v []) r d ≡ d) → xs ≡ map (λ v. replicate (count (Some v)) d) vs
all_are d count [] [] e long off = refl
all_are d count (v ∷ vs) (x ∷ xs) e long off = cc (
  all_blank x (count (Some v)) d (long 0) (off 0),
  all_are d count vs xs (omega arith) (λ w. long (suc w)) (λ w. off (suc w)),
)
all_are d count vs xs e long off = absurd (omega arith)

-- the root has the first entry of the first volume
with_root : List (List (Option VtocEntry)) → List (List (Option VtocEntry))
with_root vtocs = set vtocs 0 (set (vtoc_in vtocs 0) 0 (fresh_entry 1))

root_in : (vs : List VolumeLine) → with_root (map unused_entries vs) ≡ first_vtocs vs
unfolding with_root
root_in vs = grind arith

-- ---- the store

module _ {D : Type 0} (pages : D → List (List ℕ)) (p : Plan) (v : Vols D)
    (count : length v.drives ≡ length p.volumes) (fresh : AreFresh p v.records v.vtocs)
    (parts : HasParts (map pages v.drives) v.records v.vtocs) where
  records_first : v.records ≡ unused_records p.volumes
  records_first = all_are false records_in p.volumes v.records long fresh.records fresh.unused
    where
      long : length v.records ≡ length p.volumes
      long = cc (length-map v.records length, length-map (map pages v.drives) length, length-map v.drives pages)

  vtocs_first : with_root v.vtocs ≡ first_vtocs p.volumes
  vtocs_first = cc (
    all_are None entries_in p.volumes v.vtocs (parts.tables ∙ length-map v.drives pages ∙ count)
        fresh.entries fresh.free,
    root_in p.volumes,
  )

  pages_first : after_asked (plain pages (empty_frames p.frames v)) 0 1 (Some 0)
      ≡ first_pages p (first_words p.frames) (map pages v.drives)
  unfolding with_root
  pages_first = grind (arith, records_first, vtocs_first)

  pub store_first : (t : Stored D) → t.accounts ≡ root_alone 0 0 p.quota
      → plain pages t.segs.pages ≡ after_asked (plain pages (empty_frames p.frames v)) 0 1 (Some 0)
      → t.segs.ast ≡ no_segments p.pools → t.segs.links ≡ no_links (sum p.pools) (length p.processes)
      → t.whos ≡ map (λ x. x.who) p.processes → t.segs.moving ≡ None
      → shown pages t ≡ first_store p (first_words p.frames) (map pages v.drives)
  store_first t accounts paged ast links whos still = grind (arith, pages_first)

-- ---- what it says

module _ (p : Plan) (st : Storage) (spare faults : ℕ) where
  abbrev s : State
  s = first_state p st spare faults

  boot_total : sum (map (λ n. n.quota) (boot p).nodes) ≡ p.quota
  unfolding boot
  boot_total = omega arith

  pub says_first : IsKept st.pages st.ast st.links → IsStore st.pages st.ast st.links st.accounts st.whos
      → AreAccounts st.accounts → length st.ast.entries ≡ sum st.ast.sizes → IsFaithful p (boot p) st
      → length st.pages.core.frames ≡ p.frames → StoreSays s
  says_first kept counted accounts places faithful frames = record {
    store = assumption;
    faithful = rw (store_after-nil p) faithful;
    rights = record {
      modes = λ i d n h at. cc;
      lengths = λ i d n h at. cc;
    };
    cut = tt;
    conserved = rw (store_after-nil p) (conserved_by p (boot p) st faithful accounts boot_total);
    frames = frames;
  }

module _ {D : Type 0} (pages : D → List (List ℕ)) (p : Plan) (v : Vols D) (t : Stored D) (s : State)
    (spare faults : ℕ) (is : s ≡ first_state p (shown pages t) spare faults) where
  pub says_boot : IsKept s.store.pages s.store.ast s.store.links
      → IsStore s.store.pages s.store.ast s.store.links s.store.accounts s.store.whos → AreAccounts s.store.accounts
      → Shows pages p (boot p) t → t.segs.ast ≡ no_segments p.pools
      → plain pages t.segs.pages ≡ after_asked (plain pages (empty_frames p.frames v)) 0 1 (Some 0) → StoreSays s
  says_boot kept counted accounts shows ast paged = subst StoreSays (sym is) (says_first p (shown pages t) spare faults
      (rw is at kept) (rw is at counted) (rw is at accounts) (rw ast places) (assumption shows)
      (ap (λ (x : Plain). length x.core.frames) paged ∙ length-replicate p.frames frame.Free))
    where
      places : length (no_segments p.pools).entries ≡ sum p.pools
      places = grind (arith, length-replicate)

-- ---- the promise

module _ (p : Plan) (words : List (List ℕ)) (disks : List (List (List ℕ))) (spare faults : ℕ) (script : IsPlan p) where
  abbrev first : State
  first = first_state p (first_store p words disks) spare faults

  come_first : AllCome (booted p words disks) → AllCome first
  unfolding AllCome
  come_first h = h

  keeps_first : StoreSays first → KeepsAll first
  keeps_first says = record {
    machine = record {
      keeps = kept_with first booting.machine.keeps.book says (omega arith) booting.machine.keeps.sizes.processors
          booting.machine.keeps.sizes.processes (λ o h. cc);
      script = script;
      come = come_first booting.machine.come;
      scheduled = booting.machine.scheduled;
      pools = refl;
      moving = refl;
    };
    entitled = booting.entitled;
    reading = booting.reading;
    working = none_work first refl;
    fitting = none_fits first refl;
  }
    where
      booting : KeepsAll (booted p words disks)
      booting = boot_keeps_all p words disks script (assumption says)

  -- Tables at first keep the whole promise, where their store does.
  pub first_keeps : (s : State) → s ≡ first → StoreSays s → KeepsAll s
  first_keeps s is says = subst KeepsAll (sym is) (keeps_first (subst StoreSays is says))
