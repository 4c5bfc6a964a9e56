-- Volumes of which nothing is in use, and a store of nothing at all.
use Rattle.storage_ops.proofs.Prelude.{◌≡◌, ◌≢◌, ℕ, zero, suc, ◌+◌, ◌<◌, ◌≤◌, ◌%◌, Bool, true, false, cond, eqb, List, [], ◌∷◌, length, map, Option, Some, None, get_or, is_some, replicate, refl, sym, ap, ◌∙◌, arith, inl, inr, is_none, count_by, nat_lt, slice_get, list_all, cases_lt, nat_tests, get_or-replicate, get_or_past, length-replicate, position-Some, sum_by-cons, Who, Plan, is_command, is_path, is_volume, VolumeLine, AccountMaps, Gains, root_alone, entries_on, taken_on, Store, at_first, boot, entries_in, sizes_in, root_of, VtocEntry, entry_at, least_free_entry, record_at, records_in, no_records, in_use, ActiveSegs, uid_in_place, uid_in, Home, Plain, AreFiled, flags_in, uid_at, vtoc_in, size, Links, kst_at, AreAtRest, AreFresh, IsStore, Shows, Storage, is_filed, picture, and_parts, all_same, eq-eqb, Entry, Command as command, Vtoc_uid_of as uid_of, uid_of as known_uid}

-- ---- volumes of which nothing is used

module _ (now : Plain) (free : (v e : ℕ) → entry_at (vtoc_in now.vtocs v) e ≡ None) (unused : (v r : ℕ)
    → in_use (flags_in now.records v) r ≡ false) where
  pub none_used : (home : Home) {u : ℕ} → uid_at now.vtocs home ≢ Some u
  none_used home e = cc (ap uid_of (free home.volume home.entry))

  none_recorded : (v e q : ℕ) {r : ℕ} → record_at (vtoc_in now.vtocs v) e q ≢ Some r
  unfolding no_records
  none_recorded v e q is =
      cc (ap (λ (o : Option VtocEntry). get_or (records_in o) q None) (free v e), all_same {X = Option ℕ} 256 q None)

  pub filed_fresh : AreFiled now.records now.vtocs
  filed_fresh = record {
    used = λ v e q r is. absurd (none_recorded v e q is);
    once = λ v e q g q' r is. absurd (none_recorded v e q is);
    named = λ v r is. cc (unused v r);
  }

  pub entry_first : {e : ℕ} → Some e ≡ least_free_entry (vtoc_in now.vtocs 0) → e ≡ 0
  entry_first {e} least = by e (position-Some is_none (vtoc_in now.vtocs 0) e None (sym least)).2
    where
      by : (e : ℕ) → ((k : ℕ) → k < e → is_none (get_or (vtoc_in now.vtocs 0) k None) ≡ false) → e ≡ 0
      by zero before = refl
      by (suc e) before = cc (ap is_none (free 0 0), before 0 (omega arith))

  pub rest_fresh : AreAtRest now
  rest_fresh uid home is = absurd (none_used home is.used)

-- ---- the volumes of a script

volume_sizes : (v : VolumeLine) → is_volume v ≡ true → (v.records ≤ 16384) × (1 ≤ v.entries)
unfolding is_volume
volume_sizes v h = grind (arith, and_parts)

pub records_most : (vs : List VolumeLine) (v : ℕ) → list_all is_volume vs ≡ true → sizes_in (slice_get vs v) < 65536
records_most [] v h = omega arith
records_most (x ∷ vs) zero h = (omega (arith, (volume_sizes x (and_parts (is_volume x) (list_all is_volume vs) h).0).0))
records_most (x ∷ vs) (suc v) h = records_most vs v (and_parts (is_volume x) (list_all is_volume vs) h).1

pub entries_some : (vs : List VolumeLine) → list_all is_volume vs ≡ true → 1 ≤ length vs
    → 1 ≤ entries_in (slice_get vs 0)
entries_some [] h some = absurd (omega arith)
entries_some (x ∷ vs) h some = (volume_sizes x (and_parts (is_volume x) (list_all is_volume vs) h).0).1

-- ---- nothing at all

pub none_active : (n place : ℕ) {u : ℕ} → uid_in_place (replicate n None) place ≢ Some u
none_active n place e = cc (ap uid_in (all_same {X = Option Entry} n place None))

pub none_known : (n process number u : ℕ) → known_uid (kst_at (replicate n
    (replicate 256 None)) process) number ≢ Some u
none_known n process number u e = elim (cases_lt process n) [
  | inl lt ↦ cc (
    ap (λ (kst : List (Option ℕ)). known_uid kst number) (get_or-replicate n process (replicate 256 none) [] lt),
    all_same 256 number none,
  )
  | inr past ↦ cc (ap (λ (kst : List (Option ℕ)). known_uid kst number)
      (get_or_past (replicate n (replicate 256 none)) process [] (rw (length-replicate n (replicate 256 none)) past)))
]
  where
    none : Option ℕ
    none = None

-- no node at all
abbrev pub nothing : AccountMaps
nothing = record { nodes = []; entries = []; next = 1; segments = []; counts = [] }

no_pairs : {xs : List (ℕ × ℕ)} → ((u : ℕ) → 0 ≡ count_by (λ x. eqb x.0 u) xs) → xs ≡ []
no_pairs {xs = []} none = refl
no_pairs {xs = x ∷ xs} none =
    let first = sum_by-cons (λ (y : ℕ × ℕ). cond (eqb y.0 x.0) 1 0) x xs in
    let own : cond {A = ℕ} (eqb x.0 x.0) 1 0 ≡ 1 = rw (eq-eqb x.0 x.0 refl) in
    let zero_count = none x.0 in absurd (omega arith)

taken_none : {stored : List (ℕ × ℕ)} (v : ℕ) → stored ≡ [] → taken_on [] stored v ≡ 0
unfolding taken_on
taken_none v is = rw is

entries_none : (v : ℕ) → entries_on [] v ≡ 0
unfolding entries_on
entries_none v = refl

flags_none : (xs : List Bool) → ((r : ℕ) → in_use xs r ≡ false) → count_by (λ flag. flag) xs ≡ 0
flags_none [] none = refl
flags_none (true ∷ xs) none = cc (none 0)
flags_none (false ∷ xs) none =
    let rest = flags_none xs (λ r. none (suc r)) in
    sum_by-cons (λ (x : Bool). cond x 1 0) false xs ∙ omega arith

places_none : (xs : List (Option VtocEntry)) → ((e : ℕ) → entry_at xs e ≡ None) → count_by is_some xs ≡ 0
places_none [] none = refl
places_none (Some x ∷ xs) none = cc (none 0)
places_none (None ∷ xs) none =
    let rest = places_none xs (λ e. none (suc e)) in
    sum_by-cons (λ (x : Option VtocEntry). cond (is_some x) 1 0) None xs ∙ omega arith

module _ (now : Plain) (free : (v e : ℕ) → entry_at (vtoc_in now.vtocs v) e ≡ None) (unused : (v r : ℕ)
    → in_use (flags_in now.records v) r ≡ false)
    (ast : ActiveSegs) (links : Links) (whos : List Who) (inactive : (place u : ℕ)
    → uid_in_place ast.entries place ≢ Some u)
    (unknown : (process number u : ℕ) → known_uid (kst_at links.known process) number ≢ Some u)
    (processes : length whos ≡ length links.known) (short : (v : ℕ) → size now.records v < 65536) where
  pub store_nothing : IsStore now ast links nothing whos
  store_nothing = record {
    housed = record {
      homes = λ u t. cc;
      there = λ home u e. absurd (none_used now free unused home e);
      only = λ home u e. absurd (none_used now free unused home e);
    };
    counted = record {
      counts = λ u t. cc;
      inside = λ u q t on. cc;
      absent = λ u off. refl;
      most = λ u. omega arith;
      flat = λ u d. refl;
    };
    taken = record {
      records = λ stored v counts. flags_none (flags_in now.records v) (unused v)
          ∙ sym (taken_none v (no_pairs counts));
      entries = λ v. places_none (vtoc_in now.vtocs v) (free v) ∙ sym (entries_none v);
      short = short;
    };
    active = record {
      there = λ place u e. absurd (inactive place u e);
      superiors = λ place u n e found. absurd (inactive place u e);
      pools = λ place u n e found. absurd (inactive place u e);
    };
    rights = record {
      modes = λ process number place pages u mode n d e found. absurd (inactive place u e);
      lengths = λ process number place pages u mode n d e found. absurd (inactive place u e);
    };
    known = record { older = λ process number u e. absurd (unknown process number u e); processes = processes };
  }

-- the flat store of nothing at all
abbrev pub blank : Plan → Store
blank p = record {
  nodes = [];
  next = 1;
  words = λ uid offset. 0;
  stored = [];
  known = replicate (length p.processes) (replicate 256 None);
  processes = replicate (length p.processes) at_first;
}

pub shown_nothing : {D : Type 0} {drive : D → List (List ℕ)} {p : Plan} {t : Storage D} → t.accounts ≡ nothing
    → AreFresh p t.segs.pages.volumes.records t.segs.pages.volumes.vtocs
    → t.segs.links.known ≡ replicate (length p.processes) (replicate 256 None)
    → t.whos ≡ map (λ x. x.who) p.processes → Shows drive p (blank p) t
unfolding is_filed picture
shown_nothing is fresh known whos = record {
  tree = record {
    nodes = rw is;
    next = rw is;
    counts = λ u. rw is;
  };
  known = sym known;
  pages = record {
    stored = λ u q. rw is;
    once = tt;
    words = λ u o. rw is (sym (all_same 1024 (o % 1024) 0));
  };
  script = assumption;
}

-- the root is the first node
pub root_gains : (p : Plan) {a : AccountMaps} {entry : ℕ} (quota : ℕ) → a ≡ root_alone 0 entry quota
    → Gains nothing a (record (root_of p) { quota = quota }) entry
root_gains p quota is = rw is (record { nodes = refl; entries = refl; next = refl; counts = λ u. refl })

pub boot_is : (p : Plan) {quota : ℕ} → quota ≡ p.quota
    → record (blank p) { nodes = record (root_of p) { quota = quota } ∷ []; next = 1 + 1 } ≡ boot p
unfolding boot
boot_is p {quota} is = cc

-- the volume of a command is one of so many
pub dir_volume : (volumes : ℕ) (path : List (List ℕ)) (volume : ℕ)
    → is_command volumes (command.MkDir path volume) ≡ true → volume < volumes
unfolding is_command
dir_volume volumes path volume h = (grind (arith, (and_parts (is_path path) (nat_lt volume volumes) h).1, nat_tests))

pub seg_volume : (volumes : ℕ) (path : List (List ℕ)) (pages volume : ℕ)
    → is_command volumes (command.MkSeg path pages volume) ≡ true → volume < volumes
unfolding is_command
seg_volume volumes path pages volume h = grind (arith, and_parts)

pub new_length : (volumes : ℕ) (path : List (List ℕ)) (pages : ℕ)
    → is_command volumes (command.Length path pages) ≡ true → pages ≤ 256
unfolding is_command
new_length volumes path pages h = grind (arith, and_parts)

pub ruleset volume_there = (dir_volume, seg_volume)
