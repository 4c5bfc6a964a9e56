-- What the tree and its cells show, said of the nodes with their quotas.
use Rattle.accounts.proofs.Prelude.{◌≡◌, ◌≢◌, ◌≤◌, ℕ, true, false, cond, eqb, not, List, [], ◌∷◌, map, Option, Some, None, Result, Ok, Err, refl, sym, ap, subst, get_or, ◌∙◌, arith, inl, inr, is_some, if◌then◌else◌, ◌<◌, IfSome, IfNone, IfOk, OnOk, OnErr, cases_Bool, cases_eq, eq-eqb, ne_eqb, length-map, Row, with_row, Term, has_directory, node_in, quota_at, with_node, without_node, has_segment, HasChains, IsTree, AreBelow, Node, NewNode, Branches, as_term, with_quotas, node_of, is_in, is_directory, is_segment, added, removed, without, unless, with_length, with_changed, with_acl, with_home, acl_of, shape, shapes, look, has, is_an_account, with_value, CellMaps, IsTable, quota_in, stored_in, used_in, AreWithin, Fits, Enters, Leaves, kind_of_directory, kind_of_segment, uid_shown, segment_in, not_in_directory, no_node, look_absent, on_directories, on_segments, AccountMaps, HasColumns, accounts_of, count_of, entry_of, branch_of, Recounts, Changes, Gains, Loses, Rehomes, rehomed, rows_in, with_row_in, joined_below, quota_mapped, none_there, nat_tests, common_steps}

-- ---- uids of the tree

segment_any : (q : ℕ → ℕ) (ns : List Node) (u : ℕ) → has_segment (with_quotas q ns) u ≡ is_segment ns u
segment_any q = kind_of_segment (as_term q) (λ n. refl) (λ n. refl)

directory_any : (q : ℕ → ℕ) (ns : List Node) (u : ℕ) → has_directory (with_quotas q ns) u ≡ is_directory ns u
directory_any q = kind_of_directory (as_term q) (λ n. refl) (λ n. refl)

there_any : (q : ℕ → ℕ) (ns : List Node) (u : ℕ) → is_some (node_in (with_quotas q ns) u) ≡ is_in ns u
there_any q = uid_shown (as_term q) (λ n. refl) (λ n. refl)

pub walked : {E : Type 0} (q : ℕ → ℕ) (ns : List Node) (r : Result ℕ E) → IfOk r (λ u. is_in ns u ≡ true)
    → IfOk r (λ u. is_some (node_in (with_quotas q ns) u) ≡ true)
walked q ns (Ok u) h = there_any q ns u ∙ h
walked q ns (Err e) h = tt

module _ (t : Branches) (c : CellMaps) {a : AccountMaps} (shown : accounts_of t c ≡ a) where
  pub segment_of : (u : ℕ) → has_segment a.nodes u ≡ true → is_segment t.nodes u ≡ true
  segment_of u h = cc (segment_any (quota_in c) t.nodes u)

  pub directory_of : (u : ℕ) → has_directory a.nodes u ≡ true → is_directory t.nodes u ≡ true
  directory_of u h = cc (directory_any (quota_in c) t.nodes u)

  pub there_of : (u : ℕ) → is_some (node_in a.nodes u) ≡ true → is_in t.nodes u ≡ true
  there_of u h = cc (there_any (quota_in c) t.nodes u)

  pub fresh_of : is_in t.nodes t.next ≡ false → node_in a.nodes a.next ≡ None
  fresh_of h = rw (← shown) (none_there (node_in (with_quotas (quota_in c) t.nodes) t.next)
      (there_any (quota_in c) t.nodes t.next ∙ h))

  module _ (fits : Fits t.nodes c) where
    pub directory_cell : (u : ℕ) → has_directory a.nodes u ≡ true → has c.directories u ≡ true
    directory_cell u h = on_directories t.nodes fits u ∙ directory_of u h

    pub segment_cell : (u : ℕ) → has_segment a.nodes u ≡ true → has c.segments u ≡ true
    segment_cell u h = on_segments t.nodes fits u ∙ segment_of u h

    pub columns : IsTable c → HasColumns a
    columns table = subst HasColumns shown (record {
      rising = table.segments_rise;
      counted = table.stored_count;
      segments = λ u. on_segments t.nodes fits u ∙ sym (segment_any (quota_in c) t.nodes u);
      homes = length-map t.nodes (λ n. n.entry) ∙ sym (length-map t.nodes (as_term (quota_in c)));
    })

no_segment : (ns : List Node) (u : ℕ) → node_of ns u ≡ None → is_segment ns u ≡ true → ⊥
no_segment [] u none seg = cc
no_segment (n ∷ ns) u none seg = grind (arith, nat_tests, common_steps)

pub segment_found : {X : Type 0} (ns : List Node) (u : ℕ) (r : Option X) → is_some r ≡ false
    → IfNone r (node_of ns u ≡ None) → is_segment ns u ≡ true → ⊥
segment_found ns u None isnt none seg = no_segment ns u none seg
segment_found ns u (Some x) isnt none seg = cc

kind_is : (q : ℕ → ℕ) (ns : List Node) (u : ℕ) {n : Node} → node_of ns u ≡ Some n
    → (has_directory (with_quotas q ns) u ≡ n.dir) × (has_segment (with_quotas q ns) u ≡ not n.dir)
kind_is q [] u e = cc
kind_is q (m ∷ ns) u {n} e = elim (cases_Bool (eqb m.uid u)) [
  | inl is ↦ (let z : Some m ≡ Some n = rw is at e in let same : m ≡ n = cc in rw is (cc, cc))
  | inr isnt ↦ rw isnt (kind_is q ns u (rw isnt at e))
]

-- what a look-up says of the kind of a node
module _ {X : Type 0} (f : X → Node) (t : Branches) (c : CellMaps) (u : ℕ) where
  pub directory_shown : (r : Option X) → IfSome r (λ x. node_of t.nodes u ≡ Some (f x))
      → IfSome r (λ x. has_directory (accounts_of t c).nodes u ≡ (f x).dir)
  directory_shown None h = tt
  directory_shown (Some x) h = (kind_is (quota_in c) t.nodes u {n = f x} h).0

  pub segment_shown : (r : Option X) → IfSome r (λ x. node_of t.nodes u ≡ Some (f x))
      → IfSome r (λ x. has_segment (accounts_of t c).nodes u ≡ not (f x).dir)
  segment_shown None h = tt
  segment_shown (Some x) h = (kind_is (quota_in c) t.nodes u {n = f x} h).1

-- ---- quotas and VTOC entries

pub quota_shown : (t : Branches) (c : CellMaps) → Fits t.nodes c → (u : ℕ) → quota_at (accounts_of t c).nodes u
    ≡ quota_in c u
quota_shown t c fits u = quota_mapped (as_term (quota_in c)) (quota_in c) (λ n. refl) t.nodes u
    (λ e. look_absent c.directories c.quotas u (on_directories t.nodes fits u ∙ not_in_directory t.nodes u e))

pub node_shown : {X : Type 0} (f : X → Node) (t : Branches) (c : CellMaps) → Fits t.nodes c → (u : ℕ) (r : Option X)
    → IfSome r (λ x. node_in (with_quotas (quota_in c) t.nodes) u ≡ Some (as_term (quota_in c) (f x)))
    → IfSome r (λ x. node_in (accounts_of t c).nodes u ≡ Some (as_term (quota_at (accounts_of t c).nodes) (f x)))
node_shown f t c fits u None h = tt
node_shown f t c fits u (Some x) h = h ∙ ap (λ (v : ℕ). Some (record (as_term (quota_in c) (f x)) { quota = v }))
    (sym (quota_shown t c fits (f x).uid))

-- the VTOC entry of a node of the tree
abbrev entry_in : List Node → ℕ → ℕ
entry_in [] u = 0
entry_in (n ∷ ns) u = cond (eqb n.uid u) n.entry (entry_in ns u)

entry_any : (q : ℕ → ℕ) (ns : List Node) (u : ℕ) → look (map (λ n. n.uid) (with_quotas q ns)) (map (λ n. n.entry) ns) u
    ≡ entry_in ns u
entry_any q [] u = refl
entry_any q (n ∷ ns) u = cc (entry_any q ns u)

entry_is : (ns : List Node) (u : ℕ) {n : Node} → node_of ns u ≡ Some n → entry_in ns u ≡ n.entry
entry_is [] u e = cc
entry_is (m ∷ ns) u {n} e = elim (cases_Bool (eqb m.uid u)) [
  | inl is ↦ (let z : Some m ≡ Some n = rw is at e in let same : m ≡ n = cc in rw is (cc))
  | inr isnt ↦ rw isnt (entry_is ns u (rw isnt at e))
]

pub entry_shown : {X : Type 0} (f : X → Node) (t : Branches) (c : CellMaps) (u : ℕ) (r : Option X)
    → IfSome r (λ x. node_of t.nodes u ≡ Some (f x)) → IfSome r (λ x. entry_of (accounts_of t c) u ≡ (f x).entry)
entry_shown f t c u None h = tt
entry_shown f t c u (Some x) h = entry_any (quota_in c) t.nodes u ∙ entry_is t.nodes u {n = f x} h

entry_left : (ns : List Node) (gone u : ℕ) → u ≢ gone → entry_in (without gone ns) u ≡ entry_in ns u
entry_left [] gone u other = refl
entry_left (n ∷ ns) gone u other = elim (cases_eq n.uid gone) [
  | inl same ↦ rw (eq-eqb n.uid gone same, ne_eqb n.uid u (λ e. other (omega arith))) (entry_left ns gone u other)
  | inr far ↦ rw (ne_eqb n.uid gone far) (cc (entry_left ns gone u other))
]

-- no account has more stored pages than its quota
pub used_within : (t : Branches) (c : CellMaps) → Fits t.nodes c → AreWithin c → (a : ℕ)
    → used_in c a ≤ quota_at (accounts_of t c).nodes a
used_within t c fits within a = rw (quota_shown t c fits a) (elim (cases_Bool (is_an_account (quota_in c) a)) [
  | inr isnt ↦ rw isnt (omega arith)
  | inl is ↦ elim (cases_Bool (has c.directories a)) [
    | inl there ↦ rw is (within a there is)
    | inr absent ↦ rw (is, look_absent c.directories c.loads a absent) (omega arith)
  ]
])

-- no uid is both a directory's and a segment's
never_both : {c : CellMaps} → IsTable c → (u : ℕ) → has c.segments u ≡ true → has c.directories u ≡ false
never_both {c} table u seg = grind (arith, nat_tests, common_steps)

-- a segment has no quota, and a directory no stored page
module _ (t : Branches) (c : CellMaps) {a : AccountMaps} (shown : accounts_of t c ≡ a) (fits : Fits t.nodes c)
    (table : IsTable c) where
  pub no_quota : (u : ℕ) → has_segment a.nodes u ≡ true → quota_at a.nodes u ≡ 0
  no_quota u h = rw (← shown) (quota_shown t c fits u
      ∙ look_absent c.directories c.quotas u (never_both table u (segment_cell t c shown fits u h)))

  pub no_pages : (u : ℕ) → has_directory a.nodes u ≡ true → count_of a u ≡ 0
  no_pages u h = rw (← shown) (look_absent c.segments c.stored u (table.apart u (directory_cell t c shown fits u h)))

-- ---- changes

pub recounted : (t : Branches) (c d : CellMaps) {seg n : ℕ} → quota_in d ≡ quota_in c
    → ((s : ℕ) → stored_in d s ≡ (if eqb seg s then n else stored_in c s))
    → Recounts (accounts_of t c) (accounts_of t d) seg n
recounted t c d quotas counts = assumption (ap (λ (q : ℕ → ℕ). with_quotas q t.nodes) quotas)

pub charged_shown : {E : Type 0} (t : Branches) (c d : CellMaps) (seg n : ℕ) (r : Result (Unit {0}) E) → quota_in d
    ≡ quota_in c → OnOk r ((s : ℕ) → stored_in d s ≡ (if eqb seg s then n else stored_in c s))
    → OnOk r (Recounts (accounts_of t c) (accounts_of t d) seg n)
charged_shown t c d seg n (Ok x) quotas counts = recounted t c d quotas counts
charged_shown t c d seg n (Err e) quotas counts = tt

pub moved_shown : {E : Type 0} (t : Branches) (c d : CellMaps) (nodes : List Term) (r : Result (Unit {0}) E)
    → OnOk r (with_quotas (quota_in d) t.nodes ≡ nodes) → ((s : ℕ) → stored_in d s ≡ stored_in c s)
    → OnOk r (Changes (accounts_of t c) (accounts_of t d) nodes)
moved_shown t c d nodes (Ok x) is counts = assumption
moved_shown t c d nodes (Err e) is counts = tt

pub unless_ok : {E A : Type 0} (o : Option E) {x y : A} → Ok x ≡ unless o y → x ≡ y
unless_ok None e = cc
unless_ok (Some f) e = cc

pub enters_fit : (old new : Branches) (s : ℕ) (n : NewNode) (uid : ℕ) (before after : CellMaps) → new ≡ added old s n
    → uid ≡ old.next → is_in old.nodes old.next ≡ false → HasChains (shapes old.nodes) → Fits old.nodes before
    → ((nodes : List Node) (m : Node) → m.uid ≡ uid → m.dir ≡ n.dir → is_in nodes uid ≡ false
    → HasChains (shapes nodes) → Fits nodes before → Fits (m ∷ nodes) after) → Fits new.nodes after
enters_fit old new s n uid before after is next fresh chains fits enters =
    rw is (enters old.nodes (get_or (added old s n).nodes 0 no_node) (sym next) refl
    (subst (λ u. is_in old.nodes u ≡ false) (sym next) fresh) chains fits)

pub gained : (old new : Branches) (s : ℕ) (n : NewNode) (uid : ℕ) (before after : CellMaps) → new ≡ added old s n → uid
    ≡ old.next → is_in old.nodes old.next ≡ false → Fits old.nodes before → Enters before after uid n.dir
    → Gains (accounts_of old before) (accounts_of new after) (branch_of old.next s n) n.entry
gained old new s n uid before after is next fresh fits enters =
    let same : quota_in after ≡ quota_in before = λ i d. enters.quotas d i in
    let none : quota_in before old.next ≡ 0 = look_absent before.directories before.quotas old.next
    (on_directories old.nodes fits old.next ∙ not_in_directory old.nodes old.next fresh) in
    assumption (
      ap (λ (t : Branches). with_quotas (quota_in after) t.nodes) is
          ∙ ap (λ (q : ℕ → ℕ). with_quotas q (added old s n).nodes) same ∙ ap (λ (v : ℕ). record
          (branch_of old.next s n) { quota = v } ∷ with_quotas (quota_in before) old.nodes) none,
      ap (λ (t : Branches). map (λ m. m.entry) t.nodes) is,
      ap (λ (t : Branches). t.next) is,
    )

pub lost : (old : Branches) {new : Branches} {before after : CellMaps} {uid : ℕ} → new ≡ removed old uid
    → Leaves before after uid → Loses (accounts_of old before) (accounts_of new after) uid
lost old {new} {before} {after} {uid} is leaves =
    let same : quota_in after ≡ quota_in before = λ i d. leaves.quotas d i in
    record {
      nodes = cc (filtered (quota_in before) old.nodes);
      entries = λ u other. cc (
        entry_any (quota_in after) new.nodes u,
        entry_left old.nodes uid u other,
        entry_any (quota_in before) old.nodes u,
      );
      next = cc;
      counts = leaves.stored;
    }
  where
    filtered : (q : ℕ → ℕ) (ns : List Node) → with_quotas q (without uid ns) ≡ without_node (with_quotas q ns) uid
    filtered q [] = refl
    filtered q (n ∷ ns) = elim (cases_Bool (eqb n.uid uid)) [
      | inl is ↦ rw is (filtered q ns)
      | inr isnt ↦
          rw isnt (cc (filtered q ns))
    ]

-- nodes of one uid changed
module _ (q : ℕ → ℕ) (uid : ℕ) (change : Node → Node) (shown : Term → Term)
    (same : (n : Node) → as_term q (change n) ≡ shown (as_term q n)) where
  changed_nodes : (ns : List Node) → with_quotas q (with_changed uid change ns) ≡ with_node (with_quotas q ns) uid shown
  changed_nodes [] = refl
  changed_nodes (n ∷ ns) = elim (cases_Bool (eqb n.uid uid)) [
    | inl is ↦ rw is (cc (same n, changed_nodes ns))
    | inr isnt ↦ rw isnt (cc (changed_nodes ns))
  ]

same_entries : (uid : ℕ) (change : Node → Node) → ((n : Node) → (change n).entry ≡ n.entry) → (ns : List Node)
    → map (λ n. n.entry) (with_changed uid change ns) ≡ map (λ n. n.entry) ns
same_entries uid change same [] = refl
same_entries uid change same (n ∷ ns) = elim (cases_Bool (eqb n.uid uid)) [
  | inl is ↦ rw is (cc (same n, same_entries uid change same ns))
  | inr isnt ↦ rw isnt (cc (same_entries uid change same ns))
]

pub length_shown : (old : Branches) {new : Branches} (c : CellMaps) (uid pages : ℕ) → new ≡ with_length old uid pages
    → Changes (accounts_of old c) (accounts_of new c) (with_node (accounts_of old c).nodes uid
    (λ n. record n { pages = pages }))
length_shown old c uid pages is = record {
  nodes = cc (changed_nodes (quota_in c) uid (λ n. record n { length = pages }) (λ n. record n { pages = pages })
      (λ n. refl) old.nodes);
  entries = cc (same_entries uid (λ n. record n { length = pages }) (λ n. refl) old.nodes);
  next = cc;
  counts = λ s. refl;
}

rows_any : (q : ℕ → ℕ) (ns : List Node) (u : ℕ) → rows_in (with_quotas q ns) u ≡ acl_of ns u
rows_any q [] u = refl
rows_any q (n ∷ ns) u = elim (cases_Bool (eqb n.uid u)) [ inl is ↦ rw is refl | inr isnt ↦ rw isnt (rows_any q ns u) ]

pub rows_shown : (t : Branches) (c : CellMaps) (u : ℕ) → rows_in (accounts_of t c).nodes u ≡ acl_of t.nodes u
rows_shown t c u = rows_any (quota_in c) t.nodes u

none_changed : {ns : List Node} (uid : ℕ) (change : Node → Node) → AreBelow uid (shapes ns)
    → with_changed uid change ns ≡ ns
none_changed {ns = []} uid change below = refl
none_changed {ns = n ∷ ns} uid change below =
    (let lt : n.uid < uid = below.0 in rw (ne_eqb n.uid uid (λ e. omega arith))
    (ap (λ (ms : List Node). n ∷ ms) (none_changed uid change below.1)))

-- no two nodes of a tree have the same uid, so a list that is set is that of the node
own_list : (f : List Row → List Row) (ns : List Node) → IsTree (shapes ns) → (uid : ℕ) {rows : List Row}
    → acl_of ns uid ≡ rows
    → with_changed uid (λ n. record n { acl = f rows }) ns ≡ with_changed uid (λ n. record n { acl = f n.acl }) ns
own_list f [] tree uid is = refl
own_list f (n ∷ ns) tree uid {rows} is = elim (cases_eq n.uid uid) [
  | inl same ↦
      (let below : AreBelow uid (shapes ns) = rw (← same) (joined_below (shapes ns) n.superior (shape n) tree.0) in
      let own : n.acl ≡ rows = rw (eq-eqb n.uid uid same) at is in
      rw (eq-eqb n.uid uid same) (ap (λ (m : Node). m ∷ with_changed uid (λ n. record n { acl = f rows }) ns) (cc)
      ∙ ap (λ (ms : List Node). record n { acl = f n.acl } ∷ ms)
      (none_changed uid _ below ∙ sym (none_changed uid _ below))))
  | inr other ↦ (let own = rw (ne_eqb n.uid uid other) at is in
      rw (ne_eqb n.uid uid other) (cc (own_list f ns tree.1 uid own)))
]

list_kept : {ns : List Node} (uid : ℕ) → with_changed uid (λ n. record n { acl = n.acl }) ns ≡ ns
list_kept {ns = []} uid = refl
list_kept {ns = n ∷ ns} uid = elim (cases_Bool (eqb n.uid uid)) [
  | inl is ↦ rw is (ap (λ (ms : List Node). n ∷ ms) (list_kept uid))
  | inr isnt ↦ rw isnt (ap (λ (ms : List Node). n ∷ ms) (list_kept uid))
]

pub row_set : {E : Type 0} (t : Branches) (c : CellMaps) → IsTree (shapes t.nodes)
    → (uid : ℕ) (row : Row) (rows : List Row) {acl : List Row} (r : Result (Unit {0}) E)
    → acl ≡ acl_of t.nodes uid → OnOk r (rows ≡ with_row row acl)
    → OnOk r (Changes (accounts_of t c) (accounts_of (with_acl t uid rows) c)
    (with_row_in (accounts_of t c).nodes uid row))
row_set t c tree uid row rows (Err e) was is = tt
row_set t c tree uid row rows {acl} (Ok x) was is =
    let own : with_acl t uid rows ≡ record {
      nodes = with_changed uid (λ n. record n { acl = with_row row n.acl }) t.nodes;
      next = t.next;
    } = ap (with_acl t uid) (cc) ∙ ap (λ (ns : List Node). record { nodes = ns; next = t.next })
    (own_list (with_row row) t.nodes tree uid {rows = acl_of t.nodes uid} refl)
    in record {
      nodes = cc (changed_nodes (quota_in c) uid (λ n. record n { acl = with_row row n.acl })
          (λ n. record n { rows = with_row row n.rows }) (λ n. refl) t.nodes);
      entries = same_entries uid (λ n. record n { acl = rows }) (λ n. refl) t.nodes;
      next = refl;
      counts = λ s. refl;
    }

pub row_refused : {E : Type 0} (t : Branches) (c : CellMaps) → IsTree (shapes t.nodes)
    → (uid : ℕ) (rows : List Row) {acl : List Row} (r : Result (Unit {0}) E)
    → acl ≡ acl_of t.nodes uid → OnErr r (rows ≡ acl) → OnErr r (accounts_of (with_acl t uid rows) c ≡ accounts_of t c)
row_refused t c tree uid rows (Ok x) was is = tt
row_refused t c tree uid rows (Err e) was is = ap (λ (xs : List Row). accounts_of (with_acl t uid xs) c) (is ∙ was)
    ∙ ap (λ (ns : List Node). accounts_of (record { nodes = ns; next = t.next }) c)
    (own_list (λ xs. xs) t.nodes tree uid {rows = acl_of t.nodes uid} refl ∙ list_kept {ns = t.nodes} uid)

entry_changed : (ns : List Node) (uid volume entry u : ℕ) → is_in ns uid ≡ true
    → entry_in (with_changed uid (λ n. record n { volume = volume; entry = entry }) ns) u
    ≡ (if eqb uid u then entry else entry_in ns u)
entry_changed [] uid volume entry u there = cc
entry_changed (n ∷ ns) uid volume entry u there = elim (cases_eq n.uid uid) [
  | inl same ↦ rw (eq-eqb n.uid uid same) (elim (cases_eq uid u) [
    | inl at ↦ rw (eq-eqb n.uid u (same ∙ at), eq-eqb uid u at) refl
    | inr off ↦ rw (ne_eqb n.uid u (λ e. off (omega arith)), ne_eqb uid u off) (entry_kept ns uid volume entry u off)
  ])
  | inr far ↦ (let ih = entry_changed ns uid volume entry u (rw (ne_eqb n.uid uid far) at there) in rw
      (ne_eqb n.uid uid far) (elim (cases_eq n.uid u) [
        | inl at ↦ rw (eq-eqb n.uid u at, ne_eqb uid u (λ e. far (omega arith))) refl
        | inr off ↦ rw (ne_eqb n.uid u off) ih
      ]))
]
  where
    entry_kept : (ns : List Node) (uid volume entry u : ℕ) → uid ≢ u
        → entry_in (with_changed uid (λ n. record n { volume = volume; entry = entry }) ns) u ≡ entry_in ns u
    entry_kept [] uid volume entry u off = refl
    entry_kept (n ∷ ns) uid volume entry u off = elim (cases_eq n.uid uid) [
      | inl same ↦ rw (eq-eqb n.uid uid same, ne_eqb n.uid u (λ e. off (omega arith)))
          (entry_kept ns uid volume entry u off)
      | inr far ↦ rw (ne_eqb n.uid uid far) (cc (entry_kept ns uid volume entry u off))
    ]

pub home_shown : (old : Branches) {new : Branches} (c : CellMaps) {uid volume entry : ℕ}
    → is_segment old.nodes uid ≡ true → new
    ≡ with_home old uid volume entry → Rehomes (accounts_of old c) (accounts_of new c) uid volume entry
home_shown old {new} c {uid} {volume} {entry} seg is = record {
  nodes = cc (changed_nodes (quota_in c) uid (λ n. record n { volume = volume; entry = entry })
      (λ n. record n { volume = volume }) (λ n. refl) old.nodes);
  entries = λ u. cc (
    entry_any (quota_in c) new.nodes u,
    entry_changed old.nodes uid volume entry u (segment_in old.nodes uid seg),
    entry_any (quota_in c) old.nodes u,
  );
  next = cc;
  counts = λ s. refl;
}

-- no two nodes of a tree have the same uid, so the entry that is set is that of the first node of the uid
entries_set : (q : ℕ → ℕ) (ns : List Node) (uid volume entry : ℕ) → IsTree (shapes ns)
    → map (λ n. n.entry) (with_changed uid (λ n. record n { volume = volume; entry = entry }) ns)
    ≡ with_value (map (λ n. n.uid) (with_quotas q ns)) (map (λ n. n.entry) ns) uid entry
entries_set q [] uid volume entry tree = refl
entries_set q (n ∷ ns) uid volume entry tree = elim (cases_eq n.uid uid) [
  | inl same ↦
      (let below : AreBelow uid (shapes ns) = rw (← same) (joined_below (shapes ns) n.superior (shape n) tree.0) in
      rw (eq-eqb n.uid uid same) (ap (λ (ms : List Node). entry ∷ map (λ n. n.entry) ms) (none_changed uid _ below)))
  | inr other ↦ rw (ne_eqb n.uid uid other) (cc (entries_set q ns uid volume entry tree.1))
]

pub home_exact : (old : Branches) {new : Branches} (c : CellMaps) (uid volume entry : ℕ) → IsTree (shapes old.nodes)
    → new ≡ with_home old uid volume entry → accounts_of new c ≡ rehomed (accounts_of old c) uid volume entry
home_exact old c uid volume entry tree is = cc (
  changed_nodes (quota_in c) uid
      (λ n. record n { volume = volume; entry = entry }) (λ n. record n { volume = volume }) (λ n. refl) old.nodes,
  entries_set (quota_in c) old.nodes uid volume entry tree,
)
