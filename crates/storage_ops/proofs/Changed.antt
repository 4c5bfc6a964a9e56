-- A store whose nodes are changed, but for where they lie and what they are.
use Rattle.storage_ops.proofs.Prelude.{◌≡◌, ℕ, ℤ, ◌/◌, true, false, cond, eqb, List, map, Some, Ok, refl, sym, ap, subst, ◌∙◌, arith, inl, inr, cases_Bool, nat_tests, is_positive, unsigned_abs, Mode, Who, Named, Plan, Reply, AccountMaps, Changes, Row, with_row, getter_of, giver_of, Node, above, node_in, directory_at, segment_at, takes_effect, after_acl, after_move, nodes_moved, row_with, Store, Present, sdw_at, ActiveSegs, uid_in_place, Plain, plain, words_at, Links, leads, leads_at, sdws_at, HasMoved, HasRowSet, IsCut, IsStore, Shows, Storage, answered, pages_in, found_uid, Keeps, keeps_moved, keeps_one, keeps_rows, moved_else, quota_moved}
use Rattle.storage_ops.proofs.Alike.{active_alike, alike_changed, counted_alike, filed_alike, housed_alike, node_map, picture_alike, rights_alike, taken_alike}

-- ---- a change of all nodes

module _ {f : Node → Node} (keeps : Keeps f) {a b : AccountMaps} (changes : Changes a b (map f a.nodes)) where
  pages_map : ((n : Node) → (f n).pages ≡ n.pages) → (u : ℕ) → pages_in b.nodes u ≡ pages_in a.nodes u
  pages_map same u = grind (arith, node_map)

  -- where lengths stay, and the rows of what is connected
  pub store_changed : {now : Plain} {ast : ActiveSegs} {links : Links} {whos : List Who}
      → ((n : Node) → (f n).pages ≡ n.pages) → ((process number place pages u : ℕ) (mode : Mode) (m : Node)
      → sdw_at (sdws_at links.descriptors process) number ≡ Present place mode pages
      → uid_in_place ast.entries place ≡ Some u → node_in a.nodes u ≡ Some m → (f m).rows ≡ m.rows)
      → IsStore now ast links a whos → IsStore now ast links b whos
  store_changed {now} {ast} {links} {whos} pages rows h = (let alike = alike_changed keeps changes in record {
    housed = housed_alike a b alike h.housed;
    counted = counted_alike a b alike h.counted (pages_map pages);
    taken = taken_alike a b alike h.taken;
    active = active_alike f keeps.uid a b changes.nodes keeps.superior h.active
        (λ place u m e found. rw (keeps.kind m, pages m));
    rights = rights_alike f keeps.uid a b changes.nodes h.rights
        (λ process number place n u mode m d e found. (rows process number place n u mode m d e found, pages m));
    known = rw changes.next h.known;
  })

  pub shown_changed : {D : Type 0} {drive : D → List (List ℕ)} {p : Plan} {s : Store} {t : Storage D} → t.accounts ≡ a
      → Shows drive p s t → Shows drive p (record s { nodes = map f s.nodes }) (record t { accounts = b })
  shown_changed {drive} {t} is h = (let alike = alike_changed keeps changes in record {
    tree = record {
      nodes = cc;
      next = cc;
      counts = λ u. changes.counts u ∙ (rw is at h.tree.counts) u;
    };
    known = h.known;
    pages = record {
      stored = λ u q. cc (h.pages.stored u q, filed_alike a b alike t.segs.pages.volumes.vtocs u q);
      once = h.pages.once;
      words = λ u o. cc (h.pages.words u o, picture_alike a b alike (words_at (plain drive t.segs.pages)) u (o / 1024));
    };
    script = h.script;
  })

-- ---- a row is set

-- a descriptor that is there leads to its place
pub leads_there : (links : Links) (process number : ℕ) {place pages : ℕ} {mode : Mode}
    → sdw_at (sdws_at links.descriptors process) number ≡ Present place mode pages
    → leads_at links.descriptors process number ≡ Some place
leads_there links process number e = ap leads e

abbrev row_change : ℕ → Row → Node → Node
row_change u row n = cond (eqb n.uid u) (record n { rows = with_row row n.rows }) n

keeps_row : (u : ℕ) (row : Row) → Keeps (row_change u row)
keeps_row u row = keeps_one u (λ n. record n { rows = with_row row n.rows }) (keeps_rows (with_row row))

row_pages : (u : ℕ) (row : Row) (n : Node) → (row_change u row n).pages ≡ n.pages
row_pages u row n = grind arith

pub acl_store : {now : Plain} {ast : ActiveSegs} {links : Links} {a b : AccountMaps} {whos : List Who} {path : List
    (List ℕ)} {row : Row} (r : Reply)
    → ((n : Node) → segment_at a.nodes path ≡ Ok n → IsCut ast.entries links n.uid) → IsStore now ast links a whos
    → (takes_effect r ≡ true → HasRowSet a b path row) → (takes_effect r ≡ false → b ≡ a) → IsStore now ast links b whos
acl_store {now} {ast} {links} {a} {b} {whos} {row} r cut h done refused = elim (cases_Bool (takes_effect r)) [
  | inr off ↦ rw (refused off) h
  | inl on ↦
      (let set = done on in
      let u : ℕ = set.node.uid in
      store_changed (keeps_row u row) set.effect (row_pages u row)
      (λ process number place pages v mode m d e found. elim (cases_Bool (eqb m.uid u)) [
        | inl is ↦
            (let same : m.uid ≡ u = grind (arith, nat_tests) in
            absurd ((cut set.node set.found).none process number place (leads_there links process number d)
            (e ∙ ap (λ (x : ℕ). Some x) (sym (found_uid a.nodes v m found) ∙ same))))
        | inr isnt ↦ rw isnt refl
      ]) h)
]

acl_is : (s : Store) (path : List (List ℕ)) (row : Named) (m : Mode) {n : Node} → segment_at s.nodes path ≡ Ok n
    → record s { nodes = map (row_change n.uid (row_with row m)) s.nodes } ≡ after_acl s path row m
unfolding after_acl
acl_is s path row m found = cc

pub acl_shown : {D : Type 0} {drive : D → List (List ℕ)} {p : Plan} {s : Store} {t : Storage D} {b : AccountMaps}
    {path : List (List ℕ)} (row : Named) (m : Mode)
    (r : Reply) → Shows drive p s t → (takes_effect r ≡ true → HasRowSet t.accounts b path (row_with row m))
    → (takes_effect r ≡ false → b ≡ t.accounts) → Shows drive p (answered r s (after_acl s path row m))
    (record t { accounts = b })
acl_shown {drive} {p} {s} {t} {b} {path} row m r h done refused = elim (cases_Bool (takes_effect r)) [
  | inr off ↦ rw (off, refused off) h
  | inl on ↦
      (let set = done on in
      let u : ℕ = set.node.uid in
      rw on (rw (← (acl_is s path row m {n = set.node} (rw h.tree.nodes set.found)))
      (shown_changed {f = row_change u (row_with row m)} (keeps_row u
      (row_with row m)) {a = t.accounts} {b = b} set.effect {drive = drive} {p = p} {s = s} {t = t} refl h)))
]

-- ---- quota is moved

pub move_store : {now : Plain} {ast : ActiveSegs} {links : Links} {a b : AccountMaps} {whos : List Who} {path : List
    (List ℕ)} {amount : ℤ} (r : Reply)
    → IsStore now ast links a whos → (takes_effect r ≡ true → HasMoved a b path amount) → (takes_effect r ≡ false
    → b ≡ a) → IsStore now ast links b whos
move_store {now} {ast} {links} {a} {b} {whos} {amount} r h done refused = elim (cases_Bool (takes_effect r)) [
  | inr off ↦ rw (refused off) h
  | inl on ↦
      (let has = done on in
      let giver : ℕ = giver_of (above a.nodes) has.node.uid (is_positive amount) in
      let getter : ℕ = getter_of (above a.nodes) has.node.uid (is_positive amount) in
      store_changed (keeps_moved giver getter (unsigned_abs amount)) has.effect
      (λ n. moved_else (λ (x : Node). x.pages) (λ n q. refl) giver getter (unsigned_abs amount) n)
      (λ process number place pages v mode m d e found. moved_else (λ (x : Node). x.rows) (λ n q. refl) giver getter
      (unsigned_abs amount) m) h)
]

move_is : (s : Store) (path : List (List ℕ)) (amount : ℤ) {n : Node} → directory_at s.nodes path ≡ Ok n
    → record s { nodes = nodes_moved s.nodes n.uid amount } ≡ after_move s path amount
unfolding after_move
move_is s path amount found = cc

pub move_shown : {D : Type 0} {drive : D → List (List ℕ)} {p : Plan} {s : Store} {t : Storage D} {b : AccountMaps}
    {path : List (List ℕ)} {amount : ℤ} (r : Reply)
    → Shows drive p s t → (takes_effect r ≡ true → HasMoved t.accounts b path amount) → (takes_effect r ≡ false
    → b ≡ t.accounts) → Shows drive p (answered r s (after_move s path amount)) (record t { accounts = b })
move_shown {drive} {p} {s} {t} {b} {path} {amount} r h done refused = elim (cases_Bool (takes_effect r)) [
  | inr off ↦ rw (off, refused off) h
  | inl on ↦
      (let has = done on in
      let giver : ℕ = giver_of (above t.accounts.nodes) has.node.uid (is_positive amount) in
      let getter : ℕ = getter_of (above t.accounts.nodes) has.node.uid (is_positive amount) in
      rw on (subst (λ (x : Store). Shows drive p x (record t { accounts = b }))
      (rw (← h.tree.nodes) (move_is s path amount {n = has.node} (rw h.tree.nodes has.found)))
      (shown_changed {f = quota_moved giver getter (unsigned_abs amount)} (keeps_moved giver getter
      (unsigned_abs amount)) {a = t.accounts} {b = b} has.effect {drive = drive} {p = p} {s = s} {t = t} refl h)))
]
