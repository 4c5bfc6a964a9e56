-- Stored pages from one on, and the length of a segment.
use Rattle.storage_ops.proofs.Prelude.{◌≡◌, ◌≢◌, ℕ, ◌<◌, ◌≤◌, Bool, true, false, cond, eqb, List, Option, Some, Ok, is_some, refl, sym, ap, ◌∙◌, arith, inl, inr, nat_le, cases_Bool, cases_eq, cases_lt, ne_eqb, nat_tests, Who, Plan, AccountMaps, Changes, Node, node_in, pool_of, with_node, has_segment, segment_at, is_stored, is_stored_from, after_length, length_reply, Store, none_from, stored_from, record_at, ActiveSegs, uid_in_place, Home, Plain, is_filed_at, vtoc_in, Links, IsInactive, AreCounted, IsStore, Shows, Storage, home_of, is_filed, is_there, pages_in, no_directory, length_told, found_uid, Keeps, keeps_length, keeps_one, eq-eqb, Reply as reply, VtocEntry as Entry}
use Rattle.storage_ops.proofs.Alike.{active_alike, alike_changed, housed_alike, node_map, rights_alike, taken_alike}
use Rattle.storage_ops.proofs.Changed.{shown_changed}
use Rattle.storage_ops.proofs.Held.{tree_held}

-- whether a page is filed, of a node that is there
pub filed_there : (a : AccountMaps) (vtocs : List (List (Option Entry))) (u q : ℕ) → is_there a.nodes u ≡ true
    → is_filed a vtocs u q ≡ is_filed_at vtocs (home_of a u) q
unfolding is_filed
filed_there a vtocs u q t = rw t

filed_is : (vtocs : List (List (Option Entry))) (home : Home) (q : ℕ)
    → is_some (record_at (vtoc_in vtocs home.volume) home.entry q) ≡ is_filed_at vtocs home q
unfolding is_filed_at
filed_is vtocs home q = refl

module _ (a : AccountMaps) (vtocs : List (List (Option Entry))) (u : ℕ) {home : Home} {table : List (Option Entry)}
    (there : is_there a.nodes u ≡ true) (home_is : home ≡ home_of a u)
    (table_is : table ≡ vtoc_in vtocs home.volume) where
  pub record_told : (q : ℕ) → is_some (record_at table home.entry q) ≡ is_filed a vtocs u q
  record_told q = cc (table_is, filed_is vtocs home q, home_is, filed_there a vtocs u q there)

  pub from_told : (stored : List (ℕ × ℕ)) (from : ℕ) (b : Bool) → ((v q : ℕ)
      → is_stored stored v q ≡ is_filed a vtocs v q)
      → AreCounted a vtocs → (b ≡ true → (q : ℕ) × (from ≤ q) × (is_some (record_at table home.entry q) ≡ true))
      → (b ≡ false → (q : ℕ) → from ≤ q → q < pages_in a.nodes u → is_some (record_at table home.entry q) ≡ false)
      → b ≡ is_stored_from stored u from
  from_told stored from true shown counted some none =
      let at = some refl in
      sym (stored_from stored u from at.0 (shown u at.0 ∙ sym (record_told at.0) ∙ at.2) (grind (arith, nat_tests)))
  from_told stored from false shown counted some none = sym (none_from stored u from each)
    where
      each : (q : ℕ) → nat_le from q ≡ true → is_stored stored u q ≡ false
      each q le = elim (cases_Bool (is_stored stored u q)) [
        | inr off ↦ off
        | inl on ↦
            (let lt = counted.inside u q there (cc (filed_there a vtocs u q there, shown u q)) in
            shown u q ∙ sym (record_told q) ∙ none refl q (grind (arith, nat_tests)) lt)
      ]

module _ (a : AccountMaps) (vtocs : List (List (Option Entry))) (u : ℕ) {home : Home} {table : List (Option Entry)}
    (there : is_there a.nodes u ≡ true) (home_is : home ≡ home_of a u)
    (table_is : table ≡ vtoc_in vtocs home.volume) where
  pub within_told : (from : ℕ) (b : Bool) → AreCounted a vtocs
      → (b ≡ false → (q : ℕ) → from ≤ q → q < pages_in a.nodes u → is_some (record_at table home.entry q) ≡ false)
      → b ≡ false → (q : ℕ) → is_filed a vtocs u q ≡ true → q < from
  within_told from b counted none off q on = elim (cases_lt q from) [
    | inl lt ↦ lt
    | inr le ↦
        (cc (
          record_told a vtocs u there home_is table_is q,
          none off q le (counted.inside u q there (sym (filed_there a vtocs u q there) ∙ on)),
        ))
  ]

-- ---- the length is set

abbrev pub length_change : ℕ → ℕ → Node → Node
length_change u pages n = cond (eqb n.uid u) (record n { pages = pages }) n

keeps_change : (u pages : ℕ) → Keeps (length_change u pages)
keeps_change u pages = keeps_one u (λ n. record n { pages = pages }) (keeps_length pages)

-- a change of one node leaves those of other uids
other_same : (u pages : ℕ) {n : Node} → n.uid ≢ u → length_change u pages n ≡ n
other_same u pages {n} ne = rw (ne_eqb n.uid u ne)

module _ {a b : AccountMaps} (u pages : ℕ) (segment : has_segment a.nodes u ≡ true)
    (changes : Changes a b (with_node a.nodes u (λ n. record n { pages = pages }))) where
  pages_other : (v : ℕ) → v ≢ u → pages_in b.nodes v ≡ pages_in a.nodes v
  pages_other v ne = grind (arith, node_map, keeps_change, other_same, found_uid)

  pages_here : {n : Node} → node_in a.nodes u ≡ Some n → pages_in b.nodes u ≡ pages
  pages_here {n} e = grind (arith, node_map, keeps_change, eq-eqb, found_uid)

  -- the segment isn't active, and stores no page from the new length on
  pub length_store : {now : Plain} {ast : ActiveSegs} {links : Links} {whos : List Who} {n : Node}
      → node_in a.nodes u ≡ Some n
      → pages ≤ 256 → IsInactive ast.entries u → ((q : ℕ) → is_filed a now.vtocs u q ≡ true → q < pages)
      → IsStore now ast links a whos → IsStore now ast links b whos
  length_store {now} {ast} {links} {whos} {n} found most inactive within h = (
      let alike = alike_changed (keeps_change u pages) changes in record {
        housed = housed_alike a b alike h.housed;
        counted = record {
          counts = λ v t. cc (alike.homes v, h.counted.counts v (sym (alike.there v) ∙ t), alike.counts v);
          inside = λ v q t on. (let was = rw (alike.homes v) at on in let there = sym (alike.there v) ∙ t in
              elim (cases_eq v u) [
                | inl is ↦ rw (is, pages_here found)
                    (within q (filed_there a now.vtocs u q (rw is at there) ∙ (rw is at was)))
                | inr ne ↦ rw (pages_other v ne) (h.counted.inside v q there was)
              ]);
          absent = λ v off. alike.counts v ∙ h.counted.absent v (sym (alike.there v) ∙ off);
          most = λ v. elim (cases_eq v u) [
            | inl is ↦ rw (is, pages_here found) most
            | inr ne ↦ rw (pages_other v ne) (h.counted.most v)
          ];
          flat = λ v d. elim (cases_eq v u) [
            | inl is ↦ cc (alike.kinds v, no_directory a.nodes u segment)
            | inr ne ↦ pages_other v ne ∙ h.counted.flat v (sym (alike.kinds v) ∙ d)
          ];
        };
        taken = taken_alike a b alike h.taken;
        active = active_alike (length_change u pages) (keeps_change u pages).uid a b changes.nodes
            (keeps_change u pages).superior h.active (λ place v m e here. ap pool_of (unchanged place v m e here));
        rights = rights_alike (length_change u pages) (keeps_change u pages).uid a b changes.nodes h.rights
            (λ process number place k v mode m d e here. (let same = unchanged place v m e here in
            (cc, cc)));
        known = rw changes.next h.known;
      })
    where
      unchanged : (place v : ℕ) (m : Node) → uid_in_place ast.entries place ≡ Some v → node_in a.nodes v ≡ Some m
          → length_change u pages m ≡ m
      unchanged place v m e here = other_same u pages (λ is. inactive.nowhere place (cc (found_uid a.nodes v m here)))

  pub length_shown : {D : Type 0} {drive : D → List (List ℕ)} {p : Plan} {s : Store} {t : Storage D} (path : List
      (List ℕ)) {n : Node} → t.accounts ≡ a → segment_at a.nodes path ≡ Ok n → n.uid ≡ u → Shows drive p s t
      → Shows drive p (after_length s path pages) (record t { accounts = b })
  unfolding after_length
  length_shown {drive} {p} {s} {t} path is found uid h =
      rw (h.tree.nodes ∙ ap (λ (x : AccountMaps). x.nodes) is, found, uid, ← is, ← h.tree.nodes)
      (shown_changed (keeps_change u pages) changes is h)

-- the reply to a length, by whether a page past it is stored
pub length_answered : {D : Type 0} {t now : Storage D} (same : t ≡ now) (drive : D → List (List ℕ)) (p : Plan)
    (s : Store) → Shows drive p s now → (path : List (List ℕ)) (pages : ℕ) (n : Node) (b stores : Bool)
    → segment_at t.accounts.nodes path ≡ Ok n → stores ≡ is_stored_from s.stored n.uid pages → stores ≡ b
    → cond b reply.Beyond reply.Done ≡ length_reply s path pages
length_answered {D} {t} same drive p s h path pages n b stores found told is =
    length_told s t.accounts.nodes path (tree_held same {s = s} h.tree).nodes pages n b found (cc)
