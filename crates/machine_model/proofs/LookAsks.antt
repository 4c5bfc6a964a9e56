-- What the actions of a look ask follows from the promise, from what the look finds, and from what the calls of the
-- store say.
use Rattle.machine_model.proofs.StepBasics.{or_zero, cases_Bool, eqb-true, and_parts, ◌≡◌, ◌<◌, ◌≤◌, ℕ, zero, suc, ◌+◌, ◌^◌, Bool, true, false, cond, eqb, List, is_some, is_none, sum, take, [], ◌∷◌, length, get_or, Option, Some, None, inl, inr, refl, sym, ap, subst, ◌∙◌, arith, ◌/◌, IsSomeAnd, IfSome, eqb_tells, leb_tells, sum_by-cons, reference_of, Command, Reference, Reply, Node, node_in, pool_for, pool_of, IsTree, IsMember, found_member, chain_of, uid_of, entry_at, IsInPool, first_of, kst_at, leads, place_of, table_of, word_of, reply_to_command, is_held_back, word_reply, known_uid, MayActivate, MayAnswerBy, MayJoin, stores, pages_of, pool_of_node, Outcome, seen, Keeps, IsMachine, flat_of, free_place, is_active, first_inactive, places_in, process_at, uid_of_number, Says, shown, State, page_made, older, Entry as entry, Ptw as ptw, Active as Entry, Action as act, active_place, chain_active, first_there, superior_active, truncate_stands, find_true, first_idle, one_still, inside_is, room_due, stays_free, within_by, FindsLink, FindsPage, FindsPlace, FindsRoom, IsAbout, IsInside, IsRefused, IsIdle, null_word, stored_is, pool_room_has_room as has_room, is_its, activated_says, connected_says, created_says, refused_says, Speaks, can_refuse, can_tell, refusal_quiet, speaks_like, none_some, active_at, AsksCreate, CanActivateAt, CanConnectTo, CanReply, directory_is, in_range_is, some_there, pool_small}

-- ---- nodes and places

-- a node of a tree is found by its uid
node_of_member : (ns : List Node) (n : Node) → IsTree ns → IsMember n ns → node_in ns n.uid ≡ Some n
node_of_member [] n t h = absurd h
node_of_member (m ∷ ms) n t (inl e) = elim (eqb_tells m.uid n.uid) [
  | inl same ↦ ap (λ (b : Bool). cond b (Some m) (node_in ms n.uid)) same.0 ∙ ap (λ (x : Node). Some x) (sym e)
  | inr other ↦ absurd (other.1 (cc))
]
node_of_member (m ∷ ms) n t (inr h) = elim (eqb_tells m.uid n.uid) [
  | inl same ↦ (let later = older n m ms m.superior t.0 h in let is = same.1 in absurd (omega arith))
  | inr other ↦ ap (λ (b : Bool). cond b (Some m) (node_in ms n.uid)) other.0 ∙ node_of_member ms n t.1 h
]

pool_part : (sizes : List ℕ) (pool : ℕ) → sum (take pool sizes) + get_or sizes pool 0 ≤ sum sizes
pool_part [] zero = omega arith
pool_part [] (suc pool) = omega arith
pool_part (x ∷ xs) zero = let all = sum_by-cons (λ y. y) x xs in omega arith
pool_part (x ∷ xs) (suc pool) = let rest = pool_part xs pool in let all = sum_by-cons (λ y. y) x xs in
    let part = sum_by-cons (λ y. y) x (take pool xs) in omega arith

module _ (s : State) (c : ℕ) (o : Outcome) (m : IsMachine s) (idle : IsIdle s.owner) (cmd : Command)
    (speaks : Speaks s c (process_at s c) cmd) where
  abbrev k : ℕ
  k = process_at s c

  abbrev keeps : Keeps s
  keeps = m.keeps

  abbrev nodes : List Node
  nodes = s.store.accounts.nodes

  tree : IsTree nodes
  tree = keeps.store.accounts.tree

  -- ---- an answer

  pub answer_asks : {r : Reply} → IsRefused s k cmd r → CanReply s c r
  answer_asks {r} finds = assumption (
    can_refuse speaks finds.reply finds.refuses,
    refused_says c k None r keeps (refusal_quiet r finds.refuses).0,
  )

  -- ---- a segment becomes active

  -- what a command is about is there
  pub about_there : (u : ℕ) → IsAbout s k cmd u → is_some (node_in nodes u) ≡ true
  about_there u h = elim h.case [
    | inl x ↦ (let inside = inside_is s k x.0 keeps x.3 in rw (← x.2) (cc))
    | inr x ↦ (let leads = truncate_stands s k keeps x.0 x.1 (rw (← x.2) x.3) in
        rw (← (sym leads.uid ∙ (sym (cc) ∙ x.4))) (cc))
  ]

  flat_node : (u : ℕ) → node_in (flat_of s).nodes u ≡ node_in nodes u
  flat_node u = cc

  -- a node that is there may become active where a place of its pool is free, and what is above it is active
  may_activate : (u : ℕ) {place : ℕ} {n : Node} → node_in nodes u ≡ Some n → is_active s.store.ast u ≡ false
      → free_place s.store.ast (pool_of n) ≡ Some place → IfSome n.superior (λ w. is_active s.store.ast w ≡ true)
      → MayActivate s.plan (flat_of s) (shown (seen s)) u
  may_activate u {place} {n} at inactive free superior =
      assumption (subst (λ (x : Option Node). IsSomeAnd x (MayJoin s.plan (flat_of s) (shown (seen s))))
      (sym (flat_node u ∙ at)) (record {
        superior = superior;
        room = rw (keeps.faithful.tree.nodes, ← m.pools) (has_room s.store.ast (pool_of n) nodes place tree free pools);
      }))
    where
      pools : (x : Node) → IsMember x nodes → is_its s.store.ast (pool_of n) x ≡ true
          → IsInPool s.store.ast.sizes (pool_of n) (place_of s.store.ast.entries x.uid)
      pools x member its = let both = and_parts (is_active s.store.ast x.uid) (eqb (pool_of x) (pool_of n)) its in
          rw (← (eqb-true (pool_of x) (pool_of n) both.1)) (keeps.store.counted.active.pools
          (place_of s.store.ast.entries x.uid) x.uid x
          (active_place s.store.ast x.uid both.0).1 (node_of_member nodes x tree member))

  pub free_within : (pool : ℕ) {place : ℕ} → free_place s.store.ast pool ≡ Some place
      → place < length s.store.ast.entries
  free_within pool {place} h = let at = (in_range_is (first_of s.store.ast.sizes pool) _ place
      (found_member (λ q. is_none (entry_at s.store.ast.entries q)) (places_in s.store.ast pool) place h)).1 in
      omega (arith, pool_part s.store.ast.sizes pool)

  pub free_is : (pool place : ℕ) → free_place s.store.ast pool ≡ Some place → entry_at s.store.ast.entries place ≡ None
  free_is pool place h = none_is (entry_at s.store.ast.entries place)
      (find_true (λ q. is_none (entry_at s.store.ast.entries q)) (places_in s.store.ast pool) place h)
    where
      none_is : (x : Option Entry) → is_none x ≡ true → x ≡ None
      none_is None e = refl
      none_is (Some y) e = absurd (let none : false ≡ true = e in cc)

  pub activate_asks : {u place : ℕ} → FindsPlace s k cmd u place → Says s c o (act.Activate u place)
      → CanActivateAt s u place
  activate_asks {u} {place} finds says = let n = some_there (node_in nodes u)
      (first_there nodes tree s.store.ast finds.link.about u (about_there finds.link.about finds.link.case) first) in
      assumption (
        may_activate u n.1 (first_idle s.store.ast (chain_of nodes finds.link.about) u first)
            (ap (free_place s.store.ast) (sym (ap pool_of_node n.1)) ∙ finds.free)
            (superior_active nodes tree s.store.ast finds.link.about first n.1),
        free_is (pool_of_node (node_in nodes u)) place finds.free,
        free_within (pool_of_node (node_in nodes u)) finds.free,
        activated_says u place keeps says idle.cut,
      )
    where
      first : first_inactive s.store.ast (chain_of nodes finds.link.about) ≡ Some u
      first = cc

  -- ---- a descriptor is connected

  -- a number that a process knows is one of its 256
  pub known_within : (n u : ℕ) → uid_of (kst_at s.store.links.known k) n ≡ Some u
      → (k < length s.store.links.known) × (n < 256)
  known_within n u h = let inner = within_by (kst_at s.store.links.known k) n None (λ e. none_some (sym e ∙ h)) in
      let outer = within_by s.store.links.known k [] (λ e. none_some (sym (cc) ∙ h)) in
      (outer, rw (← (keeps.store.kept.linked.lists.numbers k outer)) inner)

  pub connect_asks : {n u : ℕ} → FindsLink s k cmd n u → Says s c o (act.Connect n u) → CanConnectTo s c n u
  connect_asks {n} {u} finds says = record {
    can = record { known = known; active = active; unlinked = cc; uncut = cc };
    outer = rw keeps.store.kept.linked.lists.processes within.0;
    inner = rw (keeps.store.kept.linked.lists.words k within.0) within.1;
    active = (active_place s.store.ast u active).1;
    says = connected_says n u keeps says idle.cut;
  }
    where
      uid_is : uid_of_number s.store k finds.reference.number ≡ u
      uid_is = cc

      known : known_uid (flat_of s) k n ≡ Some u
      known = cc ((inside_is s k finds.reference keeps finds.inside).known, uid_is)

      active : is_active s.store.ast u ≡ true
      active = chain_active nodes tree s.store.ast u finds.chain

      within : (k < length s.store.links.known) × (n < 256)
      within = known_within n u (cc (keeps.faithful.known, known))

  -- ---- a page of a segment that is connected

  pub page_active : {r : Reference} {u p : ℕ} → FindsPage s k cmd r u p → is_active s.store.ast u ≡ true
  page_active {r} finds = let at = keeps.store.kept.linked.known k r.number finds.aste (ap leads finds.linked) in
      rw (← (sym (ap or_zero at.known_as) ∙ finds.uid)) (active_at s.store.ast finds.aste at.uid at.active)

  four_pow : (pages : ℕ) → pages ≤ 256 → pages ≤ 4 ^ (pool_for pages + 1)
  four_pow pages few = elim (leb_tells pages 4) [
    | inl a ↦ rw a.0 a.1
    | inr a ↦ elim (leb_tells pages 16) [
      | inl b ↦ rw (a.0, b.0) b.1
      | inr b ↦ elim (leb_tells pages 64) [ inl d ↦ rw (a.0, b.0, d.0) d.1 | inr d ↦ rw (a.0, b.0, d.0) few ]
    ]
  ]

  page_inner : (u p : ℕ) {n : Node} → is_active s.store.ast u ≡ true → node_in nodes u ≡ Some n → p < n.pages
      → p < length (table_of s.store.ast u)
  page_inner u p {n} active at less = elim (cases_Bool n.directory) [
    | inl e ↦ (let flat = keeps.store.counted.counted.flat u (directory_is nodes u n at ∙ e) in
        let none : n.pages ≡ 0 = sym (ap pages_of at) ∙ flat in absurd (omega arith))
    | inr e ↦ (let fits = four_pow n.pages most in
        let size : length (table_of s.store.ast u) ≡ 4 ^ (pool_for n.pages + 1) =
        (keeps.store.kept.sized (pool_of n) place four in_pool) ∙ ap (λ (b : Bool). 4 ^ (cond b 0
        (pool_for n.pages) + 1)) e in
        subst (λ (x : ℕ). p < x) (sym size) (omega arith))
  ]
    where
      place : ℕ
      place = place_of s.store.ast.entries u

      in_pool : IsInPool s.store.ast.sizes (pool_of n) place
      in_pool = keeps.store.counted.active.pools place u n (active_place s.store.ast u active).1 at

      most : n.pages ≤ 256
      most = subst (λ (x : Option Node). pages_of x ≤ 256) at (keeps.store.counted.counted.most u)

      four : pool_of n < 4
      four = pool_small n

  -- ---- a page is made

  still_speaks : (f u p : ℕ) (r : Reference) → Speaks (page_made s f u p r) c k cmd
  still_speaks f u p r = speaks_like refl refl refl
      (λ j. (rw (← (one_still s.plan s.entries (entry.Here f u p) refl)) at (speaks.runs j))) speaks

  pub create_asks : {f u p : ℕ} {r : Reference} → FindsRoom s k cmd f u p r → Says s c o (act.Create f u p r)
      → AsksCreate s c f u p r
  create_asks {f} {u} {p} {r} finds says = assumption (
    (active_place s.store.ast u active).0,
    page_inner u p active (sym (flat_node u) ∙ inside.there)
        (let within = inside.within in let page = finds.finds.page in omega (arith, within, page)),
    can_tell None (word_reply 0 r.kind) (still_speaks f u p r) (inl (record { own = due; free = free })) may,
    created_says f u p keeps says speaks.next finds.finds.is inside.known zero_word finds.word,
  )
    where
      active : is_active s.store.ast u ≡ true
      active = page_active finds.finds

      inside : IsInside s k r u
      inside = subst (IsInside s k r) finds.finds.uid (inside_is s k r keeps finds.finds.inside)

      null : word_of s.store.ast u (r.offset / 1024) ≡ ptw.Null
      null = cc

      zero_word : (flat_of s).words u r.offset ≡ 0
      zero_word = null_word s keeps u active r.offset null

      -- its segment stays, so the reply isn't held back
      free : is_held_back s.plan (flat_of (page_made s f u p r)) k cmd ≡ false
      free = cc (
        one_still s.plan s.entries (entry.Here f u p) refl,
        stays_free s k r keeps u inside cmd finds.finds.is finds.stays,
      )

      flat_same : flat_of (page_made s f u p r) ≡ flat_of s
      flat_same = one_still s.plan s.entries (entry.Here f u p) refl

      due : word_reply 0 r.kind ≡ reply_to_command s.plan (flat_of (page_made s f u p r)) k cmd
      due = cc (zero_word, room_due s k r keeps u inside finds.room, finds.finds.is, flat_same)

      unstored : stores (flat_of s) (known_uid (flat_of s) k r.number) r.offset ≡ false
      unstored = cc (inside.known, stored_is s keeps u active (r.offset / 1024), null)

      may : MayAnswerBy s.plan (flat_of (page_made s f u p r)) (shown (seen (page_made s f u p r))) c k None cmd
          (word_reply 0 r.kind) (reference_of cmd)
      may = rw finds.finds.is (inr (cc (flat_same, unstored)))
