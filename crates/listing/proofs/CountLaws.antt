-- The accounts in order of uid, the volumes in order, and the summary and the listing of them.
use Rattle.listing.proofs.Prelude.{◌≡◌, ℕ, ◌+◌, ◌<◌, ◌≤◌, Bool, true, false, cond, eqb, List, [], ◌∷◌, ◌++◌, length, reverse, take, get_or, Option, Some, None, refl, sym, ap, subst, ◌∙◌, arith, inl, inr, nat_lt, not, ◌&&◌, ◌||◌, if◌then◌else◌, flat_map, cases_Bool, nat_tests, common_steps, append-nil, take_more, flat_map-append, Plan, VolumeLine, Entry, Node, node_in, quota_in, used_by, AreBelow, IsTree, Joins, Branch, as_term, Store, store_after, Kept, Shows, AccountCount, VolumeCount, Summary, account_count, accounts_of, volumes_of, summary_of, summary_text, body_of, listing_of, trail_of, account_at, as_list, volume_of, below_joined, found_uid}
use mathlib.Core.List.{reverse-cons}

-- the nodes from the first with a uid below this one on
abbrev pub older : ℕ → List Node → List Node
older u [] = []
older u (n ∷ ns) = if_older (nat_lt n.uid u) (n ∷ ns) (older u ns)
  where
    if_older : Bool → List Node → List Node → List Node
    if_older b xs ys = cond b xs ys

abbrev pub as_nodes : Option Node → List Node
as_nodes None = []
as_nodes (Some n) = n ∷ []

-- the accounts with a uid below this one
abbrev pub gathered : Store → ℕ → List AccountCount
gathered s u = flat_map (account_count s) (reverse (older u s.nodes))

absent : (ns : List Node) {u : ℕ} (v : ℕ) → AreBelow u ns → u ≤ v → node_in ns v ≡ None
absent [] v b le = refl
absent (n ∷ ns) {u} v b le =
    let other : eqb n.uid v ≡ false = let lt : n.uid < u = b.0 in grind (arith, nat_tests) in
    rw other (absent ns {u = u} v b.1 le)

older_all : {ns : List Node} (u : ℕ) → AreBelow u ns → older u ns ≡ ns
older_all {ns = []} u b = refl
older_all {ns = n ∷ ns} u b = let yes : nat_lt n.uid u ≡ true = grind (arith, nat_tests, b.0) in rw yes refl

older_more : (ns : List Node) (u : ℕ) → IsTree ns → older (u + 1) ns ≡ as_nodes (node_in ns u) ++ older u ns
older_more [] u t = refl
older_more (n ∷ ns) u t = elim (cases_Bool (nat_lt n.uid u)) [
  | inl less ↦
      (let more : nat_lt n.uid (u + 1) ≡ true = grind (arith, nat_tests) in
      let other : eqb n.uid u ≡ false = grind (arith, nat_tests) in
      let none : node_in ns u ≡ None = absent ns {u = n.uid} u (below_joined ns n n.superior t.0)
      (grind (arith, nat_tests))
      in
      rw less (rw more (rw other (rw none refl))))
  | inr not_less ↦ elim (cases_Bool (eqb n.uid u)) [
    | inl is ↦
        (let more : nat_lt n.uid (u + 1) ≡ true = grind (arith, nat_tests) in
        let same : n.uid ≡ u = grind (arith, nat_tests) in
        rw not_less (rw more (rw is (ap (λ (x : List Node). n ∷ x) (sym
        (older_all {ns = ns} u (subst (λ (v : ℕ). AreBelow v ns) same (below_joined ns n n.superior t.0))))))))
    | inr isnt ↦
        (let more : nat_lt n.uid (u + 1) ≡ false = grind (arith, nat_tests) in
        rw not_less (rw more (rw isnt (older_more ns u t.1))))
  ]
]

positive : (ns : List Node) (n : Node) (o : Option ℕ) → Joins ns o n → 0 < n.uid
positive ns n None root = (let one : n.uid ≡ 1 = root.one in omega arith)
positive [] n (Some s) branch = cc (branch.below)
positive (m ∷ ns) n (Some s) branch = (let lt : m.uid < n.uid = branch.later.0 in omega arith)

none_older : (ns : List Node) → IsTree ns → older 1 ns ≡ []
none_older [] t = refl
none_older (n ∷ ns) t =
    let no : nat_lt n.uid 1 ≡ false = let lt : 0 < n.uid = positive ns n n.superior t.0 in grind (arith, nat_tests) in
    rw no (none_older ns t.1)

pub gathered_start : (s : Store) → IsTree s.nodes → [] ≡ gathered s 1
gathered_start s t = ap (λ (x : List Node). flat_map (account_count s) (reverse x)) (sym (none_older s.nodes t))

one_more : (s : Store) (o : Option Node) (xs : List Node)
    → flat_map (account_count s) (reverse (as_nodes o ++ xs)) ≡ flat_map (account_count s) (reverse xs)
    ++ account_at s o
one_more s None xs = sym (append-nil (flat_map (account_count s) (reverse xs)))
one_more s (Some n) xs = ap (flat_map (account_count s)) (reverse-cons n xs)
    ∙ flat_map-append (account_count s) (reverse xs) (n ∷ [])
    ∙ ap (λ (x : List AccountCount). flat_map (account_count s) (reverse xs) ++ x) (append-nil (account_count s n))

pub gathered_more : (s : Store) (u : ℕ) → IsTree s.nodes → gathered s (u + 1) ≡ gathered s u
    ++ account_at s (node_in s.nodes u)
gathered_more s u t = cc (older_more s.nodes u t, one_more s (node_in s.nodes u) (older u s.nodes))

pub gathered_end : (s : Store) (u : ℕ) → AreBelow u s.nodes → gathered s u ≡ accounts_of s
unfolding accounts_of
gathered_end s u b = ap (λ (x : List Node). flat_map (account_count s) (reverse x)) (older_all {ns = s.nodes} u b)

pub pushed : (old : List AccountCount) {new now : List AccountCount} {a : AccountCount} {o : Option AccountCount}
    → o ≡ Some a → new ≡ old ++ a ∷ [] → now ≡ new → now ≡ old ++ as_list o
pushed old is add same = cc

pub skipped : (old now : List AccountCount) (o : Option AccountCount) → ((a : AccountCount) → o ≡ Some a → ⊥) → now
    ≡ old → now ≡ old ++ as_list o
skipped old now None none same = same ∙ sym (append-nil old)
skipped old now (Some a) none same = absurd (none a refl)

pub counts_start : (s : Store) {nodes : List Node} {items : List AccountCount} → IsTree nodes → s.nodes ≡ nodes → items
    ≡ [] → items ≡ gathered s 1
counts_start s t same empty = empty ∙ gathered_start s (subst IsTree (sym same) t)

pub counts_more : (s : Store) (nodes : List Node) (u : ℕ) (items new : List AccountCount) (o : Option AccountCount)
    → IsTree nodes → s.nodes ≡ nodes
    → as_list o ≡ account_at s (node_in s.nodes u) → items ≡ gathered s u → new ≡ items ++ as_list o → new
    ≡ gathered s (u + 1)
counts_more s nodes u items new o t same found h add = cc (gathered_more s u (subst IsTree (sym same) t))

pub counts_end : (s : Store) (nodes : List Node) (u next : ℕ) (items : List AccountCount) → s.nodes ≡ nodes
    → AreBelow next nodes → next ≤ u → items ≡ gathered s u → items ≡ accounts_of s
counts_end s nodes u next items same below le h = h ∙ gathered_end s u
    (below_more s.nodes next u (subst (AreBelow next) (sym same) below) le)
  where
    below_more : (ns : List Node) (a b : ℕ) → AreBelow a ns → a ≤ b → AreBelow b ns
    below_more [] a b h le = tt
    below_more (n ∷ ns) a b h le = ((let lt : n.uid < a = h.0 in omega arith), below_more ns a b h.1 le)

-- ---- the account of a uid

-- what the node of a uid adds to the accounts
abbrev pub account_of_node : Store → ℕ → Bool → ℕ → List AccountCount
account_of_node s u directory quota = if directory && (eqb u 1 || not (eqb quota 0)) then
    (record { path = trail_of s.nodes u; quota = quota; used = used_by s.nodes s.stored u }) ∷ [] else []

pub account_found : (s : Store) {nodes : List Node} (u : ℕ) (b : Branch) → node_in nodes u
    ≡ Some (as_term (quota_in nodes) b) → s.nodes ≡ nodes
    → account_at s (node_in s.nodes u) ≡ account_of_node s u b.dir (quota_in nodes u)
account_found s {nodes} u b is same = ap (account_at s) (ap (λ (ns : List Node). node_in ns u) same ∙ is)
    ∙ ap (λ (v : ℕ). account_of_node s v b.dir (quota_in nodes v)) (found_uid nodes u (as_term (quota_in nodes) b) is)

pub account_none : (s : Store) {nodes : List Node} (u : ℕ) {q : ℕ} (b : Branch) → node_in nodes u
    ≡ Some (as_term (quota_in nodes) b) → s.nodes ≡ nodes
    → q ≡ quota_in nodes u → (eqb u 1 || not (eqb q 0)) ≡ false → [] ≡ account_at s (node_in s.nodes u)
account_none s {nodes} u {q} b is same quota isnt =
    sym (account_found s u b is same ∙ ap (account_of_node s u b.dir) (sym quota) ∙ rw isnt (neither b.dir))
  where
    neither : (z : Bool) → cond {A = List AccountCount} (z && false)
        ((record { path = trail_of s.nodes u; quota = q; used = used_by s.nodes s.stored u }) ∷ []) [] ≡ []
    neither true = refl
    neither false = refl

pub account_one : (s : Store) {nodes : List Node} (u : ℕ) {q used : ℕ} {path : List (List ℕ)} {a : AccountCount}
    (b : Branch)
    → node_in nodes u ≡ Some (as_term (quota_in nodes) b) → s.nodes ≡ nodes → b.dir ≡ true → q ≡ quota_in nodes u
    → (eqb u 1 || not (eqb q 0)) ≡ true
    → path ≡ trail_of nodes u → used ≡ used_by nodes s.stored u → a ≡ record { path = path; quota = q; used = used }
    → a ∷ [] ≡ account_at s (node_in s.nodes u)
account_one s {nodes} u {q} {used} {path} b is same dir quota one trail count made =
    ap (λ (x : AccountCount). x ∷ []) (made ∙ ap (λ (t : List (List ℕ)). record { path = t; quota = q; used = used })
    (trail ∙ ap (λ (ns : List Node). trail_of ns u) (sym same))
    ∙ ap (λ (n : ℕ). record { path = trail_of s.nodes u; quota = q; used = n })
    (count ∙ ap (λ (ns : List Node). used_by ns s.stored u) (sym same)))
    ∙ sym (account_found s u b is same ∙ ap (account_of_node s u b.dir) (sym quota) ∙ rw dir (rw one refl))

-- ---- volumes

volumes_push : (s : Store) (v : ℕ) (xs : List VolumeLine) (y : VolumeLine)
    → volumes_of s v (xs ++ y ∷ []) ≡ volumes_of s v xs ++ volume_of s (v + length xs) y ∷ []
volumes_push s v [] y = let same : v ≡ v + 0 = omega arith in cc
volumes_push s v (x ∷ xs) y =
    let same : v + 1 + length xs ≡ v + length (x ∷ xs) = omega arith in
    cc (volumes_push s (v + 1) xs y)

pub volumes_more : (s : Store) (xs : List VolumeLine) (i v : ℕ) (x : VolumeLine) (c : VolumeCount)
    (items new : List VolumeCount) → i < length xs → v ≡ i
    → x ≡ get_or xs i x → items ≡ volumes_of s 0 (take i xs) → c ≡ volume_of s v x → new ≡ items ++ c ∷ [] → new
    ≡ volumes_of s 0 (take (i + 1) xs)
volumes_more s xs i v x c items new lt counted at h is add =
    let more = take_more xs i x lt ∙ ap (λ (y : VolumeLine). take i xs ++ y ∷ []) (sym at) in
    let size : v ≡ 0 + length (take i xs) = grind (arith, common_steps) in
    cc (volumes_push s 0 (take i xs) x)

-- ---- the whole

pub summary_whole : (p : Plan) (s : Store) {accounts : List AccountCount} {volumes : List VolumeCount} {r : Summary}
    → accounts ≡ accounts_of s
    → volumes ≡ volumes_of s 0 p.volumes → r ≡ record { accounts = accounts; volumes = volumes } → r ≡ summary_of p s
unfolding summary_of
summary_whole p s a v made = cc

pub listing_whole : {p q : Plan} {k : Kept} (es : List Entry) {r : Summary} {text : List ℕ} → q ≡ p
    → ((s : Store) → Shows q k s → r ≡ summary_of q s) → Shows p k (store_after p es)
    → text ≡ body_of p.print p es ++ summary_text r → text ≡ listing_of p es
unfolding listing_of
listing_whole {p} {k} es same summed shows made = made ∙ ap (λ (x : Summary). body_of p.print p es ++ summary_text x)
    (summed (store_after p es) (subst (λ (x : Plan). Shows x k (store_after p es)) (sym same) shows)
    ∙ ap (λ (x : Plan). summary_of x (store_after p es)) same)
