-- How many of a pool are active, counted among the nodes or among the active segments.
use Rattle.custody.proofs.Prelude.{◌≡◌, ◌≢◌, ◌<◌, ℕ, suc, zero, Bool, true, false, cond, eqb, ◌&&◌, List, [], ◌∷◌, Option, Some, None, length, set, refl, sym, ap, ◌∙◌, inl, inr, arith, sum_by, is_some, IsSomeAnd, Decides, eqb_tells, get_or-set_same, get_or-set_other, sum_by-set, sum_by-cons, Plan, Store, Node, node_in, pool_of, MayActivate, Tables, AreNodes, CanJoin, IsAsActivated, active_at, custody_of, is_in_pool, use_in, ActiveUse, eqb_self}

-- ---- nodes

-- an active segment that isn't the first node is among the others
others : (n : Node) (ns : List Node) (u : ℕ) (P : Node → Type 0) → n.uid ≢ u → IsSomeAnd (node_in (n ∷ ns) u) P
    → IsSomeAnd (node_in ns u) P
others n ns u P apart h = elim (eqb_tells n.uid u) [
  | inl e ↦ absurd (apart e.1)
  | inr e ↦ rw e.0 at h
]

first : (n : Node) (ns : List Node) (P : Node → Type 0) → IsSomeAnd (node_in (n ∷ ns) n.uid) P → P n
first n ns P h = rw (eqb_self n.uid) at h

-- one that is active no more changes no other node
unchanged : (uses : List (Option ActiveUse)) (v q : ℕ) (ns : List Node) → node_in ns v ≡ None
    → sum_by (λ n. cond (is_some (active_at (set uses v None) n.uid) && eqb (pool_of n) q) 1 0) ns
    ≡ sum_by (λ n. cond (is_some (active_at uses n.uid) && eqb (pool_of n) q) 1 0) ns
unchanged uses v q [] h = refl
unchanged uses v q (n ∷ ns) h = elim (eqb_tells n.uid v) [
  | inl e ↦ (let clash : Some n ≡ None = rw e.0 at h in cc)
  | inr e ↦
      (let rest = unchanged uses v q ns (rw e.0 at h) in
      let here : active_at (set uses v None) n.uid ≡ active_at uses n.uid =
      get_or-set_other uses v n.uid None None e.1 in
      let f : Node → ℕ = λ m. cond (is_some (active_at (set uses v None) m.uid) && eqb (pool_of m) q) 1 0 in
      let g : Node → ℕ = λ m. cond (is_some (active_at uses m.uid) && eqb (pool_of m) q) 1 0 in
      let a = sum_by-cons f n ns in
      let b = sum_by-cons g n ns in
      let c : f n ≡ g n = ap (λ (o : Option ActiveUse). cond (is_some o && eqb (pool_of n) q) 1 0) here in
      omega (arith, a, b, c, rest))
]

pub some_none : (a : ActiveUse) → ◌≢◌ {A = Option ActiveUse} None (Some a)
some_none a e = cc

zeros : (f : Option ActiveUse → ℕ) → f None ≡ 0 → (uses : List (Option ActiveUse))
    → ((u : ℕ) → active_at uses u ≡ None) → sum_by f uses ≡ 0
zeros f none [] h = refl
zeros f none (x ∷ xs) h =
    let a = sum_by-cons f x xs in
    let here : f x ≡ 0 = ap f (h 0) ∙ none in
    let rest = zeros f none xs (λ u. h (suc u)) in
    omega (arith, a, here, rest)

nothing : (o : Option ActiveUse) → ((a : ActiveUse) → o ≡ Some a → ⊥) → o ≡ None
nothing None h = refl
nothing (Some a) h = absurd (h a refl)

within : (uses : List (Option ActiveUse)) (u : ℕ) (a : ActiveUse) → active_at uses u ≡ Some a → u < length uses
within [] u a e = absurd (some_none a e)
within (x ∷ xs) zero a e = omega arith
within (x ∷ xs) (suc u) a e = let h = within xs u a e in omega (arith, h)

by_pool : (q : ℕ) (a : ActiveUse) (n : Node) → pool_of n ≡ a.pool
    → ◌≡◌ {A = ℕ} (cond (eqb (pool_of n) q) 1 0) (cond (eqb a.pool q) 1 0)
by_pool q a n e = ap (λ (p : ℕ). cond (eqb p q) 1 0) e

count_more : (n : Node) (ns : List Node) (uses : List (Option ActiveUse)) (q : ℕ) → AreNodes (n ∷ ns) uses
    → ((us : List (Option ActiveUse)) → AreNodes ns us
    → sum_by (λ m. cond (is_some (active_at us m.uid) && eqb (pool_of m) q) 1 0) ns
    ≡ sum_by (λ x. cond (is_in_pool q x) 1 0) us) → (o : Option ActiveUse) → active_at uses n.uid ≡ o
    → sum_by (λ m. cond (is_some (active_at uses m.uid) && eqb (pool_of m) q) 1 0) (n ∷ ns)
    ≡ sum_by (λ x. cond (is_in_pool q x) 1 0) uses
count_more n ns uses q t rest None e =
    let g : Node → ℕ = λ m. cond (is_some (active_at uses m.uid) && eqb (pool_of m) q) 1 0 in
    let a = sum_by-cons g n ns in
    let here : g n ≡ 0 = ap (λ (o : Option ActiveUse). cond (is_some o && eqb (pool_of n) q) 1 0) e in
    let r = rest uses (record {
      apart = t.apart.1;
      there = λ u b f. others n ns u (IsAsActivated b)
          (λ s. some_none b (sym e ∙ ap (λ (v : ℕ). active_at uses v) s ∙ f)) (t.there u b f);
    }) in
    omega (arith, a, here, r)
count_more n ns uses q t rest (Some b) e =
    let f : Option ActiveUse → ℕ = λ x. cond (is_in_pool q x) 1 0 in
    let g : Node → ℕ = λ m. cond (is_some (active_at uses m.uid) && eqb (pool_of m) q) 1 0 in
    let a = sum_by-cons g n ns in
    let l = within uses n.uid b e in
    let is = first n ns (IsAsActivated b) (t.there n.uid b e) in
    let here : g n ≡ f (Some b) = ap (λ (o : Option ActiveUse). cond (is_some o && eqb (pool_of n) q) 1 0) e
    ∙ by_pool q b n is.pool in
    let change = sum_by-set f uses n.uid None None l in
    let was : f (active_at uses n.uid) ≡ f (Some b) = ap f e in
    let gone : f None ≡ 0 = refl in
    let less : List (Option ActiveUse) = set uses n.uid None in
    let removed : active_at less n.uid ≡ None = get_or-set_same uses n.uid None None l in
    let r = rest less (record {
      apart = t.apart.1;
      there = λ u c h. away u c h removed;
    }) in
    let s = unchanged uses n.uid q ns t.apart.0 in
    omega (arith, a, here, change, was, gone, r, s)
  where
    away : (u : ℕ) (c : ActiveUse) → active_at (set uses n.uid None) u ≡ Some c → active_at (set uses n.uid None) n.uid
        ≡ None → IsSomeAnd (node_in ns u) (IsAsActivated c)
    away u c h removed = elim (eqb_tells u n.uid) [
      | inl s ↦ absurd (some_none c (sym removed ∙ ap (λ (v : ℕ). active_at (set uses n.uid None) v) (sym s.1) ∙ h))
      | inr s ↦
          others n ns u (IsAsActivated c) (λ d. s.1 (sym d))
          (t.there u c (sym (get_or-set_other uses n.uid u None None s.1) ∙ h))
    ]

pub count_active : (nodes : List Node) (uses : List (Option ActiveUse)) (q : ℕ) → AreNodes nodes uses
    → sum_by (λ n. cond (is_some (active_at uses n.uid) && eqb (pool_of n) q) 1 0) nodes
    ≡ sum_by (λ x. cond (is_in_pool q x) 1 0) uses
count_active [] uses q t = sym (zeros (λ x. cond (is_in_pool q x) 1 0) refl uses
    (λ u. nothing (active_at uses u) (λ a e. t.there u a e)))
count_active (n ∷ ns) uses q t = count_more n ns uses q t (λ us r. count_active ns us q r) (active_at uses n.uid) refl

-- ---- whether one may become active

pub activates : (p : Plan) (s : Store) (t : Tables) (u : ℕ) (a : ActiveUse) (found : Option ActiveUse) (r : Bool)
    → found ≡ use_in (node_in s.nodes u) → found ≡ Some a
    → AreNodes s.nodes t.active → is_some (active_at t.active u) ≡ false → Decides r (CanJoin p t a)
    → Decides r (MayActivate p s (custody_of t) u)
activates p s t u a found r is some nodes inactive h = by (node_in s.nodes u) refl (sym is ∙ some)
  where
    by : (o : Option Node) → node_in s.nodes u ≡ o → use_in o ≡ Some a → Decides r (MayActivate p s (custody_of t) u)
    by None e k = absurd (some_none a k)
    by (Some n) e k =
        let coming : ActiveUse = record { superior = n.superior; pool = pool_of n } in
        let same : coming ≡ a = cc in
        let d : Decides r (CanJoin p t coming) = rw same h in
        let c : sum_by (λ m. cond (is_some (active_at t.active m.uid) && eqb (pool_of m) (pool_of n)) 1 0) s.nodes
        ≡ sum_by (λ x. cond (is_in_pool (pool_of n) x) 1 0) t.active =
        count_active s.nodes t.active (pool_of n) nodes in (
          λ q. record {
            inactive = inactive;
            node = rw e (record { superior = (d.0 q).superior; room = rw c (d.0 q).room });
          },
          λ m.
              let j = rw e at m.node in
              d.1 (record { superior = j.superior; room = rw (← c) j.room }),
        )

pub is_active : (p : Plan) (s : Store) (t : Tables) (u : ℕ) → is_some (active_at t.active u) ≡ true
    → Decides false (MayActivate p s (custody_of t) u)
is_active p s t u e = (λ q. cc, λ m. let inactive = m.inactive in let clash : true ≡ false = sym e ∙ inactive in cc)
