-- Where a pool is full something of it isn't of the chain that becomes active, and the chain goes up to the root.
use Rattle.machine_tables.proofs.Prelude.{◌≡◌, ◌≢◌, ℕ, zero, suc, ◌-◌, ◌<◌, ◌≤◌, Bool, true, false, not, cond, eqb, List, [], ◌∷◌, length, get_or, Option, Some, None, refl, sym, ap, subst, ◌∙◌, arith, inl, inr, ◌⊎◌, ◌++◌, reverse, IsSome, find, list_any, position_or_len, cases_lt, eqb_tells, reverse_onto, get_or_default, get_or-reverse, length-reverse, reverse-reverse, Who, ArePools, AccountMaps, Node, above, has_directory, node_in, pool_for, pool_of, HasChains, IsChain, IsNodeTree, has_chains, IsMember, found_front, found_member, past_front, IsUp, superior_in, superior_up, superior_found, chain_of, Entry, ActiveSegs, IsFull, IsTree, entry_at, uid_at, IsInPool, first_of, size_of, HasItsSuperiors, HasOneOffChain, off_chain, Plain, Links, IsStore, is_there, chain_first, chain_length, chain_next, found_there, directory_found, pool_of_node, first_inactive, is_active, some_within, AllFail, first_there, find_true, pool_one_off, active_at, found, first_pool, eqb-true, false_from_ne_true, not_from_false, first_idle, Active_uid_in as uid_in}
use Rattle.machine_tables.proofs.PoolLaws.{others_some, pool_few}

-- a number of a list has a place in it
abbrev IsAt : List ℕ → ℕ → Type 0
IsAt xs x = (i : ℕ) × (i < length xs) × (get_or xs i 0 ≡ x)

member_at : (x : ℕ) (xs : List ℕ) → IsMember x xs → IsAt xs x
member_at x [] m = absurd m
member_at x (y ∷ ys) (inl e) = (0, omega arith, sym e)
member_at x (y ∷ ys) (inr m) = let rest = member_at x ys m in let lt = rest.1 in
    (suc rest.0, omega arith, rest.2)

any_place : (x : ℕ) (xs : List ℕ) → list_any (λ y. eqb y x) xs ≡ true → IsAt xs x
any_place x xs h = let lt = some_within (λ y. eqb y x) xs h in
    (position_or_len (λ y. eqb y x) xs, lt, eqb-true _ _ (found (λ y. eqb y x) xs 0 lt))

-- ---- a chain of the tree

module _ (ns : List Node) (t : IsNodeTree ns) (u : ℕ) where
  -- a link is a directory, or the last one
  link_is : (x : ℕ) → IsAt (chain_of ns u) x → (has_directory ns x ≡ true) ⊎ (x ≡ u)
  link_is x at = elim (cases_lt (suc at.0) (length (chain_of ns u))) [
    | inl lt ↦ inl (rw (← at.2) (subst (IsUp ns (get_or (chain_of ns u) (suc at.0) 0)) (chain_next ns t u at.0 lt)
        (superior_up ns t (get_or (chain_of ns u) (suc at.0) 0))).1)
    | inr past ↦ (let long : length (chain_of ns u) ≡ length (u ∷ above ns u) = length-reverse (u ∷ above ns u) in
        let lt = at.1 in
        let last : length (u ∷ above ns u) - 1 - at.0 ≡ 0 = omega arith in
        inr (cc (get_or-reverse (u ∷ above ns u) at.0 0 (omega (arith, lt, long)))))
  ]

  -- the superior of a link is the link before it
  above_link : (x s : ℕ) → IsAt (chain_of ns u) x → superior_in ns x ≡ Some s → IsAt (chain_of ns u) s
  above_link x s at e = by at.0 at.1 at.2
    where
      by : (i : ℕ) → i < length (chain_of ns u) → get_or (chain_of ns u) i 0 ≡ x → IsAt (chain_of ns u) s
      by zero lt is = cc (chain_first ns t u)
      by (suc i) lt is = (
        i,
        omega arith,
        let same : Some (get_or (chain_of ns u) i 0) ≡ Some s =
            sym (chain_next ns t u i lt) ∙ ap (superior_in ns) is ∙ e in
            cc,
      )

-- ---- what is active of it

module _ (now : Plain) (ast : ActiveSegs) (links : Links) (a : AccountMaps) (whos : List Who)
    (h : IsStore now ast links a whos) (t : IsNodeTree a.nodes) (u : ℕ) where
  -- the superiors of what is active of a chain are of it
  pub chain_superiors : HasItsSuperiors ast.entries (chain_of a.nodes u)
  chain_superiors place uid superior at there above =
      let node = found_there a.nodes uid (h.active.there place uid at) in
      let long = there.1 in
      let here : IsAt (chain_of a.nodes u) uid =
      (there.0, long, get_or_default (chain_of a.nodes u) there.0 0 uid long ∙ there.2) in
      let up = above_link a.nodes t u uid superior here (superior_found a.nodes uid node.0 node.1
      ∙ (sym (h.active.superiors place uid node.0 at node.1) ∙ above)) in
      let lt = up.1 in (
        up.0,
        lt,
        get_or_default (chain_of a.nodes u) up.0 superior 0 lt ∙ up.2,
      )

  -- a directory is in the first pool
  directory_pool : (place x : ℕ) → uid_at ast.entries place ≡ Some x → has_directory a.nodes x ≡ true
      → IsInPool ast.sizes 0 place
  directory_pool place x at dir =
      let node = found_there a.nodes x (h.active.there place x at) in
      rw (← (ap (λ (b : Bool). cond b 0 (pool_for node.0.pages)) (sym (directory_found a.nodes x node.0 node.1) ∙ dir)))
      (h.active.pools place x node.0 at node.1)

  module _ (tree : IsTree ast.entries) (pools : ArePools ast.sizes) (v : ℕ)
      (first : first_inactive ast (chain_of a.nodes u) ≡ Some v) (n : Node) (node : node_in a.nodes v ≡ Some n)
      (full : IsFull ast (pool_of n)) where
    inactive : is_active ast v ≡ false
    inactive = first_idle ast (chain_of a.nodes u) v first

    -- the first pool has more places than the chain has links
    in_first : pool_of n ≡ 0 → HasOneOffChain ast (pool_of n) (chain_of a.nodes u)
    in_first zeroth = grind (arith, pool_one_off, chain_length, first_pool)

    -- of another pool the chain has its last link at the most, which isn't active
    in_other : pool_of n ≢ 0 → HasOneOffChain ast (pool_of n) (chain_of a.nodes u)
    in_other other = record {
      place = place;
      in_pool = within;
      off = by (entry_at ast.entries place) refl (full place within);
    }
      where
        place : ℕ
        place = first_of ast.sizes (pool_of n)

        after : (1 ≤ size_of ast.sizes (pool_of n)) × (size_of ast.sizes 0 ≤ first_of ast.sizes (pool_of n))
        after = others_some ast.sizes (pool_of n) pools (pool_few (Some n)) other

        within : IsInPool ast.sizes (pool_of n) place
        within = record { from = omega arith; to = let some = after.0 in omega (arith, some) }

        here : IsAt (chain_of a.nodes u) v
        here = member_at v (chain_of a.nodes u) (found_member (λ w. not (is_active ast w)) (chain_of a.nodes u) v first)

        last : v ≡ u
        last = elim (link_is a.nodes t u v here) [
          | inl dir ↦ absurd (other (cc (directory_found a.nodes v n node)))
          | inr same ↦ same
        ]

        no_link : (e : Entry) → entry_at ast.entries place ≡ Some e → IsAt (chain_of a.nodes u) e.uid → ⊥
        no_link e at link =
            let its : uid_at ast.entries place ≡ Some e.uid = ap uid_in at in
            elim (link_is a.nodes t u e.uid link) [
              | inl dir ↦ (let to = (directory_pool place e.uid its dir).to in let past = after.1 in
                  omega (arith, to, past))
              | inr same ↦ (let on : is_active ast v ≡ true =
                  ap (is_active ast) (last ∙ sym same) ∙ active_at ast place e.uid its in
                  let no : true ≡ false = sym on ∙ inactive in absurd cc)
            ]

        by : (o : Option Entry) → entry_at ast.entries place ≡ o → IsSome o
            → off_chain (chain_of a.nodes u) (entry_at ast.entries place) ≡ true
        by None e some = absurd cc
        by (Some x) e some = rw e (not_from_false _ (false_from_ne_true _
            (λ i. no_link x e (any_place x.uid (chain_of a.nodes u) i))))

    pub one_off : HasOneOffChain ast (pool_of n) (chain_of a.nodes u)
    one_off = elim (eqb_tells (pool_of n) 0) [ inl e ↦ in_first e.1 | inr m ↦ in_other m.1 ]

  -- Where the pool of the first link that isn't active is full, something of it isn't of the chain.
  pub chain_one_off : IsTree ast.entries → ArePools ast.sizes → is_there a.nodes u ≡ true → (v : ℕ)
      → first_inactive ast (chain_of a.nodes u) ≡ Some v → IsFull ast (pool_of_node (node_in a.nodes v))
      → HasOneOffChain ast (pool_of_node (node_in a.nodes v)) (chain_of a.nodes u)
  chain_one_off tree pools there v first full = grind (arith, found_there, first_there, one_off)

-- ---- a chain by its end

-- a chain tells the node that it is of
pub chain_end : (ns : List Node) (x y : ℕ) → chain_of ns x ≡ chain_of ns y → x ≡ y
chain_end ns x y same =
    let turned : x ∷ above ns x ≡ y ∷ above ns y =
    sym (reverse-reverse (x ∷ above ns x)) ∙ ap reverse same ∙ reverse-reverse (y ∷ above ns y) in
    cc

module _ (ns : List Node) (t : IsNodeTree ns) (ast : ActiveSegs) (x v : ℕ)
    (first : first_inactive ast (chain_of ns x) ≡ Some v) where
  abbrev idle : ℕ → Bool
  idle w = not (is_active ast w)

  none_front : (ys : List ℕ) (w : ℕ) → find idle (ys ++ w ∷ []) ≡ None → find idle ys ≡ None
  none_front ys w h = grind (arith, found_front)

  none_fails : (xs : List ℕ) → find idle (reverse xs) ≡ None → AllFail idle xs
  none_fails [] h = tt
  none_fails (w ∷ ws) h =
      let at = sym (cc (reverse_onto ws w [])) ∙ h in
      let front = none_front (reverse ws) w at in
      (one (idle w) (sym (past_front idle (reverse ws) (w ∷ []) front) ∙ at), none_fails ws front)
    where
      one : (b : Bool) → cond b (Some w) None ≡ None → b ≡ false
      one b h1 = grind arith

  -- what is above the first of a chain that isn't active is active
  above_first : (xs : List ℕ) → IsChain (above ns) xs → find idle (reverse xs) ≡ Some v → AllFail idle (above ns v)
  above_first [] chain h = cc
  above_first (w ∷ ws) chain h = by (find idle (reverse ws)) refl (above_first ws chain.2)
    where
      at : find idle (reverse ws ++ w ∷ []) ≡ Some v
      at = cc (reverse_onto ws w [])

      alone : (b : Bool) → cond b (Some w) None ≡ Some v → w ≡ v
      alone true i = let is : w ≡ v = cc in is
      alone false i = cc

      by : (r : Option ℕ) → find idle (reverse ws) ≡ r → (find idle (reverse ws) ≡ Some v → AllFail idle (above ns v))
          → AllFail idle (above ns v)
      by (Some z) e rest = rest (e ∙ (sym (found_front idle (reverse ws) (w ∷ []) z e) ∙ at))
      by None e rest = subst (AllFail idle) (cc (alone (idle w) (sym (past_front idle (reverse ws) (w ∷ []) e) ∙ at)))
          (none_fails ws e)

  none_idle : (xs : List ℕ) → AllFail idle xs → find idle (reverse xs) ≡ None
  none_idle [] h = refl
  none_idle (w ∷ ws) h = cc (reverse_onto ws w [], past_front idle (reverse ws) (w ∷ []) (none_idle ws h.1))

  -- the first link that isn't active is the first of its own chain
  pub own_chain : first_inactive ast (chain_of ns v) ≡ Some v
  own_chain = cc (
    reverse_onto (above ns v) v [],
    past_front idle (reverse (above ns v)) (v ∷ []) (none_idle (above ns v) above_active),
    find_true idle (chain_of ns x) v first,
  )
    where
      chains : HasChains ns
      chains = has_chains ns t

      above_active : AllFail idle (above ns v)
      above_active = above_first (x ∷ above ns x) (refl, chains.under x, chains.chain x) first
