-- The next segment of the chain of a node: which it is, its pool, and what becomes of it.
use Rattle.machine_tables.proofs.Prelude.{◌≡◌, ℕ, ◌<◌, true, false, not, List, [], ◌∷◌, length, map, get_or, Option, Some, refl, sym, ap, ◌∙◌, arith, ◌⊎◌, IsSome, length-map, AccountMaps, chain_of, Node, node_in, ActiveSegs, IsFull, HasOneOffChain, first_off_chain, hand_moved, hand_past, map_at, Link, Next, Activated, Victim, Whole, place_of, IsInactive, AreActive, IsFirstInactive, link_at, made_active, no_link, superior_of, table_for, uids_of, HasOneToGo, IsChainDown, link_of, IsStore, home_of, is_there, link_pool, link_superior, link_there, found_there, pool_of_node, with_hand_moved, first_inactive, frames_from, free_place, is_active, superior_of_node, trailers_in, Storage, with_active, active_place, none_some, active_at, FindsFull, Joins, JoinsAt, NeedsVictim, links_of, wanted_pool, IsEmptied, is_bare, false_from_ne_true, List_get_or-map as get_or-map, IsNodeTree as IsTree, Next_words_in as words_in}
use Rattle.machine_tables.proofs.FindLaws.{find_first, find_none}
use Rattle.machine_tables.proofs.PoolLaws.{full_none, least_free}

-- ---- the chain of a node

idle_is : (ast : ActiveSegs) (u : ℕ) → IsInactive ast.entries u → is_active ast u ≡ false
idle_is ast u idle = false_from_ne_true (is_active ast u)
    (λ on. idle.nowhere (place_of ast.entries u) (active_place ast u on).1)

same_uids : (a : AccountMaps) (us : List ℕ) → uids_of (map (link_of a) us) ≡ us
same_uids a [] = refl
same_uids a (u ∷ us) = cc (same_uids a us)

module _ (st new : Storage) (of : ℕ) (h : IsStore st.pages st.ast st.links st.accounts st.whos)
    (t : IsTree st.accounts.nodes) (there : is_there st.accounts.nodes of ≡ true) where
  abbrev a : AccountMaps
  a = st.accounts

  abbrev uids : List ℕ
  uids = chain_of a.nodes of

  abbrev chain : List Link
  chain = links_of st of

  down : IsChainDown a chain
  down = record { uid = of; there = there; links = refl }

  same_length : length chain ≡ length uids
  same_length = length-map uids (link_of a)

  link_is : (i : ℕ) → i < length chain → link_at chain i ≡ link_of a (get_or uids i 0)
  link_is i lt = get_or-map (link_of a) uids i 0 no_link (omega (arith, lt, same_length))

  uid_is : (i : ℕ) → i < length chain → (link_at chain i).uid ≡ get_or uids i 0
  uid_is i lt = cc (link_is i lt)

  home_is : (i : ℕ) → i < length chain → (link_at chain i).home ≡ home_of a (link_at chain i).uid
  home_is i lt = cc (link_is i lt, uid_is i lt)

  node_is : (i : ℕ) → i < length chain → (n : Node) × (node_in a.nodes (link_at chain i).uid ≡ Some n)
  node_is i lt = found_there a.nodes (link_at chain i).uid
      (link_there st.pages st.ast st.links a st.whos chain h t down i lt)

  first_is : (i : ℕ) → IsFirstInactive st.ast.entries chain i → first_inactive st.ast uids ≡ Some (link_at chain i).uid
  first_is i first =
      let within = first.within in
      cc (
        find_first (λ u. not (is_active st.ast u)) 0 uids i (omega (arith, within, same_length))
            (ap (λ (u : ℕ). not (is_active st.ast u)) (sym (uid_is i within)) ∙ ap not
            (idle_is st.ast (link_at chain i).uid first.inactive)) (λ j less.
            (let active = first.before j less in ap (λ (u : ℕ). not (is_active st.ast u))
            (sym (uid_is j (omega (arith, less, within)))) ∙ ap not (active_at st.ast active.0 (link_at chain j).uid
            active.1))),
        uid_is i within,
      )

  pool_is : (i : ℕ) → IsFirstInactive st.ast.entries chain i → (link_at chain i).pool ≡ wanted_pool st of
  pool_is i first =
      let found = node_is i first.within in
      cc (link_pool st.pages st.ast st.links a st.whos chain h t down i found.0 first.within found.1, first_is i first)

  -- ---- it becomes active

  pub joined_place : (place i : ℕ) → JoinsAt st new chain place i → free_place st.ast (wanted_pool st of) ≡ Some place
  joined_place place i joins = cc (pool_is i joins.first, least_free st.ast (link_at chain i).pool place joins.least)

  pub joined_is : (place i uid : ℕ) → JoinsAt st new chain place i → first_inactive st.ast uids ≡ Some uid
      → new ≡ with_active st uid place
  joined_is place i uid joins wanted = joins.effect ∙ (λ k. record st {
    ast = made_active st.ast place (same k) (superior k)
        (table_for (map_at st.pages.vtocs (home k)) (words_in (pool k)));
  })
    where
      within : i < length chain
      within = joins.first.within

      found : (n : Node) × (node_in a.nodes (link_at chain i).uid ≡ Some n)
      found = node_is i within

      same : (link_at chain i).uid ≡ uid
      same = cc (first_is i joins.first, wanted)

      at : node_in a.nodes uid ≡ Some found.0
      at = cc (same, found.1)

      superior : superior_of chain i ≡ superior_of_node (node_in a.nodes uid)
      superior = sym (link_superior st.pages st.ast st.links a st.whos chain h t down i found.0 within found.1)
          ∙ sym (ap superior_of_node at)

      home : (link_at chain i).home ≡ home_of a uid
      home = cc (home_is i within, same)

      pool : (link_at chain i).pool ≡ pool_of_node (node_in a.nodes uid)
      pool = link_pool st.pages st.ast st.links a st.whos chain h t down i found.0 within found.1
          ∙ sym (ap pool_of_node at)

  -- where its pool has a free place, no other segment has to go
  pub no_victim : (i : ℕ) → IsFirstInactive st.ast.entries chain i → IsSome (free_place st.ast (wanted_pool st of))
      → IsFull st.ast (link_at chain i).pool → ⊥
  no_victim i first free full = grind (arith, full_none, pool_is)

  pub free_to_go : IsSome (free_place st.ast (wanted_pool st of)) → HasOneToGo st.ast chain
  free_to_go free = record { off = λ i first full. absurd (no_victim i first free full) }

  -- ---- its pool is full

  pub off_to_go : HasOneOffChain st.ast (wanted_pool st of) uids → HasOneToGo st.ast chain
  off_to_go off = grind (arith, same_uids, pool_is)

  pub passed_is : (i : ℕ) → FindsFull st new chain i → new ≡ with_hand_moved st (wanted_pool st of) uids
  passed_is i finds = finds.effect ∙ (λ k. record st {
    ast = hand_moved st.ast (pool_is i finds.first k) (same_uids a uids k);
  })

  -- one of the chain isn't active
  pub not_whole : AreActive st.ast.entries chain → IsSome (first_inactive st.ast uids) → ⊥
  not_whole all some = let none = find_none (λ u. not (is_active st.ast u)) 0 uids (λ j less.
      (let within : j < length chain = omega (arith, less, same_length) in let active = all.each j within in
      cc (uid_is j within, active_at st.ast active.0 (link_at chain j).uid active.1))) in cc

  -- a segment whose pool has a free place becomes active, and one whose pool is full has the pool's hand pass
  pub must_join : (r : Next) → Joins st new chain r → IsSome (first_inactive st.ast uids)
      → IsSome (free_place st.ast (wanted_pool st of)) → ((place : ℕ) × (r ≡ Victim place)) ⊎ (r ≡ Whole) → ⊥
  must_join r h1 h2 h3 h4 = grind (arith, no_victim, not_whole)

  pub must_pass : (r : Next) → Joins st new chain r → NeedsVictim st of
      → ((place : ℕ) × (r ≡ Activated place)) ⊎ (r ≡ Whole) → ⊥
  must_pass r h1 h2 h3 = grind (arith, none_some, joined_place, not_whole)

-- a victim of which there is nothing to take is empty after the hand has moved too
pub bare_after : (st : Storage) (pool : ℕ) (us : List ℕ) (uid : ℕ)
    → (is_bare (frames_from st.ast uid 0) (trailers_in st uid) ≡ true → IsEmptied st uid)
    → is_bare (frames_from (with_hand_moved st pool us).ast uid 0) (trailers_in (with_hand_moved st pool us) uid) ≡ true
    → IsEmptied (with_hand_moved st pool us) uid
bare_after st pool us uid empty = by (first_off_chain st.ast pool us)
  where
    by : (o : Option ℕ) → is_bare (frames_from (hand_past st.ast pool o) uid 0)
        (trailers_in (record st { ast = hand_past st.ast pool o }) uid) ≡ true
        → IsEmptied (record st { ast = hand_past st.ast pool o }) uid
    by o h1 = grind arith
