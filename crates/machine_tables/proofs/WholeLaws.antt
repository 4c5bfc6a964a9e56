-- The superiors of an active node are active, all of them.
use Rattle.machine_tables.proofs.Prelude.{chain_active, when_none, ◌≡◌, ℕ, suc, zero, ◌+◌, ◌-◌, ◌<◌, true, false, not, List, [], ◌∷◌, length, ◌++◌, get_or, reverse, Some, None, sym, ap, subst, ◌∙◌, arith, get_or-reverse, length-reverse, Who, AccountMaps, above, node_in, step_up, IsNodeTree, past_front, above_once, superior_in, superior_found, chain_of, ActiveSegs, IsTree, Plain, Links, place_of, IsStore, is_there, chain_next, found_there, first_inactive, is_active, superior_of_node, State, active_place, turned, active_at, MayLook}
use Rattle.machine_tables.proofs.FindLaws.{find_none}

module _ (now : Plain) (ast : ActiveSegs) (links : Links) (a : AccountMaps) (whos : List Who)
    (h : IsStore now ast links a whos) (t : IsNodeTree a.nodes) (tree : IsTree ast.entries) (u : ℕ)
    (active : is_active ast u ≡ true) where
  abbrev chain : List ℕ
  chain = chain_of a.nodes u

  -- the link before an active one is active
  before : (i : ℕ) → suc i < length chain → is_active ast (get_or chain (suc i) 0) ≡ true
      → is_active ast (get_or chain i 0) ≡ true
  before i lt here =
      let x = get_or chain (suc i) 0 in
      let place = place_of ast.entries x in
      let at = (active_place ast x here).1 in
      let node = found_there a.nodes x (h.active.there place x at) in
      let up = tree.superiors place (get_or chain i 0) (h.active.superiors place x node.0 at node.1
      ∙ (sym (superior_found a.nodes x node.0 node.1) ∙ chain_next a.nodes t u i lt)) in
      active_at ast up.0 (get_or chain i 0) up.1

  long : length chain ≡ length (u ∷ above a.nodes u)
  long = length-reverse (u ∷ above a.nodes u)

  last : (i : ℕ) → suc i ≡ length chain → get_or chain i 0 ≡ u
  last i end = let none : length (u ∷ above a.nodes u) - 1 - i ≡ 0 = omega (arith, long, end) in
      cc (get_or-reverse (u ∷ above a.nodes u) i 0 (omega (arith, long, end)))

  each : (n i : ℕ) → suc (i + n) ≡ length chain → is_active ast (get_or chain i 0) ≡ true
  each zero i end = subst (λ (x : ℕ). is_active ast x ≡ true) (sym (last i (omega arith))) active
  each (suc n) i end = before i (omega arith) (each n (suc i) (omega arith))

  whole_chain : first_inactive ast chain ≡ None
  whole_chain = find_none (λ x. not (is_active ast x)) 0 chain
      (λ i less. ap not (each (length chain - suc i) i (omega arith)))

-- of a node that is active no superior is inactive
pub active_whole : (s : State) (u : ℕ) → MayLook s → is_active s.store.ast u ≡ true
    → first_inactive s.store.ast (chain_of s.store.accounts.nodes u) ≡ None
active_whole s u h active = grind (arith, whole_chain)

-- a node that isn't active is the first of its chain that isn't, where its superior is active
pub next_first : (s : State) (u w : ℕ) → MayLook s → is_there s.store.accounts.nodes u ≡ true
    → is_active s.store.ast u ≡ false → superior_of_node (node_in s.store.accounts.nodes u) ≡ Some w
    → is_active s.store.ast w ≡ true → first_inactive s.store.ast (chain_of s.store.accounts.nodes u) ≡ Some u
next_first s u w h there idle up active =
    let ns = s.store.accounts.nodes in
    let node = found_there ns u there in
    let over : superior_in ns u ≡ Some w = superior_found ns u node.0 node.1 ∙ (cc) in
    let above_is : above ns u ≡ w ∷ above ns w = above_once ns h.keeps.store.accounts.tree u
    ∙ ap (step_up (above ns)) over in
    let chain_is : chain_of ns u ≡ chain_of ns w ++ u ∷ [] = ap (λ (xs : List ℕ). reverse (u ∷ xs)) above_is
    ∙ turned u (w ∷ above ns w) in
    cc (past_front (λ x. not (is_active s.store.ast x)) (chain_of ns w) (u ∷ []) (active_whole s w h active))

pub ruleset links_whole = (active_whole, when_none, chain_active)
