-- The chain of directories down to a node: which of its links are active, and what is above the first that isn't.
use Rattle.machine_model.proofs.Prelude.{◌≡◌, ℕ, Bool, true, false, not, cond, is_some, List, [], ◌∷◌, ◌++◌, Option, Some, None, inl, inr, refl, sym, ap, subst, ◌∙◌, reverse, IfSome, find, reverse_onto, Node, above, node_in, step_up, AreDirectories, HasChains, IsChain, IsTree, has_chains, IsMember, found_front, found_member, member_parts, past_front, above_once, superior_found, chain_of, ActiveSegs, first_inactive, is_active, directory_there, tree_laws_superior_in as superior_in, by_not}

-- ---- the first of a list turned round

pub turned : (x : ℕ) (xs : List ℕ) → reverse (x ∷ xs) ≡ reverse xs ++ x ∷ []
turned x xs = reverse_onto xs x []

-- none of some numbers passes
abbrev pub AllFail : (ℕ → Bool) → List ℕ → Type 0
AllFail test [] = Unit {0}
AllFail test (x ∷ xs) = (test x ≡ false) × AllFail test xs

module _ (test : ℕ → Bool) where
  none_front : (xs ys : List ℕ) → find test (xs ++ ys) ≡ None → find test xs ≡ None
  none_front [] ys h = refl
  none_front (x ∷ xs) ys h = by (test x) h (none_front xs ys)
    where
      by : (b : Bool) → cond b (Some x) (find test (xs ++ ys)) ≡ None
          → (find test (xs ++ ys) ≡ None → find test xs ≡ None) → cond b (Some x) (find test xs) ≡ None
      by true e rest = cc
      by false e rest = rest e

  none_back : (xs ys : List ℕ) → find test (xs ++ ys) ≡ None → find test ys ≡ None
  none_back [] ys h = h
  none_back (x ∷ xs) ys h = by (test x) h (none_back xs ys)
    where
      by : (b : Bool) → cond b (Some x) (find test (xs ++ ys)) ≡ None
          → (find test (xs ++ ys) ≡ None → find test ys ≡ None) → find test ys ≡ None
      by true e rest = cc
      by false e rest = rest e

  alone_fails : (x : ℕ) → find test (x ∷ []) ≡ None → test x ≡ false
  alone_fails x h = by (test x) refl h
    where
      by : (b : Bool) → test x ≡ b → cond b (Some x) None ≡ None → b ≡ false
      by false e i = refl
      by true e i = cc

  none_turned : (xs : List ℕ) → find test (reverse xs) ≡ None → AllFail test xs
  none_turned [] h = tt
  none_turned (x ∷ xs) h = let at = ap (find test) (sym (turned x xs)) ∙ h in (
    alone_fails x (none_back (reverse xs) (x ∷ []) at),
    none_turned xs (none_front (reverse xs) (x ∷ []) at),
  )

  -- the first of a chain turned round: what is above it fails
  first_turned : (up : ℕ → List ℕ) (xs : List ℕ) (v : ℕ) → IsChain up xs → find test (reverse xs) ≡ Some v
      → AllFail test (up v)
  first_turned up [] v chain h = cc
  first_turned up (x ∷ xs) v chain h = by (find test (reverse xs)) refl (first_turned up xs v chain.2)
    where
      at : find test (reverse xs ++ x ∷ []) ≡ Some v
      at = cc (turned x xs)

      past : (ys zs : List ℕ) → find test ys ≡ None → find test (ys ++ zs) ≡ find test zs
      past ys zs e = past_front test ys zs e

      by : (r : Option ℕ) → find test (reverse xs) ≡ r
          → (find test (reverse xs) ≡ Some v → AllFail test (up v)) → AllFail test (up v)
      by (Some w) e rest = rest (e ∙ (sym (found_front test (reverse xs) (x ∷ []) w e) ∙ at))
      by None e rest = rw (← (chain.0 ∙ ap up same)) (none_turned xs e)
        where
          same : x ≡ v
          same = alone (test x) (sym (past (reverse xs) (x ∷ []) e) ∙ at)
            where
              alone : (b : Bool) → cond b (Some x) None ≡ Some v → x ≡ v
              alone true i = cc
              alone false i = cc

-- ---- a chain of the tree

module _ (ns : List Node) (t : IsTree ns) (ast : ActiveSegs) where
  chains : HasChains ns
  chains = has_chains ns t

  abbrev idle : ℕ → Bool
  idle u = not (is_active ast u)

  whole : (u : ℕ) → IsChain (above ns) (u ∷ above ns u)
  whole u = (refl, chains.under u, chains.chain u)

  active_of : (u : ℕ) → idle u ≡ false → is_active ast u ≡ true
  active_of u h = by_not (is_active ast u) h

  -- where the whole chain is active, the node at its end is
  pub chain_active : (u : ℕ) → first_inactive ast (chain_of ns u) ≡ None → is_active ast u ≡ true
  chain_active u h = active_of u (none_turned idle (u ∷ above ns u) h).0

  -- what is above the first link that isn't active is active
  pub superior_active : (u : ℕ) {v : ℕ} {n : Node} → first_inactive ast (chain_of ns u) ≡ Some v → node_in ns v ≡ Some n
      → IfSome n.superior (λ w. is_active ast w ≡ true)
  superior_active u {v} {n} h at = by n.superior (superior_found ns v n at)
    where
      by : (o : Option ℕ) → superior_in ns v ≡ o → IfSome o (λ w. is_active ast w ≡ true)
      by None e = tt
      by (Some w) e = active_of w (subst (AllFail idle) (above_once ns t v ∙ ap (step_up (above ns)) e)
          (first_turned idle (above ns) (u ∷ above ns u) v (whole u) h)).0

  -- each link of the chain of a node that is there is there
  link_there : (xs : List ℕ) → AreDirectories ns xs → (u v : ℕ) → is_some (node_in ns u) ≡ true
      → IsMember v (u ∷ xs) → is_some (node_in ns v) ≡ true
  link_there xs dirs u v there (inl e) = subst (λ (x : ℕ). is_some (node_in ns x) ≡ true) (sym e) there
  link_there [] dirs u v there (inr m) = absurd m
  link_there (x ∷ xs) dirs u v there (inr m) = link_there xs dirs.1 x v (directory_there ns x dirs.0) m

  found_turned : (xs : List ℕ) {v : ℕ} → find idle (reverse xs) ≡ Some v → IsMember v xs
  found_turned xs {v} h = turn xs (found_member idle (reverse xs) v h)
    where
      turn : (ys : List ℕ) → IsMember v (reverse ys) → IsMember v ys
      turn [] m = m
      turn (y ∷ ys) m = elim (member_parts v (reverse ys) (y ∷ []) (rw (← (turned y ys)) m)) [
        | inl front ↦ inr (turn ys front)
        | inr back ↦ elim back [ inl e ↦ inl e | inr none ↦ absurd none ]
      ]

  pub first_there : (u v : ℕ) → is_some (node_in ns u) ≡ true → first_inactive ast (chain_of ns u) ≡ Some v
      → is_some (node_in ns v) ≡ true
  first_there u v there h = link_there (above ns u) (chains.directories u) u v there (found_turned (u ∷ above ns u) h)
