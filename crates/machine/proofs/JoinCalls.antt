-- What the calls ask that bring a segment of a chain nearer: it becomes active, or the victim of its pool is emptied.
use Rattle.machine.proofs.Prelude.{Action, ArePools, Command, HasNoInferior, HasOneOffChain, IsAbout, IsSome, List, Looks, Node, None, Parts, Some, State, Storage, about_there, active_at, all_used, ap, arith, chain_end, chain_of, chain_one_off, first_inactive, first_there, free_place, is_of_process, is_some, is_there, leaf_inferiors, node_in, or_zero, own_chain, pool_of_node, process_at, refl, subst, sym, true, uid_at, victim_leaf, wanted_pool, ℕ, ◌<◌, ◌∙◌, ◌≡◌, IsSound, MayDo, some_same, speaks, Action as act}
use Rattle.machine.proofs.Does.{Does, busy, found, keeps_of, still_for}
use Rattle.machine.proofs.Found.{Looked}
use Rattle.machine.proofs.OwnerCalls.{IsEmptiable, emptiable_by, owned}

-- what a processor's look is about is there
about_is : {D : Type 0} {t : Parts D} {c : ℕ} {a : Action} {Finds : Command → Type 0} → Does t c a
    → is_of_process a ≡ true → (l : Looks t.state c Finds) → (u : ℕ)
    → IsAbout t.state (process_at t.state c) l.command u → is_there t.state.store.accounts.nodes u ≡ true
about_is {D} {t} {c} d of l = grind (arith, about_there, speaks, busy, some_same)

-- ---- a segment becomes active

-- a segment may become active, for the command that node u is about
pub record IsJoinable (s : State) (u : ℕ) : Type 0 where
  pub still : s.store.moving ≡ None
  pub there : is_there s.store.accounts.nodes u ≡ true
  pub first : first_inactive s.store.ast (chain_of s.store.accounts.nodes u) ≡ Some u
  pub free : IsSome (free_place s.store.ast (pool_of_node (node_in s.store.accounts.nodes u)))
  pub room : 0 < s.spare

module _ {D : Type 0} {t : Parts D} {c u place : ℕ} (d : Does t c (act.Activate u place)) where
  abbrev nodes : List Node
  nodes = t.state.store.accounts.nodes

  l : Looked t.state c (act.Activate u place)
  l = found d

  first : first_inactive t.state.store.ast (chain_of nodes l.finds.link.about) ≡ Some u
  first = rw (← l.finds.link.chain_is) l.finds.link.first

  -- it is there, and the first of its own chain that isn't active
  pub joinable : IsJoinable t.state u
  joinable = record {
    still = still_for d;
    there = first_there nodes (keeps_of d).store.accounts.tree t.state.store.ast l.finds.link.about u
        (about_is d refl l l.finds.link.about l.finds.link.case) first;
    first = own_chain nodes (keeps_of d).store.accounts.tree t.state.store.ast l.finds.link.about u first;
    free = ap is_some l.finds.free;
    room = omega arith;
  }

  -- it is in the place that the rules gave
  pub place_is : {other : ℕ} → free_place t.state.store.ast (pool_of_node (node_in nodes u)) ≡ Some other
      → other ≡ place
  place_is free = cc (free, l.finds.free)

-- ---- the victim of a pool

-- what the call asks that takes what the victim has in use, where the chain is that of a node
pub record IsVictim (s : State) (of u : ℕ) : Type 0 where
  pub there : is_there s.store.accounts.nodes of ≡ true
  pub first : IsSome (first_inactive s.store.ast (chain_of s.store.accounts.nodes of))
  pub full : free_place s.store.ast (wanted_pool s.store of) ≡ None
  pub off : HasOneOffChain s.store.ast (wanted_pool s.store of) (chain_of s.store.accounts.nodes of)
  pub goes : IsEmptiable s u

pub is_victim : {D : Type 0} {t u : Parts D} {c pool uid : ℕ} (of : ℕ) → t ≡ u → IsSound t
    → MayDo u.state c (act.EmptyVictim pool (chain_of u.state.store.accounts.nodes of) uid)
    → Does t c (act.EmptyVictim pool (chain_of t.state.store.accounts.nodes of) uid)
is_victim of same sound may = record { sound = sound; may = rw same may }

module _ {D : Type 0} {t : Parts D} {c pool u : ℕ} (of : ℕ)
    (d : Does t c (act.EmptyVictim pool (chain_of t.state.store.accounts.nodes of) u)) where
  abbrev st : Storage
  st = t.state.store

  abbrev chain : List ℕ
  chain = chain_of st.accounts.nodes of

  looked : Looked t.state c (act.EmptyVictim pool chain u)
  looked = found d

  leaf : (w : ℕ) × (uid_at st.ast.entries looked.finds.place ≡ Some w) × HasNoInferior st.ast.entries looked.finds.place
  leaf = victim_leaf st.ast pool chain looked.finds.place (keeps_of d).store.kept.tree looked.finds.victim

  at : uid_at st.ast.entries looked.finds.place ≡ Some u
  at = leaf.1 ∙ ap (λ (x : ℕ). Some x) (sym (looked.finds.uid ∙ ap or_zero leaf.1))

  -- the pool is that of the first segment of the chain that isn't active
  pub pool_is : pool ≡ wanted_pool st of
  pool_is = cc (looked.finds.pool_is, looked.finds.link.first)

  wanted_there : is_there st.accounts.nodes of ≡ true
  wanted_there = rw (← (chain_end st.accounts.nodes looked.finds.link.about of (sym looked.finds.link.chain_is)))
      (about_is d refl looked looked.finds.link.about looked.finds.link.case)

  pub victim_call : IsVictim t.state of u
  victim_call = record {
    there = wanted_there;
    first = ap is_some looked.finds.link.first;
    full = subst (λ (x : ℕ). free_place st.ast x ≡ None) pool_is looked.finds.full;
    off = subst (λ (x : ℕ). HasOneOffChain st.ast x chain) (sym looked.finds.pool_is ∙ pool_is)
        (chain_one_off st.pages st.ast st.links st.accounts st.whos (keeps_of d).store.counted
        (keeps_of d).store.accounts.tree of (keeps_of d).store.kept.tree
        (subst ArePools (sym d.sound.keeps.machine.pools) d.sound.keeps.machine.script.pools) wanted_there
        looked.finds.wanted looked.finds.link.first
        (all_used st.ast (pool_of_node (node_in st.accounts.nodes looked.finds.wanted))
        (subst (λ (x : ℕ). free_place st.ast x ≡ None) looked.finds.pool_is looked.finds.full)));
    goes = emptiable_by d u (still_for d) looked.idle (owned looked.looking.owner)
        (active_at st.ast looked.finds.place u at) looked.finds.unread
        (leaf_inferiors t.state looked.finds.place u (keeps_of d) at leaf.2);
  }
