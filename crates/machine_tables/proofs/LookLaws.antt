-- What a look asks of the chain of a node: its first link that isn't active is there, and a full pool has a victim.
use Rattle.machine_tables.proofs.Prelude.{◌≡◌, ℕ, true, Some, node_in, chain_of, IsFull, HasItsSuperiors, HasOneOffChain, is_there, pool_of_node, first_inactive, State, Storage, first_there, MayLook, arith}
use Rattle.machine_tables.proofs.VictimLaws.{chain_one_off, chain_superiors}

module _ (s : State) (u : ℕ) where
  abbrev st : Storage
  st = s.store

  pub link_superiors : MayLook s → HasItsSuperiors st.ast.entries (chain_of st.accounts.nodes u)
  link_superiors h = chain_superiors st.pages st.ast st.links st.accounts st.whos h.keeps.store.counted
      h.keeps.store.accounts.tree u

  pub link_there : (v : ℕ) → MayLook s → is_there st.accounts.nodes u ≡ true
      → first_inactive st.ast (chain_of st.accounts.nodes u) ≡ Some v → is_there st.accounts.nodes v ≡ true
  link_there v h there first = first_there st.accounts.nodes h.keeps.store.accounts.tree st.ast u v there first

  pub link_victim : (v : ℕ) → MayLook s → is_there st.accounts.nodes u ≡ true
      → first_inactive st.ast (chain_of st.accounts.nodes u) ≡ Some v → (pool : ℕ)
      → pool ≡ pool_of_node (node_in st.accounts.nodes v) → IsFull st.ast pool
      → HasOneOffChain st.ast pool (chain_of st.accounts.nodes u)
  link_victim v h there first pool is full = grind (arith, chain_one_off)
