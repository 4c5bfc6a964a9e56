-- What a reference goes to that nothing refuses before its page is looked at: its segment is there, and where its
-- number is connected the segment is active, with a word for the page in its page table.
use Rattle.machine_tables.proofs.Prelude.{◌≡◌, ℕ, true, is_some, length, ◌<◌, ◌≤◌, Option, Some, None, refl, sym, ap, subst, ◌∙◌, arith, ◌/◌, Reference, Node, node_in, pool_of, has_segment, Sdw, IsActive, uid_at, leads, place_of, table_of, IsKept, is_there, pages_of, directory_found, long_segment, Keeps, descriptor_of, is_connected, or_zero, outside_refusal, uid_of_number, State, Storage, inside_is, IsInside, Sdw as sdw, PageFacts_room_of as room_of}
use Rattle.machine_tables.proofs.LinkLaws.{place_found}

-- a number that is connected stands for an active segment
pub connected_active : (st : Storage) (k n : ℕ) → IsKept st.pages st.ast st.links
    → is_connected (descriptor_of st.links k n) ≡ true → IsActive st.ast.entries (uid_of_number st k n)
connected_active st k n kept h = by (descriptor_of st.links k n) refl h
  where
    by : (x : Sdw) → descriptor_of st.links k n ≡ x → is_connected x ≡ true
        → IsActive st.ast.entries (uid_of_number st k n)
    by sdw.Fault e i = absurd cc
    by (sdw.Present aste m pages) e i = let at = kept.linked.known k n aste (ap leads e) in
        (aste, at.active ∙ ap (λ (u : ℕ). Some u) (sym (ap or_zero at.known_as)))

module _ (s : State) (k : ℕ) (r : Reference) (keeps : Keeps s) (within : outside_refusal s k r ≡ None) where
  abbrev u : ℕ
  u = uid_of_number s.store k r.number

  inside : IsInside s k r u
  inside = inside_is s k r keeps within

  its_node : node_in s.store.accounts.nodes u ≡ Some inside.node
  its_node = cc (keeps.faithful.tree.nodes, inside.there)

  -- its segment is there
  pub segment_there : is_there s.store.accounts.nodes u ≡ true
  segment_there = ap is_some its_node

  pub segment_is : has_segment s.store.accounts.nodes u ≡ true
  segment_is = long_segment s.store.accounts s.store.pages.vtocs keeps.store.counted.counted u r.offset inside.node
      its_node inside.within

  -- its page has a word in the page table
  pub page_there : IsActive s.store.ast.entries u → r.offset / 1024 < length (table_of s.store.ast u)
  page_there active =
      let at = place_found s.store.ast active.0 u keeps.store.kept.tree active.1 in
      let here : uid_at s.store.ast.entries (place_of s.store.ast.entries u) ≡ Some u = rw (← (sym at)) active.1 in
      let room = room_of inside.node
      (subst (λ (n : Option Node). pages_of n ≤ 256) its_node (keeps.store.counted.counted.most u))
      (λ d. sym (ap pages_of its_node) ∙ keeps.store.counted.counted.flat u
      (directory_found s.store.accounts.nodes u inside.node its_node ∙ d)) in
      let long = keeps.store.kept.sized (pool_of inside.node) (place_of s.store.ast.entries u) room.1
      (keeps.store.counted.active.pools (place_of s.store.ast.entries u) u inside.node here its_node) in
      let less = inside.within in
      let few = room.0 in
      omega (arith, long, less, few)

pub ruleset reaches = (connected_active, page_there, segment_is)
