-- A directory or a segment that is made, exactly.
use Rattle.machine_tables.proofs.Prelude.{◌≡◌, ℕ, Bool, true, false, cond, List, [], ◌∷◌, Some, get_or, refl, sym, ap, ◌∙◌, Result, Ok, Err, get_or-map, Who, Plan, ProcessPlan, nobody, who_of, Reply, HasColumns, count_of, with_beside, Row, Node, AreBelow, node_at, parts_of, takes_effect, after_make, made_in, make_of, make_reply, owner_row, Store, vtoc_of, least_free_entry, Commits, TakesHome, Shows, Stored, who_at, with_vtocs, node_refuses, branch_of, gained, with_branch, with_made, IsFaithful, or_zero, uid_at_path, uid_of_node, Storage, TakesEffect, shown, Command as command, arith}
use Rattle.machine_tables.proofs.CommitLaws.{flat_after}
use Rattle.machine_tables.proofs.GainLaws.{directory_gained, segment_gained}
use Rattle.machine_tables.proofs.RefusalLaws.{shows_of}

-- the names before the last lead to a directory, where the node is made
module _ (p : Plan) (flat : Store) (volume : ℕ) (dir : Bool) where
  made_below : (parts : List (List ℕ) × List ℕ) (r : Reply) → r ≡ make_of p flat volume dir (Some parts)
      → takes_effect r ≡ true → (d : Node) × (node_at flat.nodes parts.0 ≡ Ok d)
  made_below parts r is takes = by (node_at flat.nodes parts.0) refl
    where
      by : (x : Result Node Reply) → node_at flat.nodes parts.0 ≡ x → (d : Node) × (node_at flat.nodes parts.0 ≡ Ok d)
      by (Ok d) e = (d, e)
      by (Err q) e = absurd (cc (node_refuses flat.nodes parts.0 q e))

module _ {D : Type 0} (drive : D → List (List ℕ)) (t u : Stored D) (before : HasColumns t.accounts)
    (after : HasColumns u.accounts) (below : AreBelow t.accounts.next t.accounts.nodes) (volume : ℕ)
    (home : TakesHome drive t u volume)
    (rest : u ≡ record t { accounts = u.accounts; segs = with_vtocs t.segs u.segs.pages.volumes.vtocs })
    (p : Plan) (flat : Store) (faithful : IsFaithful p flat (shown drive t)) (dir : Bool) (pages : ℕ) (rows : List Row)
    (parts : List (List ℕ) × List ℕ) (d : Node) (found : node_at flat.nodes parts.0 ≡ Ok d)
    (now : Shows drive p (made_in flat volume dir pages rows parts.1 d) u) where
  abbrev pub st : Storage
  st = shown drive t

  abbrev pub node : Node
  node = branch_of st (uid_at_path st parts.0) parts.1 dir volume pages rows

  above_is : d.uid ≡ uid_at_path st parts.0
  above_is = sym (ap uid_of_node (ap (λ (ns : List Node). node_at ns parts.0) (sym faithful.tree.nodes) ∙ found))

  nodes : u.accounts.nodes ≡ node ∷ t.accounts.nodes
  nodes = grind (arith, above_is)

  counts : (s : ℕ) → count_of u.accounts s ≡ count_of t.accounts s
  counts s = now.tree.counts s ∙ sym (faithful.tree.counts s)

  entry_is : home.entry ≡ or_zero (least_free_entry (vtoc_of st.pages volume))
  entry_is = sym (ap or_zero home.least)

  gains : (ks vs : List ℕ) → u.accounts.segments ≡ ks → u.accounts.counts ≡ vs
      → (cond dir t.accounts.segments (with_beside t.accounts.segments t.accounts.segments node.uid node.uid) ≡ ks)
      → (cond dir t.accounts.counts (with_beside t.accounts.segments t.accounts.counts node.uid 0) ≡ vs)
      → u.accounts ≡ gained t.accounts node (or_zero (least_free_entry (vtoc_of st.pages volume)))
  gains ks vs segments values keys_are values_are = grind (arith, entry_is)

  accounts : u.accounts ≡ gained t.accounts node (or_zero (least_free_entry (vtoc_of st.pages volume)))
  accounts = by dir refl
    where
      by : (b : Bool) → dir ≡ b
          → u.accounts ≡ gained t.accounts node (or_zero (least_free_entry (vtoc_of st.pages volume)))
      by true e = let both = directory_gained t.accounts u.accounts node before after below nodes counts e in
          gains t.accounts.segments t.accounts.counts both.0 both.1 (rw e) (rw e)
      by false e = let both = segment_gained t.accounts u.accounts node before after below nodes counts e in
          gains _ _ both.0 both.1 (rw e) (rw e)

  -- the store once it is made
  pub branch_made : shown drive u ≡ with_branch st node
  branch_made = grind (arith, accounts, entry_is)

module _ {D : Type 0} (drive : D → List (List ℕ)) (t u : Stored D) (before : HasColumns t.accounts)
    (after : HasColumns u.accounts) (below : AreBelow t.accounts.next t.accounts.nodes) (path : List (List ℕ))
    (volume : ℕ) (r : Reply) (home : takes_effect r ≡ true → TakesHome drive t u volume)
    (rest : u ≡ record t { accounts = u.accounts; segs = with_vtocs t.segs u.segs.pages.volumes.vtocs })
    (dir : Bool) (pages : ℕ) where
  made_exact : (p : Plan) (flat : Store) (rows : List Row) → IsFaithful p flat (shown drive t) → takes_effect r ≡ true
      → r ≡ make_reply p flat path volume dir → Shows drive p (after_make flat path volume dir pages rows) u
      → shown drive u ≡ with_made (shown drive t) dir pages volume rows (parts_of path)
  unfolding make_reply after_make
  made_exact p flat rows faithful takes is now = grind (arith, made_below, branch_made)

pub dir_committed : {D : Type 0} (drive : D → List (List ℕ)) (t u : Stored D) (k : ℕ) (path : List (List ℕ))
    (volume : ℕ) (r : Reply) → HasColumns t.accounts → HasColumns u.accounts
    → AreBelow t.accounts.next t.accounts.nodes → Commits drive t u k (command.MkDir path volume) r
    → (takes_effect r ≡ true → TakesHome drive t u volume)
    → u ≡ record t { accounts = u.accounts; segs = with_vtocs t.segs u.segs.pages.volumes.vtocs }
    → TakesEffect drive t u k (command.MkDir path volume) r
dir_committed drive t u k path volume r before after below does home rest frames = record {
  does = does;
  exact = λ p flat faithful takes. (let shows = shows_of drive p flat t faithful in
      made_exact drive t u before after below path volume r home rest true 0 p flat [] faithful takes
      (does.answer p flat shows)
      (flat_after drive t u p flat (after_make flat path volume true 0 []) r takes (does.effect p flat shows)));
  drives = ap (λ (x : Stored _). x.segs.pages.volumes.drives) rest;
}

who_is : {D : Type 0} (drive : D → List (List ℕ)) (t : Stored D) (p : Plan) (flat : Store) (k : ℕ)
    → IsFaithful p flat (shown drive t) → who_of p k ≡ who_at t.whos k
who_is drive t p flat k faithful = sym (ap (λ (ws : List Who). get_or ws k nobody) faithful.script.whos
    ∙ get_or-map (λ (x : ProcessPlan). x.who) p.processes k (record { who = nobody; commands = [] }))

pub seg_committed : {D : Type 0} (drive : D → List (List ℕ)) (t u : Stored D) (k : ℕ) (path : List (List ℕ))
    (pages volume : ℕ) (r : Reply) → HasColumns t.accounts → HasColumns u.accounts
    → AreBelow t.accounts.next t.accounts.nodes → Commits drive t u k (command.MkSeg path pages volume) r
    → (takes_effect r ≡ true → TakesHome drive t u volume)
    → u ≡ record t { accounts = u.accounts; segs = with_vtocs t.segs u.segs.pages.volumes.vtocs }
    → TakesEffect drive t u k (command.MkSeg path pages volume) r
seg_committed drive t u k path pages volume r before after below does home rest frames = record {
  does = does;
  exact = λ p flat faithful takes. (let shows = shows_of drive p flat t faithful in
      made_exact drive t u before after below path volume r home rest false pages p flat (owner_row (who_of p k) ∷ [])
      faithful takes (does.answer p flat shows)
      (flat_after drive t u p flat (after_make flat path volume false pages (owner_row (who_of p k) ∷ [])) r takes
      (does.effect p flat shows))
      ∙ ap (λ (who : Who). with_made (shown drive t) false pages volume (owner_row who ∷ []) (parts_of path))
      (who_is drive t p flat k faithful));
  drives = ap (λ (x : Stored _). x.segs.pages.volumes.drives) rest;
}
