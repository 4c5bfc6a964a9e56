-- What a tree command is about, where nothing refuses it.
use Rattle.machine_model.proofs.Prelude.{deletion_of, ◌≡◌, ℕ, Bool, true, false, cond, eqb, List, Some, None, inl, inr, refl, Result, Ok, Err, list_any, eqb_tells, Reply, Node, is_inferior, node_in, branch_at, done_at, node_at, only_segment, segment_at, delete_of, delete_reply, length_of, length_reply, truncate_reply, is_refusal, refusal, Keeps, flat_of, refusal_of, uid_at_path, State, branch_found, node_found, segment_found, not_both, branch_says, segment_says, Command as command, Reply as reply}

-- ---- a path that can't be followed refuses

refuses_not : (r : Reply) → is_refusal r ≡ true → refusal r ≡ None → ⊥
refuses_not r h e = by (is_refusal r) h e
  where
    by : (b : Bool) → b ≡ true → cond b (Some r) None ≡ None → ⊥
    by true i j = let none = j in cc
    by false i j = let none = i in cc

-- ---- the node that it is about

-- the path leads to this segment, by the tree and by the flat store
pub record LeadsToSegment (s : State) (path : List (List ℕ)) : Type 0 where
  pub node : Node
  pub found : segment_at (flat_of s).nodes path ≡ Ok node
  pub uid : uid_at_path s.store path ≡ node.uid
  pub there : node_in s.store.accounts.nodes node.uid ≡ Some node
  pub segment : node.directory ≡ false

-- it leads to this directory or segment, which isn't the root, and has neither inferior nor quota
pub record LeadsToBranch (s : State) (path : List (List ℕ)) : Type 0 where
  pub node : Node
  pub found : branch_at (flat_of s).nodes path ≡ Ok node
  pub uid : uid_at_path s.store path ≡ node.uid
  pub there : node_in s.store.accounts.nodes node.uid ≡ Some node
  pub empty : list_any (is_inferior node.uid) s.store.accounts.nodes ≡ false
  pub quota : node.quota ≡ 0

module _ (s : State) (k : ℕ) (keeps : Keeps s) where
  same_nodes : (flat_of s).nodes ≡ s.store.accounts.nodes
  same_nodes = keeps.faithful.tree.nodes

  segment_by : (path : List (List ℕ)) (n : Node) → segment_at (flat_of s).nodes path ≡ Ok n → LeadsToSegment s path
  segment_by path n h = record {
    node = n;
    found = h;
    uid = cc (plain (node_at (flat_of s).nodes path) h);
    there = cc (same_nodes, both.0);
    segment = both.1;
  }
    where
      both : (node_in (flat_of s).nodes n.uid ≡ Some n) × (n.directory ≡ false)
      both = segment_found (flat_of s).nodes path n h

      plain : (r : Result Node Reply) → only_segment r ≡ Ok n → r ≡ Ok n
      plain (Err e) i = cc
      plain (Ok x) i = dir x.directory i
        where
          dir : (b : Bool) → cond b (Err reply.IsDir) (Ok x) ≡ Ok n → ◌≡◌ {A = Result Node Reply} (Ok x) (Ok n)
          dir true g = cc
          dir false g = g

  pub truncate_stands : (path : List (List ℕ)) (words : ℕ) → refusal_of s k (command.Truncate path words) ≡ None
      → LeadsToSegment s path
  unfolding refusal_of truncate_reply
  truncate_stands path words h = by (segment_at (flat_of s).nodes path) refl h
    where
      by : (r : Result Node Reply) → segment_at (flat_of s).nodes path ≡ r → refusal (done_at r) ≡ None
          → LeadsToSegment s path
      by (Ok n) e i = segment_by path n e
      by (Err x) e i = absurd (refuses_not x (segment_says is_refusal true refl refl refl (flat_of s).nodes path x e) i)

  pub length_stands : (path : List (List ℕ)) (pages : ℕ) → refusal_of s k (command.Length path pages) ≡ None
      → LeadsToSegment s path
  unfolding refusal_of length_reply
  length_stands path pages h = by (segment_at (flat_of s).nodes path) refl h
    where
      by : (r : Result Node Reply) → segment_at (flat_of s).nodes path ≡ r
          → refusal (length_of (flat_of s).stored pages r) ≡ None → LeadsToSegment s path
      by (Ok n) e i = segment_by path n e
      by (Err x) e i = absurd (refuses_not x (segment_says is_refusal true refl refl refl (flat_of s).nodes path x e) i)

  pub delete_stands : (path : List (List ℕ)) → refusal_of s k (command.Delete path) ≡ None → LeadsToBranch s path
  unfolding refusal_of delete_reply
  delete_stands path h = by (branch_at (flat_of s).nodes path) refl h
    where
      by : (r : Result Node Reply) → branch_at (flat_of s).nodes path ≡ r
          → refusal (delete_of (flat_of s).nodes r) ≡ None → LeadsToBranch s path
      by (Err x) e i = absurd (refuses_not x (branch_says is_refusal true refl refl refl (flat_of s).nodes path x e) i)
      by (Ok n) e i = record {
        node = n;
        found = e;
        uid = cc ((branch_found (flat_of s).nodes path n e).0);
        there = cc (node_found (flat_of s).nodes path n (branch_found (flat_of s).nodes path n e).0);
        empty = cc (same_nodes, alone.0);
        quota = alone.1;
      }
        where
          alone : (list_any (is_inferior n.uid) (flat_of s).nodes ≡ false) × (n.quota ≡ 0)
          alone = told (list_any (is_inferior n.uid) (flat_of s).nodes) (eqb n.quota 0) refl i
            where
              told : (b z : Bool) → eqb n.quota 0 ≡ z → refusal (deletion_of b z) ≡ None → (b ≡ false) × (n.quota ≡ 0)
              told true z x y = cc
              told false true x y = (refl, elim (eqb_tells n.quota 0) [ inl e ↦ e.1 | inr e ↦ absurd (not_both x e.0) ])
              told false false x y = cc
