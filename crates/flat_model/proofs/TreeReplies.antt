-- What tree commands are answered, by what the path leads to.
use Rattle.flat_model.proofs.Prelude.{deletion_of, ◌≡◌, ℕ, ℤ, Bool, true, false, cond, eqb, List, [], ◌∷◌, ◌++◌, Some, Ok, Err, refl, sym, ap, ◌∙◌, count_by, nat_lt, is_positive, unsigned_abs, list_any, Named, Plan, Reply, takes_row, giver_of, over_in, tree_moved, Node, above, is_inferior, quota_in, used_by, takes_effect, branch_at, directory_at, node_at, parts_of, before_parts, segment_at, delete_reply, make_in, make_reply, status_reply, is_stored_from, acl_reply, done_or_over, move_reply, length_reply, truncate_reply, Store, reply}

-- a command that takes effect wasn't refused
pub not_first : (b : Bool) (x y : Reply) → takes_effect x ≡ false → takes_effect (cond b x y) ≡ true
    → (b ≡ false) × (takes_effect y ≡ true)
not_first true x y none is = cc
not_first false x y none is = (refl, is)

-- the way back of a test
pub from_false : (a b : Bool) → (b ≡ true → a ≡ true) → a ≡ false → b ≡ false
from_false a true back none = sym (back refl) ∙ none
from_false a false back none = refl

module _ (s : Store) (nodes : List Node) (path : List (List ℕ)) (same : s.nodes ≡ nodes) where
  -- access control lists
  pub acl_refused : (row : Named) (r : Reply) → segment_at nodes path ≡ Err r → r ≡ acl_reply s path row
  unfolding acl_reply
  acl_refused row r e = rw (same, e) refl

  pub acl_told : (row : Named) (n : Node) (b : Bool) → segment_at nodes path ≡ Ok n
      → takes_row row.person row.project n.rows ≡ b → cond b reply.Done reply.AclFull ≡ acl_reply s path row
  unfolding acl_reply
  acl_told row n b e is = rw (same, e, is) refl

  -- lengths
  pub length_refused : (pages : ℕ) (r : Reply) → segment_at nodes path ≡ Err r → r ≡ length_reply s path pages
  unfolding length_reply
  length_refused pages r e = rw (same, e) refl

  pub length_told : (pages : ℕ) (n : Node) (b : Bool) → segment_at nodes path ≡ Ok n
      → is_stored_from s.stored n.uid pages ≡ b → cond b reply.Beyond reply.Done ≡ length_reply s path pages
  unfolding length_reply
  length_told pages n b e is = rw (same, e, is) refl

  pub truncate_refused : (r : Reply) → segment_at nodes path ≡ Err r → r ≡ truncate_reply s path
  unfolding truncate_reply
  truncate_refused r e = rw (same, e) refl

  pub truncate_told : (n : Node) → segment_at nodes path ≡ Ok n → reply.Done ≡ truncate_reply s path
  unfolding truncate_reply
  truncate_told n e = rw (same, e) refl

  -- deletions
  pub delete_refused : (r : Reply) → branch_at nodes path ≡ Err r → r ≡ delete_reply s path
  unfolding delete_reply
  delete_refused r e = rw (same, e) refl

  pub delete_told : (n : Node) (b z : Bool) → branch_at nodes path ≡ Ok n → list_any (is_inferior n.uid) nodes ≡ b
      → eqb n.quota 0 ≡ z → deletion_of b z ≡ delete_reply s path
  unfolding delete_reply
  delete_told n b z e is quota = rw (same, e, is, quota) refl

  -- status
  pub status_refused : (r : Reply) → node_at nodes path ≡ Err r → r ≡ status_reply s path
  unfolding status_reply
  status_refused r e = rw (same, e) refl

  pub status_directory : (n : Node) (quota used : ℕ) → node_at nodes path ≡ Ok n → n.directory ≡ true → quota ≡ n.quota
      → used ≡ used_by s.nodes s.stored n.uid → reply.DirIs n.uid quota used ≡ status_reply s path
  unfolding status_reply
  status_directory n quota used e is q u = rw (q, u, same, e, is) refl

  pub status_segment : (n : Node) (stored : ℕ) → node_at nodes path ≡ Ok n → n.directory ≡ false
      → stored ≡ count_by (λ x. eqb x.0 n.uid) s.stored → reply.SegIs n.uid n.pages stored ≡ status_reply s path
  unfolding status_reply
  status_segment n stored e is u = rw (u, same, e, is) refl

  -- quota
  pub move_refused : (amount : ℤ) (r : Reply) → directory_at nodes path ≡ Err r → r ≡ move_reply s path amount
  unfolding move_reply
  move_refused amount r e = rw (same, e) refl

  pub move_told : (amount : ℤ) (n : Node) (given : Reply) → directory_at nodes path ≡ Ok n
      → given ≡ cond (nat_lt (quota_in nodes (giver_of (above nodes) n.uid (is_positive amount))) (unsigned_abs amount))
      reply.TooLittle (done_or_over
      (over_in (tree_moved nodes n.uid (is_positive amount) (unsigned_abs amount)) s.stored))
      → given ≡ move_reply s path amount
  unfolding move_reply
  move_told amount n given e is = rw (same, e) is

-- ---- making

parts_appended : (names : List (List ℕ)) (name : List ℕ) → parts_of (names ++ name ∷ []) ≡ Some (names, name)
parts_appended [] name = refl
parts_appended (x ∷ names) name = ap (before_parts x) (parts_appended names name)

pub parts_are : (path names : List (List ℕ)) (name : List ℕ) → path ≡ names ++ name ∷ []
    → parts_of path ≡ Some (names, name)
parts_are path names name is = ap parts_of is ∙ parts_appended names name

pub make_root : (p : Plan) (s : Store) (path : List (List ℕ)) (volume : ℕ) (dir : Bool) → path ≡ []
    → reply.Exists ≡ make_reply p s path volume dir
unfolding make_reply
make_root p s path volume dir is = rw is refl

module _ (p : Plan) (s : Store) (nodes : List Node) (path names : List (List ℕ)) (name : List ℕ) (volume : ℕ)
    (dir : Bool) (same : s.nodes ≡ nodes) (parts : path ≡ names ++ name ∷ []) where
  pub make_refused : (r : Reply) → node_at nodes names ≡ Err r → r ≡ make_reply p s path volume dir
  unfolding make_reply
  make_refused r e = rw (parts_are path names name parts, same, e) refl

  pub make_in_segment : (n : Node) → node_at nodes names ≡ Ok n → n.directory ≡ false
      → reply.NotDir ≡ make_reply p s path volume dir
  unfolding make_reply
  make_in_segment n e is = rw (parts_are path names name parts, same, e, is) refl

  pub make_told : (n : Node) (r : Reply) → node_at nodes names ≡ Ok n → n.directory ≡ true
      → r ≡ make_in p s volume dir name n → r ≡ make_reply p s path volume dir
  unfolding make_reply
  make_told n r e is answer = answer
      ∙ sym (rw (parts_are path names name parts, ap (λ ns. node_at ns names) same ∙ e, is) refl)
