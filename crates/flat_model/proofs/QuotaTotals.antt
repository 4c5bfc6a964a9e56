-- The quotas of the tree sum to the same whatever entry is lawful, and what each account is charged for is within its
-- quota where the counts say so.
use Rattle.flat_model.proofs.Prelude.{common_steps, nat_tests, ◌≡◌, ◌≢◌, ◌≤◌, ◌<◌, ℕ, ◌+◌, ◌-◌, Bool, true, false, cond, eqb, is_some, List, [], ◌∷◌, map, sum, length, Option, Some, None, inl, inr, refl, sym, ap, ◌∙◌, arith, nat_lt, Result, Ok, Err, ℤ, slice_index, list_all, eqb_tells, leb_tells, sum_by-cons, Plan, who_of, Command, Reply, giver_of, tree_moved, with_moved, with_quota_of, Row, Node, Walk, LeadsTo, Missing, InSegment, above, node_in, quota_in, used_by, walk_in, with_node, without_node, AreBelow, AreDirectories, AreUnder, EndsAtRoot, HasChains, IsTree, Joins, has_chains, IsMember, branch_at, changed, directory_at, node_at, only_segment, parts_of, segment_at, there_or, walked, effect_of_tree_command, reply_to_tree_command, takes_effect, after_delete, after_make, delete_of, delete_reply, deleted, made_at, made_of, made_in, owner_row, after_initiate, after_terminate, initiated, after_acl, after_move, move_of, move_reply, moved, after_length, after_truncate, truncated, Store, boot, root_of, Entry, command_at, Reference, after_command, effect_of, reply_to_command, IsAnswer, IsLawful, after_do, after_entry, after_fault, is_within, after_reference, directory_there, found_uid, or_true, command, entry}
use Rattle.flat_model.proofs.FieldLaws.{field_found}
use Rattle.flat_model.proofs.RemoveLaws.{deletion_asked}
use Rattle.flat_model.proofs.TreeLaws.{path_apart}

-- ---- the nodes of a tree

pub older : (n m : Node) (ms : List Node) (o : Option ℕ) → Joins ms o m → IsMember n ms → n.uid < m.uid
older n m ms None j h = absurd (rw j.first at h)
older n m ms (Some s) j h = below ms j.later h
  where
    below : (ns : List Node) → AreBelow m.uid ns → IsMember n ns → n.uid < m.uid
    below [] b h = absurd h
    below (x ∷ xs) b (inl e) = rw e b.0
    below (x ∷ xs) b (inr i) = below xs b.1 i

-- the quota of a node of a tree
pub quota_of_member : (ns : List Node) (n : Node) → IsTree ns → IsMember n ns → quota_in ns n.uid ≡ n.quota
quota_of_member [] n t h = absurd h
quota_of_member (m ∷ ms) n t (inl e) = grind (arith, nat_tests, common_steps, eqb_tells)
quota_of_member (m ∷ ms) n t (inr h) = elim (eqb_tells m.uid n.uid) [
  | inl same ↦ (let later = older n m ms m.superior t.0 h in let is = same.1 in absurd (omega (arith, later, is)))
  | inr other ↦ rw other.0 (quota_of_member ms n t.1 h)
]

all_members : {X : Type 0} (p : X → Bool) (xs : List X) → ((x : X) → IsMember x xs → p x ≡ true) → list_all p xs ≡ true
all_members p [] h = refl
all_members p (x ∷ xs) h = rw (h x (inl refl)) (all_members p xs (λ y i. h y (inr i)))

not_less : (a b : ℕ) → b ≤ a → nat_lt a b ≡ false
not_less a b h = grind (arith, nat_tests)

-- each account is within its quota
pub all_within : (t : Store) → IsTree t.nodes → ((a : ℕ) → used_by t.nodes t.stored a ≤ quota_in t.nodes a)
    → list_all (is_within t) t.nodes ≡ true
all_within t tree within = grind (arith, nat_tests, common_steps, all_members, not_less, or_true, quota_of_member)

-- ---- what quotas sum to

-- the quotas of some nodes together
abbrev pub total : List Node → ℕ
total ns = sum (map (λ n. n.quota) ns)

total_cons : (n : Node) (ns : List Node) → total (n ∷ ns) ≡ n.quota + total ns
total_cons n ns = sum_by-cons (λ x. x) n.quota (map (λ m. m.quota) ns)

-- ---- a node is changed, made or deleted

changed_total : (ns : List Node) (u : ℕ) (change : Node → Node) → ((n : Node) → (change n).quota ≡ n.quota)
    → total (with_node ns u change) ≡ total ns
changed_total [] u change same = refl
changed_total (n ∷ ns) u change same = grind (arith, nat_tests, common_steps, total_cons)

-- nodes of no quota are left out
left_total : (ns : List Node) (u : ℕ) → ((n : Node) → IsMember n ns → n.uid ≡ u → n.quota ≡ 0)
    → total (without_node ns u) ≡ total ns
left_total [] u none = refl
left_total (n ∷ ns) u none = elim (eqb_tells n.uid u) [
  | inl e ↦ rw e.0 (omega (arith, left_total ns u (λ m h. none m (inr h)), none n (inl refl) e.1, total_cons n ns))
  | inr m ↦ rw m.0 (omega (
    arith,
    left_total ns u (λ x h. none x (inr h)),
    total_cons n ns,
    total_cons n (without_node ns u),
  ))
]

-- ---- quota is moved

-- how much of an amount a list of nodes gets or gives, by whether the node is there
abbrev share : List Node → ℕ → ℕ → ℕ
share ns u pages = cond (is_some (node_in ns u)) pages 0

fresh : (n : Node) (ns : List Node) (o : Option ℕ) → Joins ns o n → node_in ns n.uid ≡ None
fresh n ns None j = rw j.first refl
fresh n ns (Some s) j = none ns j.later
  where
    none : (ms : List Node) → AreBelow n.uid ms → node_in ms n.uid ≡ None
    none [] b = refl
    none (m ∷ ms) b = elim (eqb_tells m.uid n.uid) [
      | inl e ↦ (let less = b.0 in let same = e.1 in absurd (omega (arith, less, same)))
      | inr o ↦ rw o.0 (none ms b.1)
    ]

abbrev Holds : ℕ → ℕ → ℕ → List Node → Type 0
Holds giver getter pages ns =
    total (with_moved ns giver getter pages) + share ns giver pages ≡ total ns + share ns getter pages

moved_total : (ns : List Node) (giver getter pages : ℕ) → IsTree ns → giver ≢ getter
    → (is_some (node_in ns giver) ≡ true → pages ≤ quota_in ns giver) → Holds giver getter pages ns
moved_total [] giver getter pages t other enough = refl
moved_total (n ∷ ns) giver getter pages t other enough = elim (eqb_tells n.uid giver) [
  | inl e ↦ giving e (moved_total ns giver getter pages t.1 other (λ h. absurd (let none : true ≡ false =
      sym h ∙ ap (λ (x : Option Node). is_some x) (ap (node_in ns) (sym e.1) ∙ fresh n ns n.superior t.0) in cc)))
  | inr m ↦ elim (eqb_tells n.uid getter) [
    | inl e ↦ getting m e (moved_total ns giver getter pages t.1 other (λ h. still m.0 h))
    | inr o ↦ neither m o (moved_total ns giver getter pages t.1 other (λ h. still m.0 h))
  ]
]
  where
    still : eqb n.uid giver ≡ false → is_some (node_in ns giver) ≡ true → pages ≤ quota_in ns giver
    still m h =
        let its : quota_in (n ∷ ns) giver ≡ quota_in ns giver = rw m refl in omega (arith, enough (rw m h), its)

    now : Node
    now = with_quota_of giver (λ q. q - pages) (with_quota_of getter (λ q. q + pages) n)

    cons : total (with_moved (n ∷ ns) giver getter pages) ≡ now.quota + total (with_moved ns giver getter pages)
    cons = total_cons now (with_moved ns giver getter pages)

    was : total (n ∷ ns) ≡ n.quota + total ns
    was = total_cons n ns

    here : (u : ℕ) → eqb n.uid u ≡ true → share (n ∷ ns) u pages ≡ pages
    here u h = rw h refl

    past : (u : ℕ) → eqb n.uid u ≡ false → share (n ∷ ns) u pages ≡ share ns u pages
    past u h = rw h refl

    gone : (u : ℕ) → n.uid ≡ u → share ns u pages ≡ 0
    gone u same = rw (← same, fresh n ns n.superior t.0) refl

    giving : (eqb n.uid giver ≡ true) × (n.uid ≡ giver) → Holds giver getter pages ns
        → Holds giver getter pages (n ∷ ns)
    giving e rest = grind (arith, nat_tests, common_steps, eqb_tells, cons, was, here, past, gone)

    getting : (eqb n.uid giver ≡ false) × (n.uid ≢ giver) → (eqb n.uid getter ≡ true) × (n.uid ≡ getter)
        → Holds giver getter pages ns → Holds giver getter pages (n ∷ ns)
    getting m e rest = grind (arith, nat_tests, common_steps, cons, was, past, here, gone)

    neither : (eqb n.uid giver ≡ false) × (n.uid ≢ giver) → (eqb n.uid getter ≡ false) × (n.uid ≢ getter)
        → Holds giver getter pages ns → Holds giver getter pages (n ∷ ns)
    neither m o rest = grind (arith, nat_tests, common_steps, cons, was, past)

module _ (ns : List Node) (t : IsTree ns) (d : ℕ) (there : is_some (node_in ns d) ≡ true) (branch : d ≢ 1) where
  chains : HasChains ns
  chains = has_chains ns t

  abbrev superior : ℕ
  superior = slice_index (above ns d) 0

  -- the first directory above it
  record IsFirst (us : List ℕ) : Type 0 where
    is_there : is_some (node_in ns (slice_index us 0)) ≡ true
    below : slice_index us 0 < d

  first_above : (us : List ℕ) → EndsAtRoot us → AreDirectories ns us → AreUnder d us → IsFirst us
  first_above [] e a u = absurd e
  first_above (x ∷ xs) e a u = record { is_there = directory_there ns x a.0; below = u.0 }

  above_first : IsFirst (above ns d)
  above_first = first_above (above ns d) (chains.rooted d there branch) (chains.directories d) (chains.under d)

  other_one : superior ≢ d
  other_one e = let less = above_first.below in omega (arith, less, e)

  whole_share : (u pages : ℕ) → is_some (node_in ns u) ≡ true → share ns u pages ≡ pages
  whole_share u pages h = ap (λ (b : Bool). cond b pages 0) h

  tree_total : (down : Bool) (pages : ℕ) → pages ≤ quota_in ns (giver_of (above ns) d down)
      → total (tree_moved ns d down pages) ≡ total ns
  tree_total true pages enough =
      grind (arith, nat_tests, common_steps, moved_total, other_one, whole_share, above_first)
  tree_total false pages enough =
      grind (arith, nat_tests, common_steps, moved_total, other_one, whole_share, above_first)

-- ---- what a path leads to

pub there_found : (o : Option Node) (n : Node) → there_or o ≡ Ok n → o ≡ Some n
there_found None n h = cc
there_found (Some m) n h = let same : m ≡ n = cc in ap (λ (x : Node). Some x) same

walked_found : (ns : List Node) (w : Walk) (n : Node) → walked ns w ≡ Ok n → node_in ns n.uid ≡ Some n
walked_found ns (LeadsTo u) n h = let at = there_found (node_in ns u) n h in
    ap (node_in ns) (found_uid ns u n at) ∙ at
walked_found ns Missing n h = cc
walked_found ns InSegment n h = cc

pub node_found : (ns : List Node) (path : List (List ℕ)) (n : Node) → node_at ns path ≡ Ok n → node_in ns n.uid ≡ Some n
unfolding node_at
node_found ns path n h = walked_found ns (walk_in ns path) n h

pub only_found : (r : Result Node Reply) (n : Node) → only_segment r ≡ Ok n → (r ≡ Ok n) × (n.directory ≡ false)
only_found (Err e) n h = cc
only_found (Ok m) n h = grind (arith, nat_tests, common_steps)

pub segment_found : (ns : List Node) (path : List (List ℕ)) (n : Node) → segment_at ns path ≡ Ok n
    → (node_in ns n.uid ≡ Some n) × (n.directory ≡ false)
segment_found ns path n h = let both = only_found (node_at ns path) n h in (node_found ns path n both.0, both.1)

pub branch_found : (ns : List Node) (path : List (List ℕ)) (n : Node) → branch_at ns path ≡ Ok n
    → (node_at ns path ≡ Ok n) × (eqb (length path) 0 ≡ false)
branch_found ns [] n h = cc
branch_found ns (name ∷ names) n h = (h, grind (arith, nat_tests))

quota_found : (ns : List Node) (u : ℕ) (n : Node) → node_in ns u ≡ Some n → quota_in ns u ≡ n.quota
quota_found ns u n h = sym (field_found (λ ms. quota_in ms u) (λ x. x.quota) u (λ m ms. refl) ns n h)

-- ---- each command

first_of : (b : Bool) (x y : Reply) → takes_effect x ≡ false → takes_effect (cond b x y) ≡ true → b ≡ false
first_of true x y none h = cc
first_of false x y none h = refl

rest_of : (b : Bool) (x y : Reply) → takes_effect x ≡ false → takes_effect (cond b x y) ≡ true → takes_effect y ≡ true
rest_of true x y none h = cc
rest_of false x y none h = h

-- a node more, without quota
grown_total : {n : Node} (ns more : List Node) → ns ≡ n ∷ more → n.quota ≡ 0 → total ns ≡ total more
grown_total {n = n} ns more is none = let all = total_cons n more in let same = ap total is in
    omega (arith, all, same, none)

module _ (t : Store) where
  made_total : (volume : ℕ) (directory : Bool) (pages : ℕ) (rows : List Row) (name : List ℕ) (r : Result Node Reply)
      → total (made_at t volume directory pages rows name r).nodes ≡ total t.nodes
  made_total volume directory pages rows name (Err r) = refl
  made_total volume directory pages rows name (Ok d) =
      grown_total (made_in t volume directory pages rows name d).nodes t.nodes refl refl

  make_total : (volume : ℕ) (directory : Bool) (pages : ℕ) (rows : List Row) (parts : Option (List (List ℕ) × List ℕ))
      → total (made_of t volume directory pages rows parts).nodes ≡ total t.nodes
  make_total volume directory pages rows None = refl
  make_total volume directory pages rows (Some parts) =
      made_total volume directory pages rows parts.1 (node_at t.nodes parts.0)

  initiate_total : (k : ℕ) (r : Result Node Reply) → total (initiated t k r).nodes ≡ total t.nodes
  initiate_total k (Ok n) = refl
  initiate_total k (Err r) = refl

  change_total : (change : Node → Node) → ((n : Node) → (change n).quota ≡ n.quota) → (r : Result Node Reply)
      → total (changed t change r).nodes ≡ total t.nodes
  change_total change same (Ok n) = changed_total t.nodes n.uid change same
  change_total change same (Err r) = refl

  truncate_total : (from : ℕ) (r : Result Node Reply) → total (truncated t from r).nodes ≡ total t.nodes
  truncate_total from (Ok n) = refl
  truncate_total from (Err r) = refl

  module _ (tree : IsTree t.nodes) where
    delete_total : (path : List (List ℕ)) (r : Result Node Reply) → branch_at t.nodes path ≡ r
        → takes_effect (delete_of t.nodes r) ≡ true → total (deleted t r).nodes ≡ total t.nodes
    delete_total path (Err r) at h = refl
    delete_total path (Ok n) at h = left_total t.nodes n.uid (λ m member same. sym
        (quota_of_member t.nodes m tree member)
        ∙ (ap (quota_in t.nodes) same ∙ (quota_found t.nodes n.uid n found ∙ none)))
      where
        found : node_in t.nodes n.uid ≡ Some n
        found = node_found t.nodes path n (branch_found t.nodes path n at).0

        none : n.quota ≡ 0
        none = grind (arith, nat_tests, common_steps, eqb_tells, deletion_asked)

    move_total : (path : List (List ℕ)) (amount : ℤ) (r : Result Node Reply) → directory_at t.nodes path ≡ r
        → takes_effect (move_of t amount r) ≡ true → total (moved t amount r).nodes ≡ total t.nodes
    move_total path amount (Err r) at h = refl
    move_total path amount (Ok n) at h =
        grind (arith, nat_tests, common_steps, tree_total, node_found, branch_found, path_apart, leb_tells, first_of)

-- What takes effect moves quota at most.
pub effect_total : (p : Plan) (t : Store) (k : ℕ) (c : Command) → IsTree t.nodes
    → takes_effect (reply_to_tree_command p t k c) ≡ true → total (effect_of_tree_command p t k c).nodes ≡ total t.nodes
unfolding after_make after_initiate after_terminate after_acl after_length after_truncate after_delete after_move
    delete_reply move_reply
effect_total p t k (command.MkDir path volume) tree h = make_total t volume true 0 [] (parts_of path)
effect_total p t k (command.MkSeg path pages volume) tree h =
    make_total t volume false pages (owner_row (who_of p k) ∷ []) (parts_of path)
effect_total p t k (command.Initiate path) tree h = initiate_total t k (segment_at t.nodes path)
effect_total p t k (command.Acl path row m) tree h = change_total t _ (λ n. refl) (segment_at t.nodes path)
effect_total p t k (command.Length path pages) tree h = change_total t _ (λ n. refl) (segment_at t.nodes path)
effect_total p t k (command.Truncate path words) tree h = truncate_total t words (segment_at t.nodes path)
effect_total p t k (command.Delete path) tree h = delete_total t tree path (branch_at t.nodes path) refl h
effect_total p t k (command.Move path amount) tree h = move_total t tree path amount (directory_at t.nodes path) refl h
effect_total p t k _ tree h = refl

reference_total : (t : Store) (k : ℕ) (r : Reference) → total (after_reference t k r).nodes ≡ total t.nodes
unfolding after_reference
reference_total t k r = grind (arith, nat_tests, common_steps)

-- a command whose answer takes effect
done_total : (p : Plan) (t : Store) (k : ℕ) (c : Command) → IsTree t.nodes
    → takes_effect (reply_to_command p t k c) ≡ true → total (effect_of p t k c).nodes ≡ total t.nodes
done_total p t k c tree = grind (arith, nat_tests, common_steps, reference_total, effect_total)

command_total : (p : Plan) (t : Store) (k : ℕ) (c : Command) (r : Reply) → IsTree t.nodes
    → IsAnswer p t k (Some c) r → total (after_command p t k c r).nodes ≡ total t.nodes
unfolding after_command
command_total p t k c r tree answer = grind (arith, nat_tests, common_steps, done_total)

answer_total : (p : Plan) (t : Store) (k : ℕ) (c : Option Command) (r : Reply) → IsTree t.nodes → IsAnswer p t k c r
    → total (after_do p t k c r).nodes ≡ total t.nodes
answer_total p t k None r tree answer = absurd answer
answer_total p t k (Some c) r tree answer = command_total p t k c r tree answer

fault_total : (t : Store) (o : Option ℕ) → total (after_fault t o).nodes ≡ total t.nodes
fault_total t None = refl
fault_total t (Some k) = refl

-- A lawful entry leaves what the quotas sum to.
pub entry_total : (p : Plan) (t : Store) (e : Entry) → IsTree t.nodes → IsLawful p t e
    → total (after_entry p t e).nodes ≡ total t.nodes
unfolding IsLawful after_entry
entry_total p t (entry.Do k place cpu frame r) tree lawful =
    answer_total p t k (command_at p k place) r tree lawful.answer
entry_total p t (entry.Release uid page) tree lawful = refl
entry_total p t (entry.Fault process) tree lawful = fault_total t process
entry_total p t (entry.Moved process uid volume) tree lawful =
    changed_total t.nodes uid (λ n. record n { volume = volume }) (λ n. refl)
entry_total p t _ tree lawful = refl

-- before the first entry the root has all
pub boot_total : (p : Plan) → total (boot p).nodes ≡ p.quota
unfolding boot
boot_total p = let all = total_cons (root_of p) [] in omega (arith, all)
