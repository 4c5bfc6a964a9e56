-- A path that leads to a segment leads to it still where other nodes come or go, and where what is changed of a node is
-- neither its place nor its name.
use Rattle.machine_model.proofs.Prelude.{cases_Bool, ne_eqb, ap, option_map, ◌≡◌, ◌≢◌, ◌<◌, ℕ, Bool, true, false, cond, eqb, List, [], ◌∷◌, map, Option, Some, None, ◌⊎◌, inl, inr, refl, sym, subst, ◌∙◌, arith, Ok, Err, eqb_tells, Node, Walk, LeadsTo, Missing, InSegment, branch_in, has_directory, is_branch, node_in, onward, walk_from, walk_in, without_node, AreBelow, IsTree, Joins, IsMember, found_member, lies, only_branch, node_at, only_segment, segment_at, there_or, walked, directory_gone, only_found, there_found, find_passes, found_uid, joined_below, uid_below, node_without, not_both, Reply as reply, same_Some, finds_branch_found as branch_found}

-- a path that led to a segment leads to it
pub record PathsStay (old now : List Node) (u : ℕ) : Type 0 where
  pub each : (path : List (List ℕ)) (n : Node) → segment_at old path ≡ Ok n → n.uid ≡ u
      → (m : Node) × (segment_at now path ≡ Ok m) × (m.uid ≡ u)

pub paths_same : (ns : List Node) (u : ℕ) → PathsStay ns ns u
paths_same ns u = record { each = λ path n h e. (n, h, e) }

-- ---- where each step of a walk stays

-- a name in a directory leads to the same node
abbrev Follows : List Node → ℕ → List ℕ → Node → Type 0
Follows now d name m = (x : Node) × (branch_in now d name ≡ Some x) × (x.uid ≡ m.uid) × (x.directory ≡ m.directory)

walked_uid : (ns : List Node) (w : Walk) (n : Node) → walked ns w ≡ Ok n → w ≡ LeadsTo n.uid
walked_uid ns (LeadsTo u) n h = cc (found_uid ns u n (there_found (node_in ns u) n h))
walked_uid ns Missing n h = absurd (let no : Err reply.NoPath ≡ Ok n = h in cc)
walked_uid ns InSegment n h = absurd (let no : Err reply.NotDir ≡ Ok n = h in cc)

module _ (old now : List Node) (u : ℕ) (Stays : ℕ → Type 0) (end : Stays u)
    (up : (d : ℕ) (name : List ℕ) (m : Node) → branch_in old d name ≡ Some m → Stays d)
    (follows : (d : ℕ) (name : List ℕ) (m : Node) → branch_in old d name ≡ Some m → Stays m.uid
    → Follows now d name m) where
  walk_stays : (names : List (List ℕ)) (d : ℕ) (b : Bool) → walk_from old d b names ≡ LeadsTo u
      → (walk_from now d b names ≡ LeadsTo u) × Stays d
  walk_stays [] d b h = (h, subst Stays (let same : u ≡ d = cc in same) end)
  walk_stays (name ∷ names) d b h = by b (branch_in old d name) refl (λ m i. walk_stays names m.uid m.directory i) h
    where
      by : (x : Bool) (o : Option Node) → branch_in old d name ≡ o
          → ((m : Node) → walk_from old m.uid m.directory names ≡ LeadsTo u
          → (walk_from now m.uid m.directory names ≡ LeadsTo u) × Stays m.uid)
          → onward (λ n. walk_from old n.uid n.directory names) x o ≡ LeadsTo u
          → (onward (λ n. walk_from now n.uid n.directory names) x (branch_in now d name) ≡ LeadsTo u) × Stays d
      by false o e on i = absurd (let no : InSegment ≡ LeadsTo u = i in cc)
      by true None e on i = absurd (let no : Missing ≡ LeadsTo u = i in cc)
      by true (Some m) e on i = let rest = on m i in let x = follows d name m e rest.1 in (
        ap (λ (o : Option Node). onward (λ n. walk_from now n.uid n.directory names) true o) x.1
            ∙ ((λ j. walk_from now (x.2 j) (x.3 j) names) ∙ rest.0),
        up d name m e,
      )

  -- so does the path, where the node is there
  path_stays : ((n : Node) → node_in old u ≡ Some n → n.directory ≡ false
      → (m : Node) × (node_in now u ≡ Some m) × (m.directory ≡ false)) → PathsStay old now u
  unfolding node_at
  path_stays there = record { each = each }
    where
      each : (path : List (List ℕ)) (n : Node) → segment_at old path ≡ Ok n → n.uid ≡ u
          → (m : Node) × (segment_at now path ≡ Ok m) × (m.uid ≡ u)
      each path n h e = let both = only_found (node_at old path) n h in
          let was = walked_uid old (walk_in old path) n both.0 in
          let walk = walk_stays path 1 true (cc) in
          let at = there n (here path n h e was both.0) both.1 in (
            at.0,
            ap (λ (w : Walk). only_segment (walked now w)) walk.0 ∙ (ap (λ (o : Option Node). only_segment (there_or o))
                at.1 ∙ ap (λ (b : Bool). cond b (Err reply.IsDir) (Ok at.0)) at.2),
            found_uid now u at.0 at.1,
          )
        where
          here : (path : List (List ℕ)) (n : Node) → segment_at old path ≡ Ok n → n.uid ≡ u
              → walk_in old path ≡ LeadsTo n.uid → walked old (walk_in old path) ≡ Ok n → node_in old u ≡ Some n
          here path n h e was found = there_found (node_in old u) n (cc)

-- ---- nodes change, but for place and name

-- what is changed of a node is neither its uid, its superior and its name, nor whether it is a directory
pub record KeepsName (change : Node → Node) : Type 0 where
  pub uid : (n : Node) → (change n).uid ≡ n.uid
  pub superior : (n : Node) → (change n).superior ≡ n.superior
  pub name : (n : Node) → (change n).name ≡ n.name
  pub directory : (n : Node) → (change n).directory ≡ n.directory

-- the first node that passes a test, where each is changed
first_mapped : (change : Node → Node) (n : Node) (a b : Bool) {x : Option Node} (y : Option Node) → b ≡ a
    → x ≡ option_map change y → cond b (Some (change n)) x ≡ option_map change (cond a (Some n) y)
first_mapped change n true b y e rest = cc
first_mapped change n false b y e rest = cc

pub node_mapped : (change : Node → Node) → ((n : Node) → (change n).uid ≡ n.uid) → (ns : List Node) (u : ℕ)
    → node_in (map change ns) u ≡ option_map change (node_in ns u)
node_mapped change uid [] u = refl
node_mapped change uid (n ∷ ns) u = first_mapped change n (eqb n.uid u) (eqb (change n).uid u) _
    (cc (uid n)) (node_mapped change uid ns u)

module _ {change : Node → Node} (same : KeepsName change) where
  branch_mapped : (ns : List Node) (d : ℕ) (name : List ℕ)
      → branch_in (map change ns) d name ≡ option_map change (branch_in ns d name)
  branch_mapped [] d name = refl
  branch_mapped (n ∷ ns) d name = first_mapped change n (is_branch d name n) (is_branch d name (change n)) _
      (λ i. is_branch d name (record n { superior = same.superior n i; name = same.name n i }))
      (branch_mapped ns d name)

  pub paths_changed : (ns : List Node) (u : ℕ) → PathsStay ns (map change ns) u
  paths_changed ns u = path_stays ns (map change ns) u (λ d. Unit {0}) tt (λ d name m h. tt)
      (λ d name m h e. (change m, cc (branch_mapped ns d name), same.uid m, same.directory m))
      (λ n h dir. (change n, cc (node_mapped change same.uid ns u), same.directory n ∙ dir))

-- ---- a node more

is_here : (ns : List Node) (d : ℕ) (name : List ℕ) (m : Node) → branch_in ns d name ≡ Some m
    → IsMember m ns × (is_branch d name m ≡ true)
is_here ns d name m h = (
  found_member (is_branch d name) ns m (sym (branch_found d name ns) ∙ h),
  find_passes (is_branch d name) ns m (sym (branch_found d name ns) ∙ h),
)

pub paths_more : (ns : List Node) (n : Node) (u : ℕ) → IsTree (n ∷ ns) → PathsStay ns (n ∷ ns) u
paths_more ns n u tree = path_stays ns (n ∷ ns) u (λ d. Unit {0}) tt (λ d name m h. tt)
    (λ d name m h e. follows d name m h (is_branch d name n) refl) (λ m h dir. (m, cc (other m h), dir))
  where
    follows : (d : ℕ) (name : List ℕ) (m : Node) → branch_in ns d name ≡ Some m → (b : Bool) → is_branch d name n ≡ b
        → Follows (n ∷ ns) d name m
    follows d name m h false e = (m, cc, refl, refl)
    follows d name m h true e = let first = ap (λ (b : Bool). cond b (Some n) (branch_in ns d name)) e in
        let here = is_here ns d name m h in
        let same = only_branch (n ∷ ns) tree d name n m first (inr here.0) here.1 in
        (n, first, cc, cc)

    other : (m : Node) → node_in ns u ≡ Some m → eqb n.uid u ≡ false
    other m h = elim (eqb_tells n.uid u) [
      | inl e ↦ absurd (omega (arith, uid_below n.uid ns u m (joined_below ns n.superior n tree.0) h))
      | inr o ↦ o.0
    ]

-- ---- a node less

-- the directory that a node of a tree lies in is an older one
has_above : (ns : List Node) (m : Node) {s : ℕ} → IsTree ns → IsMember m ns → m.superior ≡ Some s
    → (has_directory ns s ≡ true) × (s < m.uid)
has_above [] m tree here is = absurd here
has_above (n ∷ ns) m {s} tree here is = by here (λ e. has_above ns m tree.1 e is)
  where
    below : (v : ℕ) (xs : List Node) → AreBelow v xs → has_directory xs s ≡ true → s < v
    below v [] b e = cc
    below v (x ∷ xs) b e = elim (eqb_tells x.uid s) [ inl i ↦ rw (← i.1) b.0 | inr o ↦ below v xs b.1 (cc) ]

    past : has_directory ns s ≡ true → has_directory (n ∷ ns) s ≡ true
    past e = elim (eqb_tells n.uid s) [
      | inl i ↦ absurd (omega (arith, below n.uid ns (joined_below ns n.superior n tree.0) e))
      | inr o ↦ ap (λ (y : Bool). cond y n.directory (has_directory ns s)) o.0 ∙ e
    ]

    first : (o : Option ℕ) → Joins ns o n → o ≡ Some s → (has_directory (n ∷ ns) s ≡ true) × (s < n.uid)
    first None j e = cc
    first (Some x) j e = let same : x ≡ s = cc in let dir = subst (λ (y : ℕ). has_directory ns y ≡ true) same j.below in
        (past dir, below n.uid ns j.later dir)

    by : (m ≡ n) ⊎ IsMember m ns → (IsMember m ns → (has_directory ns s ≡ true) × (s < m.uid))
        → (has_directory (n ∷ ns) s ≡ true) × (s < m.uid)
    by (inl e) rest = let at = first n.superior tree.0 (cc) in (at.0, rw e at.1)
    by (inr e) rest = let at = rest e in (past at.0, at.1)

member_left : (ns : List Node) (v : ℕ) (m : Node) → IsMember m ns → m.uid ≢ v → IsMember m (without_node ns v)
member_left [] v m here other = absurd here
member_left (n ∷ ns) v m (inl e) other = rw (ne_eqb n.uid v (λ i. other (ap (λ (x : Node). x.uid) e ∙ i))) (inl e)
member_left (n ∷ ns) v m (inr e) other = elim (cases_Bool (eqb n.uid v)) [
  | inl i ↦ rw i (member_left ns v m e other)
  | inr i ↦ rw i (inr (member_left ns v m e other))
]

branch_left : (ns : List Node) (v d : ℕ) (name : List ℕ) (m : Node) → branch_in ns d name ≡ Some m → m.uid ≢ v
    → branch_in (without_node ns v) d name ≡ Some m
branch_left [] v d name m h other = cc
branch_left (n ∷ ns) v d name m h other = elim (cases_Bool (is_branch d name n)) [
  | inl i ↦ (let is : n ≡ m = same_Some n m (rw i at h) in
      let stays = ne_eqb n.uid v (λ e. other (ap (λ (x : Node). x.uid) (sym is) ∙ e)) in
      rw (stays, i) (ap (λ (x : Node). Some x) is))
  | inr i ↦ elim (cases_Bool (eqb n.uid v)) [
    | inl e ↦ rw e (branch_left ns v d name m (rw i at h) other)
    | inr e ↦ rw (e, i) (branch_left ns v d name m (rw i at h) other)
  ]
]

-- Another node is gone, and what is left is a tree.
pub paths_less : {ns : List Node} (v u : ℕ) → IsTree ns → IsTree (without_node ns v) → u ≢ v
    → PathsStay ns (without_node ns v) u
paths_less {ns} v u tree left other = path_stays ns (without_node ns v) u (λ d. d ≢ v) other up
    (λ d name m h n. (m, branch_left ns v d name m h n, refl, refl))
    (λ m h dir. (m, node_without ns v u other ∙ h, dir))
  where
    -- nothing lies in the node that is gone
    up : (d : ℕ) (name : List ℕ) (m : Node) → branch_in ns d name ≡ Some m → d ≢ v
    up d name m h same = let here = is_here ns d name m h in let is = (lies d name m here.1).0 in
        let was = has_above ns m tree here.0 is in
        let now = has_above (without_node ns v) m left (member_left ns v m here.0
        (λ e. (let less = was.1 in omega (arith, less, same, e)))) is in
        not_both (subst (λ (x : ℕ). has_directory (without_node ns v) x ≡ true) same now.0) (directory_gone ns v)
