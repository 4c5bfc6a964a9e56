-- Nodes are changed, but for where they lie, what they are and where they are kept.
use Rattle.storage_ops.proofs.Prelude.{◌≡◌, ℕ, Bool, true, false, cond, eqb, List, [], ◌∷◌, map, Option, Some, None, is_some, refl, sym, ap, ◌∙◌, count_by, Mode, Who, AccountMaps, Changes, count_of, Node, entries_on, has_directory, node_in, pool_of, taken_on, volume_in, entries_mapped, Present, sdw_at, VtocEntry, Entry, ActiveSegs, uid_in_place, Home, Links, sdws_at, AreHoused, AreCounted, AreTaken, AreInTree, HaveRights, home_of, is_filed, is_there, pages_in, picture, directory_map, volume_map, Keeps, arith}

-- two trees have the same nodes, of the same kinds, at the same homes, with the same counts
pub record AreAlike (a b : AccountMaps) : Type 0 where
  pub there : (u : ℕ) → is_there b.nodes u ≡ is_there a.nodes u
  pub homes : (u : ℕ) → home_of b u ≡ home_of a u
  pub kinds : (u : ℕ) → has_directory b.nodes u ≡ has_directory a.nodes u
  pub counts : (u : ℕ) → count_of b u ≡ count_of a u
  pub entries : (v : ℕ) → entries_on b.nodes v ≡ entries_on a.nodes v

abbrev pub map_node : (Node → Node) → Option Node → Option Node
map_node f None = None
map_node f (Some n) = Some (f n)

map_cond : (f : Node → Node) (z : Bool) (n : Node) (o : Option Node)
    → cond z (Some (f n)) (map_node f o) ≡ map_node f (cond z (Some n) o)
map_cond f true n o = refl
map_cond f false n o = refl

module _ (f : Node → Node) (uid : (n : Node) → (f n).uid ≡ n.uid) where
  pub node_map : (ns : List Node) (u : ℕ) → node_in (map f ns) u ≡ map_node f (node_in ns u)
  node_map [] u = refl
  node_map (n ∷ ns) u = cc (uid n, node_map ns u, map_cond f (eqb n.uid u) n (node_in ns u))

  pub there_map : (ns : List Node) (u : ℕ) → is_there (map f ns) u ≡ is_there ns u
  there_map ns u = ap is_some (node_map ns u) ∙ by (node_in ns u)
    where
      by : (o : Option Node) → is_some (map_node f o) ≡ is_some o
      by None = refl
      by (Some n) = refl

module _ {f : Node → Node} (keeps : Keeps f) where
  uids_map : (ns : List Node) → map (λ n. n.uid) (map f ns) ≡ map (λ n. n.uid) ns
  uids_map [] = refl
  uids_map (n ∷ ns) = cc (keeps.uid n, uids_map ns)

  pub alike_changed : {a b : AccountMaps} → Changes a b (map f a.nodes) → AreAlike a b
  alike_changed {a} c = grind (arith, there_map, volume_map, uids_map, directory_map, entries_mapped)

-- ---- what is true of such trees

module _ (a b : AccountMaps) (alike : AreAlike a b) where
  pub housed_alike : {vtocs : List (List (Option VtocEntry))} → AreHoused a vtocs → AreHoused b vtocs
  housed_alike {vtocs} h = grind arith

  pub counted_alike : {vtocs : List (List (Option VtocEntry))} → AreCounted a vtocs
      → ((u : ℕ) → pages_in b.nodes u ≡ pages_in a.nodes u) → AreCounted b vtocs
  counted_alike h pages = grind arith

  volumes : (u : ℕ) → volume_in b.nodes u ≡ volume_in a.nodes u
  volumes u = ap (λ (home : Home). home.volume) (alike.homes u)

  pub taken_same : (stored : List (ℕ × ℕ)) (v : ℕ) → taken_on b.nodes stored v ≡ taken_on a.nodes stored v
  unfolding taken_on
  taken_same stored v = ap (λ (f : ℕ × ℕ → Bool). count_by f stored) (λ i. λ x. eqb (volumes x.0 i) v)

  pub taken_alike : {flags : List (List Bool)} {vtocs : List (List (Option VtocEntry))} → AreTaken a flags vtocs
      → AreTaken b flags vtocs
  taken_alike h = grind (arith, taken_same)

  pub filed_alike : (vtocs : List (List (Option VtocEntry))) (u q : ℕ) → is_filed b vtocs u q ≡ is_filed a vtocs u q
  unfolding is_filed
  filed_alike vtocs u q = cc (alike.there u, alike.homes u)

  pub picture_alike : (image : ℕ → Home → ℕ → List ℕ) (u q : ℕ) → picture b image u q ≡ picture a image u q
  unfolding picture
  picture_alike image u q = cc (alike.there u, alike.homes u)

-- ---- what is active, and descriptors

-- a changed node was there
was_there : (f : Node → Node) (o : Option Node) {n : Node} → map_node f o ≡ Some n
    → (m : Node) × (o ≡ Some m) × (n ≡ f m)
was_there f None e = cc
was_there f (Some m) e = (m, refl, cc)

module _ (f : Node → Node) (uid : (n : Node) → (f n).uid ≡ n.uid) (a b : AccountMaps)
    (nodes : b.nodes ≡ map f a.nodes) where
  pub before : (u : ℕ) (n : Node) → node_in b.nodes u ≡ Some n → (m : Node) × (node_in a.nodes u ≡ Some m) × (n ≡ f m)
  before u n e = was_there f (node_in a.nodes u) (sym (node_map f uid a.nodes u) ∙ (rw nodes at e))

  pub active_alike : ((n : Node) → (f n).superior ≡ n.superior) → {ast : ActiveSegs} → AreInTree a.nodes ast
      → ((place u : ℕ) (m : Node) → uid_in_place ast.entries place ≡ Some u → node_in a.nodes u ≡ Some m
      → pool_of (f m) ≡ pool_of m) → AreInTree b.nodes ast
  active_alike superior h pools = record {
    there = λ place u e. cc (there_map f uid a.nodes u, h.there place u e);
    superiors = λ place u n e found. (let was = before u n found in
        cc (h.superiors place u was.0 e was.1, superior was.0));
    pools = λ place u n e found. (let was = before u n found in
        rw (was.2, pools place u was.0 e was.1) (h.pools place u was.0 e was.1));
  }

  pub rights_alike : {entries : List (Option Entry)} {links : Links} {whos : List Who}
      → HaveRights a.nodes entries links whos → ((process number place pages u : ℕ) (mode : Mode) (m : Node)
      → sdw_at (sdws_at links.descriptors process) number ≡ Present place mode pages
      → uid_in_place entries place ≡ Some u
      → node_in a.nodes u ≡ Some m → ((f m).rows ≡ m.rows) × ((f m).pages ≡ m.pages))
      → HaveRights b.nodes entries links whos
  rights_alike {whos} h same = record {
    modes = λ process number place pages u mode n d e found. (let was = before u n found in
        let rows = (same process number place pages u mode was.0 d e was.1).0 in
        cc (h.modes process number place pages u mode was.0 d e was.1));
    lengths = λ process number place pages u mode n d e found. (let was = before u n found in
        cc (
          h.lengths process number place pages u mode was.0 d e was.1,
          (same process number place pages u mode was.0 d e was.1).1,
        ));
  }
