-- What a tree command changes of a store, exactly.
use Rattle.machine_tables.proofs.Prelude.{◌≡◌, ℕ, true, List, length, map, Option, refl, sym, ap, ◌∙◌, ℤ, Result, Ok, Err, is_positive, unsigned_abs, Mode, Named, Plan, Command, Reply, AccountMaps, Changes, HasColumns, getter_of, giver_of, Node, above, branch_at, directory_at, node_at, segment_at, takes_effect, after_initiate, after_terminate, initiate_reply, row_with, Store, Commits, HasLengthSet, HasMoved, HasRowSet, Shows, Stored, answered, with_known, segment_refuses, with_row_of, with_effect, IsFaithful, uid_at_path, uid_of_command, uid_of_node, HasEffect, IsCommitted, TakesEffect, shown, keeps_length, keeps_moved, keeps_one, keeps_rows, segment_map, Command as command, KeepLaws_Keeps as Keeps, arith}
use Rattle.machine_tables.proofs.ColumnLaws.{columns_same, maps_same, rising_same}
use Rattle.machine_tables.proofs.RefusalLaws.{shows_of}

-- ---- what a path leads to

pub segment_node : (ns : List Node) (path : List (List ℕ)) (n : Node) → segment_at ns path ≡ Ok n
    → node_at ns path ≡ Ok n
segment_node ns path n h = grind arith

pub segment_uid : (ns : List Node) (path : List (List ℕ)) (n : Node) → segment_at ns path ≡ Ok n
    → uid_of_node (node_at ns path) ≡ n.uid
segment_uid ns path n h = ap uid_of_node (segment_node ns path n h)

pub branch_node : (ns : List Node) (path : List (List ℕ)) (n : Node) → branch_at ns path ≡ Ok n → node_at ns path ≡ Ok n
branch_node ns path n h1 = grind arith

pub branch_uid : (ns : List Node) (path : List (List ℕ)) (n : Node) → branch_at ns path ≡ Ok n
    → uid_of_node (node_at ns path) ≡ n.uid
branch_uid ns path n h = ap uid_of_node (branch_node ns path n h)

directory_uid : (ns : List Node) (path : List (List ℕ)) (n : Node) → directory_at ns path ≡ Ok n
    → uid_of_node (node_at ns path) ≡ n.uid
directory_uid ns path n h = grind (arith, branch_uid)

-- ---- nodes are changed

pub changed_nodes : (old new : AccountMaps) (f : Node → Node) → Keeps f → HasColumns old → HasColumns new
    → Changes old new (map f old.nodes) → new ≡ record old { nodes = map f old.nodes }
changed_nodes old new f keeps before after told =
    maps_same new old (map f old.nodes) old.counts told.nodes told.entries told.next segments counts
  where
    segments : new.segments ≡ old.segments
    segments = grind (arith, rising_same, segment_map)

    counts : new.counts ≡ old.counts
    counts = columns_same old.segments new.counts old.counts before.rising (after.counted ∙ ap length segments)
        before.counted (λ u there. cc (segments, told.counts u))

-- a store with other accounts
accounts_shown : {D : Type 0} (drive : D → List (List ℕ)) (t u : Stored D) (a : AccountMaps)
    → u ≡ record t { accounts = u.accounts } → u.accounts ≡ a → shown drive u ≡ record (shown drive t) { accounts = a }
accounts_shown drive t u a rest is = cc

-- a command of which only nodes change
module _ {D : Type 0} (drive : D → List (List ℕ)) (t u : Stored D) (k : ℕ) (r : Reply) (before : HasColumns t.accounts)
    (after : HasColumns u.accounts) (rest : u ≡ record t { accounts = u.accounts }) where
  by_nodes : (c : Command) (frames : List ℕ) → Commits drive t u k c r → (HasEffect c r
      → shown drive u ≡ with_effect (shown drive t) k (uid_of_command (shown drive t) k c) frames c)
      → IsCommitted drive t u k frames c r
  by_nodes c frames does exact = grind arith

  nodes_shown : (c : Command) (frames : List ℕ) (f : Node → Node) (v : ℕ) → Keeps f
      → Changes t.accounts u.accounts (map f t.accounts.nodes)
      → record (shown drive t) { accounts = record t.accounts { nodes = map f t.accounts.nodes } }
      ≡ with_effect (shown drive t) k v frames c → uid_of_command (shown drive t) k c ≡ v
      → shown drive u ≡ with_effect (shown drive t) k (uid_of_command (shown drive t) k c) frames c
  nodes_shown c frames f v keeps told same uid = grind (arith, accounts_shown, changed_nodes)

  pub row_committed : (path : List (List ℕ)) (row : Named) (m : Mode) → Commits drive t u k (command.Acl path row m) r
      → (takes_effect r ≡ true → HasRowSet t.accounts u.accounts path (row_with row m))
      → TakesEffect drive t u k (command.Acl path row m) r
  row_committed path row m does done frames = by_nodes (command.Acl path row m) frames does (λ takes.
      (let set = done takes in nodes_shown (command.Acl path row m) frames _ set.node.uid
      (keeps_one set.node.uid (λ n. record n { rows = with_row_of (row_with row m) n.rows })
      (keeps_rows (with_row_of (row_with row m)))) set.effect refl
      (segment_uid t.accounts.nodes path set.node set.found)))

  pub length_committed : (path : List (List ℕ)) (pages : ℕ) → Commits drive t u k (command.Length path pages) r
      → (takes_effect r ≡ true → HasLengthSet t.accounts u.accounts path pages)
      → TakesEffect drive t u k (command.Length path pages) r
  length_committed path pages does done frames = by_nodes (command.Length path pages) frames does (λ takes.
      (let set = done takes in nodes_shown (command.Length path pages) frames _ set.node.uid
      (keeps_one set.node.uid (λ n. record n { pages = pages }) (keeps_length pages)) set.effect refl
      (segment_uid t.accounts.nodes path set.node set.found)))

  pub move_committed : (path : List (List ℕ)) (amount : ℤ) → Commits drive t u k (command.Move path amount) r
      → (takes_effect r ≡ true → HasMoved t.accounts u.accounts path amount)
      → TakesEffect drive t u k (command.Move path amount) r
  move_committed path amount does done frames = by_nodes (command.Move path amount) frames does (λ takes.
      (let set = done takes in nodes_shown (command.Move path amount) frames _ set.node.uid
      (keeps_moved (giver_of (above t.accounts.nodes) set.node.uid (is_positive amount))
      (getter_of (above t.accounts.nodes) set.node.uid (is_positive amount)) (unsigned_abs amount)) set.effect refl
      (directory_uid t.accounts.nodes path set.node set.found)))

-- ---- numbers

-- a store whose processes know segments by other numbers
known_shown : {D : Type 0} (drive : D → List (List ℕ)) (t u : Stored D) (known : List (List (Option ℕ)))
    → u ≡ with_known t u.segs.links.known → u.segs.links.known ≡ known
    → shown drive u ≡ record (shown drive t) { links = record t.segs.links { known = known } }
known_shown drive t u known rest is = ap (shown drive) rest ∙ rw is

-- the flat store that is shown once a command took effect
pub flat_after : {D : Type 0} (drive : D → List (List ℕ)) (t u : Stored D) (p : Plan) (flat next : Store) (r : Reply)
    → takes_effect r ≡ true → Shows drive p (answered r flat next) u → Shows drive p next u
flat_after drive t u p flat next r takes shows = rw takes at shows

pub terminate_committed : {D : Type 0} (drive : D → List (List ℕ)) (t u : Stored D) (k number : ℕ) (r : Reply)
    → Commits drive t u k (command.Terminate number) r
    → u ≡ with_known t u.segs.links.known → TakesEffect drive t u k (command.Terminate number) r
unfolding after_terminate
terminate_committed drive t u k number r does rest frames = record {
  does = does;
  exact = λ p flat faithful takes. (let now = flat_after drive t u p flat (after_terminate flat k number) r takes
      (does.effect p flat (shows_of drive p flat t faithful)) in
      known_shown drive t u _ rest (cc));
  drives = ap (λ (x : Stored _). x.segs.pages.volumes.drives) rest;
}

initiate_exact : {D : Type 0} (drive : D → List (List ℕ)) (t u : Stored D) (k : ℕ) (path : List (List ℕ)) (r : Reply)
    → Commits drive t u k (command.Initiate path) r → u ≡ with_known t u.segs.links.known → (frames : List ℕ) (p : Plan)
    (flat : Store) → IsFaithful p flat (shown drive t) → takes_effect r ≡ true
    → shown drive u ≡ with_effect (shown drive t) k (uid_at_path (shown drive t) path) frames (command.Initiate path)
unfolding after_initiate initiate_reply
initiate_exact drive t u k path r does rest frames p flat faithful takes = by (segment_at flat.nodes path) refl
  where
    now : Shows drive p (after_initiate flat k path) u
    now = flat_after drive t u p flat (after_initiate flat k path) r takes
        (does.effect p flat (shows_of drive p flat t faithful))

    by : (x : Result Node Reply) → segment_at flat.nodes path ≡ x
        → shown drive u ≡ with_effect (shown drive t) k (uid_at_path (shown drive t) path) frames
        (command.Initiate path)
    by (Err q) e =
        absurd (cc (does.answer p flat (shows_of drive p flat t faithful), segment_refuses flat.nodes path q e))
    by (Ok n) e =
        let at : segment_at t.accounts.nodes path ≡ Ok n =
        ap (λ (ns : List Node). segment_at ns path) (sym faithful.tree.nodes) ∙ e in
        known_shown drive t u _ rest (cc (now.known, e, faithful.known))
        ∙ ap (λ (v : ℕ). with_effect (shown drive t) k v frames (command.Initiate path))
        (sym (segment_uid t.accounts.nodes path n at))

pub initiate_committed : {D : Type 0} (drive : D → List (List ℕ)) (t u : Stored D) (k : ℕ) (path : List (List ℕ))
    (r : Reply) → Commits drive t u k (command.Initiate path) r
    → u ≡ with_known t u.segs.links.known → TakesEffect drive t u k (command.Initiate path) r
initiate_committed {D} drive t u k path r does rest frames = record {
  does = does;
  exact = λ p flat faithful takes. initiate_exact drive t u k path r does rest frames p flat faithful takes;
  drives = ap (λ (x : Stored D). x.segs.pages.volumes.drives) rest;
}
